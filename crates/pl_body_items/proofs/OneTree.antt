-- The body of a row of items is the one that has these items.
use Rattle.std.proofs.Common.{◌≡◌, ◌∙◌, ap, sym, refl, ℕ, zero, true, false, List, [], ◌∷◌, Option, Some, None, map, append-nil, rules, arith}
use Rattle.std.specs.Prelude.{◌↔◌}
use Rattle.pl_bodies.specs.declared.statement.Block.{Block}
use Rattle.pl_bodies.specs.declared.statement.Body.{Body}
use Rattle.pl_bodies.specs.declared.statement.Branch.{Branch}
use Rattle.pl_bodies.specs.declared.statement.CaseArm.{CaseArm}
use Rattle.pl_bodies.specs.declared.statement.Caught.{Caught}
use Rattle.pl_bodies.specs.declared.statement.Handler.{Handler}
use Rattle.pl_bodies.specs.declared.statement.Loop.{Loop}
use Rattle.pl_bodies.specs.declared.statement.Otherwise.{Otherwise}
use Rattle.pl_bodies.specs.declared.statement.Statement.{Statement, out-Statement, roll-Statement}
use Rattle.pl_bodies.specs.declared.statement.StatementKind.TheOpen as l
use Rattle.pl_bodies.specs.declared.statement.StatementKind.TheOpen.{Statement-F}
use Rattle.pl_bodies.specs.declared.statement.StatementKind.TheVariants as k
use Rattle.pl_bodies.specs.declared.statement.StatementKind.{StatementKind, out-StatementKind, roll-StatementKind, the_lemmas}
use Rattle.pl_tree.specs.declared.tree.Expr.{Expr}
use Rattle.pl_body_items.specs.declared.items.Item.{Item}
use Rattle.pl_body_items.specs.declared.items.Item.TheVariants as i
use Rattle.pl_body_items.specs.declared.items.Spot.{Spot}
use Rattle.pl_body_items.specs.declared.making.Making.{Making}
use Rattle.pl_body_items.specs.declared.parts.Open.{Open}
use Rattle.pl_body_items.specs.declared.parts.Section.{Section}
use Rattle.pl_body_items.specs.declared.parts.Section.TheVariants as s
use Rattle.pl_body_items.specs.Items.{item, statement_said, body_said}
use Rattle.pl_body_items.specs.Steps.{statement_of, making_of, open_of, start, added, step, then_steps, steps, divided, arm, handler, with_inner, in_case, Layer, block_body, statement_body, only_body, body_in, made}
use Rattle.pl_body_items.proofs.Equations.{statement_is, kind_block}
use Rattle.pl_body_items.proofs.Sound.{making_said, steps_said}
use Rattle.pl_body_items.proofs.Complete.{Leads, sayable, said_steps, statement_fits}

-- ---- where handlers and arms may come

some_handler : (section : Section) (ss : List Statement) (cs : List Caught) (around : List Open) (o : Open) (q : Making) → with_inner around (divided o (handler section ss cs)) ≡ Some q → in_case section ≡ false
some_handler (s.Handler label ds bs hs old) ss cs around o q h = refl
some_handler _ ss cs around o q h = absurd (cc)

pub handler_in_block : (m q : Making) (cs : List Caught) → step m (i.Handler cs) ≡ Some q → in_case m.inner.section ≡ false
unfolding step
handler_in_block m q cs h = some_handler m.inner.section m.inner.statements cs m.around m.inner q h

some_arm : (section : Section) (ss : List Statement) (vs : List Expr) (around : List Open) (o : Open) (q : Making) → with_inner around (divided o (arm section ss vs)) ≡ Some q → in_case section ≡ true
some_arm (s.Case x arms old) ss vs around o q h = refl
some_arm _ ss vs around o q h = absurd (cc)

pub arm_in_case : (m q : Making) (vs : List Expr) → step m (i.Arm vs) ≡ Some q → in_case m.inner.section ≡ true
unfolding step
arm_in_case m q vs h = some_arm m.inner.section m.inner.statements vs m.around m.inner q h

-- ---- the outermost block

-- a block that has no ordinal
abbrev outermost : ℕ → Block → Statement
outermost line b = statement_of (record { line = line; ordinal = 0 }) (k.Block b)

outermost_said : (body : Body) → statement_said (outermost body.line body.block) ≡ body_said body
outermost_said body = let spot : Spot = record { line = body.line; ordinal = 0 } in statement_is spot (k.Block body.block) ∙ kind_block spot body.block

made_of : (x : Statement) → roll-Statement (out-Statement x) ≡ x
made_of x = first_of (search (rules, the_lemmas), grind (arith, the_lemmas))

kind_made_of : (x : StatementKind) → roll-StatementKind (out-StatementKind x) ≡ x
kind_made_of x = first_of (search (rules, the_lemmas), grind (arith, the_lemmas))

block_out : (b : Block) → out-StatementKind (k.Block b) ≡ l.Block b
block_out b = first_of (search (rules, the_lemmas), grind (arith, the_lemmas))

statement_out : (spot : Spot) (kind : StatementKind) → out-Statement (statement_of spot kind) ≡ record { line = spot.line; ordinal = spot.ordinal; kind = kind }
statement_out spot kind = first_of (search (rules, the_lemmas), grind (arith, the_lemmas))

-- the body of an outermost block, and what it is the body of
outermost_body : (body : Body) → statement_body (outermost body.line body.block) ≡ Some body
outermost_body body =
    ap (λ (r : Statement-F StatementKind Block Branch CaseArm Handler Loop Otherwise Statement). block_body r.line r.ordinal (out-StatementKind r.kind)) (statement_out (record { line = body.line; ordinal = 0 }) (k.Block body.block))
    ∙ ap (block_body body.line 0) (block_out body.block)

block_made : (line ordinal : ℕ) (y : Layer) (body : Body) → block_body line ordinal y ≡ Some body → (line ≡ body.line) × (ordinal ≡ 0) × (y ≡ l.Block body.block)
block_made line zero (l.Block b) body h =
    let line_in : Option Body → ℕ = λ o. elim o [ None ↦ line | Some x ↦ x.line ] in
    let block_in : Option Body → Block = λ o. elim o [ None ↦ b | Some x ↦ x.block ] in
    (ap line_in h, refl, ap (λ (b : Block). l.Block b) (ap block_in h))
block_made _ _ _ body h = absurd (cc)

is_outermost : (x : Statement) (body : Body) → statement_body x ≡ Some body → x ≡ outermost body.line body.block
is_outermost x body h =
    let r = out-Statement x in
    let made = block_made r.line r.ordinal (out-StatementKind r.kind) body h in
    let kind : r.kind ≡ k.Block body.block = sym (kind_made_of r.kind) ∙ ap roll-StatementKind (made.2 ∙ sym (block_out body.block)) ∙ kind_made_of (k.Block body.block) in
    sym (made_of x)
    ∙ ap (λ (line : ℕ). roll-Statement (record { line = line; ordinal = r.ordinal; kind = r.kind })) made.0
    ∙ ap (λ (ordinal : ℕ). roll-Statement (record { line = body.line; ordinal = ordinal; kind = r.kind })) made.1
    ∙ ap (λ (kind : StatementKind). roll-Statement (record { line = body.line; ordinal = 0; kind = kind })) kind

-- ---- rows that make a body

only_said : (spot : Spot) (around : List Open) (section : Section) (ss : List Statement) (body : Body) → only_body around section ss ≡ Some body → making_said (making_of around (open_of spot section ss)) ≡ body_said body
only_said spot [] s.Body (x ∷ []) body h = append-nil (statement_said x) ∙ ap statement_said (is_outermost x body h) ∙ outermost_said body
only_said spot _ _ _ body h = absurd (cc)

steps_are : (m : Making) (xs : List Item) → said_steps m (map item xs) ≡ steps m xs
steps_are m [] = refl
steps_are m (x ∷ xs) = by_step (step m x) (λ n. steps_are n xs)
  where
    by_step : (o : Option Making) → ((n : Making) → said_steps n (map item xs) ≡ steps n xs) → then_steps (λ m. said_steps m (map item xs)) o ≡ then_steps (λ m. steps m xs) o
    by_step None more = refl
    by_step (Some n) more = more n

items_sayable : (xs : List Item) → sayable (map item xs) ≡ true
items_sayable [] = refl
items_sayable (x ∷ xs) = items_sayable xs

said_so : (xs : List Item) (body : Body) → made xs ≡ Some body → body_said body ≡ map item xs
said_so xs body h = by_steps (steps start xs) refl h
  where
    by_steps : (o : Option Making) → steps start xs ≡ o → body_in o ≡ Some body → body_said body ≡ map item xs
    by_steps None e h = absurd (cc)
    by_steps (Some m) e h = sym (only_said m.inner.spot m.around m.inner.section m.inner.statements body h) ∙ steps_said start m xs e

makes_it : (xs : List Item) (body : Body) → body_said body ≡ map item xs → made xs ≡ Some body
makes_it xs body h =
    let x = outermost body.line body.block in
    let said : statement_said x ≡ map item xs = outermost_said body ∙ h in
    let leads : Leads start (statement_said x) (added start x) = statement_fits x start (ap sayable said ∙ items_sayable xs) in
    ap body_in (sym (steps_are start xs) ∙ ap (said_steps start) (sym said) ∙ leads)
    ∙ outermost_body body

pub one_tree : (xs : List Item) (body : Body) → (made xs ≡ Some body) ↔ (body_said body ≡ map item xs)
one_tree xs body = (said_so xs body, makes_it xs body)
