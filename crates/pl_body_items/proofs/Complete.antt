-- The items of a tree make that tree.
use Rattle.std.proofs.Common.{◌≡◌, ◌∙◌, ap, sym, refl, subst, ℕ, Bool, true, false, List, [], ◌∷◌, ◌++◌, Option, Some, None, map, append_assoc, append-nil, rules, arith}
use Rattle.std.specs.Option.{option_map}
use Rattle.pl_bodies.specs.declared.declaration.Declaration.{Declaration}
use Rattle.pl_bodies.specs.declared.simple.Simple.{Simple}
use Rattle.pl_bodies.specs.declared.statement.Block.{Block, roll-Block}
use Rattle.pl_bodies.specs.declared.statement.Branch.{Branch, roll-Branch}
use Rattle.pl_bodies.specs.declared.statement.CaseArm.{CaseArm, roll-CaseArm}
use Rattle.pl_bodies.specs.declared.statement.Handler.{Handler, roll-Handler}
use Rattle.pl_bodies.specs.declared.statement.Loop.{Loop, roll-Loop}
use Rattle.pl_bodies.specs.declared.statement.LoopHead.{LoopHead}
use Rattle.pl_bodies.specs.declared.statement.Otherwise.{Otherwise, roll-Otherwise}
use Rattle.pl_bodies.specs.declared.statement.Statement.{Statement, ind-Statement, roll-Statement}
use Rattle.pl_bodies.specs.declared.statement.StatementKind.TheVariants as k
use Rattle.pl_bodies.specs.declared.statement.StatementKind.TheOpen as l
use Rattle.pl_bodies.specs.declared.statement.StatementKind.TheOpen.{StatementKind-F}
use Rattle.pl_bodies.specs.declared.statement.StatementKind.{StatementKind, map-StatementKind, roll-StatementKind, the_lemmas}
use Rattle.pl_tree.specs.declared.tree.Expr.{Expr}
use Rattle.pl_body_items.specs.declared.items.Item.{Item}
use Rattle.pl_body_items.specs.declared.items.Item.TheVariants as i
use Rattle.pl_body_items.specs.declared.items.Spot.{Spot}
use Rattle.pl_body_items.specs.declared.items.Word.TheVariants as w
use Rattle.pl_body_items.specs.declared.making.Making.{Making}
use Rattle.pl_body_items.specs.declared.parts.Open.{Open}
use Rattle.pl_body_items.specs.declared.parts.Section.{Section}
use Rattle.pl_body_items.specs.declared.parts.Section.TheVariants as s
use Rattle.pl_body_items.specs.Items.{Said, item, nothing, Parted, parted, some_parted, else_said, statement_said}
use Rattle.pl_body_items.specs.Steps.{branch_of, arm_of, handler_of, otherwise_of, block_of, loop_of, statement_of, open_of, making_of, added, opened, step, then_steps}
use Rattle.pl_body_items.proofs.Equations.{branch_said, arm_said, handler_said, otherwise_said, statements_said, kind_said, statement_is, branch_is, arm_is, handler_is, otherwise_is, loop_is, block_is, kind_block, kind_loop, kind_simple, kind_if, kind_case}

-- ---- rows of what trees say

abbrev pub sayable : List Said → Bool
sayable [] = true
sayable (item x ∷ xs) = sayable xs
sayable (nothing ∷ xs) = false

sayable_front : (xs ys : List Said) → sayable (xs ++ ys) ≡ true → sayable xs ≡ true
sayable_front [] ys h = refl
sayable_front (item x ∷ xs) ys h = sayable_front xs ys h
sayable_front (nothing ∷ xs) ys h = absurd (cc)

sayable_rest : (xs ys : List Said) → sayable (xs ++ ys) ≡ true → sayable ys ≡ true
sayable_rest [] ys h = h
sayable_rest (item x ∷ xs) ys h = sayable_rest xs ys h
sayable_rest (nothing ∷ xs) ys h = absurd (cc)

abbrev pub said_steps : Making → List Said → Option Making
said_steps m [] = Some m
said_steps m (item x ∷ xs) = then_steps (λ n. said_steps n xs) (step m x)
said_steps m (nothing ∷ xs) = None

-- they lead from one to the other
abbrev pub Leads : Making → List Said → Making → Type 0
Leads m xs n = said_steps m xs ≡ Some n

then_leads : (m n p : Making) (xs ys : List Said) → Leads m xs n → Leads n ys p → Leads m (xs ++ ys) p
then_leads m n p [] ys h k = let same : m ≡ n = cc in ap (λ (m : Making). said_steps m ys) same ∙ k
then_leads m n p (item x ∷ xs) ys h k = by_step (step m x) refl h (λ q g. then_leads q n p xs ys g k)
  where
    by_step : (o : Option Making) → step m x ≡ o → then_steps (λ n. said_steps n xs) o ≡ Some n → ((q : Making) → said_steps q xs ≡ Some n → said_steps q (xs ++ ys) ≡ Some p) → then_steps (λ n. said_steps n (xs ++ ys)) (step m x) ≡ Some p
    by_step None e h more = absurd (cc)
    by_step (Some q) e h more = ap (λ (o : Option Making). then_steps (λ n. said_steps n (xs ++ ys)) o) e ∙ more q h
then_leads m n p (nothing ∷ xs) ys h k = absurd (cc)

one_leads : (m n p : Making) (x : Item) (xs : List Said) → step m x ≡ Some n → Leads n xs p → Leads m (item x ∷ xs) p
one_leads m n p x xs h k = ap (λ (o : Option Making). then_steps (λ n. said_steps n xs) o) h ∙ k

-- ---- statements in a part

-- statements lead to themselves behind the others of a part
abbrev Fit : List Statement → Type 0
Fit ss = (os : List Open) (spot : Spot) (section : Section) (before : List Statement) → sayable (statements_said ss) ≡ true
    → Leads (making_of os (open_of spot section before)) (statements_said ss) (making_of os (open_of spot section (before ++ ss)))

abbrev StatementFits : Statement → Type 0
StatementFits x = (m : Making) → sayable (statement_said x) ≡ true → Leads m (statement_said x) (added m x)

all_fit : (xs : List ((x : Statement) × StatementFits x)) → Fit (map (λ e. e.0) xs)
all_fit [] os spot section before h = ap (λ (ss : List Statement). let o : Option Making = Some (making_of os (open_of spot section ss)) in o) (sym (append-nil before))
all_fit (x ∷ xs) os spot section before h =
    let own = statement_said x.0 in
    let others = map (λ (e : (x : Statement) × StatementFits x). e.0) xs in
    let rest = statements_said others in
    let m = making_of os (open_of spot section before) in
    let n = making_of os (open_of spot section (before ++ x.0 ∷ [])) in
    then_leads m n (making_of os (open_of spot section (before ++ x.0 ∷ others))) own rest
    (x.1 m (sayable_front own rest h))
    (subst (λ (ss : List Statement). Leads n rest (making_of os (open_of spot section ss))) (append_assoc before (x.0 ∷ []) others)
    (all_fit xs os spot section (before ++ x.0 ∷ []) (sayable_rest own rest h)))

-- ---- branches, arms and handlers

-- made of what its item has and of statements that fit
abbrev Parts : {A X : Type 0} → (A → List Statement → X) → X → Type 0
Parts {A} {X} made x = (a : A) × (ss : List Statement) × (x ≡ made a ss) × Fit ss

module _ {A X : Type 0} (said : X → Parted A) (made : A → List Statement → X) (is : (a : A) (ss : List Statement) → said (made a ss) ≡ (a, statements_said ss)) (more : A → Item) (section : List X → A → Section)
    (next : (os : List Open) (spot : Spot) (xs : List X) (a b : A) (ss : List Statement) → step (making_of os (open_of spot (section xs a) ss)) (more b) ≡ Some (making_of os (open_of spot (section (xs ++ made a ss ∷ []) b) []))) (os : List Open) (spot : Spot) where
  -- the last of these parts is open, and the others are whole
  record Reached (m : Making) (row : List Said) (xs : List X) : Type 0 where
    pub done : List X
    pub last : A
    pub statements : List Statement
    pub leads : Leads m row (making_of os (open_of spot (section done last) statements))
    pub all : done ++ made last statements ∷ [] ≡ xs

  others_reached : (xs : List ((x : X) × Parts made x)) (done : List X) (a : A) (ss : List Statement) → sayable (parted more more (map said (map (λ e. e.0) xs))) ≡ true
      → Reached (making_of os (open_of spot (section done a) ss)) (parted more more (map said (map (λ e. e.0) xs))) (done ++ made a ss ∷ map (λ e. e.0) xs)
  others_reached [] done a ss h = record { done = done; last = a; statements = ss; leads = refl; all = refl }
  others_reached (x ∷ xs) done a ss h =
      let others = map (λ (e : (x : X) × Parts made x). e.0) xs in
      let rest = parted more more (map said others) in
      let b = x.1.0 in
      let own = x.1.1 in
      let same : said x.0 ≡ (b, statements_said own) = ap said x.1.2 ∙ is b own in
      let h' : sayable (statements_said own ++ rest) ≡ true = ap (λ (p : Parted A). sayable (p.1 ++ rest)) (sym same) ∙ h in
      let m = making_of os (open_of spot (section done a) ss) in
      let n = making_of os (open_of spot (section (done ++ made a ss ∷ []) b) []) in
      let p = making_of os (open_of spot (section (done ++ made a ss ∷ []) b) own) in
      let r = others_reached xs (done ++ made a ss ∷ []) b own (sayable_rest (statements_said own) rest h') in
      let end = making_of os (open_of spot (section r.done r.last) r.statements) in
      record {
        done = r.done;
        last = r.last;
        statements = r.statements;
        leads = subst (λ (p : Parted A). Leads m (item (more p.0) ∷ p.1 ++ rest) end) (sym same)
            (one_leads m n end (more b) (statements_said own ++ rest) (next os spot done a b ss)
            (then_leads n p end (statements_said own) rest (x.1.3 os spot (section (done ++ made a ss ∷ []) b) [] (sayable_front (statements_said own) rest h')) r.leads));
        all = r.all ∙ append_assoc done (made a ss ∷ []) (made b own ∷ others) ∙ ap (λ (y : X). done ++ made a ss ∷ y ∷ others) (sym x.1.2);
      }

  -- from where the first one begins
  parts_reached : (m : Making) (first : A → Item) → ((a : A) → step m (first a) ≡ Some (making_of os (open_of spot (section [] a) []))) → (x : (x : X) × Parts made x) (xs : List ((x : X) × Parts made x)) → sayable (parted first more (map said (map (λ e. e.0) (x ∷ xs)))) ≡ true
      → Reached m (parted first more (map said (map (λ e. e.0) (x ∷ xs)))) (map (λ e. e.0) (x ∷ xs))
  parts_reached m first opens x xs h =
      let others = map (λ (e : (x : X) × Parts made x). e.0) xs in
      let rest = parted more more (map said others) in
      let b = x.1.0 in
      let own = x.1.1 in
      let same : said x.0 ≡ (b, statements_said own) = ap said x.1.2 ∙ is b own in
      let h' : sayable (statements_said own ++ rest) ≡ true = ap (λ (p : Parted A). sayable (p.1 ++ rest)) (sym same) ∙ h in
      let n = making_of os (open_of spot (section [] b) []) in
      let p = making_of os (open_of spot (section [] b) own) in
      let r = others_reached xs [] b own (sayable_rest (statements_said own) rest h') in
      let end = making_of os (open_of spot (section r.done r.last) r.statements) in
      record {
        done = r.done;
        last = r.last;
        statements = r.statements;
        leads = subst (λ (p : Parted A). Leads m (item (first p.0) ∷ p.1 ++ rest) end) (sym same)
            (one_leads m n end (first b) (statements_said own ++ rest) (opens b)
            (then_leads n p end (statements_said own) rest (x.1.3 os spot (section [] b) [] (sayable_front (statements_said own) rest h')) r.leads));
        all = r.all ∙ ap (λ (y : X). y ∷ others) (sym x.1.2);
      }

-- ---- kinds of statements

abbrev KindFits : StatementKind → Type 0
KindFits kind = (m : Making) (spot : Spot) → sayable (kind_said kind spot) ≡ true → Leads m (kind_said kind spot) (added m (statement_of spot kind))

abbrev OtherwiseFits : Otherwise → Type 0
OtherwiseFits o = (ss : List Statement) × (o ≡ otherwise_of ss) × Fit ss

-- one item behind a row
end_leads : (m n p : Making) (row : List Said) (x : Item) → Leads m row n → step n x ≡ Some p → Leads m (row ++ item x ∷ []) p
end_leads m n p row x h k = then_leads m n p row (item x ∷ []) h (one_leads n p p x [] k refl)

-- IF and CASE
module _ {A X : Type 0} (said : X → Parted A) (made : A → List Statement → X) (is : (a : A) (ss : List Statement) → said (made a ss) ≡ (a, statements_said ss)) (more : A → Item) (section : List X → A → Section)
    (next : (os : List Open) (spot : Spot) (xs : List X) (a b : A) (ss : List Statement) → step (making_of os (open_of spot (section xs a) ss)) (more b) ≡ Some (making_of os (open_of spot (section (xs ++ made a ss ∷ []) b) [])))
    (first : Spot → A → Item) (opens : (m : Making) (spot : Spot) (a : A) → step m (first spot a) ≡ Some (opened m spot (section [] a)))
    (else_section : List X → Section) (turns : (os : List Open) (spot : Spot) (xs : List X) (a : A) (ss : List Statement) → step (making_of os (open_of spot (section xs a) ss)) (i.Word w.Else) ≡ Some (making_of os (open_of spot (else_section (xs ++ made a ss ∷ [])) [])))
    (end : Item) (kind : List X → Option Otherwise → StatementKind)
    (kind_is : (spot : Spot) (xs : List X) (o : Option Otherwise) → kind_said (kind xs o) spot ≡ some_parted (first spot) more (map said xs) ++ else_said (option_map otherwise_said o) ++ item end ∷ [])
    (ends : (m : Making) (spot : Spot) (xs : List X) (a : A) (ss : List Statement) → step (making_of (m.inner ∷ m.around) (open_of spot (section xs a) ss)) end ≡ Some (added m (statement_of spot (kind (xs ++ made a ss ∷ []) None))))
    (else_ends : (m : Making) (spot : Spot) (xs : List X) (ss : List Statement) → step (making_of (m.inner ∷ m.around) (open_of spot (else_section xs) ss)) end ≡ Some (added m (statement_of spot (kind xs (Some (otherwise_of ss)))))) where
  choice_fits : (xs : List ((x : X) × Parts made x)) (o : Option ((o : Otherwise) × OtherwiseFits o)) → KindFits (kind (map (λ e. e.0) xs) (option_map (λ e. e.0) o))
  choice_fits [] o m spot h = let none : sayable (nothing ∷ [] ++ else_said (option_map otherwise_said (option_map (λ (e : (o : Otherwise) × OtherwiseFits o). e.0) o)) ++ item end ∷ []) ≡ true = ap sayable (sym (kind_is spot [] (option_map (λ (e : (o : Otherwise) × OtherwiseFits o). e.0) o))) ∙ h in absurd (cc)
  choice_fits (x ∷ xs) None m spot h =
      let all = map (λ (e : (x : X) × Parts made x). e.0) (x ∷ xs) in
      let row = parted (first spot) more (map said all) in
      let same = kind_is spot all None in
      let h' : sayable (row ++ [] ++ item end ∷ []) ≡ true = ap sayable (sym same) ∙ h in
      let r = parts_reached said made is more section next (m.inner ∷ m.around) spot m (first spot) (opens m spot) x xs (sayable_front row [] (sayable_front (row ++ []) (item end ∷ []) h')) in
      let n = making_of (m.inner ∷ m.around) (open_of spot (section r.done r.last) r.statements) in
      let p = added m (statement_of spot (kind all None)) in
      let ended : step n end ≡ Some p = ends m spot r.done r.last r.statements ∙ ap (λ (xs : List X). let o : Option Making = Some (added m (statement_of spot (kind xs None))) in o) r.all in
      subst (λ (row : List Said). Leads m row p) (sym same)
      (end_leads m n p (row ++ []) end (subst (λ (row : List Said). Leads m row n) (sym (append-nil row)) r.leads) ended)
  choice_fits (x ∷ xs) (Some o) m spot h =
      let all = map (λ (e : (x : X) × Parts made x). e.0) (x ∷ xs) in
      let row = parted (first spot) more (map said all) in
      let own = o.1.0 in
      let other : otherwise_said o.0 ≡ statements_said own = ap otherwise_said o.1.1 ∙ otherwise_is own in
      let same = kind_is spot all (Some o.0) ∙ ap (λ (ss : List Said). row ++ (item (i.Word w.Else) ∷ ss) ++ item end ∷ []) other in
      let h' : sayable (row ++ (item (i.Word w.Else) ∷ statements_said own) ++ item end ∷ []) ≡ true = ap sayable (sym same) ∙ h in
      let front = sayable_front (row ++ (item (i.Word w.Else) ∷ statements_said own)) (item end ∷ []) h' in
      let os = m.inner ∷ m.around in
      let r = parts_reached said made is more section next os spot m (first spot) (opens m spot) x xs (sayable_front row (item (i.Word w.Else) ∷ statements_said own) front) in
      let n = making_of os (open_of spot (section r.done r.last) r.statements) in
      let q = making_of os (open_of spot (else_section all) []) in
      let t = making_of os (open_of spot (else_section all) own) in
      let p = added m (statement_of spot (kind all (Some o.0))) in
      let turned : step n (i.Word w.Else) ≡ Some q = turns os spot r.done r.last r.statements ∙ ap (λ (xs : List X). let o : Option Making = Some (making_of os (open_of spot (else_section xs) [])) in o) r.all in
      let ended : step t end ≡ Some p = else_ends m spot all own ∙ ap (λ (x : Otherwise). let o : Option Making = Some (added m (statement_of spot (kind all (Some x)))) in o) (sym o.1.1) in
      subst (λ (row : List Said). Leads m row p) (sym same)
      (end_leads m t p (row ++ (item (i.Word w.Else) ∷ statements_said own)) end
      (then_leads m n t row (item (i.Word w.Else) ∷ statements_said own) r.leads
      (one_leads n q t (i.Word w.Else) (statements_said own) turned (o.1.2 os spot (else_section all) [] (sayable_rest row (item (i.Word w.Else) ∷ statements_said own) front))))
      ended)

if_fits : (xs : List ((x : Branch) × Parts branch_of x)) (o : Option ((o : Otherwise) × OtherwiseFits o)) → KindFits (k.If (map (λ e. e.0) xs) (option_map (λ e. e.0) o))
unfolding step
if_fits = choice_fits branch_said branch_of branch_is i.Elsif s.If (λ os spot xs a b ss. refl) i.If (λ m spot a. refl) s.IfElse (λ os spot xs a ss. refl) (i.Word w.EndIf) k.If kind_if (λ m spot xs a ss. refl) (λ m spot xs ss. refl)

case_fits : (x : Option Expr) (xs : List ((x : CaseArm) × Parts arm_of x)) (o : Option ((o : Otherwise) × OtherwiseFits o)) → KindFits (k.Case x (map (λ e. e.0) xs) (option_map (λ e. e.0) o))
unfolding step
case_fits x = choice_fits arm_said arm_of arm_is i.Arm (s.Case x) (λ os spot xs a b ss. refl) (λ spot. i.Case spot x) (λ m spot a. refl) (s.CaseElse x) (λ os spot xs a ss. refl) (i.Word w.EndCase) (k.Case x) (λ spot. kind_case spot x) (λ m spot xs a ss. refl) (λ m spot xs ss. refl)

simple_fits : (x : Simple) → KindFits (k.Simple x)
unfolding step
simple_fits x m spot h =
    let p = added m (statement_of spot (k.Simple x)) in
    subst (λ (row : List Said). Leads m row p) (sym (kind_simple spot x)) (one_leads m p p (i.Simple spot x) [] refl refl)

loop_fits : (label : Option (List ℕ)) (head : LoopHead) (ss : List Statement) (end : Option (List ℕ)) → Fit ss → KindFits (k.Loop (loop_of label head ss end))
unfolding step
loop_fits label head ss end fit m spot h =
    let same = kind_loop spot (loop_of label head ss end) ∙ loop_is spot label head ss end in
    let row = item (i.Loop spot label head) ∷ statements_said ss in
    let h' : sayable (row ++ item (i.Word (w.EndLoop end)) ∷ []) ≡ true = ap sayable (sym same) ∙ h in
    let os = m.inner ∷ m.around in
    let n = opened m spot (s.Loop label head) in
    let t = making_of os (open_of spot (s.Loop label head) ss) in
    let p = added m (statement_of spot (k.Loop (loop_of label head ss end))) in
    subst (λ (row : List Said). Leads m row p) (sym same)
    (end_leads m t p row (i.Word (w.EndLoop end)) (one_leads m n t (i.Loop spot label head) (statements_said ss) refl (fit os spot (s.Loop label head) [] (sayable_front row (item (i.Word (w.EndLoop end)) ∷ []) h'))) refl)

block_fits : (label : Option (List ℕ)) (ds : List Declaration) (ss : List Statement) (hs : List ((x : Handler) × Parts handler_of x)) (end : Option (List ℕ)) → Fit ss → KindFits (k.Block (block_of label ds ss (map (λ e. e.0) hs) end))
unfolding step
block_fits label ds ss [] end fit m spot h =
    let same = kind_block spot (block_of label ds ss [] end) ∙ block_is spot label ds ss [] end in
    let row = item (i.Block spot label ds) ∷ statements_said ss in
    let h' : sayable (row ++ [] ++ item (i.Word (w.End end)) ∷ []) ≡ true = ap sayable (sym same) ∙ h in
    let os = m.inner ∷ m.around in
    let n = opened m spot (s.Block label ds) in
    let t = making_of os (open_of spot (s.Block label ds) ss) in
    let p = added m (statement_of spot (k.Block (block_of label ds ss [] end))) in
    let begun : Leads m row t = one_leads m n t (i.Block spot label ds) (statements_said ss) refl (fit os spot (s.Block label ds) [] (sayable_front row [] (sayable_front (row ++ []) (item (i.Word (w.End end)) ∷ []) h'))) in
    subst (λ (row : List Said). Leads m row p) (sym same)
    (end_leads m t p (row ++ []) (i.Word (w.End end)) (subst (λ (row : List Said). Leads m row t) (sym (append-nil row)) begun) refl)
block_fits label ds ss (x ∷ xs) end fit m spot h =
    let all = map (λ (e : (x : Handler) × Parts handler_of x). e.0) (x ∷ xs) in
    let same = kind_block spot (block_of label ds ss all end) ∙ block_is spot label ds ss all end in
    let row = item (i.Block spot label ds) ∷ statements_said ss in
    let more = parted i.Exception i.Handler (map handler_said all) in
    let h' : sayable (row ++ more ++ item (i.Word (w.End end)) ∷ []) ≡ true = ap sayable (sym same) ∙ h in
    let front = sayable_front (row ++ more) (item (i.Word (w.End end)) ∷ []) h' in
    let os = m.inner ∷ m.around in
    let n = opened m spot (s.Block label ds) in
    let t = making_of os (open_of spot (s.Block label ds) ss) in
    let begun : Leads m row t = one_leads m n t (i.Block spot label ds) (statements_said ss) refl (fit os spot (s.Block label ds) [] (sayable_front row more front)) in
    let r = parts_reached handler_said handler_of handler_is i.Handler (s.Handler label ds ss) (λ os spot xs a b ss. refl) os spot t i.Exception (λ a. refl) x xs (sayable_rest row more front) in
    let u = making_of os (open_of spot (s.Handler label ds ss r.done r.last) r.statements) in
    let p = added m (statement_of spot (k.Block (block_of label ds ss all end))) in
    let ended : step u (i.Word (w.End end)) ≡ Some p = ap (λ (hs : List Handler). let o : Option Making = Some (added m (statement_of spot (k.Block (block_of label ds ss hs end)))) in o) r.all in
    subst (λ (row : List Said). Leads m row p) (sym same)
    (end_leads m u p (row ++ more) (i.Word (w.End end)) (then_leads m t u row more begun r.leads) ended)

-- ---- all trees

abbrev BlockFits : Block → Type 0
BlockFits x = KindFits (k.Block x)

abbrev LoopFits : Loop → Type 0
LoopFits x = KindFits (k.Loop x)

-- each with the proof that it fits
abbrev Kinds : Type 1
Kinds = Type 0 → Type 0 → Type 0 → Type 0 → Type 0 → Type 0 → Type 0 → Type 0 → Type 0

abbrev Fitting : Kinds → Type 0
Fitting F = F ((x : StatementKind) × KindFits x) ((x : Block) × BlockFits x) ((x : Branch) × Parts branch_of x) ((x : CaseArm) × Parts arm_of x) ((x : Handler) × Parts handler_of x) ((x : Loop) × LoopFits x) ((x : Otherwise) × OtherwiseFits x) ((x : Statement) × StatementFits x)

block_rolls : (x : Block) → k.Block x ≡ roll-StatementKind (l.Block x)
block_rolls x = first_of (search (rules, the_lemmas), grind (arith, the_lemmas))

if_rolls : (xs : List Branch) (o : Option Otherwise) → k.If xs o ≡ roll-StatementKind (l.If xs o)
if_rolls xs o = first_of (search (rules, the_lemmas), grind (arith, the_lemmas))

case_rolls : (x : Option Expr) (xs : List CaseArm) (o : Option Otherwise) → k.Case x xs o ≡ roll-StatementKind (l.Case x xs o)
case_rolls x xs o = first_of (search (rules, the_lemmas), grind (arith, the_lemmas))

loop_rolls : (x : Loop) → k.Loop x ≡ roll-StatementKind (l.Loop x)
loop_rolls x = first_of (search (rules, the_lemmas), grind (arith, the_lemmas))

simple_rolls : (x : Simple) → k.Simple x ≡ roll-StatementKind (l.Simple x)
simple_rolls x = first_of (search (rules, the_lemmas), grind (arith, the_lemmas))

fits_as : (line ordinal : ℕ) (kind : StatementKind) → KindFits kind → StatementFits (statement_of (record { line = line; ordinal = ordinal }) kind)
fits_as line ordinal kind fit m h =
    let spot : Spot = record { line = line; ordinal = ordinal } in
    let same = statement_is spot kind in
    subst (λ (row : List Said). Leads m row (added m (statement_of spot kind))) (sym same) (fit m spot (ap sayable (sym same) ∙ h))

kind_rolled : (y : Fitting StatementKind-F) → KindFits (roll-StatementKind (map-StatementKind _ _ _ _ _ _ _ _ _ _ _ _ _ _ _ _ (λ e. e.0) (λ e. e.0) (λ e. e.0) (λ e. e.0) (λ e. e.0) (λ e. e.0) (λ e. e.0) (λ e. e.0) y))
kind_rolled (l.Block x) = subst KindFits (block_rolls x.0) x.1
kind_rolled (l.If xs None) = subst KindFits (if_rolls (map (λ e. e.0) xs) None) (if_fits xs None)
kind_rolled (l.If xs (Some o)) = subst KindFits (if_rolls (map (λ e. e.0) xs) (Some o.0)) (if_fits xs (Some o))
kind_rolled (l.Case x xs None) = subst KindFits (case_rolls x (map (λ e. e.0) xs) None) (case_fits x xs None)
kind_rolled (l.Case x xs (Some o)) = subst KindFits (case_rolls x (map (λ e. e.0) xs) (Some o.0)) (case_fits x xs (Some o))
kind_rolled (l.Loop x) = subst KindFits (loop_rolls x.0) x.1
kind_rolled (l.Simple x) = subst KindFits (simple_rolls x) (simple_fits x)

pub statement_fits : (x : Statement) → StatementFits x
statement_fits = ind-Statement KindFits BlockFits (Parts branch_of) (Parts arm_of) (Parts handler_of) LoopFits OtherwiseFits StatementFits
    (λ x y is. subst (λ z. KindFits (roll-StatementKind z)) is (kind_rolled y))
    (λ x y is. subst (λ z. BlockFits (roll-Block z)) is (block_fits y.label y.declarations (map (λ e. e.0) y.statements) y.handlers y.end_label (all_fit y.statements)))
    (λ x y is. subst (λ z. Parts branch_of (roll-Branch z)) is (y.condition, map (λ e. e.0) y.statements, refl, all_fit y.statements))
    (λ x y is. subst (λ z. Parts arm_of (roll-CaseArm z)) is (y.values, map (λ e. e.0) y.statements, refl, all_fit y.statements))
    (λ x y is. subst (λ z. Parts handler_of (roll-Handler z)) is (y.conditions, map (λ e. e.0) y.statements, refl, all_fit y.statements))
    (λ x y is. subst (λ z. LoopFits (roll-Loop z)) is (loop_fits y.label y.head (map (λ e. e.0) y.statements) y.end_label (all_fit y.statements)))
    (λ x y is. subst (λ z. OtherwiseFits (roll-Otherwise z)) is (map (λ e. e.0) y.statements, refl, all_fit y.statements))
    (λ x y is. subst (λ z. StatementFits (roll-Statement z)) is (fits_as y.line y.ordinal y.kind.0 y.kind.1))
