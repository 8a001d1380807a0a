-- What the open parts say is the items that were taken.
use Rattle.std.proofs.Common.{◌≡◌, ◌∙◌, ap, sym, refl, ℕ, List, [], ◌∷◌, ◌++◌, Option, Some, None, map, append_assoc, append-nil}
use Rattle.std.proofs.lemmas.List.{map-append}
use Rattle.std.proofs.lemmas.List.Concat.{flat_map-append}
use Rattle.pl_bodies.specs.declared.statement.Branch.{Branch}
use Rattle.pl_bodies.specs.declared.statement.CaseArm.{CaseArm}
use Rattle.pl_bodies.specs.declared.statement.Caught.{Caught}
use Rattle.pl_bodies.specs.declared.statement.Handler.{Handler}
use Rattle.pl_bodies.specs.declared.statement.Statement.{Statement}
use Rattle.pl_bodies.specs.declared.statement.StatementKind.TheVariants as k
use Rattle.pl_bodies.specs.declared.statement.StatementKind.{StatementKind}
use Rattle.pl_tree.specs.declared.tree.Expr.{Expr}
use Rattle.pl_body_items.specs.declared.items.Item.{Item}
use Rattle.pl_body_items.specs.declared.items.Item.TheVariants as i
use Rattle.pl_body_items.specs.declared.items.Spot.{Spot}
use Rattle.pl_body_items.specs.declared.items.Word.TheVariants as w
use Rattle.pl_body_items.specs.declared.making.Making.{Making}
use Rattle.pl_body_items.specs.declared.parts.Open.{Open}
use Rattle.pl_body_items.specs.declared.parts.Section.{Section}
use Rattle.pl_body_items.specs.declared.parts.Section.TheVariants as s
use Rattle.pl_body_items.specs.Items.{Said, item, Parted, parted, some_parted, all_said, statement_said}
use Rattle.pl_body_items.specs.Steps.{branch_of, arm_of, handler_of, otherwise_of, block_of, loop_of, statement_of, open_of, making_of, with_statement, added, opened, divided, elsif, otherwise, arm, exception, handler, with_inner, if_ended, case_ended, loop_ended, block_ended, closed, ended, with_ended, step, then_steps, steps}
use Rattle.pl_body_items.proofs.Equations.{branch_said, arm_said, handler_said, statements_said, kind_said, statement_is, branch_is, arm_is, handler_is, otherwise_is, loop_is, block_is, kind_block, kind_loop, kind_simple, kind_if, kind_case}

-- ---- parts

-- the item of a part behind these
abbrev pub picked : {A : Type 0} → (A → Item) → (A → Item) → List (Parted A) → A → Item
picked first more [] a = first a
picked first more (p ∷ ps) a = more a

-- one more part
pub parted_more : {A : Type 0} (first more : A → Item) (ps : List (Parted A)) (p : Parted A)
    → parted first more (ps ++ p ∷ []) ≡ parted first more ps ++ (item (picked first more ps p.0) ∷ p.1)
parted_more first more [] p = append-nil (item (first p.0) ∷ p.1)
parted_more first more (q ∷ []) p =
    ap (λ (rest : List Said). item (first q.0) ∷ q.1 ++ rest) (append-nil (item (more p.0) ∷ p.1))
    ∙ ap (λ (front : List Said). item (first q.0) ∷ front ++ (item (more p.0) ∷ p.1)) (sym (append-nil q.1))
parted_more first more (q ∷ r ∷ ps) p =
    ap (λ (rest : List Said). item (first q.0) ∷ q.1 ++ rest) (parted_more more more (r ∷ ps) p)
    ∙ ap (λ (rest : List Said). item (first q.0) ∷ rest) (sym (append_assoc q.1 (parted more more (r ∷ ps)) (item (more p.0) ∷ p.1)))

-- at least one
pub some_more : {A : Type 0} (first more : A → Item) (ps : List (Parted A)) (p : Parted A) → some_parted first more (ps ++ p ∷ []) ≡ parted first more (ps ++ p ∷ [])
some_more first more [] p = refl
some_more first more (q ∷ ps) p = refl

pub statements_more : (ss : List Statement) (x : Statement) → statements_said (ss ++ x ∷ []) ≡ statements_said ss ++ statement_said x
statements_more ss x =
    ap all_said (map-append statement_said ss (x ∷ []))
    ∙ flat_map-append (λ (row : List Said). row) (map statement_said ss) (statement_said x ∷ [])
    ∙ ap (λ (rest : List Said). statements_said ss ++ rest) (append-nil (statement_said x))

-- ---- branches, arms and handlers, each of which is made of what its item has and its statements

picked_more : {A : Type 0} (first more : A → Item) (ps : List (Parted A)) (p : Parted A) (a : A) → picked first more (ps ++ p ∷ []) a ≡ more a
picked_more first more [] p a = refl
picked_more first more (q ∷ ps) p a = refl

module _ {A X : Type 0} (said : X → Parted A) (made : A → List Statement → X) (is : (a : A) (ss : List Statement) → said (made a ss) ≡ (a, statements_said ss)) (first more : A → Item) where
  -- whole parts, and the item of the next one
  abbrev pub so_far : List X → A → List Said
  so_far xs a = parted first more (map said xs) ++ item (picked first more (map said xs) a) ∷ []

  -- which then is whole
  pub whole : (xs : List X) (a : A) (ss : List Statement) → parted first more (map said (xs ++ made a ss ∷ [])) ≡ so_far xs a ++ statements_said ss
  whole xs a ss =
      ap (parted first more) (map-append said xs (made a ss ∷ []))
      ∙ parted_more first more (map said xs) (said (made a ss))
      ∙ ap (λ (p : Parted A). parted first more (map said xs) ++ (item (picked first more (map said xs) p.0) ∷ p.1)) (is a ss)
      ∙ sym (append_assoc (parted first more (map said xs)) (item (picked first more (map said xs) a) ∷ []) (statements_said ss))

  pub some_whole : (xs : List X) (a : A) (ss : List Statement) → some_parted first more (map said (xs ++ made a ss ∷ [])) ≡ so_far xs a ++ statements_said ss
  some_whole xs a ss =
      ap (some_parted first more) (map-append said xs (made a ss ∷ []))
      ∙ some_more first more (map said xs) (said (made a ss))
      ∙ ap (parted first more) (sym (map-append said xs (made a ss ∷ [])))
      ∙ whole xs a ss

  -- and behind it another one
  pub another : (xs : List X) (a b : A) (ss : List Statement) → so_far (xs ++ made a ss ∷ []) b ≡ so_far xs a ++ statements_said ss ++ item (more b) ∷ []
  another xs a b ss =
      ap (λ (front : List Said). front ++ item (picked first more (map said (xs ++ made a ss ∷ [])) b) ∷ []) (whole xs a ss)
      ∙ ap (λ (x : Item). so_far xs a ++ statements_said ss ++ item x ∷ []) (ap (λ (ps : List (Parted A)). picked first more ps b) (map-append said xs (made a ss ∷ [])) ∙ picked_more first more (map said xs) (said (made a ss)) b)

abbrev branches_so_far : Spot → List Branch → Expr → List Said
branches_so_far spot = so_far branch_said branch_of branch_is (i.If spot) i.Elsif

abbrev arms_so_far : Spot → Option Expr → List CaseArm → List Expr → List Said
arms_so_far spot x = so_far arm_said arm_of arm_is (i.Case spot x) i.Arm

abbrev handlers_so_far : List Handler → List Caught → List Said
handlers_so_far = so_far handler_said handler_of handler_is i.Exception i.Handler

-- ---- open parts

abbrev pub section_said : Spot → Section → List Said
section_said spot s.Body = []
section_said spot (s.Block label ds) = item (i.Block spot label ds) ∷ []
section_said spot (s.Handler label ds bs hs cs) = (item (i.Block spot label ds) ∷ statements_said bs) ++ handlers_so_far hs cs
section_said spot (s.If bs e) = branches_so_far spot bs e
section_said spot (s.IfElse bs) = some_parted (i.If spot) i.Elsif (map branch_said bs) ++ item (i.Word w.Else) ∷ []
section_said spot (s.Case x arms vs) = arms_so_far spot x arms vs
section_said spot (s.CaseElse x arms) = some_parted (i.Case spot x) i.Arm (map arm_said arms) ++ item (i.Word w.Else) ∷ []
section_said spot (s.Loop label head) = item (i.Loop spot label head) ∷ []

abbrev pub open_said : Open → List Said
open_said o = section_said o.spot o.section ++ statements_said o.statements

abbrev pub around_said : List Open → List Said
around_said [] = []
around_said (o ∷ os) = around_said os ++ open_said o

abbrev pub making_said : Making → List Said
making_said m = around_said m.around ++ open_said m.inner

-- with one statement more
pub with_statement_said : (os : List Open) (o : Open) (x : Statement) → making_said (making_of os (with_statement o x)) ≡ making_said (making_of os o) ++ statement_said x
with_statement_said os o x =
    ap (λ (ss : List Said). around_said os ++ (section_said o.spot o.section ++ ss)) (statements_more o.statements x)
    ∙ ap (λ (ss : List Said). around_said os ++ ss) (sym (append_assoc (section_said o.spot o.section) (statements_said o.statements) (statement_said x)))
    ∙ sym (append_assoc (around_said os) (open_said o) (statement_said x))

-- with one part more
opened_said : (m : Making) (spot : Spot) (section : Section) (x : Item) → section_said spot section ≡ item x ∷ [] → making_said (opened m spot section) ≡ making_said m ++ item x ∷ []
opened_said m spot section x is = ap (λ (xs : List Said). making_said m ++ xs) (append-nil (section_said spot section) ∙ is)

-- ---- what divides

-- the section that an item makes says that item too
abbrev Divides : Open → Item → Option Section → Type 0
Divides o x None = Unit {0}
Divides o x (Some section) = section_said o.spot section ≡ open_said o ++ item x ∷ []

divided_said : (m n : Making) (x : Item) (new : Option Section) → Divides m.inner x new → with_inner m.around (divided m.inner new) ≡ Some n → making_said n ≡ making_said m ++ item x ∷ []
divided_said m n x None says is = absurd (cc)
divided_said m n x (Some section) says is =
    let same : making_of m.around (open_of m.inner.spot section []) ≡ n = cc in
    ap making_said (sym same)
    ∙ ap (λ (xs : List Said). around_said m.around ++ xs) (append-nil (section_said m.inner.spot section) ∙ says)
    ∙ sym (append_assoc (around_said m.around) (open_said m.inner) (item x ∷ []))

elsif_divides : (spot : Spot) (section : Section) (ss : List Statement) (new : Expr) → Divides (open_of spot section ss) (i.Elsif new) (elsif section ss new)
elsif_divides spot (s.If bs e) ss new = another branch_said branch_of branch_is (i.If spot) i.Elsif bs e new ss
elsif_divides spot _ ss new = tt

otherwise_divides : (spot : Spot) (section : Section) (ss : List Statement) → Divides (open_of spot section ss) (i.Word w.Else) (otherwise section ss)
otherwise_divides spot (s.If bs e) ss = ap (λ (xs : List Said). xs ++ item (i.Word w.Else) ∷ []) (some_whole branch_said branch_of branch_is (i.If spot) i.Elsif bs e ss)
otherwise_divides spot (s.Case x arms vs) ss = ap (λ (xs : List Said). xs ++ item (i.Word w.Else) ∷ []) (some_whole arm_said arm_of arm_is (i.Case spot x) i.Arm arms vs ss)
otherwise_divides spot _ ss = tt

arm_divides : (spot : Spot) (section : Section) (ss : List Statement) (new : List Expr) → Divides (open_of spot section ss) (i.Arm new) (arm section ss new)
arm_divides spot (s.Case x arms vs) ss new = another arm_said arm_of arm_is (i.Case spot x) i.Arm arms vs new ss
arm_divides spot _ ss new = tt

exception_divides : (spot : Spot) (section : Section) (ss : List Statement) (new : List Caught) → Divides (open_of spot section ss) (i.Exception new) (exception section ss new)
exception_divides spot (s.Block label ds) ss new = refl
exception_divides spot _ ss new = tt

handler_divides : (spot : Spot) (section : Section) (ss : List Statement) (new : List Caught) → Divides (open_of spot section ss) (i.Handler new) (handler section ss new)
handler_divides spot (s.Handler label ds bs hs cs) ss new =
    let front = item (i.Block spot label ds) ∷ statements_said bs in
    ap (λ (xs : List Said). front ++ xs) (another handler_said handler_of handler_is i.Exception i.Handler hs cs new ss)
    ∙ sym (append_assoc front (handlers_so_far hs cs ++ statements_said ss) (item (i.Handler new) ∷ []))
    ∙ ap (λ (xs : List Said). xs ++ item (i.Handler new) ∷ []) (sym (append_assoc front (handlers_so_far hs cs) (statements_said ss)))
handler_divides spot _ ss new = tt

-- ---- what ends

-- the statement that an item makes of the part says that item too
abbrev Ends : Open → Item → Option StatementKind → Type 0
Ends o x None = Unit {0}
Ends o x (Some kind) = kind_said kind o.spot ≡ open_said o ++ item x ∷ []

ended_said : (m n : Making) (x : Item) (kind : Option StatementKind) → Ends m.inner x kind → with_ended m.around (ended m.inner kind) ≡ Some n → making_said n ≡ making_said m ++ item x ∷ []
ended_said m n x None says is = absurd (cc)
ended_said m n x (Some kind) says is = inside m.around is
  where
    inside : (os : List Open) → closed os (statement_of m.inner.spot kind) ≡ Some n → making_said n ≡ around_said os ++ open_said m.inner ++ item x ∷ []
    inside [] is = absurd (cc)
    inside (o ∷ os) is =
        let same : making_of os (with_statement o (statement_of m.inner.spot kind)) ≡ n = cc in
        ap making_said (sym same)
        ∙ with_statement_said os o (statement_of m.inner.spot kind)
        ∙ ap (λ (xs : List Said). around_said os ++ open_said o ++ xs) (statement_is m.inner.spot kind ∙ says)
        ∙ sym (append_assoc (around_said os ++ open_said o) (open_said m.inner) (item x ∷ []))

if_ends : (spot : Spot) (section : Section) (ss : List Statement) → Ends (open_of spot section ss) (i.Word w.EndIf) (if_ended section ss)
if_ends spot (s.If bs e) ss =
    kind_if spot (bs ++ branch_of e ss ∷ []) None
    ∙ ap (λ (xs : List Said). xs ++ item (i.Word w.EndIf) ∷ []) (append-nil (some_parted (i.If spot) i.Elsif (map branch_said (bs ++ branch_of e ss ∷ []))) ∙ some_whole branch_said branch_of branch_is (i.If spot) i.Elsif bs e ss)
if_ends spot (s.IfElse bs) ss =
    let front = some_parted (i.If spot) i.Elsif (map branch_said bs) in
    kind_if spot bs (Some (otherwise_of ss))
    ∙ ap (λ (xs : List Said). front ++ (item (i.Word w.Else) ∷ xs) ++ item (i.Word w.EndIf) ∷ []) (otherwise_is ss)
    ∙ ap (λ (xs : List Said). xs ++ item (i.Word w.EndIf) ∷ []) (sym (append_assoc front (item (i.Word w.Else) ∷ []) (statements_said ss)))
if_ends spot _ ss = tt

case_ends : (spot : Spot) (section : Section) (ss : List Statement) → Ends (open_of spot section ss) (i.Word w.EndCase) (case_ended section ss)
case_ends spot (s.Case x arms vs) ss =
    kind_case spot x (arms ++ arm_of vs ss ∷ []) None
    ∙ ap (λ (xs : List Said). xs ++ item (i.Word w.EndCase) ∷ []) (append-nil (some_parted (i.Case spot x) i.Arm (map arm_said (arms ++ arm_of vs ss ∷ []))) ∙ some_whole arm_said arm_of arm_is (i.Case spot x) i.Arm arms vs ss)
case_ends spot (s.CaseElse x arms) ss =
    let front = some_parted (i.Case spot x) i.Arm (map arm_said arms) in
    kind_case spot x arms (Some (otherwise_of ss))
    ∙ ap (λ (xs : List Said). front ++ (item (i.Word w.Else) ∷ xs) ++ item (i.Word w.EndCase) ∷ []) (otherwise_is ss)
    ∙ ap (λ (xs : List Said). xs ++ item (i.Word w.EndCase) ∷ []) (sym (append_assoc front (item (i.Word w.Else) ∷ []) (statements_said ss)))
case_ends spot _ ss = tt

loop_ends : (spot : Spot) (section : Section) (ss : List Statement) (label : Option (List ℕ)) → Ends (open_of spot section ss) (i.Word (w.EndLoop label)) (loop_ended section ss label)
loop_ends spot (s.Loop own head) ss label = kind_loop spot (loop_of own head ss label) ∙ loop_is spot own head ss label
loop_ends spot _ ss label = tt

block_ends : (spot : Spot) (section : Section) (ss : List Statement) (label : Option (List ℕ)) → Ends (open_of spot section ss) (i.Word (w.End label)) (block_ended section ss label)
block_ends spot (s.Block own ds) ss label =
    kind_block spot (block_of own ds ss [] label)
    ∙ block_is spot own ds ss [] label
    ∙ ap (λ (xs : List Said). xs ++ item (i.Word (w.End label)) ∷ []) (append-nil (item (i.Block spot own ds) ∷ statements_said ss))
block_ends spot (s.Handler own ds bs hs cs) ss label =
    let front = item (i.Block spot own ds) ∷ statements_said bs in
    kind_block spot (block_of own ds bs (hs ++ handler_of cs ss ∷ []) label)
    ∙ block_is spot own ds bs (hs ++ handler_of cs ss ∷ []) label
    ∙ ap (λ (xs : List Said). front ++ xs ++ item (i.Word (w.End label)) ∷ []) (whole handler_said handler_of handler_is i.Exception i.Handler hs cs ss)
    ∙ ap (λ (xs : List Said). xs ++ item (i.Word (w.End label)) ∷ []) (sym (append_assoc front (handlers_so_far hs cs) (statements_said ss)))
block_ends spot _ ss label = tt

-- ---- any item

pub step_said : (m n : Making) (x : Item) → step m x ≡ Some n → making_said n ≡ making_said m ++ item x ∷ []
unfolding step
step_said m n (i.Simple spot x) is =
    let same : added m (statement_of spot (k.Simple x)) ≡ n = cc in
    ap making_said (sym same)
    ∙ with_statement_said m.around m.inner (statement_of spot (k.Simple x))
    ∙ ap (λ (xs : List Said). making_said m ++ xs) (statement_is spot (k.Simple x) ∙ kind_simple spot x)
step_said m n (i.Block spot label ds) is = let same : opened m spot (s.Block label ds) ≡ n = cc in ap making_said (sym same) ∙ opened_said m spot (s.Block label ds) (i.Block spot label ds) refl
step_said m n (i.Exception cs) is = divided_said m n (i.Exception cs) (exception m.inner.section m.inner.statements cs) (exception_divides m.inner.spot m.inner.section m.inner.statements cs) is
step_said m n (i.Handler cs) is = divided_said m n (i.Handler cs) (handler m.inner.section m.inner.statements cs) (handler_divides m.inner.spot m.inner.section m.inner.statements cs) is
step_said m n (i.Word (w.End label)) is = ended_said m n (i.Word (w.End label)) (block_ended m.inner.section m.inner.statements label) (block_ends m.inner.spot m.inner.section m.inner.statements label) is
step_said m n (i.If spot e) is = let same : opened m spot (s.If [] e) ≡ n = cc in ap making_said (sym same) ∙ opened_said m spot (s.If [] e) (i.If spot e) refl
step_said m n (i.Elsif e) is = divided_said m n (i.Elsif e) (elsif m.inner.section m.inner.statements e) (elsif_divides m.inner.spot m.inner.section m.inner.statements e) is
step_said m n (i.Word w.Else) is = divided_said m n (i.Word w.Else) (otherwise m.inner.section m.inner.statements) (otherwise_divides m.inner.spot m.inner.section m.inner.statements) is
step_said m n (i.Word w.EndIf) is = ended_said m n (i.Word w.EndIf) (if_ended m.inner.section m.inner.statements) (if_ends m.inner.spot m.inner.section m.inner.statements) is
step_said m n (i.Case spot x vs) is = let same : opened m spot (s.Case x [] vs) ≡ n = cc in ap making_said (sym same) ∙ opened_said m spot (s.Case x [] vs) (i.Case spot x vs) refl
step_said m n (i.Arm vs) is = divided_said m n (i.Arm vs) (arm m.inner.section m.inner.statements vs) (arm_divides m.inner.spot m.inner.section m.inner.statements vs) is
step_said m n (i.Word w.EndCase) is = ended_said m n (i.Word w.EndCase) (case_ended m.inner.section m.inner.statements) (case_ends m.inner.spot m.inner.section m.inner.statements) is
step_said m n (i.Loop spot label head) is = let same : opened m spot (s.Loop label head) ≡ n = cc in ap making_said (sym same) ∙ opened_said m spot (s.Loop label head) (i.Loop spot label head) refl
step_said m n (i.Word (w.EndLoop label)) is = ended_said m n (i.Word (w.EndLoop label)) (loop_ended m.inner.section m.inner.statements label) (loop_ends m.inner.spot m.inner.section m.inner.statements label) is

pub steps_said : (m n : Making) (xs : List Item) → steps m xs ≡ Some n → making_said n ≡ making_said m ++ map item xs
steps_said m n [] is = let same : m ≡ n = cc in ap making_said (sym same) ∙ sym (append-nil (making_said m))
steps_said m n (x ∷ xs) is = by_step (step m x) refl is (λ p h. steps_said p n xs h)
  where
    by_step : (o : Option Making) → step m x ≡ o → then_steps (λ m. steps m xs) o ≡ Some n → ((p : Making) → steps p xs ≡ Some n → making_said n ≡ making_said p ++ map item xs) → making_said n ≡ making_said m ++ (item x ∷ map item xs)
    by_step None first is more = absurd (cc)
    by_step (Some p) first is more =
        more p is
        ∙ ap (λ (ys : List Said). ys ++ map item xs) (step_said m p x first)
        ∙ append_assoc (making_said m) (item x ∷ []) (map item xs)
