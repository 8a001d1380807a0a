-- Values that a condition asks for, noted one after the other.
use Rattle.std.proofs.Common.{◌≡◌, ◌<◌, ◌+◌, ◌⊎◌, inl, inr, refl, sym, ap, ◌∙◌, subst, ℕ, zero, suc, true, List, [], ◌∷◌, ◌++◌, drop, length, get_or, slice_get, slice_set, Option, Some, None, arith, drop-cons, add-one}
use Rattle.std.specs.List.{cons_option}
use Rattle.std.specs.Prelude.{◌↔◌, option_and_then, option_map, IfOk, OnOk, Result, Ok, Err}
use Rattle.pl_base.specs.declared.value.Value.{Value}
use Rattle.pl_base.specs.declared.value.Value.TheVariants.{Null}
use Rattle.pl_catalog.specs.declared.object.Column.{Column}
use Rattle.pl_catalog.specs.declared.object.Rule.{Rule}
use Rattle.pl_catalog.specs.declared.object.TableDef.{TableDef}
use Rattle.pl_journal.specs.ByKey.{Asks, AreAsked, AreByKey, AreFound, AreFoundFor, AreLeft, Begins, IsTest}
use Rattle.pl_journal.specs.declared.by_key.Candidates.{Candidates}
use Rattle.pl_journal.specs.declared.by_key.Candidates.TheVariants.{All, Only}
use Rattle.pl_journal.proofs.Truths.{none_some, some_is}
use Rattle.pl_journal.specs.Sound.{IsSoundTable}
use Rattle.pl_resolved.specs.declared.expression.RExpr.{RExpr}
use Rattle.pl_resolved.specs.declared.expression.RExpr.TheVariants as e
use Rattle.pl_tables.specs.Named.{Named, content_named}
use Rattle.pl_tables.specs.Rows.{Content, key_at}
use Rattle.pl_undo.specs.Database.{key_columns, keys_in}
use Rattle.pl_unique.specs.declared.key.Part.{Part}
use Rattle.pl_value.specs.Frames.{Frame, Row}

-- a thing that is there stands in front of those behind it
pub front : {A : Type 0} (xs : List A) (i : ℕ) (x : A) → i < length xs → x ≡ get_or xs i x → drop i xs ≡ x ∷ drop (i + 1) xs
front xs i x lt is = rw (add-one, drop-cons xs i x lt, ← is) refl

-- a cell of a row in which one was set
pub set_found : (row : Row) (at : ℕ) (new : Value) (c : ℕ) (v : Value) → slice_get (slice_set row at new) c ≡ Some v → ((c ≡ at) × (v ≡ new)) ⊎ (slice_get row c ≡ Some v)
set_found [] at new c v is = inr is
set_found (x ∷ row) zero new zero v is = inl (refl, sym (some_is new v is))
set_found (x ∷ row) zero new (suc c) v is = inr is
set_found (x ∷ row) (suc at) new zero v is = inr is
set_found (x ∷ row) (suc at) new (suc c) v is = next (set_found row at new c v is)
  where
    next : ((c ≡ at) × (v ≡ new)) ⊎ (slice_get row c ≡ Some v) → ((suc c ≡ suc at) × (v ≡ new)) ⊎ (slice_get row c ≡ Some v)
    next (inl both) = inl (ap suc both.0, both.1)
    next (inr there) = inr there

module _ (P Q : ℕ → Value → Type 0) where
  -- what is noted is so, and what was there is so
  pub with_one : (old : Row) (at : ℕ) (new : Value) (row : Row) → row ≡ slice_set old at new → P at new → ((c : ℕ) (v : Value) → slice_get old c ≡ Some v → P c v ⊎ Q c v) → (c : ℕ) (v : Value) → slice_get row c ≡ Some v → P c v ⊎ Q c v
  with_one old at new row is one all c v there = either (set_found old at new c v (ap (λ (r : Row). slice_get r c) (sym is) ∙ there))
    where
      either : ((c ≡ at) × (v ≡ new)) ⊎ (slice_get old c ≡ Some v) → P c v ⊎ Q c v
      either (inl both) = inl (subst (λ (n : ℕ). P n v) (sym both.0) (subst (P at) (sym both.1) one))
      either (inr was) = all c v was

-- what follows on success
pub on_ok_then : {A E P Q : Type 0} (r : Result A E) → (P → Q) → OnOk r P → OnOk r Q
on_ok_then (Ok x) so is = so is
on_ok_then (Err e) so is = tt

module _ (around : Frame) (columns : List Column) (x : RExpr) (c : ℕ) (v : Value) where
  pub and_asks : (Q : Type 0) (parts : List RExpr) → x ≡ e.And parts → Begins around columns c v parts ⊎ Q → Asks around columns x c v ⊎ Q
  and_asks Q parts is (inl front) = inl (inr (parts, is, front))
  and_asks Q parts is (inr was) = inr was

  pub whole_asks : (Q : Type 0) → IsTest true around columns c v x ⊎ Q → Asks around columns x c v ⊎ Q
  whole_asks Q (inl test) = inl (inl test)
  whole_asks Q (inr was) = inr was

  pub null_or : (Q : Type 0) → (Q → v ≡ Null) → Asks around columns x c v ⊎ Q → (v ≡ Null) ⊎ Asks around columns x c v
  null_or Q null (inl asks) = inr asks
  null_or Q null (inr was) = inl (null was)

-- a key is found by what is asked for
pub found_key : {P : Type 0} (items : P → List Part) (key : Option P) (parts : P) (o : Option (List Part)) → option_map items key ≡ o → key ≡ Some parts → o ≡ Some (items parts)
found_key items key parts o is there = sym is ∙ ap (λ (k : Option _). option_map items k) there

pub only_key : (found : Option ℕ) (content : Content) (number : ℕ) (columns : List ℕ) (slice parts : List Part) → slice_get content.keys number ≡ Some columns → slice ≡ parts
    → ((id : ℕ) → (found ≡ Some id) ↔ (option_and_then (λ (columns : List ℕ). key_at columns id content.rows) (slice_get content.keys number) ≡ Some slice)) → (id : ℕ) → (found ≡ Some id) ↔ (key_at columns id content.rows ≡ Some parts)
only_key found content number columns slice parts has same only id =
    subst (λ (ps : List Part). (found ≡ Some id) ↔ (key_at columns id content.rows ≡ Some ps)) same
    (subst (λ (o : Option (List ℕ)). (found ≡ Some id) ↔ (option_and_then (λ (columns : List ℕ). key_at columns id content.rows) o ≡ Some slice)) has (only id))

pub if_ok_then : {A E : Type 0} (r : Result A E) (P Q : A → Type 0) → ((x : A) → P x → Q x) → IfOk r P → IfOk r Q
if_ok_then (Ok x) P Q so is = so x is
if_ok_then (Err e) P Q so is = tt

pub found_in : {E : Type 0} (r : Result Candidates E) (name : List ℕ) (x : RExpr) (around : Frame) (ts : List Named) (table : TableDef) (content : Content) → content_named name ts ≡ Some content → IsSoundTable table content
    → IfOk r (λ found. AreLeft table content around x found) → IfOk r (λ found. AreFound name x around ts found)
found_in (Err e) name x around ts table content is sound left = tt
found_in (Ok All) name x around ts table content is sound left = tt
found_in (Ok (Only found)) name x around ts table content is sound left = record { table = table; content = content; is = is; sound = sound; only = left }

pub left_by : {E : Type 0} (r : Result Candidates E) (table : TableDef) (content : Content) (around : Frame) (x : RExpr) (asked : Row) → AreAsked around table.columns x asked → IfOk r (λ found. AreByKey asked content found) → IfOk r (λ found. AreLeft table content around x found)
left_by (Err e) table content around x asked asks by = tt
left_by (Ok All) table content around x asked asks by = tt
left_by (Ok (Only found)) table content around x asked asks by = record { asked = asked; asks = asks; by = by }

-- one null more
pub null_more : (row : Row) → ((c : ℕ) (v : Value) → slice_get row c ≡ Some v → v ≡ Null) → (c : ℕ) (v : Value) → slice_get (row ++ Null ∷ []) c ≡ Some v → v ≡ Null
null_more [] all zero v is = sym (some_is Null v is)
null_more [] all (suc c) v is = absurd (none_some v is)
null_more (x ∷ row) all zero v is = all zero v is
null_more (x ∷ row) all (suc c) v is = null_more row (λ c v there. all (suc c) v there) c v is

-- the first of what is left of a list stands at its place
pub place_of : {A : Type 0} (xs rest : List A) (n : ℕ) (x : A) → drop n xs ≡ x ∷ rest → (slice_get xs n ≡ Some x) × (drop (n + 1) xs ≡ rest) × (n < length xs)
place_of {A} xs rest n x is = let r = at xs n is in (r.0, rw add-one r.1, r.2)
  where
    head_is : (y : A) (ys : List A) → y ∷ ys ≡ x ∷ rest → (y ≡ x) × (ys ≡ rest)
    head_is y ys is = (cc, cc)

    at : (xs : List A) (n : ℕ) → drop n xs ≡ x ∷ rest → (slice_get xs n ≡ Some x) × (drop (suc n) xs ≡ rest) × (n < length xs)
    at [] zero is = absurd cc
    at [] (suc n) is = absurd cc
    at (y ∷ ys) zero is = let h = head_is y ys is in (ap (λ (z : A). let o : Option A = Some z in o) h.0, h.1, omega arith)
    at (y ∷ ys) (suc n) is = let r = at ys n is in (r.0, r.1, omega (arith, r.2))

-- rules of which this is the next, and the columns of their keys
pub next_rule : (rules : List Rule) (i : ℕ) (r : Rule) → i < length rules → r ≡ get_or rules i r → keys_in (drop i rules) ≡ cons_option (key_columns r.kind) (keys_in (drop (i + 1) rules))
next_rule rules i r lt is =
    ap (λ (rs : List Rule). keys_in rs) (drop-cons rules i r lt)
    ∙ (ap (λ (x : Rule). keys_in (x ∷ drop (suc i) rules)) (sym is)
    ∙ ap (λ (n : ℕ). cons_option (key_columns r.kind) (keys_in (drop n rules))) (sym (add-one i)))

-- a key more, and none
pub with_key : (keys : List (List ℕ)) (number : ℕ) (rules : List Rule) (i : ℕ) (r : Rule) (columns : List ℕ) → i < length rules → r ≡ get_or rules i r → drop number keys ≡ keys_in (drop i rules) → key_columns r.kind ≡ Some columns
    → (slice_get keys number ≡ Some columns) × (drop (number + 1) keys ≡ keys_in (drop (i + 1) rules)) × (number < length keys)
with_key keys number rules i r columns lt is rest has =
    place_of keys (keys_in (drop (i + 1) rules)) number columns (rest ∙ (next_rule rules i r lt is ∙ ap (λ (o : Option (List ℕ)). cons_option o (keys_in (drop (i + 1) rules))) has))

pub without_key : (keys : List (List ℕ)) (number : ℕ) (rules : List Rule) (i : ℕ) (r : Rule) → i < length rules → r ≡ get_or rules i r → drop number keys ≡ keys_in (drop i rules) → key_columns r.kind ≡ None
    → drop number keys ≡ keys_in (drop (i + 1) rules)
without_key keys number rules i r lt is rest has =
    rest ∙ (next_rule rules i r lt is ∙ ap (λ (o : Option (List ℕ)). cons_option o (keys_in (drop (i + 1) rules))) has)

pub found_for : (name : List ℕ) (x : RExpr) (around : Frame) (ts : List Named) (found : Candidates) → AreFound name x around ts found → AreFoundFor name (Some x) around ts found
found_for name x around ts All is = tt
found_for name x around ts (Only found) is = is
