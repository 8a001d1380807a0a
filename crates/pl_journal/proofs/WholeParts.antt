-- Operations in parts: whether they have a spelling, and how they are written.
use Rattle.std.proofs.Common.{◌≡◌, ◌∙◌, ◌++◌, ◌+◌, ◌<◌, ◌≤◌, ℕ, List, [], ◌∷◌, true, Option, Some, None, refl, sym, ap, subst, drop, get_or, length, slice_get, append_assoc, append-nil}
use Rattle.std.specs.List.{AllByRecursion}
use Rattle.std.proofs.lemmas.List.{drop_all, drop_more}
use Rattle.std.proofs.lemmas.List.Concat.{flat_map-append}
use Rattle.std.proofs.lemmas.List.Folds.{list_all-append}
use Rattle.pl_base.specs.declared.operation.Op.{Op}
use Rattle.pl_codec.specs.ReadBack.{OpReadsBack}
use Rattle.pl_codec.specs.Spelling.{are_stored, is_stored_op, op_bytes, ops_bytes}
use Rattle.pl_journal.specs.Whole.{row_ops}
use Rattle.pl_journal.specs.Written.{Writes}
use Rattle.pl_journal.proofs.Payload.{back-append}
use Rattle.pl_journal.proofs.Truths.{and_true, first_true, second_true}
use Rattle.pl_tables.specs.Slots.{before, live}
use Rattle.pl_tables.specs.declared.slots.Slot.{Slot}
use Rattle.pl_value.specs.Frames.{Row}

-- ---- whether they have a spelling

pub stored-append : (xs ys : List Op) → are_stored xs ≡ true → are_stored ys ≡ true → are_stored (xs ++ ys) ≡ true
stored-append xs ys first second = list_all-append is_stored_op xs ys ∙ and_true (are_stored xs) (are_stored ys) first second

first_stored : (xs ys : List Op) → are_stored (xs ++ ys) ≡ true → are_stored xs ≡ true
first_stored xs ys is = first_true (are_stored xs) (are_stored ys) (sym (list_all-append is_stored_op xs ys) ∙ is)

rest_stored : (xs ys : List Op) → are_stored (xs ++ ys) ≡ true → are_stored ys ≡ true
rest_stored xs ys is = second_true (are_stored xs) (are_stored ys) (sym (list_all-append is_stored_op xs ys) ∙ is)

-- ---- how they are written

-- of all the operations that are to be written these are left
pub record AreLeft (left all : List Op) (start now : List ℕ) : Type 0 where
  pub stored : are_stored left ≡ true
  pub spelled : now ++ ops_bytes left ≡ start ++ ops_bytes all
  pub back : AllByRecursion OpReadsBack left → AllByRecursion OpReadsBack all

pub all_left : (all : List Op) (start : List ℕ) → are_stored all ≡ true → AreLeft all all start start
all_left all start stored = record { stored = stored; spelled = refl; back = λ b. b }

pub part_stored : (part rest left all : List Op) (start was : List ℕ) → left ≡ part ++ rest → AreLeft left all start was → are_stored part ≡ true
part_stored part rest left all start was parts so = first_stored part rest (ap are_stored (sym parts) ∙ so.stored)

pub rest_left : (part rest left all : List Op) (start was now : List ℕ) → left ≡ part ++ rest → AreLeft left all start was → Writes part was now → AreLeft rest all start now
rest_left part rest left all start was now parts so is =
    record {
      stored = rest_stored part rest (ap are_stored (sym parts) ∙ so.stored);
      spelled =
          ap (λ (l : List ℕ). l ++ ops_bytes rest) is.spelled ∙ append_assoc was (ops_bytes part) (ops_bytes rest)
          ∙ ap (λ (l : List ℕ). was ++ l) (sym (flat_map-append op_bytes part rest)) ∙ ap (λ (l : List Op). was ++ ops_bytes l) (sym parts) ∙ so.spelled;
      back = λ b. so.back (subst (AllByRecursion OpReadsBack) (sym parts) (back-append part rest is.back b));
    }

pub none_left : (left all : List Op) (start now : List ℕ) → left ≡ [] → AreLeft left all start now → Writes all start now
none_left left all start now none so =
    record {
      spelled = sym (append-nil now) ∙ ap (λ (l : List Op). now ++ ops_bytes l) (sym none) ∙ so.spelled;
      back = so.back (subst (AllByRecursion OpReadsBack) (sym none) tt);
    }

-- ---- the rows of slots

row_first : (name : List ℕ) (id : ℕ) (row : Option Row) (rows : List (ℕ × Row)) → row_ops name (before id row rows) ≡ row_ops name (before id row []) ++ row_ops name rows
row_first name id None rows = refl
row_first name id (Some row) rows = refl

pub slot_first : (name : List ℕ) (slots : List Slot) (i : ℕ) (s : Slot) → i < length slots → s ≡ get_or slots i s
    → row_ops name (live (drop i slots)) ≡ row_ops name (before s.id s.row []) ++ row_ops name (live (drop (i + 1) slots))
slot_first name slots i s lt is =
    ap (λ (l : List Slot). row_ops name (live l)) (drop_more slots i s lt) ∙ ap (λ (x : Slot). row_ops name (before x.id x.row (live (drop (i + 1) slots)))) (sym is)
    ∙ row_first name s.id s.row (live (drop (i + 1) slots))

pub no_slot : (name : List ℕ) (slots : List Slot) (i : ℕ) → length slots ≤ i → row_ops name (live (drop i slots)) ≡ []
no_slot name slots i le = ap (λ (l : List Slot). row_ops name (live l)) (drop_all i slots le)

-- ---- objects that are lent one after another

pub next_is : {A : Type 0} (xs : List A) (x : A) → Some x ≡ slice_get xs 0 → xs ≡ x ∷ drop 1 xs
next_is [] x is = absurd cc
next_is (y ∷ xs) x is = let same : x ≡ y = cc in ap (λ z. z ∷ xs) (sym same)

pub nothing_is : {A : Type 0} (xs : List A) → (let o : Option A = None in o ≡ slice_get xs 0) → xs ≡ []
nothing_is [] is = refl
nothing_is (y ∷ xs) is = absurd cc
