-- The table of conditions, sought in by a test.
use Rattle.std.proofs.Common.{◌≡◌, ◌≢◌, ◌↔◌, ◌∙◌, ℕ, List, [], ◌∷◌, Bool, true, false, Option, Some, None, All, refl, sym, ap, true≢false}
use Rattle.std.proofs.lemmas.List.Elements.{All-nil, All-cons, All-head, All-tail}
use Rattle.std.proofs.lemmas.Slice.Eq.{bytes_eq-Decides}
use Rattle.std.proofs.lemmas.Str.{IsUtf8-from_is_utf8}
use Rattle.std.specs.List.{list_all, list_any}
use Rattle.std.specs.Prelude.{◌||◌, ◌&&◌, bytes_eq, is_some, IsNone}
use Rattle.std.specs.Str.{is_utf8, chars, IsUtf8}
use lib.Utf8.{encode}
use Rattle.pl_base.specs.Condition.{conditions, Row}
use Rattle.pl_base.specs.declared.state.State.{State}
use Rattle.pl_body_rules.specs.Conditions.{is_condition}

or_left : (a b : Bool) → (a || b) ≡ false → a ≡ false
or_left true b e = e
or_left false b e = refl

or_right : (a b : Bool) → (a || b) ≡ false → b ≡ false
or_right true b e = absurd (true≢false e)
or_right false b e = e

and_left : (a b : Bool) → (a && b) ≡ true → a ≡ true
and_left true b e = refl
and_left false b e = absurd (true≢false (sym e))

and_right : (a b : Bool) → (a && b) ≡ true → b ≡ true
and_right true b e = e
and_right false b e = absurd (true≢false (sym e))

differs : (a b : List ℕ) → a ≢ b → bytes_eq a b ≡ false
differs a b h = by (bytes_eq a b) refl
  where
    by : (r : Bool) → bytes_eq a b ≡ r → r ≡ false
    by true e = absurd (h ((bytes_eq-Decides a b).0 e))
    by false e = refl

-- no row has the name
missed : (x : List ℕ) (rows : List Row) → All {X = Row} (λ row. row.1 ≢ x) rows → list_any (λ (row : Row). bytes_eq row.1 x) rows ≡ false
missed x [] all = refl
missed x (row ∷ rows) all =
    let P : Row → Type 0 = λ row. row.1 ≢ x in
    ap (λ (r : Bool). r || list_any (λ (row : Row). bytes_eq row.1 x) rows) (differs row.1 x (All-head P row rows all))
    ∙ missed x rows (All-tail P row rows all)

not_found : (x : List ℕ) (rows : List Row) → list_any (λ (row : Row). bytes_eq row.1 x) rows ≡ false → All {X = Row} (λ row. row.1 ≢ x) rows
not_found x [] e = All-nil {X = Row} (λ row. row.1 ≢ x)
not_found x (row ∷ rows) e =
    let t : Row → Bool = λ row. bytes_eq row.1 x in
    All-cons {X = Row} (λ row. row.1 ≢ x) row rows
    (λ same. absurd (true≢false (sym ((bytes_eq-Decides row.1 x).1 same) ∙ or_left (t row) (list_any t rows) e)))
    (not_found x rows (or_right (t row) (list_any t rows) e))

-- what the table was asked for a name
pub named : (r : Option State) (x : List ℕ) → (IsNone r ↔ All {X = Row} (λ row. row.1 ≢ x) conditions) → is_some r ≡ is_condition x
named None x h = sym (missed x conditions (h.0 refl))
named (Some s) x h = by (is_condition x) refl
  where
    by : (b : Bool) → is_condition x ≡ b → true ≡ b
    by true e = refl
    by false e = absurd (true≢false (h.1 (not_found x conditions e)))

all_utf8 : list_all (λ (row : Row). is_utf8 row.1) conditions ≡ true
unfolding conditions is_utf8 chars encode
all_utf8 = refl

or_rest : (a b : Bool) → (a || b) ≡ true → a ≡ false → b ≡ true
or_rest true b e fails = absurd (true≢false fails)
or_rest false b e fails = e

found_utf8 : (x : List ℕ) (rows : List Row) → list_all (λ (row : Row). is_utf8 row.1) rows ≡ true → list_any (λ (row : Row). bytes_eq row.1 x) rows ≡ true → is_utf8 x ≡ true
found_utf8 x [] all e = absurd (true≢false (sym e))
found_utf8 x (row ∷ rows) all e =
    by (bytes_eq row.1 x) refl
    (λ other. found_utf8 x rows (and_right (is_utf8 row.1) (list_all (λ (row : Row). is_utf8 row.1) rows) all) (or_rest (bytes_eq row.1 x) (list_any (λ (row : Row). bytes_eq row.1 x) rows) e other))
  where
    by : (r : Bool) → bytes_eq row.1 x ≡ r → (bytes_eq row.1 x ≡ false → is_utf8 x ≡ true) → is_utf8 x ≡ true
    by true same next = ap is_utf8 (sym ((bytes_eq-Decides row.1 x).0 same)) ∙ and_left (is_utf8 row.1) (list_all (λ (row : Row). is_utf8 row.1) rows) all
    by false other next = next other

-- each name of the table is text
pub not_text : (x : List ℕ) → ¬ (IsUtf8 x) → is_condition x ≡ false
not_text x h = by (is_condition x) refl
  where
    by : (b : Bool) → is_condition x ≡ b → b ≡ false
    by true e = absurd (h (IsUtf8-from_is_utf8 x (found_utf8 x conditions all_utf8 e)))
    by false e = refl
