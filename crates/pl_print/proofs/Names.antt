-- The name of a condition.
use Rattle.std.proofs.Common.{◌≡◌, ◌≢◌, suc, arith, ℕ, Bool, true, false, List, [], ◌∷◌, refl, ◌∙◌, All}
use Rattle.std.proofs.lemmas.Slice.Eq.{bytes_eq-Decides}
use Rattle.std.proofs.lemmas.List.Elements.{All-contains}
use Rattle.std.proofs.lemmas.List.Sums.{AllPass-from_list_all}
use Rattle.std.specs.List.{list_all}
use Rattle.std.specs.Prelude.{if◌then◌else◌}
use Rattle.std.specs.Str.{bytes_eq}
use Rattle.pl_base.specs.Condition.{conditions, Row, Names}
use Rattle.pl_print.specs.Messages.{name_in, condition_name}

-- the first row with the SQLSTATE of this row has its name
abbrev has_its_name : List Row → Row → Bool
has_its_name rows row = bytes_eq (name_in rows row.0) row.1

no_state_twice : list_all (has_its_name conditions) conditions ≡ true
unfolding conditions
no_state_twice = refl

pub named : (code name : List ℕ) → Names code name → condition_name code ≡ name
named code name names =
    let row : Row = (code, name) in
    let passed = All-contains (λ (row : Row). has_its_name conditions row ≡ true) conditions row (AllPass-from_list_all (has_its_name conditions) conditions no_state_twice) names in
    (bytes_eq-Decides (condition_name code) name).0 passed

passed_over : (test : Bool) (name rest : List ℕ) → test ≡ false → if test then name else rest ≡ rest
passed_over true name rest e = cc
passed_over false name rest e = refl

others : (a b : List ℕ) (test : Bool) → bytes_eq a b ≡ test → a ≢ b → test ≡ false
others a b true e other = absurd (other ((bytes_eq-Decides a b).0 e))
others a b false e other = refl

pub unnamed_in : (rows : List Row) (code : List ℕ) → All {X = Row} (λ row. row.0 ≢ code) rows → name_in rows code ≡ code
unnamed_in [] code all = refl
unnamed_in (row ∷ rows) code all =
    passed_over (bytes_eq row.0 code) row.1 (name_in rows code) (others row.0 code (bytes_eq row.0 code) refl (all 0 row (omega arith))) ∙ unnamed_in rows code (λ k d within. all (suc k) d (omega (arith, within)))
