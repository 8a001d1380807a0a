-- The SQLSTATE of a named condition.
use Rattle.std.proofs.Common.{◌≡◌, ◌≢◌, ◌↔◌, ℕ, List, [], ◌∷◌, Bool, true, false, Option, Some, None, All, ap, refl, sym, true≢false}
use Rattle.std.proofs.lemmas.List.Elements.{All-contains}
use Rattle.std.proofs.lemmas.List.Sums.{AllPass-from_list_all}
use Rattle.std.proofs.lemmas.Slice.Eq.{bytes_eq-Decides}
use Rattle.std.specs.List.{list_all, list_any}
use Rattle.std.specs.Prelude.{◌||◌, IfSome, IsNone, bytes_eq, if◌then◌else◌}
use Rattle.std.specs.Str.{IsUtf8}
use Rattle.pl_base.specs.Condition.{Names, Row, conditions}
use Rattle.pl_base.specs.declared.state.State.{State}
use Rattle.pl_body_rules.proofs.Named.{named, not_text as no_condition}
use Rattle.pl_world.specs.Conditions.{code_in, code_named}

-- ---- a name of the table

abbrev has_code : Option State → List ℕ → Bool
has_code None code = false
has_code (Some s) code = bytes_eq s.code code

-- the first row with the name of this row has its code
abbrev has_its_code : List Row → Row → Bool
has_its_code rows row = has_code (code_in rows row.1) row.0

no_name_twice : list_all (has_its_code conditions) conditions ≡ true
unfolding conditions
no_name_twice = refl

of_code : (found : Option State) (s : State) → has_code found s.code ≡ true → found ≡ Some s
of_code None s is = absurd (true≢false (sym is))
of_code (Some t) s is = ap (λ (code : List ℕ). Some (let made : State = record { code = code } in made)) ((bytes_eq-Decides t.code s.code).0 is)

listed : (s : State) (name : List ℕ) → Names s.code name → code_named name ≡ Some s
listed s name names =
    let row : Row = (s.code, name) in
    of_code (code_named name) s (All-contains (λ (row : Row). has_its_code conditions row ≡ true) conditions row (AllPass-from_list_all (has_its_code conditions) conditions no_name_twice) names)

-- ---- another name

no_code : (test rest : Bool) (s : State) (found : Option State) → (rest ≡ false → found ≡ None) → (test || rest) ≡ false → (if test then Some s else found) ≡ None
no_code true rest s found none e = absurd (true≢false e)
no_code false rest s found none e = none e

unlisted : (rows : List Row) (name : List ℕ) → list_any (λ (row : Row). bytes_eq row.1 name) rows ≡ false → code_in rows name ≡ None
unlisted [] name e = refl
unlisted (row ∷ rows) name e =
    no_code (bytes_eq row.1 name) (list_any (λ (row : Row). bytes_eq row.1 name) rows) (record { code = row.0 }) (code_in rows name) (unlisted rows name) e

-- ---- what the table was asked for a name

pub found : (r : Option State) (name : List ℕ) → (IsNone r ↔ All {X = Row} (λ row. row.1 ≢ name) conditions) → IfSome r (λ s. Names s.code name) → r ≡ code_named name
found None name unknown known = sym (unlisted conditions name (sym (named None name unknown)))
found (Some s) name unknown known = sym (listed s name known)

-- each name of the table is text
pub not_text : (name : List ℕ) → ¬ (IsUtf8 name) → None ≡ code_named name
not_text name not = sym (unlisted conditions name (no_condition name not))
