-- Copies of tables.
use Rattle.std.proofs.Common.{◌≡◌, ◌⊎◌, ◌<◌, sym, ap, ◌∙◌, ℕ, zero, suc, true, false, Bool, cond, List, [], ◌∷◌, map, Contains, get_or, length, nat_eq, refl, inl, inr, ⊎_elim, true≢false, arith}
use Rattle.std.specs.Cmp.Lexicographic.{bytes_decides, pointwise}
use Rattle.pl_change.specs.Running.{copied, copy_of}
use Rattle.pl_inside.specs.Agreement.{AgreeOn}
use Rattle.pl_journal.specs.Rows.{tables_of}
use Rattle.pl_tables.specs.Named.{Named}

no_name : (name : List ℕ) (k : ℕ) → k < length (let none : List (List ℕ) = [] in none) → ⊥
no_name name k lt = omega (arith, lt)

first_or_behind : (n name : List ℕ) (names : List (List ℕ)) (k : ℕ) → k < length (n ∷ names) → get_or (n ∷ names) k name ≡ name → (n ≡ name) ⊎ Contains names name
first_or_behind n name names zero lt is = inl is
first_or_behind n name names (suc k) lt is = inr (k, omega (arith, lt), is)

pub agree : (ts : List Named) (names : List (List ℕ)) → AgreeOn names (copied (map (copy_of ts) names)) (tables_of ts)
agree ts [] name found = absurd (no_name name found.0 found.1)
agree ts (n ∷ names) name found =
    (elim (pointwise nat_eq n name) as (λ (b : Bool). pointwise nat_eq n name ≡ b → cond b (tables_of ts n) (copied (map (copy_of ts) names) name) ≡ tables_of ts name) [
      | true ↦ λ e. ap (λ (x : List ℕ). tables_of ts x) ((bytes_decides n name).0 e)
      | false ↦ λ e. ⊎_elim (λ same. absurd (true≢false (sym ((bytes_decides n name).1 same) ∙ e))) (λ behind. agree ts names name behind) (first_or_behind n name names found.0 found.1 found.2)
    ]) refl
