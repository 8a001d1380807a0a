-- The tables that are kept.
use Rattle.std.proofs.Common.{◌≡◌, ◌<◌, sym, ap, ◌∙◌, ℕ, zero, suc, true, List, [], ◌∷◌, ◌++◌, length, get_or, subst, nat_eq, Result, arith}
use Rattle.std.proofs.lemmas.Slice.Eq.{bytes_eq-Decides}
use Rattle.std.specs.Cmp.Lexicographic.{pointwise}
use Rattle.std.specs.Result.{IfOk}
use Rattle.pl_query.specs.Kept.{AreKept, IsKept}
use Rattle.pl_query.specs.Sources.{Drawn, Tables, alone, frames}
use Rattle.pl_query.specs.declared.cache.KeptTable.{KeptTable}
use Rattle.pl_value.specs.Frames.{Frame}

-- one more
pub one_more : (tables : Tables) (kept : List KeptTable) (k : KeptTable) → AreKept tables kept → IsKept tables k → AreKept tables (kept ++ k ∷ [])
one_more tables [] k all one = (one, tt)
one_more tables (j ∷ kept) k all one = (all.0, one_more tables kept k all.1 one)

kept_at : (tables : Tables) (kept : List KeptTable) (n : ℕ) (k : KeptTable) → AreKept tables kept → n < length kept → k ≡ get_or kept n k → IsKept tables k
kept_at tables [] n k all lt is = absurd (omega (arith, lt))
kept_at tables (j ∷ kept) zero k all lt is = subst (IsKept tables) (sym is) all.0
kept_at tables (j ∷ kept) (suc n) k all lt is = kept_at tables kept n k all.1 (omega (arith, lt)) is

-- the one of a name
pub of_name : (tables : Tables) (kept : List KeptTable) (n : ℕ) (k : KeptTable) (name : List ℕ) → n < length kept → k ≡ get_or kept n k → pointwise nat_eq k.name name ≡ true → AreKept tables kept → k.bundles ≡ frames (alone (tables name))
of_name tables kept n k name lt is same all =
    kept_at tables kept n k all lt is ∙ ap (λ (x : List ℕ). frames (alone (tables x))) ((bytes_eq-Decides k.name name).0 same)

-- what is kept is what is read
pub drawn_kept : (tables tables' : Tables) (kept list : List KeptTable) (name : List ℕ) (bundles : List Frame) (d : Drawn) → AreKept tables kept → tables ≡ tables' → list ≡ kept → d ≡ (1, bundles)
    → ((ts : Tables) → AreKept ts list → bundles ≡ frames (alone (ts name))) → d ≡ alone (tables' name)
drawn_kept tables tables' kept list name bundles d all same listed is of =
    is ∙ (ap (λ (bs : List Frame). let d : Drawn = (1, bs) in d) (of tables (subst (AreKept tables) (sym listed) all))
    ∙ ap (λ (ts : Tables). alone (ts name)) same)

-- what isn't kept is read
pub read_of : {E : Type 0} (tables tables' : Tables) (name : List ℕ) (r : Result Drawn E) → tables ≡ tables' → IfOk r (λ d. d ≡ alone (tables name)) → IfOk r (λ d. d ≡ alone (tables' name))
read_of tables tables' name r same reads = subst (λ (ts : Tables). IfOk r (λ d. d ≡ alone (ts name))) same reads
