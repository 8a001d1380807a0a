-- Rows of which the first ones were shortened.
use Rattle.std.proofs.Common.{◌≡◌, ◌<◌, ◌≤◌, ◌+◌, refl, sym, ap, ◌∙◌, ℕ, zero, suc, List, [], ◌∷◌, length, map, take, slice_set, get_or, add-one, arith}
use Rattle.pl_value.specs.Frames.{Row}

abbrev pub shortened : ℕ → ℕ → List Row → List Row
shortened n zero rows = rows
shortened n (suc k) [] = []
shortened n (suc k) (row ∷ rows) = take n row ∷ shortened n k rows

one_more : (n k : ℕ) (rows : List Row) (x : Row) → k < length rows → x ≡ get_or (shortened n k rows) k x → slice_set (shortened n k rows) k (take n x) ≡ shortened n (suc k) rows
one_more n zero [] x lt is = absurd (omega (arith, lt))
one_more n zero (y ∷ rows) x lt is = ap (λ (z : Row). take n z ∷ rows) is
one_more n (suc k) [] x lt is = absurd (omega (arith, lt))
one_more n (suc k) (y ∷ rows) x lt is = ap (λ (ys : List Row). take n y ∷ ys) (one_more n k rows x (omega (arith, lt)) is)

pub next_short : (n k : ℕ) (all rows : List Row) (x v : Row) → rows ≡ shortened n k all → k < length all → x ≡ get_or rows k x → v ≡ take n x → slice_set rows k v ≡ shortened n (k + 1) all
next_short n k all rows x v so_far lt is short =
    ap (λ (r : List Row). slice_set r k v) so_far
    ∙ (ap (λ (z : Row). slice_set (shortened n k all) k z) short
    ∙ (one_more n k all x lt (is ∙ ap (λ (r : List Row). get_or r k x) so_far)
    ∙ ap (λ (m : ℕ). shortened n m all) (sym (add-one k))))

past : (n k : ℕ) (rows : List Row) → length rows ≤ k → shortened n k rows ≡ map (take n) rows
past n zero [] le = refl
past n (suc k) [] le = refl
past n zero (y ∷ rows) le = absurd (omega (arith, le))
past n (suc k) (y ∷ rows) le = ap (λ (ys : List Row). take n y ∷ ys) (past n k rows (omega (arith, le)))

pub finished : (n k : ℕ) (all rows : List Row) → rows ≡ shortened n k all → length all ≤ k → rows ≡ map (take n) all
finished n k all rows so_far le = so_far ∙ past n k all le
