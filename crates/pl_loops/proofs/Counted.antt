-- The numbers of a FOR.
use Rattle.std.proofs.Common.{◌≡◌, ◌≢◌, ◌<◌, ◌≤◌, ◌+◌, ◌-◌, ◌*◌, ◌∙◌, ℕ, ℤ, zero, suc, pos, negsuc, Bool, true, false, List, [], ◌∷◌, ap, arith, if◌then◌else◌, refl, rules, subst, sym}
use Rattle.std.proofs.lemmas.Bool.{false≢true}
use Rattle.std.proofs.lemmas.Int.{ints}
use Rattle.std.proofs.Math.Nat.{div-mul-le_self}
use Rattle.std.specs.Int.{w32}
use Rattle.std.specs.Prelude.{FitsSigned, ◌+ℤ◌, ◌-ℤ◌, ◌/◌, int_le, nat_abs, neg_ℤ}
use Rattle.pl_loops.specs.Ranges.{AreIntegers}
use Rattle.pl_engine.specs.pl_world.Control.{counted_from, how_many, numbers}

-- ---- the numbers that are left

pub none_left : (z by : ℤ) (n : ℕ) → n ≡ 0 → counted_from z by n ≡ []
none_left z by n none = ap (λ (n : ℕ). counted_from z by n) none

pub one_left : (z by : ℤ) (n : ℕ) → n ≢ 0 → counted_from z by n ≡ z ∷ counted_from (z +ℤ by) by (n - 1)
one_left z by zero some = absurd (some refl)
one_left z by (suc n) some = let less : suc n - 1 ≡ n = omega arith in ap (λ (m : ℕ). z ∷ counted_from (z +ℤ by) by m) (sym less)

pub next_fits : (z by : ℤ) (n : ℕ) → 1 < n → AreIntegers (counted_from z by n) → FitsSigned w32 (z +ℤ by)
next_fits z by zero lt all = absurd (omega (arith, lt))
next_fits z by (suc zero) lt all = absurd (omega (arith, lt))
next_fits z by (suc (suc n)) lt all = all.1.0

pub rest_fit : (z by : ℤ) (n : ℕ) → n ≢ 0 → AreIntegers (counted_from z by n) → AreIntegers (counted_from (z +ℤ by) by (n - 1))
rest_fit z by n some all = (subst AreIntegers (one_left z by n some) all).1

-- ---- none of them goes past the last

one_up : (a b : ℤ) (by k : ℕ) → FitsSigned w32 a → FitsSigned w32 b → int_le (a +ℤ pos (by + k)) b ≡ true → FitsSigned w32 (a +ℤ pos by) × (int_le ((a +ℤ pos by) +ℤ pos k) b ≡ true)
one_up a b by k fa fb le = (grind (arith, ints), grind (arith, ints))

one_down : (a b : ℤ) (by k : ℕ) → FitsSigned w32 a → FitsSigned w32 b → int_le b (a -ℤ pos (by + k)) ≡ true → FitsSigned w32 (a +ℤ neg_ℤ (pos by)) × (int_le b ((a +ℤ neg_ℤ (pos by)) -ℤ pos k) ≡ true)
one_down a b by k fa fb le = (grind (arith, ints), grind (arith, ints))

times : (n by : ℕ) → suc n * by ≡ by + n * by
times n by = search rules

ups : (n by : ℕ) (a b : ℤ) → FitsSigned w32 a → FitsSigned w32 b → int_le (a +ℤ pos (n * by)) b ≡ true → AreIntegers (counted_from a (pos by) (suc n))
ups zero by a b fa fb le = (fa, tt)
ups (suc n) by a b fa fb le =
    let next = one_up a b by (n * by) fa fb (subst (λ (k : ℕ). int_le (a +ℤ pos k) b ≡ true) (times n by) le) in
    (fa, ups n by (a +ℤ pos by) b next.0 fb next.1)

downs : (n by : ℕ) (a b : ℤ) → FitsSigned w32 a → FitsSigned w32 b → int_le b (a -ℤ pos (n * by)) ≡ true → AreIntegers (counted_from a (neg_ℤ (pos by)) (suc n))
downs zero by a b fa fb le = (fa, tt)
downs (suc n) by a b fa fb le =
    let next = one_down a b by (n * by) fa fb (subst (λ (k : ℕ). int_le b (a -ℤ pos k) ≡ true) (times n by) le) in
    (fa, downs n by (a +ℤ neg_ℤ (pos by)) b next.0 fb next.1)

up_to : (a b : ℤ) (k : ℕ) → int_le a b ≡ true → k ≤ nat_abs (b -ℤ a) → int_le (a +ℤ pos k) b ≡ true
up_to a b k le lt = grind (arith, ints)

down_to : (a b : ℤ) (k : ℕ) → int_le b a ≡ true → k ≤ nat_abs (a -ℤ b) → int_le b (a -ℤ pos k) ≡ true
down_to a b k le lt = grind (arith, ints)

upward : (is : Bool) (a b : ℤ) (by : ℕ) → FitsSigned w32 a → FitsSigned w32 b → int_le a b ≡ is → AreIntegers (counted_from a (pos by) (if is then suc (nat_abs (b -ℤ a) / by) else 0))
upward false a b by fa fb le = tt
upward true a b by fa fb le = ups (nat_abs (b -ℤ a) / by) by a b fa fb (up_to a b (nat_abs (b -ℤ a) / by * by) le (div-mul-le_self (nat_abs (b -ℤ a)) by))

downward : (is : Bool) (a b : ℤ) (by : ℕ) → FitsSigned w32 a → FitsSigned w32 b → int_le b a ≡ is → AreIntegers (counted_from a (neg_ℤ (pos by)) (if is then suc (nat_abs (a -ℤ b) / by) else 0))
downward false a b by fa fb le = tt
downward true a b by fa fb le = downs (nat_abs (a -ℤ b) / by) by a b fa fb (down_to a b (nat_abs (a -ℤ b) / by * by) le (div-mul-le_self (nat_abs (a -ℤ b)) by))

pub are_integers : (is_reverse : Bool) (a b : ℤ) (by : ℕ) → FitsSigned w32 a → FitsSigned w32 b → AreIntegers (numbers is_reverse a b (pos by))
are_integers false a b by fa fb = upward (int_le a b) a b by fa fb refl
are_integers true a b by fa fb = downward (int_le b a) a b by fa fb refl

pub are_integers_of : (is_reverse : Bool) (a b by : ℤ) → int_le by (pos 0) ≡ false → FitsSigned w32 a → FitsSigned w32 b → AreIntegers (numbers is_reverse a b by)
are_integers_of is_reverse a b (pos n) some fa fb = are_integers is_reverse a b n fa fb
are_integers_of is_reverse a b (negsuc n) some fa fb = absurd (false≢true (sym some))

-- ---- how many there are

pub how_many_some : (low high : ℤ) (by d : ℕ) → int_le low high ≡ true → d ≡ nat_abs (high -ℤ low) → suc (d / by) ≡ how_many low high by
how_many_some low high by d le is = ap (λ (n : ℕ). suc (n / by)) is ∙ ap (λ (b : Bool). if b then suc (nat_abs (high -ℤ low) / by) else 0) (sym le)

pub how_many_none : (low high : ℤ) (by : ℕ) → int_le low high ≡ false → 0 ≡ how_many low high by
how_many_none low high by gt = ap (λ (b : Bool). if b then suc (nat_abs (high -ℤ low) / by) else 0) (sym gt)

pub plus_one : (n : ℕ) → n + 1 ≡ suc n
plus_one n = omega arith

pub as_integers : (zs ws : List ℤ) → zs ≡ ws → AreIntegers ws → AreIntegers zs
as_integers zs ws same all = subst (λ (xs : List ℤ). AreIntegers xs) (sym same) all
