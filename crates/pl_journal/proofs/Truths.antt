-- Tests that pass, and options that are there.
use Rattle.std.proofs.Common.{◌≡◌, ◌<◌, ◌≤◌, ℕ, Bool, true, false, cond, not, ◌&&◌, ◌||◌, nat_eq, nat_lt, nat_le, Option, Some, None, refl, arith}
use Rattle.std.specs.Prelude.{option_and_then, option_map, is_some}
use Rattle.std.proofs.lemmas.Bool.Decides.{nat_tests}

pub none_some : {A : Type 0} (x : A) → (let o : Option A = None in o ≡ Some x) → ⊥
none_some x h = cc

pub some_is : {A : Type 0} (x y : A) → (let o : Option A = Some x in o ≡ Some y) → x ≡ y
some_is x y h = cc

pub false_true : (let b : Bool = false in b ≡ true) → ⊥
false_true h = cc

pub true_false : (let b : Bool = true in b ≡ false) → ⊥
true_false h = cc

pub own_number : (n : ℕ) → nat_eq n n ≡ true
own_number n = grind (arith, nat_tests)

pub other_number : (n m : ℕ) → (n ≡ m → ⊥) → nat_eq n m ≡ false
other_number n m ne = grind (arith, nat_tests, ne)

pub same_number : (n m : ℕ) → nat_eq n m ≡ true → n ≡ m
same_number n m is = grind (arith, nat_tests)

pub equal_number : (n m : ℕ) → n ≡ m → nat_eq n m ≡ true
equal_number n m is = grind (arith, nat_tests)

pub below : (n m : ℕ) → nat_lt n m ≡ true → n < m
below n m is = grind (arith, nat_tests)

pub is_below : (n m : ℕ) → n < m → nat_lt n m ≡ true
is_below n m is = grind (arith, nat_tests)

pub not_below : (n m : ℕ) → nat_lt n m ≡ false → m ≤ n
not_below n m is = grind (arith, nat_tests)

pub upto : (n m : ℕ) → nat_le n m ≡ true → n ≤ m
upto n m is = grind (arith, nat_tests)

pub is_above : (n m : ℕ) → nat_le n m ≡ false → m < n
is_above n m is = grind (arith, nat_tests)

pub or_true : (a b : Bool) → b ≡ true → (a || b) ≡ true
or_true true b is = refl
or_true false b is = is

pub or_false : (a b : Bool) → (a || b) ≡ false → (a ≡ false) × (b ≡ false)
or_false true b is = absurd (true_false is)
or_false false b is = (refl, is)

pub and_true : (a b : Bool) → a ≡ true → b ≡ true → (a && b) ≡ true
and_true true b a-is is = is
and_true false b a-is is = a-is

pub first_true : (a b : Bool) → (a && b) ≡ true → a ≡ true
first_true true b is = refl
first_true false b is = is

pub second_true : (a b : Bool) → (a && b) ≡ true → b ≡ true
second_true true b is = is
second_true false b is = absurd (false_true is)

pub and_false : (a b : Bool) → b ≡ false → (a && b) ≡ false
and_false true b is = is
and_false false b is = refl

pub not_true : (a : Bool) → not a ≡ true → a ≡ false
not_true true is = absurd (false_true is)
not_true false is = refl

-- what was chained, and what was behind a test
pub chained : {A B : Type 0} (f : A → Option B) (o : Option A) (y : B) → option_and_then f o ≡ Some y → (x : A) × (o ≡ Some x) × (f x ≡ Some y)
chained f None y is = absurd (none_some y is)
chained f (Some x) y is = (x, refl, is)

pub tested : {A : Type 0} (b : Bool) (o : Option A) (y : A) → cond b o None ≡ Some y → (b ≡ true) × (o ≡ Some y)
tested true o y is = (refl, is)
tested false o y is = absurd (none_some y is)

pub mapped : {A B : Type 0} (f : A → B) (o : Option A) (y : B) → option_map f o ≡ Some y → (x : A) × (o ≡ Some x) × (f x ≡ y)
mapped f None y is = absurd (none_some y is)
mapped f (Some x) y is = (x, refl, some_is (f x) y is)

pub held : {A : Type 0} (o : Option A) → is_some o ≡ true → (x : A) × (o ≡ Some x)
held None is = absurd (false_true is)
held (Some x) is = (x, refl)
