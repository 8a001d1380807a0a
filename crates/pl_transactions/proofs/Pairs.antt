-- Savepoints, each with its name and the database of its mark.
use Rattle.std.proofs.Common.{◌≡◌, ◌∙◌, ℕ, zero, suc, Bool, true, false, List, [], ◌∷◌, ◌++◌, Option, Some, None, ap, arith, cond, get_or, length, refl, slice_get, sym, take}
use Rattle.std.specs.Prelude.{bytes_eq}
use Rattle.pl_command.specs.pl_engine.Database.{Database}
use Rattle.pl_transactions.specs.Places.{place_in}
use Rattle.pl_transactions.specs.State.{paired}
use Rattle.pl_command.specs.pl_world.Sessions.{Save, later, place_of, put_back}
use Rattle.pl_command.specs.pl_world.World.{World}

-- ---- as many names as marks

pub paired_length : (ns : List (List ℕ)) (ds : List Database) → length ds ≡ length ns → length (paired ns ds) ≡ length ds
paired_length [] [] same = refl
paired_length [] (d ∷ ds) same = absurd (omega (arith, same))
paired_length (n ∷ ns) [] same = refl
paired_length (n ∷ ns) (d ∷ ds) same = ap (λ (k : ℕ). suc k) (paired_length ns ds (omega (arith, same)))

-- one more
pub paired_more : (ns : List (List ℕ)) (ds : List Database) (n : List ℕ) (d : Database) → length ds ≡ length ns
    → paired ns ds ++ record { name = n; database = d } ∷ [] ≡ paired (ns ++ n ∷ []) (ds ++ d ∷ [])
paired_more [] [] n d same = refl
paired_more [] (e ∷ ds) n d same = absurd (omega (arith, same))
paired_more (m ∷ ns) [] n d same = absurd (omega (arith, same))
paired_more (m ∷ ns) (e ∷ ds) n d same = ap (λ (ss : List Save). record { name = m; database = e } ∷ ss) (paired_more ns ds n d (omega (arith, same)))

-- the first so many
pub paired_take : (i : ℕ) (ns : List (List ℕ)) (ds : List Database) → take i (paired ns ds) ≡ paired (take i ns) (take i ds)
paired_take zero [] ds = refl
paired_take zero (n ∷ ns) [] = refl
paired_take zero (n ∷ ns) (d ∷ ds) = refl
paired_take (suc i) [] ds = refl
paired_take (suc i) (n ∷ ns) [] = refl
paired_take (suc i) (n ∷ ns) (d ∷ ds) = ap (λ (ss : List Save). record { name = n; database = d } ∷ ss) (paired_take i ns ds)

-- the database that one keeps
pub paired_back : (i : ℕ) (ns : List (List ℕ)) (ds : List Database) (w : World) → length ds ≡ length ns
    → put_back (slice_get (paired ns ds) i) w ≡ record w { database = get_or ds i w.database }
paired_back zero [] [] w same = refl
paired_back (suc i) [] [] w same = refl
paired_back i [] (d ∷ ds) w same = absurd (omega (arith, same))
paired_back i (n ∷ ns) [] w same = absurd (omega (arith, same))
paired_back zero (n ∷ ns) (d ∷ ds) w same = refl
paired_back (suc i) (n ∷ ns) (d ∷ ds) w same = paired_back i ns ds w (omega (arith, same))

-- ---- places

pub paired_place : (name : List ℕ) (ns : List (List ℕ)) (ds : List Database) → length ds ≡ length ns → place_of name (paired ns ds) ≡ place_in name ns
paired_place name [] ds same = refl
paired_place name (n ∷ ns) [] same = absurd (omega (arith, same))
paired_place name (n ∷ ns) (d ∷ ds) same = ap (λ (o : Option ℕ). later o (bytes_eq n name)) (paired_place name ns ds (omega (arith, same)))

-- the newest of the names is the one meant, or else one of the older ones
place_newest : (name : List ℕ) (older : List (List ℕ)) (newest : List ℕ)
    → place_in name (older ++ newest ∷ []) ≡ cond (bytes_eq newest name) (Some (length older)) (place_in name older)
place_newest name [] newest = by_test (bytes_eq newest name)
  where
    by_test : (b : Bool) → later None b ≡ cond b (Some 0) None
    by_test true = refl
    by_test false = refl
place_newest name (oldest ∷ older) newest = ap (λ (o : Option ℕ). later o (bytes_eq oldest name)) (place_newest name older newest) ∙ by_test (bytes_eq newest name)
  where
    by_test : (b : Bool) → later (cond b (Some (length older)) (place_in name older)) (bytes_eq oldest name)
        ≡ cond b (Some (suc (length older))) (later (place_in name older) (bytes_eq oldest name))
    by_test true = refl
    by_test false = refl

-- the same, where what the test gives is known
pub place_behind : (name : List ℕ) (all older : List (List ℕ)) (newest : List ℕ) → all ≡ older ++ newest ∷ []
    → (b : Bool) → b ≡ bytes_eq newest name → (is : Bool) → b ≡ is
    → place_in name all ≡ cond is (Some (length older)) (place_in name older)
place_behind name all older newest parts b test is gives =
    ap (place_in name) parts ∙ place_newest name older newest ∙ ap (λ (b : Bool). cond b (Some (length older)) (place_in name older)) (sym test ∙ gives)
