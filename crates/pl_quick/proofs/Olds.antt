-- What is undone, and what acts work on as a part of a world.
use Rattle.std.proofs.Common.{◌≡◌, ◌∙◌, ℕ, zero, suc, true, List, [], ◌∷◌, ◌++◌, Some, None, ap, sym, refl}
use Rattle.std.specs.Prelude.{slice_get, slice_set}
use Rattle.pl_base.specs.declared.value.Value.{Value}
use Rattle.pl_engine.specs.pl_world.Variables.{with_value}
use Rattle.pl_engine.specs.pl_world.World.{World}
use Rattle.pl_quick.specs.Old.{IsOld, Tracked, old_value, undone, undone_in}
use Rattle.pl_quick.specs.Scratch.{Took, computed_to, in_world}
use Rattle.pl_quick.specs.declared.old.Old.{Old}
use Rattle.pl_quick.specs.declared.scratch.Scratch.{Scratch}

-- ---- values

newest_first : (os : List Old) (o : Old) (row : List Value) → undone (os ++ o ∷ []) row ≡ undone os (slice_set row o.column (old_value o.value))
newest_first [] o row = refl
newest_first (p ∷ os) o row = ap (λ (row : List Value). slice_set row p.column (old_value p.value)) (newest_first os o row)

put_back : (row : List Value) (at : ℕ) (was is : Value) → slice_get row at ≡ Some was → slice_set (slice_set row at is) at was ≡ row
put_back [] at was is got = absurd (let no : None ≡ Some was = got in cc)
put_back (x ∷ row) zero was is got = let same : x ≡ was = cc in ap (λ (y : Value). y ∷ row) (sym same)
put_back (x ∷ row) (suc at) was is got = ap (λ (ys : List Value). x ∷ ys) (put_back row at was is got)

-- a variable was given a value, and what it was is kept
pub assigned_on : (os : List Old) (o : Old) (at : ℕ) (v : Value) (row : List Value) → IsOld o at row → undone (os ++ o ∷ []) (slice_set row at v) ≡ undone os row
assigned_on os o at v row was =
    newest_first os o (slice_set row at v)
    ∙ ap (λ (row : List Value). undone os row)
    (ap (λ (c : ℕ). slice_set (slice_set row at v) c (old_value o.value)) was.0 ∙ put_back row at (old_value o.value) v was.1)

-- the newest was put back
pub put_back_on : (start : List Value) (before after : List Old) (o : Old) (v : Value) (row next : List Value) → undone before row ≡ start → before ≡ after ++ o ∷ [] → v ≡ old_value o.value → next ≡ slice_set row o.column v → undone after next ≡ start
put_back_on start before after o v row next is split same set =
    ap (λ (row : List Value). undone after row) (set ∙ ap (λ (v : Value). slice_set row o.column v) same)
    ∙ (sym (newest_first after o row) ∙ (ap (λ (os : List Old). undone os row) (sym split) ∙ is))

-- ---- worlds

-- a variable was given a value
pub set_in : (w : World) (old new : Scratch) (at : ℕ) (v : Value) → new.values ≡ slice_set old.values at v → new.steps ≡ old.steps → in_world new w ≡ with_value at v (in_world old w)
set_in w old new at v values steps =
    ap (λ (vs : List Value). computed_to vs new.steps w) values ∙ ap (λ (n : ℕ). computed_to (slice_set old.values at v) n w) steps

-- a step was taken
pub stepped_in : (w : World) (old new : Scratch) → Took true old new → in_world new w ≡ record (in_world old w) { steps = new.steps }
stepped_in w old new took = ap (λ (s : Scratch). in_world s w) took.1

-- a turn was begun, and all of it is undone
pub taken_back : (w : World) (n : ℕ) (s0 s1 s2 s3 : Scratch) → s0.olds.items ≡ [] → Took true s0 s1 → Tracked s1 s2 → s3.values ≡ undone_in s2 → s3.steps ≡ n → n ≡ s0.steps → in_world s3 w ≡ in_world s0 w
taken_back w n s0 s1 s2 s3 none took tracked values steps same =
    ap (λ (vs : List Value). computed_to vs s3.steps w) (values ∙ (tracked ∙ (ap (λ (s : Scratch). undone_in s) took.1 ∙ ap (λ (os : List Old). undone os s0.values) none)))
    ∙ ap (λ (m : ℕ). computed_to s0.values m w) (steps ∙ same)
