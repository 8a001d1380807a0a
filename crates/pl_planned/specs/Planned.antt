-- What is kept of what was resolved, beside a journal.
use Rattle.std.specs.Prelude.{◌≡◌, ℕ, List, drop}
use Rattle.std.specs.List.{AllByRecursion}
use Rattle.pl_catalog.specs.declared.object.Object.{Object}
use Rattle.pl_plans.specs.Plans.{AreOver}
use Rattle.pl_plans.specs.declared.plans.Plans.{Plans}
use Rattle.pl_undo.specs.Database.{Database}
use Rattle.pl_undo.specs.Store.{Stored}

abbrev pub HasObjects : List Object → Database → Type 0
HasObjects objects db = db.objects ≡ objects

-- all was resolved over the objects now, and these were there at each mark from the one of this number
-- on
pub record IsPlanned (plans : Plans) (since : ℕ) (s : Stored) : Type 0 where
  pub over : AreOver s.now.objects plans
  pub marks : AllByRecursion (HasObjects s.now.objects) (drop since s.marks)
