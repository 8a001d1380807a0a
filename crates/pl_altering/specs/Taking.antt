-- An INSERT whose rows are those of its query as they are.
use Rattle.std.specs.Prelude.{◌≡◌, ◌+◌, ℕ, List, [], ◌∷◌, None, length}
use Rattle.pl_altering.specs.Ends.{done_from}
use Rattle.pl_querying.specs.pl_calling.Standing.{fresh, keep}
use Rattle.pl_querying.specs.pl_engine.Texts.{do_bodies}
use Rattle.pl_query.specs.Rows.{in_turn}
use Rattle.pl_resolved.specs.declared.expression.RExpr.{RExpr}
use Rattle.pl_resolved.specs.declared.expression.RExpr.TheVariants.{Place}
use Rattle.pl_targets.specs.declared.change.RChange.{RChange}
use Rattle.pl_targets.specs.declared.change.RRows.TheVariants.{Query}
use Rattle.pl_targets.specs.declared.change.RWhat.TheVariants.{Insert}
use Rattle.pl_value.specs.Frames.{Row}
use Rattle.pl_world.specs.Calls.{Within}
use Rattle.pl_world.specs.Changes.{setting, writes}
use Rattle.pl_world.specs.Errors.{Spot}
use Rattle.pl_world.specs.Selection.{last_of}
use Rattle.pl_world.specs.Statements.{runner_for}
use Rattle.pl_world.specs.World.{World}

-- the values are those of the row that was found, from this place on
abbrev pub AreOwn : List RExpr → ℕ → Type 0
AreOwn [] at = Unit {0}
AreOwn (e ∷ more) at = (e ≡ Place 2 at) × AreOwn more (at + 1)

-- it adds the rows of its query as they are, with so many values each, and shows nothing
pub record TakesRows (change : RChange) (width : ℕ) : Type 0 where
  pub list : List RExpr
  pub what : change.what ≡ Insert (Query (last_of change.queries) list)
  pub own : AreOwn list 0
  pub wide : width ≡ length list
  pub shows : change.returning ≡ []

abbrev pub HasWidth : ℕ → Row → Type 0
HasWidth width row = length row ≡ width

-- the query was read, and gave these rows: what is left to do is to write them
pub record IsLeft (at : Spot) (room : ℕ) (change : RChange) (found : List Row) (w : World)
    : Type 0 where
  pub behind : Within
  pub reads : done_from (runner_for do_bodies room) at change w
      ≡ in_turn (writes (setting (runner_for do_bodies room) at change w) None) found [] behind
  pub begins : fresh at room w ≡ keep at room behind
  pub shows : change.returning ≡ []
