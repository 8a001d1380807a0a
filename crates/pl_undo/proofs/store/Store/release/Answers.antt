use Rattle.std.proofs.Common.{◌<◌, ◌∙◌, sym, ap, subst, map, take, length}
use Rattle.pl_history.specs.HistoryLaws.{map_take}
use Rattle.pl_undo.specs.Store.{database_at, IsSound, Stored}
use Rattle.pl_undo.proofs.Marks.{released_sound, start_at}
use Rattle.pl_undo.proofs.store.Store.release.Goals as goal

pub invariant_of-self : goal.invariant_of-self
invariant_of-self c =
    let f = database_at c.self.inside.catalog c.self.inside.tables in
    let ss = c.self.inside.starts.items in
    let found = start_at f ss c.args.mark.at (subst (λ (s : Stored). c.args.mark.at < length s.marks) (sym c.self.view_is) c.requires.live) in
    subst (IsSound c.self.inside.catalog c.self.inside.tables) (sym c.truncate.ensures.items) (released_sound c.self.inside.catalog c.self.inside.tables ss c.self.invariant c.args.mark.at found.0 found.1)

pub returns-clause-marks : goal.returns-clause-marks
returns-clause-marks c =
    let f = database_at c.self.inside.catalog c.self.inside.tables in
    ap (map f) c.truncate.ensures.items
    ∙ (map_take f c.args.mark.at c.self.inside.starts.items ∙ ap (λ (s : Stored). take c.args.mark.at s.marks) c.self.view_is)
