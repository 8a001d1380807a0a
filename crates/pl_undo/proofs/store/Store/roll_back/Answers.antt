use Rattle.std.proofs.Common.{◌≡◌, ◌<◌, ◌+◌, ◌∙◌, ℕ, suc, Some, refl, sym, ap, subst, map, take, length, add-one}
use Rattle.std.specs.Prelude.{slice_get}
use Rattle.std.specs.List.{AllByRecursion}
use Rattle.std.proofs.lemmas.Option.{slice_get_read, slice_get_within}
use Rattle.pl_history.specs.HistoryLaws.{map_take}
use Rattle.pl_undo.specs.declared.store.Start.{Start}
use Rattle.pl_undo.specs.Database.{IsWhole}
use Rattle.pl_undo.specs.Store.{at_first, at_last, database_at, IsSound, Stored}
use Rattle.pl_undo.proofs.Marks.{all_at, all_taken, back_last, back_marks, back_now, back_sound, map_at, rising_at, rising_upto, start_at}
use Rattle.pl_undo.proofs.store.Store.roll_back.Goals as goal

pub undo_objects-requires : goal.undo_objects-requires
undo_objects-requires c =
    let f = database_at c.self.inside.catalog c.self.inside.tables in
    let ss = c.self.inside.starts.items in
    let at = c.args.mark.now.at in
    let s : Start = c.index-start.result.now in
    let found = start_at f ss at (subst (λ (s : Stored). at < length s.marks) (sym c.self.view_is) c.requires.live) in
    let is : slice_get ss at ≡ Some s = slice_get_read ss (length ss) at s refl (slice_get_within ss at found.0 found.1) c.index-start.ensures in
    (rising_at at_first ss (at_last c.self.inside.catalog c.self.inside.tables) at s c.self.invariant.rising is).objects

pub undo_tables-requires : goal.undo_tables-requires
undo_tables-requires c =
    let f = database_at c.self.inside.catalog c.self.inside.tables in
    let ss = c.self.inside.starts.items in
    let at = c.args.mark.now.at in
    let s : Start = c.index-start.result.now in
    let found = start_at f ss at (subst (λ (s : Stored). at < length s.marks) (sym c.self.view_is) c.requires.live) in
    let is : slice_get ss at ≡ Some s = slice_get_read ss (length ss) at s refl (slice_get_within ss at found.0 found.1) c.index-start.ensures in
    (rising_at at_first ss (at_last c.self.inside.catalog c.self.inside.tables) at s c.self.invariant.rising is).tables

pub invariant_of-self : goal.invariant_of-self
invariant_of-self c =
    let f = database_at c.self.inside.catalog c.self.inside.tables in
    let ss = c.self.inside.starts.items in
    let at = c.args.mark.now.at in
    let s : Start = c.index-start.result.now in
    let found = start_at f ss at (subst (λ (s : Stored). at < length s.marks) (sym c.self.view_is) c.requires.live) in
    let is : slice_get ss at ≡ Some s = slice_get_read ss (length ss) at s refl (slice_get_within ss at found.0 found.1) c.index-start.ensures in
    let cut = c.truncate.ensures.items ∙ ap (λ (n : ℕ). take n ss) (add-one at) in
    let now : IsWhole (f s) = all_at IsWhole (map f ss) at (f s) c.self.invariant.marks (map_at f ss at s is) in
    let marks : AllByRecursion IsWhole (map f (take (suc at) ss)) = subst (AllByRecursion IsWhole) (sym (map_take f (suc at) ss)) (all_taken IsWhole (suc at) (map f ss) c.self.invariant.marks) in
    subst (IsSound c.undo_objects.new.catalog c.undo_tables.new.tables) (sym cut)
    (back_sound c.self.inside.catalog c.undo_objects.new.catalog c.self.inside.tables c.undo_tables.new.tables s c.undo_objects.ensures.same c.undo_tables.ensures.same c.undo_objects.ensures.cut c.undo_tables.ensures.cut (take (suc at) ss) (rising_upto at_first ss (at_last c.self.inside.catalog c.self.inside.tables) at s c.self.invariant.rising is) now c.self.invariant.last marks)

pub returns-clause-now : goal.returns-clause-now
returns-clause-now c =
    let f = database_at c.self.inside.catalog c.self.inside.tables in
    let ss = c.self.inside.starts.items in
    let at = c.args.mark.now.at in
    let s : Start = c.index-start.result.now in
    let found = start_at f ss at (subst (λ (s : Stored). at < length s.marks) (sym c.self.view_is) c.requires.live) in
    let is : slice_get ss at ≡ Some s = slice_get_read ss (length ss) at s refl (slice_get_within ss at found.0 found.1) c.index-start.ensures in
    sym (ap (λ (s : Stored). slice_get s.marks at) c.self.view_is)
    ∙ (map_at f ss at s is ∙ ap Some (sym (back_now c.self.inside.catalog c.undo_objects.new.catalog c.self.inside.tables c.undo_tables.new.tables s c.undo_objects.ensures.same c.undo_tables.ensures.same c.undo_objects.ensures.cut c.undo_tables.ensures.cut)))

pub returns-clause-last : goal.returns-clause-last
returns-clause-last c =
    let s : Start = c.index-start.result.now in
    back_last c.self.inside.catalog c.undo_objects.new.catalog c.self.inside.tables c.undo_tables.new.tables s c.undo_objects.ensures.same c.undo_tables.ensures.same c.undo_objects.ensures.cut c.undo_tables.ensures.cut
    ∙ ap (λ (s : Stored). s.last) c.self.view_is

pub returns-clause-marks : goal.returns-clause-marks
returns-clause-marks c =
    let f = database_at c.self.inside.catalog c.self.inside.tables in
    let ss = c.self.inside.starts.items in
    let at = c.args.mark.now.at in
    let s : Start = c.index-start.result.now in
    let found = start_at f ss at (subst (λ (s : Stored). at < length s.marks) (sym c.self.view_is) c.requires.live) in
    let is : slice_get ss at ≡ Some s = slice_get_read ss (length ss) at s refl (slice_get_within ss at found.0 found.1) c.index-start.ensures in
    let cut = c.truncate.ensures.items ∙ ap (λ (n : ℕ). take n ss) (add-one at) in
    ap (map (database_at c.undo_objects.new.catalog c.undo_tables.new.tables)) cut
    ∙ (back_marks c.self.inside.catalog c.undo_objects.new.catalog c.self.inside.tables c.undo_tables.new.tables s c.undo_objects.ensures.same c.undo_tables.ensures.same c.undo_objects.ensures.cut c.undo_tables.ensures.cut (take (suc at) ss) (rising_upto at_first ss (at_last c.self.inside.catalog c.self.inside.tables) at s c.self.invariant.rising is)
    ∙ (map_take f (suc at) ss ∙ (ap (λ (n : ℕ). take n (map f ss)) (sym (add-one at)) ∙ ap (λ (s : Stored). take (at + 1) s.marks) c.self.view_is)))
