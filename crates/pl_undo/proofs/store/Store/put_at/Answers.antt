use Rattle.std.proofs.Common.{◌≡◌, ◌≢◌, ◌∙◌, ◌↔◌, ℕ, Some, Err, false, sym, ap, subst, map, IsSome, OnOk}
use Rattle.pl_tables.specs.Named.{content_named, has_room_named, HoldsIn}
use Rattle.pl_tables.specs.Rows.{put_at}
use Rattle.pl_tables.specs.declared.table.TableFail.TheVariants as fail
use Rattle.pl_undo.specs.Store.{database_at, Stored}
use Rattle.pl_undo.proofs.Marks.{no_starts, put_err, put_ok, put_whole, rest_last, rest_sound}
use Rattle.pl_undo.proofs.store.Store.put_at.Goals as goal

pub put_at-requires : goal.put_at-requires
put_at-requires c =
    record { there = subst (λ (s : Stored). IsSome (content_named c.args.name s.now.tables)) (sym c.self.view_is) c.requires.there; below = c.requires.below }

pub invariant_of-self : goal.invariant_of-self
invariant_of-self c =
    let none = no_starts (database_at c.self.inside.catalog c.self.inside.tables) c.self.inside.starts.items (ap (λ (s : Stored). s.marks) c.self.view_is ∙ c.requires.unmarked) in
    rest_sound c.settle_objects.new.catalog c.put_at.new.self c.settle_objects.ensures.past c.put_at.ensures.past c.self.inside.starts.items none
    (put_whole c.put_at.result c.self.inside.catalog c.settle_objects.new.catalog c.self.inside.tables c.put_at.new.self c.args.name (put_at c.args.id c.args.row) c.settle_objects.ensures.objects c.put_at.ensures.ok c.put_at.ensures.err c.self.invariant.now)

pub returns-clause-full : goal.returns-clause-full
returns-clause-full c =
    subst (λ (s : Stored). (c.put_at.result ≡ Err fail.Full) ↔ (has_room_named c.args.name c.args.id s.now.tables ≡ Some false)) c.self.view_is c.put_at.ensures.full

pub returns-clause-taken : goal.returns-clause-taken
returns-clause-taken c =
    subst (λ (s : Stored). (holder : ℕ) → c.put_at.result ≡ Err (fail.Taken holder) → (holder ≢ c.args.id) × HoldsIn c.args.row holder (content_named c.args.name s.now.tables)) c.self.view_is c.put_at.ensures.taken

pub returns-clause-free : goal.returns-clause-free
returns-clause-free c =
    subst (λ (s : Stored). OnOk c.put_at.result ((holder : ℕ) → HoldsIn c.args.row holder (content_named c.args.name s.now.tables) → holder ≡ c.args.id)) c.self.view_is c.put_at.ensures.free

pub returns-clause-ok : goal.returns-clause-ok
returns-clause-ok c =
    put_ok c.put_at.result c.self.inside.catalog c.settle_objects.new.catalog c.self.inside.tables c.put_at.new.self c.args.name (put_at c.args.id c.args.row) c.settle_objects.ensures.objects c.args.self.now.now (ap (λ (s : Stored). s.now) c.self.view_is) c.put_at.ensures.ok

pub returns-clause-err : goal.returns-clause-err
returns-clause-err c =
    put_err c.put_at.result c.self.inside.catalog c.settle_objects.new.catalog c.self.inside.tables c.put_at.new.self c.args.name (put_at c.args.id c.args.row) c.settle_objects.ensures.objects c.args.self.now.now (ap (λ (s : Stored). s.now) c.self.view_is) c.put_at.ensures.err

pub returns-clause-last : goal.returns-clause-last
returns-clause-last c = rest_last c.settle_objects.new.catalog c.put_at.new.self c.settle_objects.ensures.past c.put_at.ensures.past

pub returns-clause-marks : goal.returns-clause-marks
returns-clause-marks c =
    let none = no_starts (database_at c.self.inside.catalog c.self.inside.tables) c.self.inside.starts.items (ap (λ (s : Stored). s.marks) c.self.view_is ∙ c.requires.unmarked) in
    ap (map (database_at c.settle_objects.new.catalog c.put_at.new.self)) none
