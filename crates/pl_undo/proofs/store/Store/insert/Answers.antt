use Rattle.std.proofs.Common.{◌≡◌, ◌∙◌, ◌↔◌, ℕ, Some, Err, true, sym, ap, subst, IsSome, IfOk, OnOk}
use Rattle.pl_tables.specs.Named.{content_named, is_full_named, next_named, HoldsIn}
use Rattle.pl_tables.specs.Rows.{inserted}
use Rattle.pl_tables.specs.declared.table.TableFail.TheVariants as fail
use Rattle.pl_undo.specs.Store.{Stored}
use Rattle.pl_undo.proofs.Marks.{rows_err, rows_last, rows_marks, rows_ok, rows_sound}
use Rattle.pl_undo.proofs.store.Store.insert.Goals as goal

pub insert-requires : goal.insert-requires
insert-requires c = record { there = subst (λ (s : Stored). IsSome (content_named c.args.name s.now.tables)) (sym c.self.view_is) c.requires.there }

pub invariant_of-self : goal.invariant_of-self
invariant_of-self c =
    rows_sound c.insert.result c.self.inside.catalog c.self.inside.tables c.insert.new.self c.args.name (inserted c.args.row) c.insert.ensures.ok c.insert.ensures.err c.self.inside.starts.items c.self.invariant

pub returns-clause-ok : goal.returns-clause-ok
returns-clause-ok c =
    rows_ok c.insert.result c.self.inside.catalog c.self.inside.tables c.insert.new.self c.args.name (inserted c.args.row) c.args.self.now.now (ap (λ (s : Stored). s.now) c.self.view_is) c.insert.ensures.ok

pub returns-clause-err : goal.returns-clause-err
returns-clause-err c =
    rows_err c.insert.result c.self.inside.catalog c.self.inside.tables c.insert.new.self c.args.name (inserted c.args.row) c.args.self.now.now (ap (λ (s : Stored). s.now) c.self.view_is) c.insert.ensures.err

pub returns-clause-last : goal.returns-clause-last
returns-clause-last c = rows_last c.insert.result c.self.inside.catalog c.self.inside.tables c.insert.new.self c.args.name (inserted c.args.row) c.insert.ensures.ok c.insert.ensures.err ∙ ap (λ (s : Stored). s.last) c.self.view_is

pub returns-clause-marks : goal.returns-clause-marks
returns-clause-marks c =
    rows_marks c.insert.result c.self.inside.catalog c.self.inside.tables c.insert.new.self c.args.name (inserted c.args.row) c.insert.ensures.ok c.insert.ensures.err c.self.inside.starts.items c.self.invariant ∙ ap (λ (s : Stored). s.marks) c.self.view_is

pub returns-clause-full : goal.returns-clause-full
returns-clause-full c =
    subst (λ (s : Stored). (c.insert.result ≡ Err fail.Full) ↔ (is_full_named c.args.name s.now.tables ≡ Some true)) c.self.view_is c.insert.ensures.full

pub returns-clause-taken : goal.returns-clause-taken
returns-clause-taken c =
    subst (λ (s : Stored). (id : ℕ) → c.insert.result ≡ Err (fail.Taken id) → HoldsIn c.args.row id (content_named c.args.name s.now.tables)) c.self.view_is c.insert.ensures.taken

pub returns-clause-free : goal.returns-clause-free
returns-clause-free c =
    subst (λ (s : Stored). OnOk c.insert.result ((id : ℕ) → HoldsIn c.args.row id (content_named c.args.name s.now.tables) → ⊥)) c.self.view_is c.insert.ensures.free

pub returns-clause-id : goal.returns-clause-id
returns-clause-id c =
    subst (λ (s : Stored). IfOk c.insert.result (λ (id : ℕ). next_named c.args.name s.now.tables ≡ Some id)) c.self.view_is c.insert.ensures.id
