use Rattle.std.proofs.Common.{◌≡◌, ◌≢◌, ◌∙◌, ℕ, Err, sym, ap, subst, IsSome, OnOk}
use Rattle.pl_tables.specs.Named.{content_named, row_named, HoldsIn}
use Rattle.pl_tables.specs.Rows.{replaced}
use Rattle.pl_tables.specs.declared.table.TableFail.TheVariants as fail
use Rattle.pl_undo.specs.Store.{Stored}
use Rattle.pl_undo.proofs.Marks.{rows_err, rows_last, rows_marks, rows_ok, rows_sound}
use Rattle.pl_undo.proofs.store.Store.replace.Goals as goal

pub replace-requires : goal.replace-requires
replace-requires c = record { there = subst (λ (s : Stored). IsSome (row_named c.args.name c.args.id s.now.tables)) (sym c.self.view_is) c.requires.there }

pub invariant_of-self : goal.invariant_of-self
invariant_of-self c =
    rows_sound c.replace.result c.self.inside.catalog c.self.inside.tables c.replace.new.self c.args.name (replaced c.args.id c.args.row) c.replace.ensures.ok c.replace.ensures.err c.self.inside.starts.items c.self.invariant

pub returns-clause-ok : goal.returns-clause-ok
returns-clause-ok c =
    rows_ok c.replace.result c.self.inside.catalog c.self.inside.tables c.replace.new.self c.args.name (replaced c.args.id c.args.row) c.args.self.now.now (ap (λ (s : Stored). s.now) c.self.view_is) c.replace.ensures.ok

pub returns-clause-err : goal.returns-clause-err
returns-clause-err c =
    rows_err c.replace.result c.self.inside.catalog c.self.inside.tables c.replace.new.self c.args.name (replaced c.args.id c.args.row) c.args.self.now.now (ap (λ (s : Stored). s.now) c.self.view_is) c.replace.ensures.err

pub returns-clause-last : goal.returns-clause-last
returns-clause-last c = rows_last c.replace.result c.self.inside.catalog c.self.inside.tables c.replace.new.self c.args.name (replaced c.args.id c.args.row) c.replace.ensures.ok c.replace.ensures.err ∙ ap (λ (s : Stored). s.last) c.self.view_is

pub returns-clause-marks : goal.returns-clause-marks
returns-clause-marks c =
    rows_marks c.replace.result c.self.inside.catalog c.self.inside.tables c.replace.new.self c.args.name (replaced c.args.id c.args.row) c.replace.ensures.ok c.replace.ensures.err c.self.inside.starts.items c.self.invariant ∙ ap (λ (s : Stored). s.marks) c.self.view_is

pub returns-clause-taken : goal.returns-clause-taken
returns-clause-taken c =
    subst (λ (s : Stored). (holder : ℕ) → c.replace.result ≡ Err (fail.Taken holder) → (holder ≢ c.args.id) × HoldsIn c.args.row holder (content_named c.args.name s.now.tables)) c.self.view_is c.replace.ensures.taken

pub returns-clause-free : goal.returns-clause-free
returns-clause-free c =
    subst (λ (s : Stored). OnOk c.replace.result ((holder : ℕ) → HoldsIn c.args.row holder (content_named c.args.name s.now.tables) → holder ≡ c.args.id)) c.self.view_is c.replace.ensures.free
