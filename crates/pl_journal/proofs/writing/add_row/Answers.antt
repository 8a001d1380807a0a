use Rattle.std.proofs.Common.{◌≡◌, ◌<◌, ◌∙◌, ◌++◌, true, None, Err, length, refl, sym, ap, subst, rules, vec_len}
use Rattle.std.specs.List.{list_all}
use Rattle.pl_base.specs.declared.operation.Op.TheVariants.{Put}
use Rattle.pl_codec.specs.ReadBack.{OpReadsBack}
use Rattle.pl_codec.specs.Spelling.{is_stored_value, op_bytes}
use Rattle.pl_journal.specs.Journal.{Leads}
use Rattle.pl_journal.specs.Writing.{written}
use Rattle.pl_journal.proofs.OneTable.{changed_only, only_same, unchanged}
use Rattle.pl_journal.proofs.Steps.{kept_same}
use Rattle.pl_journal.proofs.Writes.{has_id, insert_leads, insert_refused, inserted_kept, refused_kept, spelled, there_is}
use Rattle.pl_tables.specs.Rows.{inserted}
use Rattle.pl_value.specs.Frames.{Row}
use Rattle.pl_value.specs.declared.operand.Unsettled.{Unsettled}
use Rattle.pl_journal.proofs.writing.add_row.Goals as goal

pub spell_put-requires-clause-named : goal.spell_put-requires-clause-named
spell_put-requires-clause-named c = (spelled c.args.payload.now.items c.args.store.now c.requires.kept c.args.name c.args.row c.requires.keeps).named

pub spell_put-requires-clause-numbered : goal.spell_put-requires-clause-numbered
spell_put-requires-clause-numbered c = has_id c.args.payload.now.items c.args.store.now c.requires.kept c.args.name c.args.row c.requires.keeps c.args.id c.requires.free

pub spell_put-requires-clause-counted : goal.spell_put-requires-clause-counted
spell_put-requires-clause-counted c =
    subst (λ (r : Row). length r < 256) (sym c.as_slice.ensures) (spelled c.args.payload.now.items c.args.store.now c.requires.kept c.args.name c.args.row c.requires.keeps).counted

pub spell_put-requires-clause-stored : goal.spell_put-requires-clause-stored
spell_put-requires-clause-stored c =
    subst (λ (r : Row). list_all is_stored_value r ≡ true) (sym c.as_slice.ensures) (spelled c.args.payload.now.items c.args.store.now c.requires.kept c.args.name c.args.row c.requires.keeps).stored

pub insert-requires : goal.insert-requires
insert-requires c = record { there = there_is c.args.payload.now.items c.args.store.now c.requires.kept c.args.name c.args.row c.requires.keeps c.args.id c.requires.free }

pub returns-in_err-spell_put-clause-kept : goal.returns-in_err-spell_put-clause-kept
returns-in_err-spell_put-clause-kept c = kept_same c.args.payload.now.items c.spell_put.new.payload.items c.args.store.now c.args.store.now c.requires.kept c.in_err-spell_put.ensures.err refl refl refl

pub returns-in_err-spell_put-clause-only : goal.returns-in_err-spell_put-clause-only
returns-in_err-spell_put-clause-only c = only_same c.args.name c.args.store.now

pub returns-in-Ok-clause-kept : goal.returns-in-Ok-clause-kept
returns-in-Ok-clause-kept c =
    inserted_kept c.args.payload.now.items c.args.store.now c.requires.kept c.args.name c.args.row c.requires.keeps c.args.id c.requires.free c.spell_put.new.payload.items c.insert.new.self c.in-Ok.ensures.free
    (subst (λ (r : Row). OpReadsBack (Put c.args.name c.args.id r)) c.as_slice.ensures c.in_ok-spell_put.ensures.read_back)
    (c.in_ok-spell_put.ensures.ok ∙ ap (λ (r : Row). c.args.payload.now.items ++ op_bytes (Put c.args.name c.args.id r)) c.as_slice.ensures)
    c.in-Ok.ensures.ok c.in-Ok.ensures.last c.in-Ok.ensures.marks

pub returns-in-Ok-clause-leads : goal.returns-in-Ok-clause-leads
returns-in-Ok-clause-leads c =
    insert_leads c.args.payload.now.items c.args.store.now c.requires.kept c.args.name c.args.row c.requires.keeps c.args.id c.requires.free c.insert.new.self c.in-Ok.ensures.free c.in-Ok.ensures.ok

pub returns-in-Ok-clause-only : goal.returns-in-Ok-clause-only
returns-in-Ok-clause-only c = changed_only c.args.name (inserted c.args.row) c.args.store.now c.insert.new.self c.in-Ok.ensures.ok c.in-Ok.ensures.last c.in-Ok.ensures.marks

pub returns-in-Err-clause-kept : goal.returns-in-Err-clause-kept
returns-in-Err-clause-kept c =
    refused_kept c.args.payload.now.items c.spell_put.new.payload.items c.refuse.new.payload.items (op_bytes (Put c.args.name c.args.id c.as_slice.result.now)) c.len-size.result c.args.store.now c.insert.new.self c.requires.kept
    c.in_ok-spell_put.ensures.ok (let counts : length c.args.payload.now.items ≡ vec_len c.args.payload.now = search rules in c.len-size.ensures ∙ sym counts) c.refuse.ensures.items c.in-Err.ensures.err c.in-Err.ensures.last c.in-Err.ensures.marks

pub returns-in-Err-clause-leads : goal.returns-in-Err-clause-leads
returns-in-Err-clause-leads c =
    subst (λ (why : Unsettled). Leads {A = Unit {0}} (written c.args.store.now.now.objects c.args.name None c.args.row c.args.store.now.now.tables) (Err why) c.insert.new.self.now.tables) (sym c.refuse.ensures.why)
    (insert_refused c.args.payload.now.items c.args.store.now c.requires.kept c.args.name c.args.row c.requires.keeps c.args.id c.requires.free c.insert.result c.in-Err.fail c.insert.new.self.now.tables c.in-Err.is c.insert.ensures.full c.insert.ensures.taken)

pub returns-in-Err-clause-only : goal.returns-in-Err-clause-only
returns-in-Err-clause-only c = unchanged c.args.name c.args.store.now c.insert.new.self c.in-Err.ensures.err c.in-Err.ensures.last c.in-Err.ensures.marks
