use Rattle.std.proofs.Common.{◌≡◌, ◌∙◌, length, refl, rules, sym, vec_len}
use Rattle.pl_base.specs.declared.operation.Op.TheVariants.{Remove}
use Rattle.pl_codec.specs.Spelling.{op_bytes}
use Rattle.pl_journal.proofs.OneTable.{changed_only, only_same, unchanged}
use Rattle.pl_journal.proofs.Steps.{kept_same}
use Rattle.pl_journal.proofs.Writes.{its_name, refused_kept, removed_kept}
use Rattle.pl_tables.specs.Rows.{removed}
use Rattle.pl_journal.proofs.writing.remove_row.Goals as goal

pub spell_remove-requires : goal.spell_remove-requires
spell_remove-requires c = its_name c.args.payload.now.items c.args.store.now c.requires.kept c.args.name c.args.id c.requires.there

pub returns-in_err-spell_remove-clause-kept : goal.returns-in_err-spell_remove-clause-kept
returns-in_err-spell_remove-clause-kept c = kept_same c.args.payload.now.items c.spell_remove.new.payload.items c.args.store.now c.args.store.now c.requires.kept c.in_err-spell_remove.ensures.err refl refl refl

pub returns-in_err-spell_remove-clause-only : goal.returns-in_err-spell_remove-clause-only
returns-in_err-spell_remove-clause-only c = only_same c.args.name c.args.store.now

pub returns-in-Ok-clause-kept : goal.returns-in-Ok-clause-kept
returns-in-Ok-clause-kept c =
    removed_kept c.args.payload.now.items c.args.store.now c.requires.kept c.args.name c.args.id c.requires.there c.spell_remove.new.payload.items c.remove.new.self c.in_ok-spell_remove.ensures.read_back c.in_ok-spell_remove.ensures.ok c.in-Ok.ensures.ok c.in-Ok.ensures.last c.in-Ok.ensures.marks

pub returns-in-Ok-clause-only : goal.returns-in-Ok-clause-only
returns-in-Ok-clause-only c = changed_only c.args.name (removed c.args.id) c.args.store.now c.remove.new.self c.in-Ok.ensures.ok c.in-Ok.ensures.last c.in-Ok.ensures.marks

pub returns-in-Err-clause-kept : goal.returns-in-Err-clause-kept
returns-in-Err-clause-kept c =
    refused_kept c.args.payload.now.items c.spell_remove.new.payload.items c.truncate.new.self.items (op_bytes (Remove c.args.name c.args.id)) c.len-len.result c.args.store.now c.remove.new.self c.requires.kept
    c.in_ok-spell_remove.ensures.ok (let counts : length c.args.payload.now.items ≡ vec_len c.args.payload.now = search rules in c.len-len.ensures ∙ sym counts) c.truncate.ensures.items c.in-Err.ensures.err c.in-Err.ensures.last c.in-Err.ensures.marks

pub returns-in-Err-clause-only : goal.returns-in-Err-clause-only
returns-in-Err-clause-only c = unchanged c.args.name c.args.store.now c.remove.new.self c.in-Err.ensures.err c.in-Err.ensures.last c.in-Err.ensures.marks
