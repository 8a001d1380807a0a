use Rattle.pl_journal.proofs.CarriedOut.{added_new, dropped_there, replaced_plain, replaced_there}
use Rattle.pl_journal.proofs.defining.carry_out.Goals as goal

pub add_object-requires : goal.add_object-requires
add_object-requires c =
    record { new = added_new c.catalog.result.now.objects c.args.store.now.now.objects c.catalog.ensures.objects c.args.definition.now c.args.text c.in-Ok-Add.field-0 c.in-Ok-Add.ensures c.in-Ok-Add.object c.in-Ok-Add.field-0-is }

pub replace_object-requires : goal.replace_object-requires
replace_object-requires c =
    record {
      there = replaced_there c.catalog.result.now.objects c.args.store.now.now.objects c.catalog.ensures.objects c.args.definition.now c.args.text c.in-Ok-Replace.field-0 c.in-Ok-Replace.ensures c.in-Ok-Replace.object c.in-Ok-Replace.field-0-is;
      plain = replaced_plain c.catalog.result.now.objects c.args.store.now.now.objects c.catalog.ensures.objects c.args.definition.now c.args.text c.in-Ok-Replace.field-0 c.in-Ok-Replace.ensures c.in-Ok-Replace.object c.in-Ok-Replace.field-0-is;
    }

pub drop_object-requires : goal.drop_object-requires
drop_object-requires c =
    record { there = dropped_there c.catalog.result.now.objects c.args.store.now.now.objects c.catalog.ensures.objects c.args.definition.now c.args.text c.in-Ok-Drop.field-0 c.in-Ok-Drop.ensures c.in-Ok-Drop.which c.in-Ok-Drop.field-0-is }
