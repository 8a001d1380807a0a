-- The values of the examples: the table n with an integer column c, without rows and with the row
-- [1], and the events of the two commands that lead there.
use Rattle.std.specs.Prelude.{pos, false, List, [], ◌∷◌, None, codes}
use Rattle.pl_base.specs.declared.types.Ty.TheVariants as type
use Rattle.pl_base.specs.declared.value.Value.TheVariants as value
use Rattle.pl_change.specs.pl_catalog.declared.object.Object.{Object}
use Rattle.pl_change.specs.pl_catalog.declared.object.Object.TheVariants as object
use Rattle.pl_change.specs.Operation.{empty}
use Rattle.pl_print.specs.Tags.{tag_bytes}
use Rattle.pl_print.specs.declared.reply.Tag.TheVariants.{CreateTable, Insert}
use Rattle.pl_change.specs.pl_tables.Rows.{inserted}
use Rattle.pl_change.specs.pl_undo.Database.{Database, on_rows, with_object}
use Rattle.pl_meaning.specs.Trace.{Event, Said, Committed}

abbrev pub n_of_c : Object
n_of_c = object.Table (record {
  name = codes "n";
  text = codes "CREATE TABLE n (c integer)";
  columns = record { name = codes "c"; ty = type.Int; is_not_null = false; default = None } ∷ [];
  rules = [];
})

abbrev pub made : Database
made = with_object n_of_c empty

abbrev pub filled : Database
filled = on_rows (codes "n") (inserted (value.Int (pos 1) ∷ [])) made

abbrev pub both : List Event
both =
    Committed made ∷ Said (tag_bytes CreateTable)
    ∷ Committed filled ∷ Said (tag_bytes (Insert 1)) ∷ []
