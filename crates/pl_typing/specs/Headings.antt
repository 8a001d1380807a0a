-- Headings of columns whose expressions have no name.
use Rattle.std.specs.Prelude.{[], codes}
use Rattle.pl_base.specs.declared.types.Ty.{Ty}
use Rattle.pl_base.specs.declared.types.Ty.TheVariants.{Int, Big, Text, Bool as Boolean, Row}
use Rattle.pl_tree.specs.declared.tree.Pick.{Pick}
use Rattle.pl_tree.specs.declared.tree.Pick.TheVariants.{Coalesce, Greatest, Least}
use Rattle.pl_typing.specs.Typing.{Name}

abbrev pub exists_heading : Name
exists_heading = codes "exists"

abbrev pub case_heading : Name
case_heading = codes "case"

abbrev pub row_heading : Name
row_heading = codes "row"

abbrev pub null_if_heading : Name
null_if_heading = codes "nullif"

abbrev pub pick_heading : Pick → Name
pick_heading Coalesce = codes "coalesce"
pick_heading Greatest = codes "greatest"
pick_heading Least = codes "least"

abbrev pub type_heading : Ty → Name
type_heading Int = codes "int4"
type_heading Big = codes "int8"
type_heading Text = codes "text"
type_heading Boolean = codes "bool"
type_heading (Row name) = name
type_heading ty = []

-- a cast has its operand's heading, or else the type's
abbrev pub cast_heading : Name → Ty → Name
cast_heading [] ty = type_heading ty
cast_heading head ty = head
