-- The rows that stand where an expression is evaluated.
use Rattle.std.specs.Prelude.{ℕ, List, [], ◌∷◌, Option, Some, None, map, slice_get}
use Rattle.pl_base.specs.declared.value.Value.{Value}
use Rattle.pl_base.specs.declared.value.Value.TheVariants.{Null}
use Rattle.pl_value.specs.declared.operand.Lent.{Lent}

abbrev pub Row : Type 0
Row = List Value

abbrev pub Frame : Type 0
Frame = List Row

-- the value at a place
abbrev pub cell_in : Option Row → ℕ → Option Value
cell_in (Some row) column = slice_get row column
cell_in None column = None

abbrev pub cell : Frame → ℕ → ℕ → Option Value
cell frame row column = cell_in (slice_get frame row) column

-- a place that is absent reads as null
abbrev pub or_null : Option Value → Value
or_null (Some v) = v
or_null None = Null

-- the first value of a row
abbrev pub first_or_null : Row → Value
first_or_null (v ∷ row) = v
first_or_null [] = Null

-- the rows that are lent
abbrev pub rows_of : List Lent → Frame
rows_of frame = map (λ (l : Lent). l.cells.now) frame
