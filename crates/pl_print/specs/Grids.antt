-- Results as psql prints them: PostgreSQL manual, "psql", output format `unaligned`.
use Rattle.std.specs.Prelude.{ℕ, List, ◌++◌, ◌==◌, if◌then◌else◌, codes, length}
use Rattle.std.specs.Fmt.{decimal}
use Rattle.std.specs.List.{flat_map, join_by}
use Rattle.pl_base.specs.declared.value.Value.{Value}
use Rattle.pl_print.specs.declared.reply.Grid.{Grid}
use Rattle.pl_print.specs.TextForm.{output}

-- the line of headings, with bars between
abbrev pub heading_line : List (List ℕ) → List ℕ
heading_line heads = join_by (λ head. head) (codes "|") heads ++ codes "\n"

-- the line of a row, with bars between its values
abbrev pub row_line : List Value → List ℕ
row_line cells = join_by output (codes "|") cells ++ codes "\n"

-- how many rows there are
abbrev pub count_line : ℕ → List ℕ
count_line n = if n == 1 then codes "(1 row)\n" else codes "(" ++ (decimal n ++ codes " rows)\n")

-- the headings, the rows and their count
abbrev pub grid_bytes : Grid → List ℕ
grid_bytes grid =
    heading_line grid.heads ++ (flat_map row_line grid.rows ++ count_line (length grid.rows))
