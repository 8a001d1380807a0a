-- The names of rules: PostgreSQL manual, "CREATE TABLE", of CONSTRAINT. A rule without a name gets
-- one from the table and its columns.
use Rattle.std.specs.Prelude.{ℕ, ◌+◌, Bool, ◌&&◌, if◌then◌else◌, nat_lt}
use Rattle.std.specs.Prelude.{List, [], ◌∷◌, ◌++◌, length, Option, Some, None, Ok, Err, codes}
use Rattle.std.specs.Fmt.{decimal}
use Rattle.std.specs.List.{filter, flat_map}
use Rattle.pl_base.specs.States.{DUPLICATE_OBJECT, NAME_TOO_LONG}
use Rattle.pl_assigning.specs.pl_typing.Resolved.{Resolved, ◌>>=◌}
use Rattle.pl_mentions.specs.Mentions.{mentions}
use Rattle.pl_mentions.specs.declared.sought.Sought.TheVariants.{Column}
use Rattle.pl_tree.specs.declared.tree.Expr.{Expr}
use Rattle.pl_ddl.specs.Refusals.{is_among}
use Rattle.pl_ddl.specs.Written.{Name, NewRule, Asked, Check, Primary, Unique, Foreign}

-- each column behind an underscore
abbrev pub underscored : List Name → Name
underscored columns = flat_map (λ (c : Name). codes "_" ++ c) columns

abbrev pub names_column : Name → Expr → Name → Bool
names_column table e column = mentions (Column table column) e

-- the columns that a CHECK names
abbrev pub check_columns : Name → List Name → Expr → List Name
check_columns table columns e = filter (names_column table e) columns

-- one column, and no other number of them
abbrev pub only : List Name → List Name
only [] = []
only (c ∷ []) = c ∷ []
only (c ∷ d ∷ cs) = []

-- the columns that are a part of its name; of a CHECK the one that it names
abbrev pub named_columns : Name → List Name → Asked → List Name
named_columns table columns (Check e) = only (check_columns table columns e)
named_columns table columns (Primary key) = []
named_columns table columns (Unique key) = key
named_columns table columns (Foreign key) = key

abbrev pub ending : Asked → Name
ending (Check e) = codes "_check"
ending (Primary columns) = codes "_pkey"
ending (Unique columns) = codes "_key"
ending (Foreign columns) = codes "_fkey"

-- the name that a rule gets where it is free
abbrev pub usual_name : Name → List Name → Asked → Name
usual_name table columns asks =
    table ++ underscored (named_columns table columns asks) ++ ending asks

-- the name with the first suffix, from this one on, with which it is free; one more suffix than
-- there are names is enough
abbrev pub first_free : Name → List Name → List Name → ℕ → Name
first_free name taken [] suffix = name ++ decimal suffix
first_free name taken (t ∷ ts) suffix =
    if is_among (name ++ decimal suffix) taken then first_free name taken ts (suffix + 1)
    else name ++ decimal suffix

-- with the first of the suffixes 1, 2 and so on, if it needs one
abbrev pub free_name : Name → List Name → Name
free_name name taken = if is_among name taken then first_free name taken taken 1 else name

-- a name has 1 to 63 bytes
abbrev pub is_name : List ℕ → Bool
is_name name = nat_lt 0 (length name) && nat_lt (length name) 64

abbrev pub short : List ℕ → Resolved Name
short name = if is_name name then Ok name else Err NAME_TOO_LONG

abbrev pub given_name : Name → List Name → Resolved Name
given_name name taken = if is_among name taken then Err DUPLICATE_OBJECT else Ok name

-- the name that is given, or one that is free, where these are taken
abbrev pub name_by : Option Name → Name → List Name → Resolved Name
name_by (Some name) usual taken = given_name name taken
name_by None usual taken = short (free_name usual taken)

abbrev pub rule_name : Name → List Name → NewRule → List Name → Resolved Name
rule_name table columns r taken = name_by r.name (usual_name table columns r.asks) taken

-- those of the rules, behind those that are taken, in the order in which they are written
abbrev pub names_from : Name → List Name → List Name → List NewRule → Resolved (List Name)
names_from table columns taken [] = Ok taken
names_from table columns taken (r ∷ rs) =
    rule_name table columns r taken >>= (λ name.
    names_from table columns (taken ++ name ∷ []) rs)
