-- Pieces of the grammar's rules that functions of their own read.
use Rattle.std.specs.Prelude.{List, Option}
use Rattle.pl_tree.specs.declared.tree.Expr.{Expr}
use Rattle.pl_tree.specs.declared.tree.Expr.TheVariants as e
use Rattle.pl_tree.specs.declared.tree.Pick.{Pick}
use Rattle.pl_tree.specs.declared.tree.Pick.TheVariants as pick
use Rattle.pl_tree.specs.declared.tree.Item.{Item}
use Rattle.pl_tree.specs.declared.tree.Item.TheVariants as i
use Rattle.pl_tree.specs.declared.tree.Key.{Key}
use Rattle.pl_tree.specs.declared.tree.From.{From as FromTree}
use Rattle.pl_grammar.specs.Marks.{a_name}
use Rattle.pl_grammar.specs.Rule.{part, one, ◌until◌, ◌then◌, make, fork}
use Rattle.pl_grammar.specs.Words.{EXISTS, COALESCE, GREATEST, LEAST, NULLIF, CAST, ROW, DOT, STAR}
use Rattle.pl_expr_parse.specs.Grammar.{R, BracketedList, Exists, NullIf, Cast, Row, Case, Sources, Condition, Having, Order, Paging, ending}

abbrev pub picked : Pick → R Expr
picked p = make (e.Pick p) (part BracketedList)

-- what begins with another reserved word than TRUE, FALSE and NULL
abbrev pub called : R Expr
called =
    fork EXISTS (part Exists)
    (fork COALESCE (picked pick.Coalesce)
    (fork GREATEST (picked pick.Greatest)
    (fork LEAST (picked pick.Least)
    (fork NULLIF (part NullIf)
    (fork CAST (part Cast)
    (fork ROW (part Row)
    (part Case)))))))

-- name.*
abbrev pub all_of : R Item
all_of = make i.AllOf (one a_name until DOT until STAR)

abbrev pub Paged : Type 0
Paged = Option Expr × Option Expr

abbrev pub ordered : R (List Key × Paged)
ordered = part Order then part Paging

abbrev pub chosen : R (Option Expr × (List Key × Paged))
chosen = part Having then ordered

abbrev pub behind_from : R (Option Expr × (List Expr × (Option Expr × (List Key × Paged))))
behind_from = part Condition then ending

abbrev pub behind_items : R (List FromTree × (Option Expr × (List Expr × (Option Expr × (List Key × Paged)))))
behind_items = part Sources then behind_from
