-- How CALL is read, step by step.
use Rattle.std.proofs.Common.{◌≡◌, ◌∙◌, ap, List, Some, None}
use Rattle.pl_tree.specs.declared.tree.Argument.{Argument}
use Rattle.pl_tree.specs.declared.command.Command.{Command as CommandTree}
use Rattle.pl_grammar.specs.Marks.{Tokens, a_name}
use Rattle.pl_grammar.specs.Parser.{Outcome, Parser, and_then, with_rest, expect, take}
use Rattle.pl_grammar.specs.Words.{OPEN}
use Rattle.pl_expr_parse.specs.Grammar as x
use Rattle.pl_expr_parse.specs.Finished.{reads_front}
use Rattle.pl_sql_parse.specs.Grammar.{Call, Name}
use Rattle.pl_sql_parse.specs.FirstFollow.{reads_part}
use Rattle.pl_sql_parse.specs.Trees.{call_of}
use Rattle.pl_sql_parse.proofs.Step.{step}

abbrev made : Name × List Argument → Parser CommandTree
made p ts = with_rest (call_of p.0 p.1) ts

abbrev both : Name → List Argument → Parser (Name × List Argument)
both n arguments ts = Some ((n, arguments), ts)

abbrev inner : Unit {0} → Parser (List Argument)
inner u ts = reads_front x.Arguments ts

abbrev behind : Name → Parser (Name × List Argument)
behind n ts = and_then (and_then (expect OPEN ts) inner) (both n)

call_is : (ts : Tokens) → reads_part Call ts ≡ and_then (and_then (take a_name ts) behind) made
call_is ts = step Call ts

named : (ts mid : Tokens) (n : Name) → take a_name ts ≡ Some (n, mid) → reads_part Call ts ≡ and_then (and_then (and_then (expect OPEN mid) inner) (both n)) made
named ts mid n h = call_is ts ∙ ap (λ (o : Outcome Name). and_then (and_then o behind) made) h

pub no_bracket : (ts mid : Tokens) (n : Name) → take a_name ts ≡ Some (n, mid) → expect OPEN mid ≡ None → reads_part Call ts ≡ None
no_bracket ts mid n h k = named ts mid n h ∙ ap (λ (o : Outcome (Unit {0})). and_then (and_then (and_then o inner) (both n)) made) k

opened : (ts mid rest : Tokens) (n : Name) → take a_name ts ≡ Some (n, mid) → expect OPEN mid ≡ Some (tt, rest) → reads_part Call ts ≡ and_then (and_then (reads_front x.Arguments rest) (both n)) made
opened ts mid rest n h k = named ts mid n h ∙ ap (λ (o : Outcome (Unit {0})). and_then (and_then (and_then o inner) (both n)) made) k

pub no_arguments : (ts mid rest : Tokens) (n : Name) → take a_name ts ≡ Some (n, mid) → expect OPEN mid ≡ Some (tt, rest) → reads_front x.Arguments rest ≡ None → reads_part Call ts ≡ None
no_arguments ts mid rest n h k l = opened ts mid rest n h k ∙ ap (λ (o : Outcome (List Argument)). and_then (and_then o (both n)) made) l

pub called : (ts mid rest end : Tokens) (n : Name) (arguments : List Argument) → take a_name ts ≡ Some (n, mid) → expect OPEN mid ≡ Some (tt, rest) → reads_front x.Arguments rest ≡ Some (arguments, end)
    → reads_part Call ts ≡ with_rest (call_of n arguments) end
called ts mid rest end n arguments h k l = opened ts mid rest n h k ∙ ap (λ (o : Outcome (List Argument)). and_then (and_then o (both n)) made) l
