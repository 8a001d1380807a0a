-- What stands inside, of each kind, one depth further in.
use Rattle.std.proofs.Common.{◌≡◌, ℕ, ◌<◌, ◌-◌, ◌∙◌, Some, None, ap}
use Rattle.pl_grammar.specs.Marks.{Tokens}
use Rattle.pl_grammar.specs.Parser.{Outcome, and_then}
use Rattle.pl_grammar.specs.Rule.{read_inside}
use Rattle.pl_grammar.proofs.Same.{inside_is}
use Rattle.pl_grammar.proofs.Turns.{deeper}
use Rattle.pl_expr_parse.specs.declared.parts.Kind.{Kind}
use Rattle.pl_expr_parse.specs.declared.parts.Kind.TheVariants as k
use Rattle.pl_expr_parse.specs.declared.parts.Inside.{Inside}
use Rattle.pl_expr_parse.specs.declared.parts.Inside.TheVariants as i
use Rattle.pl_expr_parse.specs.Grammar.{Part, Tree, Expression, Query, From, rule}
use Rattle.pl_expr_parse.specs.FirstFollow.{first_follow, reads_inside, reads_part}
use Rattle.pl_expr_parse.specs.Nests.{reads_kind}

at_none : (n : ℕ) (p : Part) (ts : Tokens) → n ≡ 0 → reads_inside n p ts ≡ None
unfolding reads_inside read_inside
at_none n p ts e = ap (λ n. reads_inside n p ts) e

pub at_some : (n : ℕ) (p : Part) (ts : Tokens) → 0 < n → reads_inside n p ts ≡ reads_part (n - 1) p ts
unfolding reads_inside reads_part
at_some n p ts some = deeper (λ n. reads_inside n p ts) n some ∙ inside_is rule first_follow (n - 1) p ts

abbrev as_kind : {A : Type 0} → (A → Inside) → Outcome A → Outcome Inside
as_kind f o = and_then o (λ x ts. Some (f x, ts))

-- no depth is left
pub kind_zero : (n : ℕ) (kind : Kind) (ts : Tokens) → n ≡ 0 → reads_kind n kind ts ≡ None
kind_zero n k.Expression ts e = ap (as_kind i.Expression) (at_none n Expression ts e)
kind_zero n k.Query ts e = ap (as_kind i.Query) (at_none n Query ts e)
kind_zero n k.Source ts e = ap (as_kind i.Source) (at_none n From ts e)

pub expression_reads : (n : ℕ) (kind : Kind) (ts : Tokens) (o : Outcome (Tree Expression)) → 0 < n → kind ≡ k.Expression → reads_part (n - 1) Expression ts ≡ o → reads_kind n kind ts ≡ as_kind i.Expression o
expression_reads n kind ts o some is e = ap (λ (kind : Kind). reads_kind n kind ts) is ∙ ap (as_kind i.Expression) (at_some n Expression ts some ∙ e)

pub query_reads : (n : ℕ) (kind : Kind) (ts : Tokens) (o : Outcome (Tree Query)) → 0 < n → kind ≡ k.Query → reads_part (n - 1) Query ts ≡ o → reads_kind n kind ts ≡ as_kind i.Query o
query_reads n kind ts o some is e = ap (λ (kind : Kind). reads_kind n kind ts) is ∙ ap (as_kind i.Query) (at_some n Query ts some ∙ e)

pub source_reads : (n : ℕ) (kind : Kind) (ts : Tokens) (o : Outcome (Tree From)) → 0 < n → kind ≡ k.Source → reads_part (n - 1) From ts ≡ o → reads_kind n kind ts ≡ as_kind i.Source o
source_reads n kind ts o some is e = ap (λ (kind : Kind). reads_kind n kind ts) is ∙ ap (as_kind i.Source) (at_some n From ts some ∙ e)
