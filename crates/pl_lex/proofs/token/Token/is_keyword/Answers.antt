use Rattle.std.proofs.Common.{◌≡◌, ap, sym, ◌∙◌}
use denote.Enum.Bare.{same_true, true_same}
use Rattle.pl_lex.specs.contracts.keyword.Keyword.{the_type}
use Rattle.pl_lex.specs.declared.keyword.Keyword.{Keyword}
use Rattle.pl_lex.specs.declared.token.TokenKind.TheVariants as kind
use Rattle.pl_lex.proofs.token.Token.is_keyword.Goals as goal

same : (a b : Keyword) → kind.Keyword a ≡ kind.Keyword b → a ≡ b
same a b e = cc e

pub returns-in-Keyword : goal.returns-in-Keyword
returns-in-Keyword c = (
  λ h. c.in-Keyword.is ∙ ap (λ (k : Keyword). kind.Keyword k) (same_true the_type tt c.in-Keyword.found c.args.keyword (sym c.eq.ensures ∙ h)),
  λ e. c.eq.ensures ∙ true_same the_type c.in-Keyword.found c.args.keyword (same c.in-Keyword.found c.args.keyword (sym c.in-Keyword.is ∙ e)),
)
