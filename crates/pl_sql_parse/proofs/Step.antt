-- One step of the parser: a part is read by its rule.
use Rattle.std.proofs.Common.{◌≡◌, ◌∙◌, sym, subst, Result, None}
use Rattle.pl_grammar.specs.Marks.{Tokens}
use Rattle.pl_grammar.specs.declared.fail.Fail.{Fail}
use Rattle.pl_grammar.specs.declared.fail.Fail.TheVariants.{Syntax}
use Rattle.pl_grammar.specs.Parser.{Outcome, Reads}
use Rattle.pl_grammar.proofs.Same.{reads_is}
use Rattle.pl_sql_parse.specs.Grammar.{Part, Tree, rule}
use Rattle.pl_sql_parse.specs.FirstFollow.{first_follow, reads, reads_part}
use Rattle.pl_sql_parse.proofs.Fits.{all_ranked}

pub step : (p : Part) (ts : Tokens) → reads_part p ts ≡ reads (rule p) ts
unfolding reads_part
step p ts = reads_is rule first_follow all_ranked 0 p ts

pub gives : (p : Part) (ts : Tokens) (o : Outcome (Tree p)) → reads (rule p) ts ≡ o → reads_part p ts ≡ o
gives p ts o h = step p ts ∙ h

-- a function that reads what the rule of a part reads
pub reads_rule : (p : Part) (ts new : Tokens) (r : Result (Tree p) Fail) → Reads (reads (rule p) ts) r new → Reads (reads_part p ts) r new
reads_rule p ts new r h = subst (λ (o : Outcome (Tree p)). Reads o r new) (sym (step p ts)) h

-- and one that refuses what the rule refuses
pub refused : (p : Part) (ts : Tokens) (e : Fail) → (e ≡ Syntax → reads (rule p) ts ≡ None) → e ≡ Syntax → reads_part p ts ≡ None
refused p ts e h s = gives p ts None (h s)
