-- One step of the parser: a part is read by its rule.
use Rattle.std.proofs.Common.{◌≡◌, ℕ, ◌∙◌, ap, sym, subst, Result, Bool, true, false, if◌then◌else◌}
use Rattle.pl_grammar.specs.Marks.{Tokens}
use Rattle.pl_grammar.specs.Parser.{Outcome, Parser, Reads}
use Rattle.pl_grammar.specs.declared.fail.Fail.{Fail}
use Rattle.pl_grammar.proofs.Same.{reads_is}
use Rattle.pl_expr_parse.specs.Grammar.{Part, Tree, rule}
use Rattle.pl_expr_parse.specs.FirstFollow.{first_follow, reads, reads_part, reads_inside}
use Rattle.pl_expr_parse.proofs.Fits.{all_ranked}

pub step : (d : ℕ) (p : Part) (ts : Tokens) → reads_part d p ts ≡ reads d (rule p) ts
unfolding reads_part reads_inside
step d p ts = reads_is rule first_follow all_ranked d p ts

pub gives : (d : ℕ) (p : Part) (ts : Tokens) (o : Outcome (Tree p)) → reads d (rule p) ts ≡ o → reads_part d p ts ≡ o
gives d p ts o h = step d p ts ∙ h

-- where the rule's own reading is the result
pub gives_all : (d : ℕ) (p : Part) (ts : Tokens) (r : Result (Tree p) Fail) (new : Tokens) → Reads (reads d (rule p) ts) r new → Reads (reads_part d p ts) r new
gives_all d p ts r new h = subst (λ (o : Outcome (Tree p)). Reads o r new) (sym (step d p ts)) h

-- where a rule looks ahead
pub then_reads : {A : Type 0} (b : Bool) (p q : Parser A) (ts : Tokens) (o : Outcome A) → b ≡ true → p ts ≡ o → (if b then p else q) ts ≡ o
then_reads b p q ts o h k = ap (λ (b : Bool). (if b then p else q) ts) h ∙ k

pub else_reads : {A : Type 0} (b : Bool) (p q : Parser A) (ts : Tokens) (o : Outcome A) → b ≡ false → q ts ≡ o → (if b then p else q) ts ≡ o
else_reads b p q ts o h k = ap (λ (b : Bool). (if b then p else q) ts) h ∙ k
