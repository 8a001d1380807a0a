use Rattle.pl_grammar.specs.declared.fail.Fail.TheVariants.{Syntax}
use Rattle.std.proofs.Common.{Some, Ok, Err, rules, ap, ◌∙◌, ◌≡◌, None}
use Rattle.pl_grammar.specs.Words.{END}
use Rattle.pl_expr_parse.specs.Grammar.{Arm, Arms, Whens, Otherwise, rule}
use Rattle.pl_expr_parse.specs.FirstFollow.{reads, reads_part}
use Rattle.pl_expr_parse.specs.Follows.{before}
use Rattle.pl_expr_parse.proofs.Step.{gives_all}
use Rattle.pl_expr_parse.proofs.Follows.{as_is, given, follows, two, before_paired}
use Rattle.pl_expr_parse.proofs.grammar.Grammar.arms.Goals as goal

pub returns-in_err-arms : goal.returns-in_err-arms
returns-in_err-arms g c =
    let d = c.args.self.now.depth in
    let ts = c.args.tokens.now in
    let err = c.in_err-arms.field-0.0 in
    let none : c.in_err-arms.field-0.0 ≡ Syntax → reads_part d Arms ts ≡ None =
    gives_all d Arms ts (Err err) c.list.new.tokens
    (λ is. ap (λ o. before END (two o (reads_part d Otherwise)))
    (gives_all d Whens ts (Err err) c.list.new.tokens (c.in_err-arms.ensures (reads_part d Arm) (record { reads = λ old new r h. search rules })) is)) in
    search rules

pub returns : goal.returns
returns g c =
    let d = c.args.self.now.depth in
    let ts = c.args.tokens.now in
    let mid = c.list.new.tokens in
    let new = c.until-otherwise.new.tokens in
    let arms = c.in_ok-arms.arms in
    let otherwise = reads_part d Otherwise in
    let whens = gives_all d Whens ts (Ok arms) mid (c.in_ok-arms.ensures (reads_part d Arm) (record { reads = λ old new r h. search rules })) in
    let then_ = gives_all d Otherwise mid c.optional-otherwise.result c.optional-otherwise.new.tokens c.optional-otherwise.ensures in
    gives_all d Arms ts c.paired.result new
    (as_is (reads d (rule Arms) ts) (given (λ x. Some (arms, x)) (before END (otherwise mid))) c.paired.result new
    (ap (λ o. before END (two o otherwise)) whens ∙ before_paired END arms (otherwise mid))
    (follows (λ x. Some (arms, x)) (before END (otherwise mid)) c.until-otherwise.result c.paired.result new (c.until-otherwise.ensures (otherwise mid) then_) c.paired.ensures))
