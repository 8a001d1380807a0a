use Rattle.std.proofs.Common.{◌∙◌, sym, subst, length, drop}
use Rattle.pl_grammar.specs.Parser.{Makes}
use Rattle.pl_body_items.specs.declared.items.Item.{Item}
use Rattle.pl_body_parse.specs.Computed.{Taken}
use Rattle.pl_body_parse.proofs.Tables.{blocked_rest, plain_within}
use Rattle.pl_body_parse.proofs.source.Source.blocked.Goals as goal

pub returns-in_default : goal.returns-in_default
returns-in_default c =
    let s = c.args.self.now in
    let same = blocked_rest s.text.now c.args.ordinal c.args.label c.args.piece c.args.taken (drop c.args.at s.tokens.now) c.spot-in_default.result c.spot-in_default.ensures (λ e. c.in_default.not-Begin (c.get.ensures ∙ e)) (λ e. c.in_default.not-Declare (c.get.ensures ∙ e)) in
    record {
      is = subst (λ (o : Taken Item). Makes o c.plain.result) (sym same) c.plain.ensures;
      within = plain_within c.spot-in_default.result c.args.label c.args.piece c.args.taken c.args.at (length s.tokens.now) c.plain.result c.plain.ensures c.requires.held;
    }
