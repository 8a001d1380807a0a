use Rattle.std.proofs.Common.{◌∙◌, sym}
use Rattle.pl_define.proofs.Texts.{is_utf8_text}
use Rattle.pl_define.proofs.body.read.Goals as goal

pub unreachable-requires : goal.unreachable-requires
unreachable-requires c =
    let h = c.in-Err.ensures.exactly.1 (is_utf8_text c.args.text.now (sym c.is_body_text.ensures ∙ c.if-not-is_body_text.false)) in
    cc
