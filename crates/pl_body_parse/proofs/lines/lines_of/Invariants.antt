use Rattle.std.proofs.Common.{◌≡◌, drop, map, take}
use Rattle.pl_lex.specs.declared.token.Token.{Token}
use Rattle.pl_body_parse.proofs.LinesAhead.{Ahead}
use Rattle.pl_body_parse.specs.Spells.{line_at}
use Rattle.pl_body_parse.proofs.lines.lines_of.Given as goal

abbrev pub invariant-loop-token : goal.invariant-loop-token
invariant-loop-token l = record {
  counted : l.line ≡ line_at l.text l.at;
  made : l.lines ≡ map (λ (t : Token). line_at l.text t.start) (take l.token-index l.tokens);
  ahead : Ahead l.text l.at (drop l.token-index l.tokens);
}
