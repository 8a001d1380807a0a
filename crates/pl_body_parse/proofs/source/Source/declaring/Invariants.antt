use Rattle.std.proofs.Common.{◌≡◌, ◌-◌, ◌≤◌, [], drop, length}
use Rattle.pl_body_parse.specs.Computed.{behind, declaring}
use Rattle.pl_body_parse.proofs.source.Source.declaring.Given as goal

abbrev pub invariant-loop-turn : goal.invariant-loop-turn
invariant-loop-turn l = record {
  begun : l.at ≤ l.here;
  within : l.here ≤ length l.self.tokens.now;
  same : declaring l.self.text.now l.ordinal l.label (length (drop l.at l.self.tokens.now)) [] (drop l.at l.self.tokens.now)
      ≡ behind (l.here - l.at) (declaring l.self.text.now l.ordinal l.label (l._turn-end - l._turn) l.declarations (drop l.here l.self.tokens.now));
}
