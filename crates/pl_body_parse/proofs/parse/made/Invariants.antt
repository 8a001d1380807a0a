use Rattle.std.proofs.Common.{◌≡◌, ◌-◌, ◌≤◌, drop, length}
use Rattle.pl_body_items.specs.Steps.{start}
use Rattle.pl_body_parse.specs.Computed.{read_from}
use Rattle.pl_body_parse.proofs.parse.made.Given as goal

abbrev pub invariant-loop-turn : goal.invariant-loop-turn
invariant-loop-turn l = record {
  within : l.at ≤ length l.source.tokens.now;
  few : l.ordinal ≤ l._turn;
  same : read_from l.source.text.now (length l.source.tokens.now) start 0 l.source.tokens.now
      ≡ read_from l.source.text.now (l._turn-end - l._turn) l.making l.ordinal (drop l.at l.source.tokens.now);
}
