use Rattle.std.proofs.Common.{◌+◌, ◌-◌}
use Rattle.pl_body_parse.proofs.Places.{placed_slice}
use Rattle.pl_body_parse.proofs.source.Source.defined.Goals as goal

pub source-requires : goal.source-requires
source-requires c =
    let s = c.args.self.now in
    record { placed = placed_slice s.text.now s.tokens.now c.args.at (c.args.at + c.args.taken - 1 - c.args.at) c.requires.placed }
