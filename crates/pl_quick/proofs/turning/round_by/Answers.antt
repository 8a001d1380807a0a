use Rattle.std.proofs.Common.{◌∙◌}
use Rattle.pl_engine.specs.Engines.{world}
use Rattle.pl_quick.proofs.Turns.{fits_within, only_between, over_engine}
use Rattle.pl_quick.proofs.turning.round_by.Goals as goal

pub returns : goal.returns
returns c =
    let w0 = world c.args.engine.now in
    let w1 = world c.take.new.engine in
    let w3 = world c.give.new.engine in
    record {
      turned = λ condition body fits.
          over_engine c.round_in-turned.result condition body w0 w1 w3 c.take.new.scratch c.round_in-turned.new.scratch c.take.ensures.is c.give.ensures.is (c.round_in-turned.ensures w1 condition body (fits_within c.args.round.now condition body w0 w1 c.take.new.scratch c.take.ensures.is fits));
      only = only_between w0 w1 w3 c.take.new.scratch c.round_in-turned.new.scratch c.take.ensures.is c.give.ensures.is;
      keeps = c.give.ensures.keeps ∙ c.take.ensures.keeps;
    }
