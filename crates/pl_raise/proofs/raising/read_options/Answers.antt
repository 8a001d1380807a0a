use Rattle.std.proofs.Common.{◌∙◌, List, refl}
use Rattle.pl_bodies.specs.declared.simple.RaiseOption.{RaiseOption}
use Rattle.pl_asking.proofs.of_pl_engine.Joins.{lawful, start}
use Rattle.pl_asking.specs.pl_engine.Engines.{world}
use Rattle.pl_asking.specs.pl_engine.Texts.{do_bodies}
use Rattle.pl_raise.proofs.Found.{fits_there, refused_there, room_there}
use Rattle.pl_raise.proofs.Told.{options_cons, options_nil, each_end, each_off, each_on, each_stopped}
use Rattle.pl_raise.proofs.raising.read_options.Goals as goal
use Rattle.pl_world.specs.Raising.{Report, options_told}
use Rattle.pl_world.specs.Statements.{runner_for}

pub loop-option-init : goal.loop-option-init
loop-option-init g c =
    let law = lawful g.P.Port g.met.P.Port.none g.met.P.Port.joins g.met.P.Port.rises in
    let r = runner_for do_bodies c.args.calls.now.room in
    record {
      way = λ k. start law (options_told r c.args.at c.args.list.now c.args.first (world c.args.engine.now) k) c.args.engine.now c.args.port.now c.requires.fits;
      keeps = refl;
    }

pub returns-in_err-more-clause-is : goal.returns-in_err-more-clause-is
returns-in_err-more-clause-is g c =
    let law = lawful g.P.Port g.met.P.Port.none g.met.P.Port.joins g.met.P.Port.rises in
    let r = runner_for do_bodies c.args.calls.now.room in
    refused_there c.read_option.new.engine _ c.in_err-more.field-0.0 c.from_residual.ensures (each_stopped law (λ (os : List RaiseOption) (rep : Report) w. options_told r c.args.at os rep w) (options_cons r c.args.at) (options_nil r c.args.at) c.args.list.now _ c.loop-option.report c.loop-option.invariant.way _ c.loop-option-test.true c.option-item.is c.read_option.new.engine _ c.in_err-more.ensures.is)

pub returns-in-Err-clause-is : goal.returns-in-Err-clause-is
returns-in-Err-clause-is g c =
    let law = lawful g.P.Port g.met.P.Port.none g.met.P.Port.joins g.met.P.Port.rises in
    let r = runner_for do_bodies c.args.calls.now.room in
    each_off law (λ (os : List RaiseOption) (rep : Report) w. options_told r c.args.at os rep w) (options_cons r c.args.at) (options_nil r c.args.at) c.args.list.now _ c.loop-option.report c.loop-option.invariant.way _ c.loop-option-test.true c.option-item.is c.in_ok-more.more _ c.in_ok-more.ensures.is c.in-Err.is

pub loop-option-preserved : goal.loop-option-preserved
loop-option-preserved g c =
    let law = lawful g.P.Port g.met.P.Port.none g.met.P.Port.joins g.met.P.Port.rises in
    let r = runner_for do_bodies c.args.calls.now.room in
    record {
      way = each_on law (λ (os : List RaiseOption) (rep : Report) w. options_told r c.args.at os rep w) (options_cons r c.args.at) (options_nil r c.args.at) c.args.list.now _ c.loop-option.report c.loop-option.invariant.way _ c.loop-option-test.true c.option-item.is c.in_ok-more.more c.in-Ok.report c.in_ok-more.ensures.is c.in-Ok.is;
      keeps = c.in_ok-more.ensures.keeps ∙ c.loop-option.invariant.keeps;
    }

pub returns-clause-is : goal.returns-clause-is
returns-clause-is g c =
    let law = lawful g.P.Port g.met.P.Port.none g.met.P.Port.joins g.met.P.Port.rises in
    let r = runner_for do_bodies c.args.calls.now.room in
    each_end law (λ (os : List RaiseOption) (rep : Report) w. options_told r c.args.at os rep w) (options_cons r c.args.at) (options_nil r c.args.at) c.args.list.now _ c.loop-option.report c.loop-option.invariant.way c.loop-option-test.false

pub read_option-requires-clause-room : goal.read_option-requires-clause-room
read_option-requires-clause-room g c = room_there c.loop-option.invariant.way c.args.calls.now.room c.requires.room

pub read_option-requires-clause-fits : goal.read_option-requires-clause-fits
read_option-requires-clause-fits g c = fits_there c.loop-option.invariant.way
