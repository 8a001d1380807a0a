use Rattle.std.proofs.Common.{◌∙◌, List, [], ap, refl, sym}
use Rattle.pl_asking.proofs.of_pl_engine.Joins.{becomes, lawful, start}
use Rattle.pl_asking.specs.pl_engine.Engines.{world}
use Rattle.pl_asking.specs.pl_engine.Texts.{do_bodies}
use Rattle.pl_raise.proofs.Found.{fits_there, refused_there, room_there}
use Rattle.pl_raise.proofs.Told.{arguments_cons, arguments_nil, each_end, each_off, each_on, each_stopped}
use Rattle.pl_raise.proofs.raising.read_arguments.Goals as goal
use Rattle.pl_tree.specs.declared.tree.Expr.{Expr}
use Rattle.pl_world.specs.Raising.{Text, arguments_told}
use Rattle.pl_world.specs.Statements.{runner_for}

pub loop-e-init : goal.loop-e-init
loop-e-init g c =
    let law = lawful g.P.Port g.met.P.Port.none g.met.P.Port.joins g.met.P.Port.rises in
    let r = runner_for do_bodies c.args.calls.now.room in
    record {
      way = λ k. becomes law (start law (arguments_told r c.args.at c.args.list.now [] (world c.args.engine.now) k) c.args.engine.now c.args.port.now c.requires.fits)
          (ap (λ (ts : List Text). arguments_told r c.args.at c.args.list.now ts (world c.args.engine.now) k) (sym c.new-texts.ensures));
      keeps = refl;
    }

pub returns-in_err-more-clause-is : goal.returns-in_err-more-clause-is
returns-in_err-more-clause-is g c =
    let law = lawful g.P.Port g.met.P.Port.none g.met.P.Port.joins g.met.P.Port.rises in
    let r = runner_for do_bodies c.args.calls.now.room in
    refused_there c.read_argument.new.engine _ c.in_err-more.field-0.0 c.from_residual.ensures (each_stopped law (λ (es : List Expr) (ts : List Text) w. arguments_told r c.args.at es ts w) (arguments_cons r c.args.at) (arguments_nil r c.args.at) c.args.list.now _ c.loop-e.texts c.loop-e.invariant.way _ c.loop-e-test.true c.e-item.is c.read_argument.new.engine _ c.in_err-more.ensures.is)

pub returns-in-Err-clause-is : goal.returns-in-Err-clause-is
returns-in-Err-clause-is g c =
    let law = lawful g.P.Port g.met.P.Port.none g.met.P.Port.joins g.met.P.Port.rises in
    let r = runner_for do_bodies c.args.calls.now.room in
    each_off law (λ (es : List Expr) (ts : List Text) w. arguments_told r c.args.at es ts w) (arguments_cons r c.args.at) (arguments_nil r c.args.at) c.args.list.now _ c.loop-e.texts c.loop-e.invariant.way _ c.loop-e-test.true c.e-item.is c.in_ok-more.more _ c.in_ok-more.ensures.is c.in-Err.is

pub loop-e-preserved : goal.loop-e-preserved
loop-e-preserved g c =
    let law = lawful g.P.Port g.met.P.Port.none g.met.P.Port.joins g.met.P.Port.rises in
    let r = runner_for do_bodies c.args.calls.now.room in
    record {
      way = each_on law (λ (es : List Expr) (ts : List Text) w. arguments_told r c.args.at es ts w) (arguments_cons r c.args.at) (arguments_nil r c.args.at) c.args.list.now _ c.loop-e.texts c.loop-e.invariant.way _ c.loop-e-test.true c.e-item.is c.in_ok-more.more c.in-Ok.texts c.in_ok-more.ensures.is c.in-Ok.is;
      keeps = c.in_ok-more.ensures.keeps ∙ c.loop-e.invariant.keeps;
    }

pub returns-clause-is : goal.returns-clause-is
returns-clause-is g c =
    let law = lawful g.P.Port g.met.P.Port.none g.met.P.Port.joins g.met.P.Port.rises in
    let r = runner_for do_bodies c.args.calls.now.room in
    each_end law (λ (es : List Expr) (ts : List Text) w. arguments_told r c.args.at es ts w) (arguments_cons r c.args.at) (arguments_nil r c.args.at) c.args.list.now _ c.loop-e.texts c.loop-e.invariant.way c.loop-e-test.false

pub read_argument-requires-clause-room : goal.read_argument-requires-clause-room
read_argument-requires-clause-room g c = room_there c.loop-e.invariant.way c.args.calls.now.room c.requires.room

pub read_argument-requires-clause-fits : goal.read_argument-requires-clause-fits
read_argument-requires-clause-fits g c = fits_there c.loop-e.invariant.way
