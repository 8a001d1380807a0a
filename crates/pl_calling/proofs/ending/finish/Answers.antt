use Rattle.std.proofs.Common.{List, Ok, refl, subst, sym, ℕ}
use Rattle.pl_calling.proofs.Telling.{cut_short, finished}
use Rattle.pl_calling.proofs.ending.finish.Goals as goal
use Rattle.pl_engine.specs.Engines.{world}
use Rattle.pl_calling.specs.Ends.{CutIn, Tells}
use Rattle.pl_engine.specs.Holding.{said}
use Rattle.pl_calling.specs.Standing.{Standing, keep, standing}
use Rattle.pl_natural.specs.Kept.{ReadsKept}

pub returns-in-Ok-tell-clause-is : goal.returns-in-Ok-tell-clause-is
returns-in-Ok-tell-clause-is g c = λ reading room old is fits reads.
    let s : Standing = standing g.B.Start.begin (world c.calling.inside.engine) c.calling.inside.held c.calling.inside.failure c.calling.inside.at c.calling.inside.room in
    let reads' = subst (λ (t : Standing). ReadsKept (keep c.args.at room) reading c.args.answer t) (sym c.calling.view_is) reads in
    let ends = c.in-Ok.ensures reading room s refl refl reads' in
    let tells = subst (λ (ps : List (List ℕ)). Tells g.P.Port g.B.Start.begin.last (Ok tt) (said ps) c.args.port.now c.tell.new.port) c.pieces.ensures (c.in-Ok-tell.ensures g.B.Start.begin.last fits) in
    finished g.B.Start.begin c.args.at reading c.calling.inside.engine old c.calling.inside.held c.calling.inside.failure c.calling.inside.at c.calling.inside.room is (c.calling.invariant.last c.if-is_lost.false) (c.calling.invariant.steps c.if-is_lost.false) ends tells

pub returns-in-Ok-clause-is : goal.returns-in-Ok-clause-is
returns-in-Ok-clause-is g c = λ reading room old is fits reads.
    let s : Standing = standing g.B.Start.begin (world c.calling.inside.engine) c.calling.inside.held c.calling.inside.failure c.calling.inside.at c.calling.inside.room in
    let reads' = subst (λ (t : Standing). ReadsKept (keep c.args.at room) reading c.args.answer t) (sym c.calling.view_is) reads in
    let ends = c.in-Ok.ensures reading room s refl refl reads' in
    let tells = subst (λ (ps : List (List ℕ)). CutIn g.P.Port g.B.Start.begin.last c.in-Err-tell.stop (said ps) c.args.port.now c.tell.new.port) c.pieces.ensures (c.in-Err-tell.ensures g.B.Start.begin.last fits) in
    cut_short g.B.Start.begin c.args.at reading c.calling.inside.engine old c.calling.inside.held c.calling.inside.failure c.calling.inside.at c.calling.inside.room is c.in-Err-tell.stop ends tells
