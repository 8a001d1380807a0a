use Rattle.pl_calling.proofs.Keeping.{sound_on}
use Rattle.pl_calling.proofs.calling.CallingCaller.call.Goals as goal
use Rattle.pl_engine.specs.pl_world.Scripts.{outward}
use Rattle.pl_engine.specs.Engines.{kept, stepped_in, world}

pub invariant_of-self : goal.invariant_of-self
invariant_of-self g c =
    let d = c.in-Ok-Return.ensures.is in
    sound_on g.B.Start.begin (world c.self.inside.engine) (world c.call_function.new.engine) g.B.Start.stays (kept c.self.inside.engine) (kept c.call_function.new.engine) (g.R.BodyRunner.runs c.self.inside.bodies.now c.self.inside.room) c.self.inside.held c.call_function.new.held (outward d.events) (stepped_in d.events) c.self.inside.room
    c.self.inside.is_lost c.if-self.false c.self.invariant d.told.took d.told.last d.told.spent c.in-Ok-Return.ensures.keeps

pub invariant_of-self-in-Ok-Fail : goal.invariant_of-self-in-Ok-Fail
invariant_of-self-in-Ok-Fail g c =
    let d = c.in-Ok-Fail.ensures.is in
    sound_on g.B.Start.begin (world c.self.inside.engine) (world c.call_function.new.engine) g.B.Start.stays (kept c.self.inside.engine) (kept c.call_function.new.engine) (g.R.BodyRunner.runs c.self.inside.bodies.now c.self.inside.room) c.self.inside.held c.call_function.new.held (outward d.events) (stepped_in d.events) c.self.inside.room
    c.self.inside.is_lost c.if-self.false c.self.invariant d.told.took d.told.last d.told.spent c.in-Ok-Fail.ensures.keeps

pub invariant_of-self-in-Ok-Next : goal.invariant_of-self-in-Ok-Next
invariant_of-self-in-Ok-Next g c =
    let d = c.in-Ok-Next.ensures.is in
    sound_on g.B.Start.begin (world c.self.inside.engine) (world c.call_function.new.engine) g.B.Start.stays (kept c.self.inside.engine) (kept c.call_function.new.engine) (g.R.BodyRunner.runs c.self.inside.bodies.now c.self.inside.room) c.self.inside.held c.call_function.new.held (outward d.events) (stepped_in d.events) c.self.inside.room
    c.self.inside.is_lost c.if-self.false c.self.invariant d.told.took d.told.last d.told.spent c.in-Ok-Next.ensures.keeps

pub invariant_of-self-in-Ok-Exit : goal.invariant_of-self-in-Ok-Exit
invariant_of-self-in-Ok-Exit g c =
    let d = c.in-Ok-Exit.ensures.is in
    sound_on g.B.Start.begin (world c.self.inside.engine) (world c.call_function.new.engine) g.B.Start.stays (kept c.self.inside.engine) (kept c.call_function.new.engine) (g.R.BodyRunner.runs c.self.inside.bodies.now c.self.inside.room) c.self.inside.held c.call_function.new.held (outward d.events) (stepped_in d.events) c.self.inside.room
    c.self.inside.is_lost c.if-self.false c.self.invariant d.told.took d.told.last d.told.spent c.in-Ok-Exit.ensures.keeps

pub invariant_of-self-in-Ok-Continue : goal.invariant_of-self-in-Ok-Continue
invariant_of-self-in-Ok-Continue g c =
    let d = c.in-Ok-Continue.ensures.is in
    sound_on g.B.Start.begin (world c.self.inside.engine) (world c.call_function.new.engine) g.B.Start.stays (kept c.self.inside.engine) (kept c.call_function.new.engine) (g.R.BodyRunner.runs c.self.inside.bodies.now c.self.inside.room) c.self.inside.held c.call_function.new.held (outward d.events) (stepped_in d.events) c.self.inside.room
    c.self.inside.is_lost c.if-self.false c.self.invariant d.told.took d.told.last d.told.spent c.in-Ok-Continue.ensures.keeps
