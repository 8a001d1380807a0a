use Rattle.std.proofs.Common.{◌∙◌, ap, map}
use Rattle.std.proofs.lemmas.Option.{IfSome_then}
use Rattle.pl_resolved.specs.declared.expression.Combination.{Combination}
use Rattle.pl_value.specs.Combined.{combined}
use Rattle.pl_value.specs.Frames.{rows_of}
use Rattle.pl_value.specs.Meaning.{all_of, value}
use Rattle.pl_value.specs.Reading.{settled}
use Rattle.pl_value.proofs.truth.combined.Goals as goal

pub returns-in-In : goal.returns-in-In
returns-in-In g c = IfSome_then c.is_among.result c.is_among.ensures (λ t reads calls sub caller.
    ap (λ (k : Combination). all_of (λ vs w. settled (combined k vs) w) (map (value calls sub) c.args.operands.now) (rows_of c.args.frame.now) caller) c.in-In.is
    ∙ reads calls sub caller)

pub returns-in-Between : goal.returns-in-Between
returns-in-Between g c = IfSome_then c.lies_between.result c.lies_between.ensures (λ t reads calls sub caller.
    ap (λ (k : Combination). all_of (λ vs w. settled (combined k vs) w) (map (value calls sub) c.args.operands.now) (rows_of c.args.frame.now) caller) c.in-Between.is
    ∙ reads calls sub caller)
