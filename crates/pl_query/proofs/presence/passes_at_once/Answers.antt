use Rattle.std.proofs.Common.{◌∙◌, ap, refl, sym, Bool}
use Rattle.pl_query.proofs.Single.{truth_passes}
use Rattle.pl_value.specs.Frames.{rows_of}
use Rattle.pl_value.specs.Reading.{got}
use Rattle.pl_query.proofs.presence.passes_at_once.Goals as goal

pub returns : goal.returns
returns g c = record {
  condition = λ calls sub w.
      truth_passes calls sub c.args.bare.now.condition.now (rows_of c.args.frame.now) w c.in_ok-truth.truth (c.in_ok-truth.ensures calls sub w)
      ∙ ap (λ (b : Bool). got b w) (sym c.is_so.ensures);
  items = c.if-not-are_read.ensures refl;
}
