use Rattle.std.proofs.Common.{◌++◌, ◌∷◌, List, [], ap, sym}
use Rattle.pl_altering.proofs.Over.{got_over}
use Rattle.pl_altering.proofs.showing.add_shown.Goals as goal
use Rattle.pl_value.specs.Frames.{Row}
use Rattle.pl_value.specs.Reading.{got}
use Rattle.pl_world.specs.Calls.{Within}

pub returns : goal.returns
returns c = λ command s. got_over command {A = List Row} (λ (x : Within). got (c.args.rows ++ c.args.shown ∷ []) x) c.push.new.self s (λ x. ap (λ (made : List Row). got made x) (sym c.in_ok-push.ensures))
