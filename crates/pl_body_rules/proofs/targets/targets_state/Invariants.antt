use Rattle.std.proofs.Common.{◌≡◌, ◌||◌, drop, is_none}
use Rattle.std.specs.List.{list_any}
use Rattle.pl_body_rules.specs.Frames.{variable_at}
use Rattle.pl_body_rules.specs.Simple.{is_constant}
use Rattle.pl_body_rules.proofs.targets.targets_state.Given as goal

abbrev pub invariant-loop-given : goal.invariant-loop-given
invariant-loop-given g l =
    (list_any (λ x. is_none (variable_at (g.G.Given.target_of x) l.frames)) l.list ≡ list_any (λ x. is_none (variable_at (g.G.Given.target_of x) l.frames)) (drop l.given-index l.list))
    × (list_any (λ x. is_constant (variable_at (g.G.Given.target_of x) l.frames)) l.list ≡ (l.has_constant || list_any (λ x. is_constant (variable_at (g.G.Given.target_of x) l.frames)) (drop l.given-index l.list)))
