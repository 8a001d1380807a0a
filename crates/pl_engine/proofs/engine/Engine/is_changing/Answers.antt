use Rattle.std.proofs.Common.{◌∙◌, List, Option, ap, reverse, sym}
use Rattle.std.specs.List.{list_any}
use Rattle.std.specs.Prelude.{bytes_eq}
use Rattle.pl_engine.proofs.Turned.{changing_turned}
use Rattle.pl_engine.proofs.engine.Engine.is_changing.Goals as goal
use Rattle.pl_world.specs.pl_names.Names.{Name}
use Rattle.pl_world.specs.Commands.{is_changing}

pub returns-in-Some : goal.returns-in-Some
returns-in-Some c =
    let tables = c.args.self.now.changing.items in
    c.is_among.ensures
    ∙ (ap (λ (names : List Name). list_any (λ (other : Name). bytes_eq other c.in-Some.table) names) c.as_slice.ensures.value
    ∙ (sym (changing_turned c.in-Some.table tables) ∙ ap (λ (t : Option Name). is_changing t (reverse tables)) (sym c.in-Some.is)))
