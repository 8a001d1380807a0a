use Rattle.std.proofs.Common.{rules, ◌≡◌, sym, ◌∙◌, None}
use Rattle.pl_keys.specs.Same.{place_of, same}
use Rattle.pl_keys.proofs.Marked.{unknown}
use Rattle.pl_keys.proofs.keys.Keys.find_or_add.Goals as goal

pub returns-in_ok-add_marked-in-None-clause-place : goal.returns-in_ok-add_marked-in-None-clause-place
returns-in_ok-add_marked-in-None-clause-place c = rw (← c.self.view_is) (sym (unknown c.args.row c.self.inside.rows.items c.mark_of-mark.result (search rules) (sym (c.self.invariant c.mark_of-mark.result) ∙ sym c.in-None.ensures)))

pub returns-in_ok-add_marked-in-None-clause-ok : goal.returns-in_ok-add_marked-in-None-clause-ok
returns-in_ok-add_marked-in-None-clause-ok c =
    let absent : place_of (same c.args.row) c.args.self.now ≡ None = rw (← c.self.view_is) (unknown c.args.row c.self.inside.rows.items c.mark_of-mark.result (search rules) (sym (c.self.invariant c.mark_of-mark.result) ∙ sym c.in-None.ensures)) in
    rw absent c.in_ok-add_marked-in-None.ensures.ok
