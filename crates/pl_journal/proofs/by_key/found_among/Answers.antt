use Rattle.std.proofs.Common.{◌∙◌, sym, ap, ℕ, List, drop, slice_get, arith}
use Rattle.pl_journal.proofs.Noted.{with_key, without_key}
use Rattle.pl_undo.specs.Database.{keys_in}
use Rattle.pl_journal.proofs.by_key.found_among.Goals as goal
use Rattle.pl_journal.proofs.by_key.found_among.Goals.{in-Some+in_ok-found-in-Some+in-All, in-None}

pub found_by-requires : goal.found_by-requires
found_by-requires c =
    ap (λ (keys : List (List ℕ)). slice_get keys c.loop-rule.number) c.requires
    ∙ (with_key (keys_in c.args.rules.now) c.loop-rule.number c.args.rules.now c.loop-rule.rule-index c.rule-item.result c.in-Some.columns.now c.loop-rule-test.true c.rule-item.is c.loop-rule.invariant.rest (sym c.in-Some.ensures)).0

pub loop-rule-preserved : goal.loop-rule-preserved
loop-rule-preserved c =
    let rules = c.args.rules.now in
    let was = c.loop-rule.invariant in
    elim c.match-columns_of.branch [
      | in-Some+in_ok-found-in-Some+in-All w ↦
          (let next = with_key (keys_in rules) c.loop-rule.number rules c.loop-rule.rule-index c.rule-item.result w.in-Some.columns.now c.loop-rule-test.true c.rule-item.is was.rest (sym w.in-Some.ensures) in
          record { rest = ap (λ (n : ℕ). drop n (keys_in rules)) w.number-is ∙ next.1; within = omega (arith, w.number-is, was.within) })
      | in-None w ↦
          record {
            rest = ap (λ (n : ℕ). drop n (keys_in rules)) w.number-is ∙ without_key (keys_in rules) c.loop-rule.number rules c.loop-rule.rule-index c.rule-item.result c.loop-rule-test.true c.rule-item.is was.rest (sym w.in-None.ensures);
            within = omega (arith, w.number-is, was.within);
          }
    ]
