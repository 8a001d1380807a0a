use Rattle.std.proofs.Common.{◌≡◌, inr, inl, sym, subst, ℕ, List, slice_get, Some}
use Rattle.pl_base.specs.declared.value.Value.{Value}
use Rattle.pl_journal.proofs.Noted.{front, with_one}
use Rattle.pl_journal.specs.ByKey.{Begins}
use Rattle.pl_resolved.specs.declared.expression.RExpr.{RExpr}
use Rattle.pl_value.specs.Frames.{rows_of}
use Rattle.pl_journal.proofs.by_key.note_all.Goals as goal

pub loop-part-preserved : goal.loop-part-preserved
loop-part-preserved c =
    let a = rows_of c.args.around.now in
    let columns = c.args.columns.now in
    let parts = c.args.parts.now in
    let q = c.in-Some.equality in
    let was = c.loop-part.invariant in
    let is = front parts c.loop-part.part-index c.part-item.result c.loop-part-test.true c.part-item.is in
    record {
      front = λ d u later. was.front d u (subst (λ (list : List RExpr). Begins a columns d u list) (sym is) (inr (q.column, q.value.now, c.in-Some.ensures, later)));
      noted = with_one (λ (d : ℕ) (u : Value). Begins a columns d u parts) (λ (d : ℕ) (u : Value). slice_get c.args.asked.now.items d ≡ Some u)
          c.loop-part.asked.items q.column q.value.now c.note.new.asked.items c.in_ok-note.ensures
          (was.front q.column q.value.now (subst (λ (list : List RExpr). Begins a columns q.column q.value.now list) (sym is) (inl c.in-Some.ensures))) was.noted;
    }
