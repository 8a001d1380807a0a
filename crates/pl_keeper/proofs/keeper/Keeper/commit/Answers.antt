use Rattle.std.proofs.Common.{◌≡◌, ◌∙◌, ap, Some, Result, Ok, Err}
use Rattle.std.specs.Prelude.{is_some, OnOk}
use Rattle.pl_codec.specs.Reading.{operations_of}
use Rattle.pl_disk.specs.Lent.{writes_weaker}
use Rattle.pl_keeper.specs.Store.{Committing}
use Rattle.pl_keeper.proofs.keeper.Keeper.commit.Goals as goal

pub commit_payload-requires-clause-spelling : goal.commit_payload-requires-clause-spelling
commit_payload-requires-clause-spelling g c = ap (λ o. is_some o) (ap operations_of c.as_slice.ensures ∙ c.in_ok-payload.ensures.read_back)

pub returns-clause-writes : goal.returns-clause-writes
returns-clause-writes g c =
    let a = g.D.Disk.view c.args.disk.now in
    let spelled : operations_of c.as_slice.result.now ≡ Some c.args.ops.now = ap operations_of c.as_slice.ensures ∙ c.in_ok-payload.ensures.read_back in
    writes_weaker a _ _ (Committing a c.args.self.now c.args.ops.now) c.commit_payload.ensures.writes (λ told i is. is c.args.ops.now spelled)

pub returns-clause-committed : goal.returns-clause-committed
returns-clause-committed g c told =
    let spelled : operations_of c.as_slice.result.now ≡ Some c.args.ops.now = ap operations_of c.as_slice.ensures ∙ c.in_ok-payload.ensures.read_back in
    on_ok c.commit_payload.result _ _ (λ done. done c.args.ops.now spelled) (c.commit_payload.ensures.committed told)
  where
    on_ok : {T E : Type 0} (r : Result T E) (P Q : Type 0) → (P → Q) → OnOk r P → OnOk r Q
    on_ok (Ok x) P Q on is = on is
    on_ok (Err e) P Q on is = tt
