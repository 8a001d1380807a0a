use Rattle.pl_journal.proofs.Noted.{found_key, only_key}
use Rattle.pl_journal.proofs.by_key.found_by.Goals as goal

pub returns-in-Some : goal.returns-in-Some
returns-in-Some c = record {
  columns = c.args.columns.now;
  parts = c.in-Some.parts.items;
  key = found_key _ _ c.in-Some.parts _ c.in_ok-parts.ensures c.in-Some.is;
  only = only_key c.find_key.result c.args.rows.now.current c.args.number c.args.columns.now c.as_slice.result.now c.in-Some.parts.items c.requires c.as_slice.ensures.value c.find_key.ensures;
}
