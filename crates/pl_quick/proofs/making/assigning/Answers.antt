use Rattle.pl_quick.proofs.making.assigning.Goals as goal

pub returns-clause-assigns : goal.returns-clause-assigns
returns-clause-assigns c = record {
  is_required = c.in_ok-place.ensures.0;
  aims = c.in_ok-place.ensures.1;
  reads = c.in_ok-value.ensures.reads;
}
