use Rattle.std.proofs.Common.{rules}
use Rattle.pl_sql_parse.proofs.changes.assigned.Goals as goal

pub returns-in-Err : goal.returns-in-Err
returns-in-Err c = search rules

pub returns-in-Err-new_value : goal.returns-in-Err-new_value
returns-in-Err-new_value c = search rules

pub returns-in-Err-more_assignments : goal.returns-in-Err-more_assignments
returns-in-Err-more_assignments c = search rules

pub returns : goal.returns
returns c = search rules
