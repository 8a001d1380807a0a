use Rattle.pl_define.proofs.Bodies.{is_body, is_refusal}
use Rattle.pl_define.proofs.laws.one_body_of_a_text.Goals as goal

pub returns-clause-body : goal.returns-clause-body
returns-clause-body c = is_body

pub returns-clause-refusal : goal.returns-clause-refusal
returns-clause-refusal c = is_refusal
