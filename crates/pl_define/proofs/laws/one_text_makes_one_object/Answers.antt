use Rattle.pl_define.proofs.Done.{added_alike, added_text, replacing_alike, replacing_text}
use Rattle.pl_define.proofs.laws.one_text_makes_one_object.Goals as goal

pub returns-clause-text : goal.returns-clause-text
returns-clause-text c = added_text

pub returns-clause-alike : goal.returns-clause-alike
returns-clause-alike c = added_alike

pub returns-clause-replacing_text : goal.returns-clause-replacing_text
returns-clause-replacing_text c = replacing_text

pub returns-clause-replacing_alike : goal.returns-clause-replacing_alike
returns-clause-replacing_alike c = replacing_alike
