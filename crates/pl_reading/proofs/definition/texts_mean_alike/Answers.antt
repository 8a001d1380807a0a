use Rattle.pl_reading.proofs.OwnTexts.{means_alike}
use Rattle.pl_reading.proofs.definition.texts_mean_alike.Goals as goal

pub returns : goal.returns
returns c = record { is = λ text from piece x source next read. means_alike text from piece x source next read }
