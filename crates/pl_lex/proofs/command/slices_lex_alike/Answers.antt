use Rattle.pl_lex.proofs.SliceLexemes.{slices_alike, slices_whole}
use Rattle.pl_lex.proofs.command.slices_lex_alike.Goals as goal

pub returns-clause-lexed : goal.returns-clause-lexed
returns-clause-lexed c = λ text from p before these after next is. slices_alike text from p before these after next is

pub returns-clause-whole : goal.returns-clause-whole
returns-clause-whole c = λ text from p before these after next is. slices_whole text from p before these after next is
