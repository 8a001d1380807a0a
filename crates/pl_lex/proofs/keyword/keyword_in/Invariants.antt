use Rattle.std.proofs.Common.{◌≡◌, length}
use Rattle.pl_lex.specs.Scan.{keyword_among}
use Rattle.pl_lex.proofs.keyword.keyword_in.Given as goal

abbrev pub invariant-loop-words : goal.invariant-loop-words
invariant-loop-words l = keyword_among l.words l.text ≡ keyword_among l.initial.words l.text

abbrev pub decreases-loop-words : goal.decreases-loop-words
decreases-loop-words l = length l.words
