-- Each part is as other grammars are told.
use Rattle.std.proofs.Common.{suc, ◌++◌, length, length-append, arith}
use Rattle.pl_grammar.specs.Fit.{Lawful}
use Rattle.pl_grammar.proofs.Begins.{part_begun}
use Rattle.pl_grammar.proofs.Same.{reads_is}
use Rattle.pl_grammar.proofs.Sound.{sound_part}
use Rattle.pl_grammar.proofs.Theorem.{complete_any}
use Rattle.pl_expr_parse.specs.Grammar.{Part, rule}
use Rattle.pl_expr_parse.specs.FirstFollow.{first_follow, reads_part}
use Rattle.pl_expr_parse.specs.Finished.{finished, reads_front}
use Rattle.pl_expr_parse.proofs.Fits.{all_ranked}
use Rattle.pl_expr_parse.proofs.Told.{fit}

pub lawful : (p : Part) → Lawful (finished p)
unfolding reads_front reads_part
lawful p = record {
  sound = λ ts rest a h. let f = sound_part rule first_follow fit (suc (length ts)) p ts a rest h in (f.front, f.is, f.spells);
  complete = λ a front rest h end. let sizes = length-append front rest in complete_any rule first_follow fit (reads_is rule first_follow all_ranked) h.0 (suc (length (front ++ rest))) p a front rest h.1 (omega arith) end;
  begun = λ a front h. part_begun rule first_follow fit h.0 p a front h.1;
}
