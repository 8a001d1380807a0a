-- Each part is as other grammars are told.
use Rattle.std.proofs.Common.{◌∙◌, sym, suc, refl, ◌++◌, length, length-append, arith}
use Rattle.pl_grammar.specs.Fit.{Lawful}
use Rattle.pl_grammar.proofs.Begins.{part_begun}
use Rattle.pl_grammar.proofs.Same.{reads_is}
use Rattle.pl_grammar.proofs.Sound.{sound_part}
use Rattle.pl_grammar.proofs.Theorem.{complete_inside}
use Rattle.pl_sql_parse.specs.Grammar.{Part, rule}
use Rattle.pl_sql_parse.specs.FirstFollow.{first_follow, reads_part}
use Rattle.pl_sql_parse.specs.Finished.{finished}
use Rattle.pl_sql_parse.proofs.Fits.{all_ranked}
use Rattle.pl_sql_parse.proofs.Theorem.{at_depth}
use Rattle.pl_sql_parse.proofs.Told.{fit}

pub lawful : (p : Part) → Lawful (finished p)
unfolding reads_part
lawful p = record {
  sound = λ ts rest a h. let f = sound_part rule first_follow fit 0 p ts a rest h in (f.front, f.is, f.spells);
  complete = λ a front rest h end.
      let n = length (front ++ rest) in
      let sizes = length-append front rest in
      sym (at_depth n p (front ++ rest)) ∙ complete_inside rule first_follow fit (reads_is rule first_follow all_ranked) h.0 (suc n) p refl a front rest h.1 (omega arith) end;
  begun = λ a front h. part_begun rule first_follow fit h.0 p a front h.1;
}
