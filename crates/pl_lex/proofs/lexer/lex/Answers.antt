use Rattle.std.proofs.Common.{◌+◌, ◌++◌, length, arith, ap, sym, ◌∙◌, List, ℕ, length-drop}
use Rattle.std.proofs.lemmas.Bool.{eqb-true}
use Rattle.pl_lex.specs.Lexemes.{tokens_of, first_bad}
use Rattle.pl_lex.specs.Computed.{lexemes}
use Rattle.pl_lex.proofs.Whole.{empty, lex_fails, lex_ends, lex_only, lex_step, lex_good}
use Rattle.pl_lex.proofs.Placed.{lexemes_placed}
use Rattle.pl_lex.proofs.lexer.lex.Goals as goal

pub loop-rest-preserved : goal.loop-rest-preserved
loop-rest-preserved c =
    let at : ℕ = c.loop-rest.at + c.in-Ok.found.1 in
    record {
      tokens = ap (λ (t : List ℕ). c.keep.new.tokens.items ++ tokens_of (lexemes at t)) c.after-rest.ensures ∙ lex_step c.loop-rest.at c.in-Ok.ensures c.in-Ok-keep.ensures.kept ∙ c.loop-rest.invariant.tokens;
      good = ap (λ (t : List ℕ). first_bad (lexemes at t)) c.after-rest.ensures ∙ lex_good c.loop-rest.at c.in-Ok.ensures c.in-Ok-keep.ensures.kept.good ∙ c.loop-rest.invariant.good;
      place = rw c.after-rest.ensures (simp length-drop (omega (arith, c.loop-rest.invariant.place, c.in-Ok.ensures.within)));
    }

pub returns-in-Err-keep-clause-bad : goal.returns-in-Err-keep-clause-bad
returns-in-Err-keep-clause-bad c = lex_fails c.loop-rest.at c.args.text.now c.in-Err-keep.fail c.in-Ok.ensures c.loop-rest.invariant.good c.in-Err-keep.ensures.bad

pub returns-clause-found : goal.returns-clause-found
returns-clause-found c = lex_ends c.loop-rest.at c.loop-rest.rest.now c.args.text.now c.loop-rest.tokens.items (empty c.loop-rest.rest.now (eqb-true (length c.loop-rest.rest.now) 0 (sym c.is_empty.ensures ∙ c.loop-rest-test.false))) c.loop-rest.invariant.tokens c.loop-rest.invariant.good

pub returns-clause-only : goal.returns-clause-only
returns-clause-only c = λ other k. lex_only c.loop-rest.tokens.items other c.args.text.now (lex_ends c.loop-rest.at c.loop-rest.rest.now c.args.text.now c.loop-rest.tokens.items (empty c.loop-rest.rest.now (eqb-true (length c.loop-rest.rest.now) 0 (sym c.is_empty.ensures ∙ c.loop-rest-test.false))) c.loop-rest.invariant.tokens c.loop-rest.invariant.good) k

pub returns-clause-placed : goal.returns-clause-placed
returns-clause-placed c = lexemes_placed c.args.text.now c.loop-rest.tokens.items (returns-clause-found c)
