use Rattle.std.proofs.Common.{ℕ, ◌+◌, ◌++◌, ◌&&◌, length, drop, length-drop, List, Some, ap, sym, ◌∙◌, arith, true, Bool}
use Rattle.std.proofs.lemmas.Bool.{eqb-true}
use Rattle.pl_lex.specs.Lexemes.{Lexeme, tokens_of, first_bad, before_semicolon, command_end, all_skipped, piece}
use Rattle.pl_lex.specs.Steps.{or_else}
use Rattle.pl_lex.specs.Computed.{lexemes}
use Rattle.pl_lex.proofs.Whole.{empty, lexemes_nil}
use Rattle.pl_lex.proofs.Commands.{more_tokens, more_bad, more_end, more_blank, none_before, ends_here, not_blank, cut_some, cut_none}
use Rattle.pl_lex.proofs.Placed.{next_placed}
use Rattle.pl_lex.proofs.command.cut.Goals as goal

pub loop-rest-preserved : goal.loop-rest-preserved
loop-rest-preserved c =
    let at : ℕ = c.loop-rest.at + c.in-Ok.found.1 in
    let no = sym c.is_semicolon.ensures ∙ c.if-is_semicolon.false in
    let rest = c.after-rest-in-loop-rest.ensures in
    record {
      tokens = ap (λ (t : List ℕ). c.gather.new.self.tokens ++ tokens_of (before_semicolon (lexemes at t))) rest ∙ more_tokens c.loop-rest.at c.in-Ok.ensures no c.in-Ok-gather.ensures ∙ c.loop-rest.invariant.tokens;
      bad = ap (λ (t : List ℕ). or_else c.gather.new.self.bad (first_bad (before_semicolon (lexemes at t)))) rest ∙ more_bad c.loop-rest.at c.in-Ok.ensures no c.in-Ok-gather.ensures ∙ c.loop-rest.invariant.bad;
      ends = ap (λ (t : List ℕ). command_end (length c.args.text.now) (lexemes at t)) rest ∙ more_end c.loop-rest.at c.in-Ok.ensures (length c.args.text.now) no ∙ c.loop-rest.invariant.ends;
      blank = ap (λ (t : List ℕ). c.stays_blank-blank.result && all_skipped (lexemes at t)) rest ∙ ap (λ (b : Bool). b && all_skipped (lexemes at (drop c.in-Ok.found.1 c.loop-rest.rest.now))) c.stays_blank-blank.ensures ∙ more_blank c.loop-rest.at c.in-Ok.ensures c.loop-rest.blank ∙ c.loop-rest.invariant.blank;
      place = rw rest (simp length-drop (omega (arith, c.loop-rest.invariant.place, c.in-Ok.ensures.within)));
    }

pub returns-then-is_semicolon-clause-next : goal.returns-then-is_semicolon-clause-next
returns-then-is_semicolon-clause-next c =
    let yes = sym c.is_semicolon.ensures ∙ c.if-is_semicolon.true in
    cut_some c.args.text.now c.args.from 0 c.loop-rest.at c.loop-rest.gathering.tokens c.loop-rest.gathering.bad (before_semicolon (lexemes c.loop-rest.at c.loop-rest.rest.now)) c.piece.result
    (none_before c.loop-rest.at c.in-Ok.ensures yes) c.loop-rest.invariant.tokens c.loop-rest.invariant.bad
    (sym (ends_here c.loop-rest.at c.in-Ok.ensures (length c.args.text.now) yes) ∙ c.loop-rest.invariant.ends)
    (sym c.loop-rest.invariant.blank ∙ not_blank c.loop-rest.at c.in-Ok.ensures c.loop-rest.blank yes) c.piece.ensures

pub returns-then-blank-clause-next : goal.returns-then-blank-clause-next
returns-then-blank-clause-next c =
    let none = empty c.loop-rest.rest.now (eqb-true (length c.loop-rest.rest.now) 0 (sym c.is_empty.ensures ∙ c.loop-rest-test.false)) in
    let all = ap (λ (t : List ℕ). lexemes c.loop-rest.at t) none ∙ lexemes_nil c.loop-rest.at in
    cut_none c.args.text.now c.args.from (sym c.loop-rest.invariant.blank ∙ ap (λ (xs : List Lexeme). c.loop-rest.blank && all_skipped xs) all ∙ ap (λ (b : Bool). b && true) c.if-blank.true)

pub returns-clause-next : goal.returns-clause-next
returns-clause-next c =
    let none = empty c.loop-rest.rest.now (eqb-true (length c.loop-rest.rest.now) 0 (sym c.is_empty.ensures ∙ c.loop-rest-test.false)) in
    let all = ap (λ (t : List ℕ). lexemes c.loop-rest.at t) none ∙ lexemes_nil c.loop-rest.at in
    cut_some c.args.text.now c.args.from 0 (length c.args.text.now) c.loop-rest.gathering.tokens c.loop-rest.gathering.bad (before_semicolon (lexemes c.loop-rest.at c.loop-rest.rest.now)) c.piece-2.result
    (ap (λ (xs : List Lexeme). before_semicolon xs) all) c.loop-rest.invariant.tokens c.loop-rest.invariant.bad
    (ap (λ (xs : List Lexeme). command_end (length c.args.text.now) xs) (sym all) ∙ c.loop-rest.invariant.ends)
    (sym c.loop-rest.invariant.blank ∙ ap (λ (b : Bool). b && all_skipped (lexemes c.loop-rest.at c.loop-rest.rest.now)) c.if-blank.false) (c.piece-2.ensures ∙ ap (λ (t : List ℕ). piece c.loop-rest.gathering.tokens c.loop-rest.gathering.bad c.args.from (length t)) c.as_bytes-bytes.ensures.value)

pub returns-then-is_semicolon-clause-placed : goal.returns-then-is_semicolon-clause-placed
returns-then-is_semicolon-clause-placed c = next_placed c.args.text.now c.args.from (Some c.piece.result) c.requires (returns-then-is_semicolon-clause-next c)

pub returns-clause-placed : goal.returns-clause-placed
returns-clause-placed c = next_placed c.args.text.now c.args.from (Some c.piece-2.result) c.requires (returns-clause-next c)
