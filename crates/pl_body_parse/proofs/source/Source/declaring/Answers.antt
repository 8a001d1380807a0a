use Rattle.std.proofs.Common.{rules, arith, ◌≡◌, ◌∙◌, ap, sym, ℕ, ◌+◌, ◌-◌, ◌<◌, List, [], ◌∷◌, ◌++◌, Some, None, get_or, length, drop, map}
use Rattle.std.proofs.lemmas.List.{drop-drop}
use Rattle.pl_lex.specs.declared.token.Token.{Token}
use Rattle.pl_bodies.specs.declared.declaration.Declaration.{Declaration}
use Rattle.pl_body_items.specs.declared.items.Item.TheVariants as i
use Rattle.pl_body_items.specs.declared.items.Spot.{Spot}
use Rattle.pl_grammar.specs.declared.fail.Fail.TheVariants.{Syntax}
use Rattle.pl_body_parse.specs.Computed.{Taken, behind, declaration_of, declaring, is_begin}
use Rattle.pl_body_parse.specs.Spells.{line_at}
use Rattle.pl_body_parse.proofs.Places.{lines_at}
use Rattle.pl_body_parse.proofs.Turns.{turn_begins, turn_fails, turn_first, turn_goes_on, turn_stops, turns_end}
use Rattle.pl_body_parse.proofs.source.Source.declaring.Goals as goal

pub loop-turn-init : goal.loop-turn-init
loop-turn-init c = record {
  begun = omega arith;
  within = c.requires;
  same = turn_first c.args.self.now.text.now c.args.ordinal c.args.label c.args.self.now.tokens.now c.args.at c.new-declarations.result c.new-declarations.ensures;
}

pub declaration-requires : goal.declaration-requires
declaration-requires c = c.loop-turn.invariant.within

pub returns-in_err-piece-clause-is : goal.returns-in_err-piece-clause-is
returns-in_err-piece-clause-is c =
    let none : c.in_err-piece.field-0.0 ≡ Syntax → declaring c.args.self.now.text.now c.args.ordinal c.args.label (length (drop c.args.at c.args.self.now.tokens.now)) [] (drop c.args.at c.args.self.now.tokens.now) ≡ None = λ e. turn_fails c.args.self.now.text.now c.args.ordinal c.args.label (declaring c.args.self.now.text.now c.args.ordinal c.args.label (length (drop c.args.at c.args.self.now.tokens.now)) [] (drop c.args.at c.args.self.now.tokens.now)) (c.loop-turn.here - c.args.at) c.loop-turn._turn (length c.args.self.now.tokens.now) c.loop-turn.declarations (drop c.loop-turn.here c.args.self.now.tokens.now) c.loop-turn.invariant.same c.loop-turn-test.true (c.in_err-piece.ensures.is e) in
    search rules

pub overflow_sub-result : goal.overflow_sub-result
overflow_sub-result c = c.loop-turn.invariant.begun

pub returns-then-is_begin-clause-is : goal.returns-then-is_begin-clause-is
returns-then-is_begin-clause-is c =
    let begins = ap is_begin (sym c.get.ensures) ∙ sym c.is_begin.ensures ∙ c.if-is_begin.true in
    turn_begins c.args.self.now.text.now c.args.ordinal c.args.label (declaring c.args.self.now.text.now c.args.ordinal c.args.label (length (drop c.args.at c.args.self.now.tokens.now)) [] (drop c.args.at c.args.self.now.tokens.now)) (c.loop-turn.here - c.args.at) c.loop-turn._turn (length c.args.self.now.tokens.now) c.loop-turn.declarations (drop c.loop-turn.here c.args.self.now.tokens.now) c.loop-turn.invariant.same c.loop-turn-test.true c.in_ok-piece.piece c.in_ok-piece.taken c.in_ok-piece.ensures.is begins
    ∙ ap (λ (spot : Spot). let o : Taken _ = Some (i.Block spot c.args.label c.loop-turn.declarations, c.loop-turn.here - c.args.at + c.in_ok-piece.taken) in o) (sym c.spot.ensures)

pub returns-then-is_begin-clause-within : goal.returns-then-is_begin-clause-within
returns-then-is_begin-clause-within c = let a = c.loop-turn.invariant.begun in let b = c.in_ok-piece.ensures.within in omega (arith, a, b)

pub returns-in_default-clause-is : goal.returns-in_default-clause-is
returns-in_default-clause-is c =
    let s = c.args.self.now in
    let lined : s.lines.now ≡ map (λ (t : Token). line_at s.text.now t.start) s.tokens.now = search rules in
    let some = c.in_ok-piece.ensures.some in
    let most = c.in_ok-piece.ensures.within in
    let there : c.loop-turn.here < length s.tokens.now = omega (arith, some, most) in
    let line = ap (λ (lines : List ℕ). get_or lines c.loop-turn.here 0) lined ∙ lines_at s.text.now s.tokens.now c.loop-turn.here 0 there in
    let other = ap is_begin (sym c.get.ensures) ∙ sym c.is_begin.ensures ∙ c.if-is_begin.false in
    let none = ap (λ (line : ℕ). declaration_of line c.in_ok-piece.piece) (sym line) ∙ sym c.declared.ensures ∙ c.in_default.is in
    λ e. turn_stops c.args.self.now.text.now c.args.ordinal c.args.label (declaring c.args.self.now.text.now c.args.ordinal c.args.label (length (drop c.args.at c.args.self.now.tokens.now)) [] (drop c.args.at c.args.self.now.tokens.now)) (c.loop-turn.here - c.args.at) c.loop-turn._turn (length c.args.self.now.tokens.now) c.loop-turn.declarations (drop c.loop-turn.here c.args.self.now.tokens.now) c.loop-turn.invariant.same c.loop-turn-test.true c.in_ok-piece.piece c.in_ok-piece.taken c.in_ok-piece.ensures.is other none

pub loop-turn-preserved : goal.loop-turn-preserved
loop-turn-preserved c =
    let s = c.args.self.now in
    let lined : s.lines.now ≡ map (λ (t : Token). line_at s.text.now t.start) s.tokens.now = search rules in
    let some = c.in_ok-piece.ensures.some in
    let most = c.in_ok-piece.ensures.within in
    let there : c.loop-turn.here < length s.tokens.now = omega (arith, some, most) in
    let line = ap (λ (lines : List ℕ). get_or lines c.loop-turn.here 0) lined ∙ lines_at s.text.now s.tokens.now c.loop-turn.here 0 there in
    let other = ap is_begin (sym c.get.ensures) ∙ sym c.is_begin.ensures ∙ c.if-is_begin.false in
    let one = ap (λ (line : ℕ). declaration_of line c.in_ok-piece.piece) (sym line) ∙ sym c.declared.ensures ∙ c.in-Some.is in
    let begun = c.loop-turn.invariant.begun in
    let count : c.loop-turn.here - c.args.at + c.in_ok-piece.taken ≡ c.loop-turn.here + c.in_ok-piece.taken - c.args.at = omega (arith, begun) in
    let left = length s.tokens.now - (c.loop-turn._turn + 1) in
    record {
      begun = omega (arith, begun);
      within = c.in_ok-piece.ensures.within;
      same =
          turn_goes_on c.args.self.now.text.now c.args.ordinal c.args.label (declaring c.args.self.now.text.now c.args.ordinal c.args.label (length (drop c.args.at c.args.self.now.tokens.now)) [] (drop c.args.at c.args.self.now.tokens.now)) (c.loop-turn.here - c.args.at) c.loop-turn._turn (length c.args.self.now.tokens.now) c.loop-turn.declarations (drop c.loop-turn.here c.args.self.now.tokens.now) c.loop-turn.invariant.same c.loop-turn-test.true c.in_ok-piece.piece c.in_ok-piece.taken c.in-Some.declaration c.in_ok-piece.ensures.is other one
          ∙ ap (λ (k : ℕ). behind k (declaring c.args.self.now.text.now c.args.ordinal c.args.label left (c.loop-turn.declarations ++ c.in-Some.declaration ∷ []) (drop c.in_ok-piece.taken (drop c.loop-turn.here s.tokens.now)))) count
          ∙ ap (λ (ds : List Declaration). behind (c.loop-turn.here + c.in_ok-piece.taken - c.args.at) (declaring c.args.self.now.text.now c.args.ordinal c.args.label left ds (drop c.in_ok-piece.taken (drop c.loop-turn.here s.tokens.now)))) (sym c.in_ok-push.ensures.ok)
          ∙ ap (λ (us : List Token). behind (c.loop-turn.here + c.in_ok-piece.taken - c.args.at) (declaring c.args.self.now.text.now c.args.ordinal c.args.label left c.push.new.self us)) (drop-drop c.in_ok-piece.taken c.loop-turn.here s.tokens.now);
    }

pub returns-clause-is : goal.returns-clause-is
returns-clause-is c = λ e. turns_end c.args.self.now.text.now c.args.ordinal c.args.label (declaring c.args.self.now.text.now c.args.ordinal c.args.label (length (drop c.args.at c.args.self.now.tokens.now)) [] (drop c.args.at c.args.self.now.tokens.now)) (c.loop-turn.here - c.args.at) c.loop-turn._turn (length c.args.self.now.tokens.now) c.loop-turn.declarations (drop c.loop-turn.here c.args.self.now.tokens.now) c.loop-turn.invariant.same c.loop-turn-test.false
