use Rattle.std.proofs.Common.{rules, arith, ◌≡◌, ◌∙◌, ap, sym, Bool, ◌+◌, ◌<◌, None, length, length-drop, drop}
use Rattle.std.proofs.lemmas.List.{drop-drop}
use Rattle.pl_body_items.specs.Steps.{start}
use Rattle.pl_grammar.specs.declared.fail.Fail.TheVariants.{Syntax}
use Rattle.pl_body_parse.specs.Computed.{item_at, read_from}
use Rattle.pl_body_parse.proofs.Turns.{all_read, item_fails, item_first, item_taken, next_low, some_left, step_fails}
use Rattle.pl_body_parse.proofs.parse.made.Goals as goal

pub loop-turn-init : goal.loop-turn-init
loop-turn-init c = record {
  within = omega arith;
  few = omega arith;
  same = item_first c.args.source.now.text.now c.args.source.now.tokens.now start c.new-making.result c.new-making.ensures;
}

pub returns-then-at-source : goal.returns-then-at-source
returns-then-at-source c =
    let size = length-drop c.loop-turn.at c.args.source.now.tokens.now in
    let all = c.if-at-source.true in
    all_read c.args.source.now.text.now (read_from c.args.source.now.text.now (length c.args.source.now.tokens.now) start 0 c.args.source.now.tokens.now) c.loop-turn._turn (length c.args.source.now.tokens.now) c.loop-turn.making c.loop-turn.ordinal (drop c.loop-turn.at c.args.source.now.tokens.now) c.loop-turn.invariant.same (omega (arith, size, all))

pub item-requires-clause-begun : goal.item-requires-clause-begun
item-requires-clause-begun c = c.loop-turn.invariant.within

pub returns-in_err-item : goal.returns-in_err-item
returns-in_err-item c =
    let s = c.args.source.now in
    let size = length-drop c.loop-turn.at s.tokens.now in
    let within = c.loop-turn.invariant.within in
    let other = c.if-at-source.false in
    let some : 0 < length (drop c.loop-turn.at s.tokens.now) = omega (arith, size, within, other) in
    let none : c.in_err-item.field-0.0 ≡ Syntax → read_from c.args.source.now.text.now (length c.args.source.now.tokens.now) start 0 c.args.source.now.tokens.now ≡ None =
    λ e. item_fails c.args.source.now.text.now (read_from c.args.source.now.text.now (length c.args.source.now.tokens.now) start 0 c.args.source.now.tokens.now) c.loop-turn._turn (length c.args.source.now.tokens.now) c.loop-turn.making c.loop-turn.ordinal (drop c.loop-turn.at c.args.source.now.tokens.now) c.loop-turn.invariant.same c.loop-turn-test.true some (ap (λ (b : Bool). item_at s.text.now b c.loop-turn.ordinal (drop c.loop-turn.at s.tokens.now)) (sym c.is_in_case.ensures) ∙ c.in_err-item.ensures.is e) in
    search rules

pub next-ordinal-requires : goal.next-ordinal-requires
next-ordinal-requires c =
    let few = c.loop-turn.invariant.few in
    let below = c.loop-turn-test.true in
    let short = c.requires.short in
    omega (arith, few, below, short)

pub returns-in_err-making : goal.returns-in_err-making
returns-in_err-making c =
    let s = c.args.source.now in
    let size = length-drop c.loop-turn.at s.tokens.now in
    let within = c.loop-turn.invariant.within in
    let other = c.if-at-source.false in
    let some : 0 < length (drop c.loop-turn.at s.tokens.now) = omega (arith, size, within, other) in
    let none : c.in_err-making.field-0.0 ≡ Syntax → read_from c.args.source.now.text.now (length c.args.source.now.tokens.now) start 0 c.args.source.now.tokens.now ≡ None =
    λ e. step_fails c.args.source.now.text.now (read_from c.args.source.now.text.now (length c.args.source.now.tokens.now) start 0 c.args.source.now.tokens.now) c.loop-turn._turn (length c.args.source.now.tokens.now) c.loop-turn.making c.loop-turn.ordinal (drop c.loop-turn.at c.args.source.now.tokens.now) c.loop-turn.invariant.same c.loop-turn-test.true some c.in_ok-item.item c.in_ok-item.taken (ap (λ (b : Bool). item_at s.text.now b c.loop-turn.ordinal (drop c.loop-turn.at s.tokens.now)) (sym c.is_in_case.ensures) ∙ c.in_ok-item.ensures.is) (c.in_err-making.ensures e) in
    search rules

pub loop-turn-preserved : goal.loop-turn-preserved
loop-turn-preserved c =
    let s = c.args.source.now in
    let size = length-drop c.loop-turn.at s.tokens.now in
    let within = c.loop-turn.invariant.within in
    let other = c.if-at-source.false in
    let some : 0 < length (drop c.loop-turn.at s.tokens.now) = omega (arith, size, within, other) in
    let few = c.loop-turn.invariant.few in
    let low = next_low c.in_ok-item.item c.loop-turn.ordinal in
    let is = c.next-ordinal.ensures in
    record {
      within = c.in_ok-item.ensures.within;
      few = omega (arith, few, low, is);
      same = item_taken c.args.source.now.text.now (read_from c.args.source.now.text.now (length c.args.source.now.tokens.now) start 0 c.args.source.now.tokens.now) c.loop-turn._turn (length c.args.source.now.tokens.now) c.loop-turn.making c.loop-turn.ordinal (drop c.loop-turn.at c.args.source.now.tokens.now) c.loop-turn.invariant.same c.loop-turn-test.true some c.in_ok-item.item c.in_ok-item.taken _ c.next-ordinal.result (drop (c.loop-turn.at + c.in_ok-item.taken) s.tokens.now)
          (ap (λ (b : Bool). item_at s.text.now b c.loop-turn.ordinal (drop c.loop-turn.at s.tokens.now)) (sym c.is_in_case.ensures) ∙ c.in_ok-item.ensures.is) c.in_ok-making.ensures c.next-ordinal.ensures (drop-drop c.in_ok-item.taken c.loop-turn.at s.tokens.now);
    }

pub returns-then-at-source-2 : goal.returns-then-at-source-2
returns-then-at-source-2 c =
    let size = length-drop c.loop-turn.at c.args.source.now.tokens.now in
    let left = c.if-at-source-2.true in
    let some : 0 < length (drop c.loop-turn.at c.args.source.now.tokens.now) = omega (arith, size, left) in
    λ e. some_left c.args.source.now.text.now (read_from c.args.source.now.text.now (length c.args.source.now.tokens.now) start 0 c.args.source.now.tokens.now) c.loop-turn._turn (length c.args.source.now.tokens.now) c.loop-turn.making c.loop-turn.ordinal (drop c.loop-turn.at c.args.source.now.tokens.now) c.loop-turn.invariant.same c.loop-turn-test.false some

pub returns : goal.returns
returns c =
    let size = length-drop c.loop-turn.at c.args.source.now.tokens.now in
    let none = c.if-at-source-2.false in
    all_read c.args.source.now.text.now (read_from c.args.source.now.text.now (length c.args.source.now.tokens.now) start 0 c.args.source.now.tokens.now) c.loop-turn._turn (length c.args.source.now.tokens.now) c.loop-turn.making c.loop-turn.ordinal (drop c.loop-turn.at c.args.source.now.tokens.now) c.loop-turn.invariant.same (omega (arith, size, none))
