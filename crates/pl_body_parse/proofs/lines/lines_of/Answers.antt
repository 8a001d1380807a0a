use Rattle.std.proofs.Common.{◌≡◌, ◌∙◌, ap, sym, subst, refl, arith, ℕ, suc, ◌+◌, ◌-◌, List, [], ◌∷◌, ◌++◌, take, drop, map}
use Rattle.std.specs.Prelude.{count_by}
use Rattle.pl_lex.specs.declared.token.Token.{Token}
use Rattle.pl_body_parse.specs.Spells.{line_at}
use Rattle.pl_body_parse.proofs.LinesAhead.{Ahead, is_newline, placed_ahead, next_line, ahead_step, lines_more}
use Rattle.pl_body_parse.proofs.lines.lines_of.Goals as goal

pub loop-token-init : goal.loop-token-init
loop-token-init c = record { counted = refl; made = c.new-lines.ensures; ahead = placed_ahead c.args.text.now c.args.tokens.now c.requires.placed }

pub loop-token-preserved : goal.loop-token-preserved
loop-token-preserved c =
    let text = c.args.text.now in
    let ts = c.args.tokens.now in
    let t = c.token-item.result in
    let at = c.loop-token.at in
    let index = c.loop-token.token-index in
    let step = ahead_step text at index ts t c.loop-token-test.true c.token-item.is c.loop-token.invariant.ahead in
    let more : suc index ≡ index + 1 = omega arith in
    let count = c.newlines.ensures.count ∙ ap (λ (xs : List ℕ). count_by is_newline (take (t.start - at) (drop at xs))) c.as_bytes.ensures.value in
    let counted : c.loop-token.line + c.newlines.result ≡ line_at text t.start =
    ap (λ (n : ℕ). n + c.newlines.result) c.loop-token.invariant.counted
    ∙ ap (λ (n : ℕ). line_at text at + n) count
    ∙ sym (next_line text at t.start step.0) in
    record {
      counted = counted;
      made =
          c.in_ok-push.ensures.ok
          ∙ ap (λ (lines : List ℕ). lines ++ (c.loop-token.line + c.newlines.result) ∷ []) c.loop-token.invariant.made
          ∙ ap (λ (line : ℕ). map (λ (t : Token). line_at text t.start) (take index ts) ++ line ∷ []) counted
          ∙ sym (lines_more text index ts t c.loop-token-test.true c.token-item.is)
          ∙ ap (λ (n : ℕ). map (λ (t : Token). line_at text t.start) (take n ts)) more;
      ahead = subst (λ (n : ℕ). Ahead text t.start (drop n ts)) more step.2;
    }
