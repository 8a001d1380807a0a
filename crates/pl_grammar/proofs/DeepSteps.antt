-- The parts that are open behind one token more.
use Rattle.std.proofs.Common.{◌≡◌, ℕ, ◌+◌, ◌<◌, List, take, length, fold, get_or, sym, ◌∙◌, ap, subst}
use Rattle.std.proofs.lemmas.List.{length-map, get_or-map}
use Rattle.std.proofs.lemmas.List.Sums.{fold_more}
use Rattle.pl_lex.specs.declared.token.Token.{Token}
use Rattle.pl_lex.specs.declared.token.TokenKind.{TokenKind}
use Rattle.pl_grammar.specs.Marks.{kinds}
use Rattle.pl_grammar.specs.Deep.{State, step, start}

abbrev pub behind : List Token → ℕ → State
behind ts n = fold step start (take n (kinds ts))

pub behind_more : (ts : List Token) (at : ℕ) (token : Token) {was now : State} → at < length ts → token ≡ get_or ts at token
    → was ≡ behind ts at → now ≡ step was token.kind → now ≡ behind ts (at + 1)
behind_more ts at token within is was_is now_is =
    let kind : Token → TokenKind = λ t. t.kind in
    let same : get_or (kinds ts) at token.kind ≡ token.kind =
    get_or-map kind ts at token token.kind within ∙ ap kind (sym is) in
    let more : behind ts (at + 1) ≡ step (behind ts at) (get_or (kinds ts) at token.kind) =
    fold_more step start (kinds ts) at token.kind (subst (λ n. at < n) (sym (length-map ts kind)) within) in
    now_is ∙ ap (λ s. step s token.kind) was_is ∙ sym (more ∙ ap (step (behind ts at)) same)
