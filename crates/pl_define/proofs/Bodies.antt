-- A text is read as exactly one thing.
use Rattle.std.proofs.Common.{◌≡◌, ◌∙◌, ℕ, cond, Bool, true, false, List, Option, Some, None, Result, Ok, Err, refl, sym, ap, subst}
use Rattle.std.specs.Prelude.{◌↔◌}
use Rattle.pl_base.specs.States.{STATEMENT_TOO_COMPLEX, SYNTAX_ERROR}
use Rattle.pl_base.specs.declared.state.State.{State}
use Rattle.pl_bodies.specs.declared.statement.Body.{Body}
use Rattle.pl_routine.proofs.of_pl_body_parse.Rows.{one_body}
use Rattle.pl_routine.specs.pl_body_parse.Computed.{body_of_tokens}
use Rattle.pl_routine.specs.pl_body_parse.Spells.{SpellsBody}
use Rattle.pl_routine.specs.pl_body_rules.Heading.{Routine}
use Rattle.pl_routine.specs.pl_body_rules.Rules.{first_breach}
use Rattle.pl_routine.specs.pl_body_rules.declared.breach.Breach.{Breach}
use Rattle.pl_define.specs.Bodies.{body_by, body_in, keeping, unbroken, IsRefused}
use Rattle.pl_define.specs.Views.{fail_by}
use Rattle.pl_reading.specs.pl_grammar.Deep.{start, IsShallow}
use Rattle.pl_reading.specs.pl_grammar.Marks.{kinds}
use Rattle.pl_lex.specs.Characters.{Text}
use Rattle.pl_lex.specs.Computed.{lexemes}
use Rattle.pl_lex.specs.Lexemes.{first_bad, tokens_of, IsBad, Lexemes}
use Rattle.pl_lex.specs.declared.token.Bad.{Bad}
use Rattle.pl_lex.specs.declared.token.Token.{Token}
use Rattle.pl_lex.proofs.Lent.{all_stand, lexes, lexes_only, unique}
use Rattle.pl_reading.specs.Computed.{deep_from}
use Rattle.pl_reading.proofs.Readings.{deep_is, is_deep, is_shallow, shallow_is}
use Rattle.pl_routine.specs.Reading.{state_of, Answers, AnswersOf, Spell}
use Rattle.pl_routine.specs.declared.reading.BodyFail.{BodyFail}
use Rattle.pl_routine.specs.declared.reading.BodyFail.TheVariants as fail
use Rattle.pl_routine_ddl.specs.pl_typing.Resolved.{Gives, Resolved}
use Rattle.pl_routine_ddl.specs.pl_typing.declared.fail.ScopeFail.{ScopeFail}

none_some : {A : Type 0} (x : A) → (let o : Option A = None in o ≡ Some x) → ⊥
none_some x h = cc

some_is : {A : Type 0} (x y : A) → Some x ≡ Some y → x ≡ y
some_is x y h = cc

-- what an answer says of what is computed
abbrev Told : Result Body BodyFail → Resolved Body → Type 0
Told (Ok body) computed = computed ≡ Ok body
Told (Err why) computed = (state : State) → state_of why ≡ Some state → computed ≡ Err state

-- what is computed is answered
abbrev IsAnswered : Text → Routine → Resolved Body → Type 0
IsAnswered text r (Ok body) = Answers text r (Ok body)
IsAnswered text r (Err state) = IsRefused text r state

refused_so : (a b : State) → Some a ≡ Some b → (let m : Resolved Body = Err a in m ≡ Err b)
refused_so a b is = ap (λ (s : State). let m : Resolved Body = Err s in m) (some_is a b is)

module _ (text : Text) (r : Routine) where
  abbrev by_depth : Bool → Option Body → Resolved Body
  by_depth deep found = cond deep (Err STATEMENT_TOO_COMPLEX) (keeping r found)

  -- ---- an answer is computed

  here : (tokens : List Token) → Lexemes tokens text → body_in text r ≡ by_depth (deep_from start (kinds tokens)) (body_of_tokens text tokens)
  unfolding body_in
  here tokens lexed = let l = lexes_only tokens text lexed in λ i. body_by text r (l.0 i) (l.1 i)

  shallow_here : (tokens : List Token) → Lexemes tokens text → IsShallow (kinds tokens) → (found : Option Body) → body_of_tokens text tokens ≡ found → body_in text r ≡ keeping r found
  shallow_here tokens lexed shallow found is = here tokens lexed ∙ (λ i. by_depth (shallow_is (kinds tokens) shallow i) (is i))

  spelled_here : (tokens : List Token) (body : Body) → Lexemes tokens text → Spell text tokens body → body_in text r ≡ unbroken (first_breach r body) body
  spelled_here tokens body lexed (shallow, spells) = shallow_here tokens lexed shallow (Some body) ((one_body text tokens body).1 spells)

  none_found : (tokens : List Token) → ((body : Body) → SpellsBody text body tokens → ⊥) → body_of_tokens text tokens ≡ None
  none_found tokens none = by_found (body_of_tokens text tokens) refl
    where
      by_found : (o : Option Body) → body_of_tokens text tokens ≡ o → o ≡ None
      by_found None e = refl
      by_found (Some body) e = absurd (none body ((one_body text tokens body).0 e))

  of_tokens : (tokens : List Token) → Lexemes tokens text → (answer : Result Body BodyFail) → AnswersOf text tokens r answer → Told answer (body_in text r)
  of_tokens tokens lexed (Ok body) (spell, keeps) = spelled_here tokens body lexed spell ∙ ap (λ (o : Option Breach). unbroken o body) keeps
  of_tokens tokens lexed (Err (fail.Bad bad)) never = absurd never
  of_tokens tokens lexed (Err (fail.TooDeep at)) deep = λ state is.
      here tokens lexed ∙ ap (λ (b : Bool). by_depth b (body_of_tokens text tokens)) (deep_is (kinds tokens) at deep) ∙ refused_so STATEMENT_TOO_COMPLEX state is
  of_tokens tokens lexed (Err fail.Syntax) (shallow, none) = λ state is. shallow_here tokens lexed shallow None (none_found tokens none) ∙ refused_so SYNTAX_ERROR state is
  of_tokens tokens lexed (Err (fail.Breach breach)) (body, spell, breaks) = λ state is.
      spelled_here tokens body lexed spell ∙ ap (λ (o : Option Breach). unbroken o body) breaks ∙ refused_so breach.state state is
  of_tokens tokens lexed (Err fail.Memory) any = λ state is. absurd (none_some state is)

  bad_here : (at : ℕ) (state : State) → IsBad at state text → body_in text r ≡ Err state
  unfolding body_in
  bad_here at state (all, stand, is) =
      ap (λ (o : Option Bad). body_by text r o (tokens_of (lexemes 0 text))) (ap (λ xs. first_bad xs) (sym (unique all 0 text stand)) ∙ is)

  pub told : (answer : Result Body BodyFail) → Answers text r answer → Told answer (body_in text r)
  told (Ok body) (tokens, lexed, answers) = of_tokens tokens lexed (Ok body) answers
  told (Err (fail.Bad bad)) is_bad = λ state is. bad_here bad.at bad.state is_bad ∙ refused_so bad.state state is
  told (Err (fail.TooDeep at)) (tokens, lexed, answers) = of_tokens tokens lexed (Err (fail.TooDeep at)) answers
  told (Err fail.Syntax) (tokens, lexed, answers) = of_tokens tokens lexed (Err fail.Syntax) answers
  told (Err (fail.Breach breach)) (tokens, lexed, answers) = of_tokens tokens lexed (Err (fail.Breach breach)) answers
  told (Err fail.Memory) any = λ state is. absurd (none_some state is)

  -- so the code answers what is computed
  pub failing : (why : BodyFail) → Answers text r (Err why) → (let answer : Result Body ScopeFail = Err (fail_by (state_of why)) in Gives answer (body_in text r))
  failing why answers = by_state (state_of why) refl
    where
      by_state : (o : Option State) → state_of why ≡ o → (let answer : Result Body ScopeFail = Err (fail_by o) in Gives answer (body_in text r))
      by_state None e = tt
      by_state (Some state) e = told (Err why) answers state e

  -- ---- what is computed is an answer

  by_breach : (tokens : List Token) (body : Body) → Lexemes tokens text → Spell text tokens body → (o : Option Breach) → first_breach r body ≡ o → IsAnswered text r (unbroken o body)
  by_breach tokens body lexed spell None e = (tokens, lexed, (spell, e))
  by_breach tokens body lexed spell (Some breach) e = (fail.Breach breach, (tokens, lexed, (body, spell, e)), refl)

  by_body : (tokens : List Token) → Lexemes tokens text → IsShallow (kinds tokens) → (o : Option Body) → body_of_tokens text tokens ≡ o → IsAnswered text r (keeping r o)
  by_body tokens lexed shallow None e =
      (fail.Syntax, (tokens, lexed, (shallow, λ body spells. none_some body (sym e ∙ (one_body text tokens body).1 spells))), refl)
  by_body tokens lexed shallow (Some body) e = by_breach tokens body lexed (shallow, (one_body text tokens body).0 e) (first_breach r body) refl

  by_deep : (tokens : List Token) → Lexemes tokens text → (b : Bool) → deep_from start (kinds tokens) ≡ b → IsAnswered text r (by_depth b (body_of_tokens text tokens))
  by_deep tokens lexed true e = let d = is_deep (kinds tokens) e in (fail.TooDeep d.0, (tokens, lexed, d.1), refl)
  by_deep tokens lexed false e = by_body tokens lexed (is_shallow (kinds tokens) e) (body_of_tokens text tokens) refl

  by_bad : (o : Option Bad) → first_bad (lexemes 0 text) ≡ o → IsAnswered text r (body_by text r o (tokens_of (lexemes 0 text)))
  by_bad (Some bad) e = (fail.Bad bad, (lexemes 0 text, all_stand 0 text, e), refl)
  by_bad None e = by_deep (tokens_of (lexemes 0 text)) (lexes (tokens_of (lexemes 0 text)) text e refl) (deep_from start (kinds (tokens_of (lexemes 0 text)))) refl

  answered : IsAnswered text r (body_in text r)
  unfolding body_in
  answered = by_bad (first_bad (lexemes 0 text)) refl

  -- ---- both

  pub is_body : (body : Body) → (body_in text r ≡ Ok body) ↔ Answers text r (Ok body)
  is_body body = (λ e. subst (λ (m : Resolved Body). IsAnswered text r m) e answered, λ answers. told (Ok body) answers)

  pub is_refusal : (state : State) → (body_in text r ≡ Err state) ↔ IsRefused text r state
  is_refusal state = (λ e. subst (λ (m : Resolved Body). IsAnswered text r m) e answered, λ refused. told (Err refused.0) refused.1 state refused.2)
