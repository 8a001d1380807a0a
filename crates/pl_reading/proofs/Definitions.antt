-- The definition that a text is.
use Rattle.std.proofs.Common.{◌≡◌, ◌&&◌, ◌^◌, ℕ, List, cond, not, length, nat_lt, Bool, true, false, Option, Some, None, refl, sym, ◌∙◌, ap, subst}
use Rattle.std.specs.Prelude.{◌==◌}
use Rattle.std.specs.List.{list_all}
use Rattle.std.specs.Str.{bytes_eq, is_utf8, IsUtf8}
use Rattle.std.proofs.lemmas.Slice.Eq.{bytes_eq-Decides}
use Rattle.std.proofs.lemmas.Str.{IsUtf8-from_is_utf8}
use Rattle.pl_base.specs.declared.state.State.{State}
use Rattle.pl_lex.specs.Characters.{Text}
use Rattle.pl_lex.specs.Lexemes.{Lexemes, IsBad, first_bad, tokens_of}
use Rattle.pl_lex.specs.declared.token.Bad.{Bad}
use Rattle.pl_lex.specs.declared.token.Token.{Token}
use Rattle.pl_lex.specs.Computed.{lexemes}
use Rattle.pl_lex.proofs.Lent.{lexes, lexes_only, unique}
use Rattle.pl_tree.specs.declared.command.Command.{Command}
use Rattle.pl_tree.specs.declared.command.Command.TheVariants as c
use Rattle.pl_tree.specs.declared.command.Definition.{Definition}
use Rattle.pl_codec.specs.Spelling.{is_text, is_define_text}
use Rattle.pl_reading.specs.Definition.{Defines}
use Rattle.pl_reading.specs.Reading.{IsRead}
use Rattle.pl_reading.specs.Computed.{reading_of, defined_by, defined_unless, defined_in, definition_in}
use Rattle.pl_reading.specs.declared.reading.Reading.{Reading}
use Rattle.pl_reading.specs.declared.reading.Reading.TheVariants.{Nothing, Refused, Spelled}
use Rattle.pl_reading.proofs.Readings.{read_only, is_read}

-- what the tokens of a text define
pub of_tokens : (text : Text) (tokens : List Token) → is_define_text text ≡ true → Lexemes tokens text → defined_by text (reading_of text tokens) ≡ definition_in text
unfolding definition_in
of_tokens text tokens fits lexed =
    let l = lexes_only tokens text lexed in
    let here : definition_in text ≡ defined_unless (first_bad (lexemes 0 text)) text (tokens_of (lexemes 0 text)) = ap (λ (b : Bool). let o : Option Definition = cond b (defined_in text (lexemes 0 text)) None in o) fits in
    sym (here ∙ (λ i. defined_unless (l.0 i) text (l.1 i)))

and_left : (a b : Bool) → (a && b) ≡ true → a ≡ true
and_left true b is = refl
and_left false b is = is

pub too_long : (text : Text) → is_define_text text ≡ false → (let o : Option Definition = None in o) ≡ definition_in text
unfolding definition_in
too_long text is = ap (λ (b : Bool). let o : Option Definition = cond b (defined_in text (lexemes 0 text)) None in o) (sym is)

pub not_utf8 : (text : Text) → (IsUtf8 text → ⊥) → (let o : Option Definition = None in o) ≡ definition_in text
unfolding definition_in
not_utf8 text never = by_test (is_define_text text) refl
  where
    by_test : (b : Bool) → is_define_text text ≡ b → (let o : Option Definition = None in o) ≡ cond b (defined_in text (lexemes 0 text)) None
    by_test true is = absurd (never (IsUtf8-from_is_utf8 text (and_left (is_utf8 text) (list_all (λ b. not (b == 0)) text) (and_left (is_text text) (nat_lt (length text) (2 ^ 32)) is))))
    by_test false is = refl

pub bad_text : (text : Text) (at : ℕ) (state : State) → IsBad at state text → (let o : Option Definition = None in o) ≡ definition_in text
unfolding definition_in
bad_text text at state bad =
    let is : first_bad (lexemes 0 text) ≡ Some (record { at = at; state = state }) = ap (λ xs. first_bad xs) (sym (unique bad.0 0 text bad.1)) ∙ bad.2 in
    by_test (is_define_text text) ∙ ap (λ (o : Option Bad). let r : Option Definition = cond (is_define_text text) (defined_unless o text (tokens_of (lexemes 0 text))) None in r) (sym is)
  where
    by_test : (b : Bool) → (let o : Option Definition = None in o) ≡ cond b None None
    by_test true = refl
    by_test false = refl

-- ---- both directions

pub bytes_same : (text : Text) → bytes_eq text text ≡ true
bytes_same text = (bytes_eq-Decides text text).1 refl

pub computed : (text : Text) (x : Definition) → Defines text x → definition_in text ≡ Some x
computed text x d =
    sym (of_tokens text d.tokens d.fits d.lexed) ∙ ap (λ (r : Reading). defined_by text r) (sym (read_only text d.tokens (Spelled (c.Define x text)) d.read))
    ∙ ap (λ (b : Bool). let o : Option Definition = cond b (Some x) None in o) (bytes_same text)

none_some : (x : Definition) → (let o : Option Definition = None in o ≡ Some x) → ⊥
none_some x h = cc

some_is : (x y : Definition) → (let o : Option Definition = Some x in o ≡ Some y) → x ≡ y
some_is x y h = cc

pub found : (text : Text) (x : Definition) → definition_in text ≡ Some x → Defines text x
unfolding definition_in
found text x is = by_size (is_define_text text) refl is
  where
    read_so : (tokens : List Token) (r : Reading) → r ≡ reading_of text tokens → IsRead text tokens r
    read_so tokens r reading = subst (λ (q : Reading). IsRead text tokens q) (sym reading) (is_read text tokens)

    by_source : (tokens : List Token) (d : Definition) (source : Text) (b : Bool) → is_define_text text ≡ true → Lexemes tokens text → IsRead text tokens (Spelled (c.Define d source)) → bytes_eq source text ≡ b
        → (let o : Option Definition = cond b (Some d) None in o) ≡ Some x → Defines text x
    by_source tokens d source true fits lexed read e h =
        let same : source ≡ text = (bytes_eq-Decides source text).0 e in
        let its = subst (λ (s : Text). IsRead text tokens (Spelled (c.Define d s))) same read in
        record { fits = fits; tokens = tokens; lexed = lexed; read = subst (λ (y : Definition). IsRead text tokens (Spelled (c.Define y text))) (some_is d x h) its }
    by_source tokens d source false fits lexed read e h = absurd (none_some x h)

    by_command : (tokens : List Token) (y : Command) → is_define_text text ≡ true → Lexemes tokens text → IsRead text tokens (Spelled y) → defined_by text (Spelled y) ≡ Some x → Defines text x
    by_command tokens (c.Define d source) fits lexed read h = by_source tokens d source (bytes_eq source text) fits lexed read refl h
    by_command tokens (c.Query query) fits lexed read h = absurd (none_some x h)
    by_command tokens (c.Insert insert) fits lexed read h = absurd (none_some x h)
    by_command tokens (c.Update update) fits lexed read h = absurd (none_some x h)
    by_command tokens (c.Delete delete) fits lexed read h = absurd (none_some x h)
    by_command tokens (c.Do language body) fits lexed read h = absurd (none_some x h)
    by_command tokens (c.Call name arguments) fits lexed read h = absurd (none_some x h)
    by_command tokens c.Begin fits lexed read h = absurd (none_some x h)
    by_command tokens c.StartTransaction fits lexed read h = absurd (none_some x h)
    by_command tokens c.Commit fits lexed read h = absurd (none_some x h)
    by_command tokens c.Rollback fits lexed read h = absurd (none_some x h)
    by_command tokens (c.Savepoint name) fits lexed read h = absurd (none_some x h)
    by_command tokens (c.Release name) fits lexed read h = absurd (none_some x h)
    by_command tokens (c.RollbackTo name) fits lexed read h = absurd (none_some x h)

    by_reading : (tokens : List Token) (r : Reading) → is_define_text text ≡ true → Lexemes tokens text → r ≡ reading_of text tokens → defined_by text r ≡ Some x → Defines text x
    by_reading tokens Nothing fits lexed e h = absurd (none_some x h)
    by_reading tokens (Refused state) fits lexed e h = absurd (none_some x h)
    by_reading tokens (Spelled y) fits lexed e h = by_command tokens y fits lexed (read_so tokens (Spelled y) e) h

    by_bad : (o : Option Bad) → is_define_text text ≡ true → first_bad (lexemes 0 text) ≡ o → defined_unless o text (tokens_of (lexemes 0 text)) ≡ Some x → Defines text x
    by_bad None fits e h = by_reading (tokens_of (lexemes 0 text)) (reading_of text (tokens_of (lexemes 0 text))) fits (lexes (tokens_of (lexemes 0 text)) text e refl) refl h
    by_bad (Some bad) fits e h = absurd (none_some x h)

    by_size : (b : Bool) → is_define_text text ≡ b → (let o : Option Definition = cond b (defined_in text (lexemes 0 text)) None in o) ≡ Some x → Defines text x
    by_size true e h = by_bad (first_bad (lexemes 0 text)) e refl h
    by_size false e h = absurd (none_some x h)
