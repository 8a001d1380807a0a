-- A definition of a script means by its own text what it means there.
use Rattle.std.proofs.Common.{◌≡◌, ℕ, List, [], ◌∷◌, ◌++◌, cond, Bool, true, false, Option, Some, None, Result, Ok, Err, IfOk, map, refl, sym, ◌∙◌, ap, subst, append-nil}
use Rattle.pl_grammar.specs.Deep.{IsShallow}
use Rattle.pl_base.specs.declared.memory.Memory.{Memory}
use Rattle.pl_lex.specs.Characters.{Text}
use Rattle.pl_lex.specs.Lexemes.{Lexemes, IsNext}
use Rattle.pl_lex.specs.Slices.{slice_of, by_themselves, moved}
use Rattle.pl_lex.specs.declared.token.Bad.{Bad}
use Rattle.pl_lex.specs.declared.token.Piece.{Piece}
use Rattle.pl_lex.specs.declared.token.Token.{Token}
use Rattle.pl_lex.proofs.Lent.{slices_alike, slices_whole}
use Rattle.pl_grammar.specs.Marks.{Tokens, kinds}
use Rattle.pl_grammar.specs.Rule.{SpelledBy}
use Rattle.pl_tree.specs.declared.command.Command.{Command}
use Rattle.pl_tree.specs.declared.command.Command.TheVariants as c
use Rattle.pl_tree.specs.declared.command.Definition.{Definition}
use Rattle.pl_sql_parse.specs.LeftOut.{is_left_out}
use Rattle.pl_sql_parse.specs.Spells.{SpellsCommand, command, definition}
use Rattle.pl_sql_parse.specs.Grammar.{rule}
use Rattle.pl_sql_parse.specs.Grammar as part
use Rattle.pl_codec.specs.Spelling.{is_define_text}
use Rattle.pl_reading.specs.Defining.{stored_by}
use Rattle.pl_reading.specs.Reading.{IsRead, IsPieceRead, IsOutcomeRead, IsCommandRead, left_out, too_deep, no_command, a_command}
use Rattle.pl_reading.specs.Computed.{CommandMeansAlike, MeansAlike, reading_of, defined_by, definition_in}
use Rattle.pl_reading.specs.declared.reading.Reading.{Reading}
use Rattle.pl_reading.specs.declared.reading.Reading.TheVariants.{Nothing, Refused, Spelled}
use Rattle.pl_reading.proofs.Definitions.{bytes_same, of_tokens, too_long}
use Rattle.pl_reading.proofs.Readings.{read_only}
use Rattle.pl_reading.proofs.Plain.{defines, defines_nothing}

-- ---- tokens by themselves

kinds_moved : (n : ℕ) (ts : List Token) → kinds (map (moved n) ts) ≡ kinds ts
kinds_moved n [] = refl
kinds_moved n (t ∷ ts) = λ i. t.kind ∷ kinds_moved n ts i

kinds_themselves : (ts : List Token) → kinds (by_themselves ts) ≡ kinds ts
kinds_themselves [] = refl
kinds_themselves (t ∷ ts) = kinds_moved t.start (t ∷ ts)

-- ---- a definition by its tokens

-- the tokens of a text spell this definition, whose text is this, and are read
pub record IsDefinition (text : Text) (ts : List Token) (x : Definition) (source : Text) : Type 0 where
  pub stays : is_left_out (kinds ts) ≡ false
  pub shallow : IsShallow (kinds ts)
  pub spells : SpelledBy rule part.Definition x (kinds ts)
  pub source_is : source ≡ slice_of text ts

by_spelling : (text : Text) (ts : List Token) (x : Definition) (source : Text) (y : Command) → is_left_out (kinds ts) ≡ false → IsShallow (kinds ts) → SpellsCommand text y ts → y ≡ c.Define x source → IsDefinition text ts x source
by_spelling text ts x source y stays shallow (command d) e =
    let none = defines_nothing d.0 y (kinds ts) d.1 in
    let some : defines y ≡ true = ap (λ (z : Command). defines z) e in
    absurd (cc)
by_spelling text ts x source _ stays shallow (definition {x = z} s) e =
    let same : z ≡ x = cc e in
    let its : source ≡ slice_of text ts = cc e in
    record { stays = stays; shallow = shallow; spells = subst (λ (w : Definition). SpelledBy rule part.Definition w (kinds ts)) same s; source_is = its }

by_reading : (text : Text) (ts : List Token) (x : Definition) (source : Text) (r : Reading) → IsCommandRead text ts r → r ≡ Spelled (c.Define x source) → IsDefinition text ts x source
by_reading text ts x source r (left_out l is) e = absurd (cc)
by_reading text ts x source r (too_deep l at deep is) e = absurd (cc)
by_reading text ts x source r (no_command l s none is) e = absurd (cc)
by_reading text ts x source r (a_command l s y spells is) e = let same : y ≡ c.Define x source = cc in by_spelling text ts x source y l s spells same

-- and its own text is read as the same definition
by_itself : (text : Text) (t : Token) (ts : List Token) (x : Definition) (source : Text) → slice_of (slice_of text (t ∷ ts)) (by_themselves (t ∷ ts)) ≡ slice_of text (t ∷ ts) → IsDefinition text (t ∷ ts) x source
    → IsRead source (by_themselves (t ∷ ts)) (Spelled (c.Define x source))
by_itself text t ts x source whole d =
    let all : List Token = t ∷ ts in
    let own : List Token = by_themselves all in
    let kinds_are : kinds all ≡ kinds own = sym (kinds_themselves all) in
    let is : source ≡ slice_of text all = d.source_is in
    let its : slice_of source own ≡ source = ap (λ (s : Text). slice_of s own) is ∙ whole ∙ sym is in
    let spells : SpellsCommand source (c.Define x (slice_of source own)) own = definition (subst (λ (ks : Tokens). SpelledBy rule part.Definition x ks) kinds_are d.spells) in
    a_command (subst (λ (ks : Tokens). is_left_out ks ≡ false) kinds_are d.stays) (subst (λ (ks : Tokens). IsShallow ks) kinds_are d.shallow) (c.Define x source)
    (subst (λ (s : Text). SpellsCommand source (c.Define x s) own) its spells) refl

-- ---- a definition of a script

of_piece : (text : Text) (ts : List Token) (x : Definition) (source : Text) → Lexemes (by_themselves ts) (slice_of text ts) → slice_of (slice_of text ts) (by_themselves ts) ≡ slice_of text ts
    → IsRead text ts (Spelled (c.Define x source)) → definition_in source ≡ stored_by x source
of_piece text [] x source lexed whole read = absurd (cc read)
of_piece text (t ∷ ts) x source lexed whole read = by_test (is_define_text source) refl
  where
    all : List Token
    all = t ∷ ts

    d : IsDefinition text all x source
    d = by_reading text all x source (Spelled (c.Define x source)) read refl

    is : source ≡ slice_of text all
    is = d.source_is

    reading : Spelled (c.Define x source) ≡ reading_of source (by_themselves all)
    reading = read_only source (by_themselves all) (Spelled (c.Define x source)) (by_itself text t ts x source whole d)

    by_test : (b : Bool) → is_define_text source ≡ b → definition_in source ≡ cond b (Some x) None
    by_test true fits =
        sym (of_tokens source (by_themselves all) fits (subst (λ (s : Text). Lexemes (by_themselves all) s) (sym is) lexed))
        ∙ ap (λ (r : Reading). defined_by source r) (sym reading)
        ∙ ap (λ (b : Bool). let o : Option Definition = cond b (Some x) None in o) (bytes_same source)
    by_test false fits = sym (too_long source fits)

pub means_alike : (text : Text) (from : ℕ) (p : Piece) (x : Definition) (source : Text) → IsNext text from (Some p) → IsPieceRead text p (Spelled (c.Define x source)) → definition_in source ≡ stored_by x source
means_alike text from p x source next read = by_tokens p.tokens refl read
  where
    by_tokens : (o : Result (List Token) Bad) → p.tokens ≡ o → IsOutcomeRead text o (Spelled (c.Define x source)) → definition_in source ≡ stored_by x source
    by_tokens (Err bad) e r = absurd (cc r)
    by_tokens (Ok ts) e r =
        let at : p.tokens ≡ Ok ([] ++ (ts ++ [])) = e ∙ ap (λ (us : List Token). let o : Result (List Token) Bad = Ok us in o) (sym (append-nil ts)) in
        of_piece text ts x source (slices_alike text from p [] ts [] next at) (slices_whole text from p [] ts [] next at) r

command_alike : (text : Text) (from : ℕ) (p : Piece) (x : Command) → IsNext text from (Some p) → IsPieceRead text p (Spelled x) → CommandMeansAlike x
command_alike text from p (c.Define x source) next read = means_alike text from p x source next read
command_alike text from p (c.Query query) next read = tt
command_alike text from p (c.Insert insert) next read = tt
command_alike text from p (c.Update update) next read = tt
command_alike text from p (c.Delete delete) next read = tt
command_alike text from p (c.Do language body) next read = tt
command_alike text from p (c.Call name arguments) next read = tt
command_alike text from p c.Begin next read = tt
command_alike text from p c.StartTransaction next read = tt
command_alike text from p c.Commit next read = tt
command_alike text from p c.Rollback next read = tt
command_alike text from p (c.Savepoint name) next read = tt
command_alike text from p (c.Release name) next read = tt
command_alike text from p (c.RollbackTo name) next read = tt

reading_alike : (text : Text) (from : ℕ) (p : Piece) (r : Reading) → IsNext text from (Some p) → IsPieceRead text p r → MeansAlike r
reading_alike text from p Nothing next read = tt
reading_alike text from p (Refused state) next read = tt
reading_alike text from p (Spelled x) next read = command_alike text from p x next read

pub alike_so : (text : Text) (from : ℕ) (p : Piece) (r : Result Reading Memory) → IsNext text from (Some p) → IfOk r (λ reading. IsPieceRead text p reading) → IfOk r MeansAlike
alike_so text from p (Ok reading) next read = reading_alike text from p reading next read
alike_so text from p (Err e) next read = tt
