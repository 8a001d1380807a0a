use Rattle.std.proofs.Common.{◌≡◌, ◌∙◌, List, true, sym, ap, subst}
use Rattle.pl_lex.specs.Characters.{Text}
use Rattle.pl_lex.specs.Lexemes.{IsFailure}
use Rattle.pl_lex.specs.declared.lexer.LexFail.{LexFail}
use Rattle.pl_lex.specs.declared.token.Token.{Token}
use Rattle.pl_codec.specs.Spelling.{is_define_text}
use Rattle.pl_reading.specs.declared.reading.Reading.{Reading}
use Rattle.pl_reading.specs.Computed.{reading_of, defined_by, definition_in}
use Rattle.pl_reading.proofs.Definitions.{of_tokens, too_long, not_utf8, bad_text}
use Rattle.pl_reading.proofs.definition.read_definition.Goals as goal

pub returns-then-not-is_define_text : goal.returns-then-not-is_define_text
returns-then-not-is_define_text c = too_long c.args.text.now (sym c.is_define_text.ensures ∙ c.if-not-is_define_text.true)

pub returns-in_default : goal.returns-in_default
returns-in_default c = not_utf8 c.args.text.now (λ u. let h = c.in_default.ensures.exactly.1 u in cc)

pub returns-in-Err-Bad : goal.returns-in-Err-Bad
returns-in-Err-Bad c =
    let e = subst (λ (f : LexFail). IsFailure f c.in-Ok.script.now) c.in-Err-Bad.field-0-is c.in-Err-Bad.ensures.bad in
    bad_text c.in-Ok.script.now _ _ e ∙ ap (λ (t : Text). definition_in t) c.in-Ok.ensures.same

pub returns : goal.returns
returns c =
    let text : Text = c.args.text.now in
    let script : Text = c.in-Ok.script.now in
    let tokens : List Token = c.in-Ok-lex.tokens.items in
    let same : script ≡ text = c.in-Ok.ensures.same in
    let fits : is_define_text script ≡ true = ap (λ (t : Text). is_define_text t) same ∙ sym c.is_define_text.ensures ∙ c.if-not-is_define_text.false in
    let read : c.in_ok-reading.reading ≡ reading_of script tokens = c.in_ok-reading.ensures ∙ ap (λ (l : List Token). reading_of script l) c.deref.ensures.value in
    c.defined_by.ensures ∙ ap (λ (r : Reading). defined_by text r) read ∙ ap (λ (t : Text). defined_by t (reading_of script tokens)) (sym same)
    ∙ of_tokens script tokens fits c.in-Ok-lex.ensures.found ∙ ap (λ (t : Text). definition_in t) same
