use Rattle.std.proofs.Common.{◌∙◌, Err, sym, refl, subst}
use Rattle.pl_grammar.specs.declared.fail.ParseFail.{ParseFail}
use Rattle.pl_sql_parse.specs.Spells.{Answers}
use Rattle.pl_reading.specs.Reading.{left_out, too_deep, no_command, a_command}
use Rattle.pl_reading.proofs.Readings.{no_tokens, some_tokens}
use Rattle.pl_reading.proofs.reading.read_tokens.Goals as goal

pub returns-then-is_empty : goal.returns-then-is_empty
returns-then-is_empty c = no_tokens c.args.text.now c.args.tokens.now (sym c.is_empty.ensures ∙ c.if-is_empty.true)

pub returns-in-Ok : goal.returns-in-Ok
returns-in-Ok c = let e = c.in-Ok.ensures.exact in some_tokens c.args.text.now c.args.tokens.now _ (sym c.is_empty.ensures ∙ c.if-is_empty.false) (a_command e.0 e.1 c.in-Ok.command c.in-Ok.ensures.found refl)

pub returns-in-Err-NotSupported : goal.returns-in-Err-NotSupported
returns-in-Err-NotSupported c =
    let e = subst (λ (f : ParseFail). Answers c.args.text.now (Err f) c.args.tokens.now) c.in-Err-NotSupported.field-0-is c.in-Err-NotSupported.ensures.exact in
    some_tokens c.args.text.now c.args.tokens.now _ (sym c.is_empty.ensures ∙ c.if-is_empty.false) (left_out e refl)

pub returns-in-Err-TooDeep : goal.returns-in-Err-TooDeep
returns-in-Err-TooDeep c =
    let e = subst (λ (f : ParseFail). Answers c.args.text.now (Err f) c.args.tokens.now) c.in-Err-TooDeep.field-0-is c.in-Err-TooDeep.ensures.exact in
    some_tokens c.args.text.now c.args.tokens.now _ (sym c.is_empty.ensures ∙ c.if-is_empty.false) (too_deep e.0 _ e.1 refl)

pub returns-in-Err-Syntax : goal.returns-in-Err-Syntax
returns-in-Err-Syntax c =
    let e = subst (λ (f : ParseFail). Answers c.args.text.now (Err f) c.args.tokens.now) c.in-Err-Syntax.field-0-is c.in-Err-Syntax.ensures.exact in
    some_tokens c.args.text.now c.args.tokens.now _ (sym c.is_empty.ensures ∙ c.if-is_empty.false) (no_command e.0 e.1 e.2 refl)
