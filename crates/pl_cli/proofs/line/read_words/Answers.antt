use Rattle.std.proofs.Common.{rules, ◌≡◌, ◌∙◌, ap, sym, map, string_bytes, List, String, Global, drop, false}
use Rattle.pl_cli.specs.Command.{any_one_dash}
use Rattle.pl_cli.proofs.Answered.{at_err, no_words, one_dash, refused, rest_is, same_fail, taken, when_ok}
use Rattle.pl_cli.proofs.line.read_words.Goals as goal

pub returns-in-Ok-clause-line : goal.returns-in-Ok-clause-line
returns-in-Ok-clause-line c =
    let ws = c.args.words.now in
    let dash : any_one_dash (map string_bytes (drop 1 ws)) ≡ false = ap (λ (l : List (String Global)). any_one_dash (map string_bytes l)) (sym (rest_is ws)) ∙ sym c.any_one_dash.ensures ∙ c.if-any_one_dash.false in
    when_ok c.line_of.result _ _ (taken ws _ c.in-Ok.matches c.line_of.result (search rules) dash c.in_ok-command.ensures c.in-Ok.ensures.kinds c.in-Ok.ensures.matches c.line_of.ensures.line c.line_of.ensures.flag)

pub returns-in-Ok-clause-usage : goal.returns-in-Ok-clause-usage
returns-in-Ok-clause-usage c =
    let ws = c.args.words.now in
    let dash : any_one_dash (map string_bytes (drop 1 ws)) ≡ false = ap (λ (l : List (String Global)). any_one_dash (map string_bytes l)) (sym (rest_is ws)) ∙ sym c.any_one_dash.ensures ∙ c.if-any_one_dash.false in
    λ is. at_err c.line_of.result _ _ _ is (taken ws _ c.in-Ok.matches c.line_of.result (search rules) dash c.in_ok-command.ensures c.in-Ok.ensures.kinds c.in-Ok.ensures.matches c.line_of.ensures.line c.line_of.ensures.flag)

pub returns-then-any_one_dash-clause-usage : goal.returns-then-any_one_dash-clause-usage
returns-then-any_one_dash-clause-usage c =
    let ws = c.args.words.now in
    λ is. one_dash ws (search rules) (ap (λ (l : List (String Global)). any_one_dash (map string_bytes l)) (sym (rest_is ws)) ∙ sym c.any_one_dash.ensures ∙ c.if-any_one_dash.true)

pub returns-then-is_empty-clause-usage : goal.returns-then-is_empty-clause-usage
returns-then-is_empty-clause-usage c = λ is. no_words c.args.words.now (search rules)

pub returns-in-Err-clause-usage : goal.returns-in-Err-clause-usage
returns-in-Err-clause-usage c =
    let ws = c.args.words.now in
    let dash : any_one_dash (map string_bytes (drop 1 ws)) ≡ false = ap (λ (l : List (String Global)). any_one_dash (map string_bytes l)) (sym (rest_is ws)) ∙ sym c.any_one_dash.ensures ∙ c.if-any_one_dash.false in
    λ is. refused ws _ c.in-Err.error (search rules) dash c.in_ok-command.ensures c.in-Err.ensures.kinds (λ memory. c.fail_of.ensures (same_fail _ _ is) (c.kind.ensures ∙ memory))
