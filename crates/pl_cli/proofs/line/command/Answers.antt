use Rattle.std.proofs.Common.{rules, ◌≡◌, ◌∙◌, ap, ap₂, true}
use Rattle.std.proofs.lemmas.Result.{IfOk-weaker}
use Rattle.clap.specs.Simple.{app_of_fields}
use Rattle.clap.specs.Words.{App, app_of, rule_of, with_rule}
use Rattle.pl_cli.specs.Command.{bare_app, store_rule, script_rule, steps_rule, stop_rule}
use Rattle.pl_cli.proofs.line.command.Goals as goal

abbrev no_help : App → App
no_help a = record a { top = record a.top { disable_help_flag = true } }

abbrev no_version : App → App
no_version a = record a { top = record a.top { disable_version_flag = true } }

pub returns : goal.returns
returns c =
    let store_is : rule_of c.required-store.result ≡ store_rule = search rules in
    let script_is : rule_of c.required-script.result ≡ script_rule = search rules in
    let steps_is : rule_of c.action-steps.result ≡ steps_rule = search rules in
    let stop_is : rule_of c.action-on_error_stop.result ≡ stop_rule = search rules in
    let bare_is : app_of c.disable_version_flag.result ≡ bare_app = ap app_of_fields c.disable_version_flag.ensures ∙ ap no_version (ap app_of_fields c.disable_help_flag.ensures ∙ ap no_help c.new-5.ensures.app) in
    let three : app_of c.in_ok-arg-3.field-0 ≡ with_rule (with_rule (with_rule bare_app store_rule) script_rule) steps_rule =
    c.in_ok-arg-3.ensures.shape (search rules) ∙ ap₂ with_rule (c.in_ok-arg-2.ensures.shape (search rules) ∙ ap₂ with_rule (c.in_ok-arg.ensures.shape (search rules) ∙ ap₂ with_rule bare_is store_is) script_is) steps_is in
    IfOk-weaker c.arg-4.result _ _ (λ command adds. adds.shape (search rules) ∙ ap₂ with_rule three stop_is) c.arg-4.ensures
