-- How clap is told of the command line. What a valid line is doesn't rest on this: `Line.antt` says that.
use Rattle.std.specs.Prelude.{◌&&◌, List, [], ◌∷◌, Bool, true, false, not, Some, codes, drop, if◌then◌else◌}
use Rattle.std.specs.Str.{bytes_eq}
use Rattle.clap.specs.Words.{App, Rule, new_app, new_rule, with_rule}
use Rattle.clap.specs.declared.builder.action.ArgAction.TheVariants.{Set, SetTrue}
use Rattle.pl_cli.specs.Line.{Word, has_dash}

abbrev pub store_rule : Rule
store_rule = record (new_rule (codes "store")) { required = true }

abbrev pub script_rule : Rule
script_rule = record (new_rule (codes "script")) { required = true }

abbrev pub steps_rule : Rule
steps_rule = record (new_rule (codes "steps")) { long = Some (codes "steps"); action = Some Set }

abbrev pub stop_rule : Rule
stop_rule = record (new_rule (codes "on-error-stop")) { long = Some (codes "on-error-stop"); action = Some SetTrue }

abbrev pub bare_app : App
bare_app = let app = new_app (codes "plpg") in record app { top = record app.top { disable_help_flag = true; disable_version_flag = true } }

abbrev pub plpg_app : App
plpg_app = with_rule (with_rule (with_rule (with_rule bare_app store_rule) script_rule) steps_rule) stop_rule

-- a word with one dash at its front
abbrev pub has_one_dash : Word → Bool
has_one_dash word = has_dash word && not (has_dash (drop 1 word))

-- one of the words before `--` is so
abbrev pub any_one_dash : List Word → Bool
any_one_dash [] = false
any_one_dash (word ∷ rest) = if has_one_dash word then true else (if bytes_eq word (codes "--") then false else any_one_dash rest)
