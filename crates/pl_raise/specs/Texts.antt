-- The texts of values, by what they are for.
use Rattle.std.specs.Prelude.{Bool, false, ◌==◌, [], ◌∷◌}
use Rattle.pl_base.specs.declared.value.Value.{Value}
use Rattle.pl_raise.specs.declared.texts.Purpose.{Purpose}
use Rattle.pl_raise.specs.declared.texts.Purpose.TheVariants as purpose
use Rattle.pl_typing.specs.Resolved.{Resolved}
use Rattle.pl_world.specs.Raising.{Text, argument_text, assertion_text, option_text, percent}

abbrev pub text_for : Purpose → Value → Resolved Text
text_for purpose.Argument v = argument_text v
text_for purpose.Option v = option_text v
text_for purpose.Assertion v = assertion_text v

abbrev pub starts_with_percent : Text → Bool
starts_with_percent [] = false
starts_with_percent (c ∷ cs) = c == percent
