-- The line of a warning.
use Rattle.std.specs.Prelude.{ℕ, List, None}
use Rattle.pl_base.specs.declared.state.State.{State}
use Rattle.pl_print.specs.Messages.{condition_name, notice_bytes}
use Rattle.pl_print.specs.declared.reply.Level.TheVariants.{Warning}

-- it says the name of its condition
abbrev pub warning_line : State → List ℕ
warning_line state = notice_bytes Warning (condition_name state.code) None None
