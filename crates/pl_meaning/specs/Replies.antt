-- The lines that are printed.
use Rattle.std.specs.Prelude.{List, ℕ, ◌++◌, codes}
use Rattle.pl_base.specs.declared.state.State.{State}
use Rattle.pl_base.specs.States.{FEATURE_NOT_SUPPORTED, PROGRAM_LIMIT_EXCEEDED}
use Rattle.pl_print.specs.Messages.{labelled, condition_name}

-- an error's line: its SQLSTATE and the name of its condition
abbrev pub error_line : State → List ℕ
error_line state = labelled (codes "ERROR") (state.code ++ (codes ": " ++ condition_name state.code))

-- a notice's line: the name of its condition
abbrev pub notice_line : State → List ℕ
notice_line state = labelled (codes "NOTICE") (condition_name state.code)

abbrev pub not_supported : List ℕ
not_supported = error_line FEATURE_NOT_SUPPORTED

abbrev pub limit_exceeded : List ℕ
limit_exceeded = error_line PROGRAM_LIMIT_EXCEEDED
