-- Errors and notices: PostgreSQL manual, "Error and Notice Message Fields".
use Rattle.std.specs.Prelude.{ℕ, Option, Some, None, List, [], ◌∷◌, ◌++◌, if◌then◌else◌, codes}
use Rattle.std.specs.Str.{bytes_eq}
use Rattle.pl_base.specs.Condition.{conditions, Row}
use Rattle.pl_base.specs.declared.fail.Fail.{Fail}
use Rattle.pl_base.specs.declared.fail.Message.{Message}
use Rattle.pl_base.specs.declared.fail.Message.TheVariants.{Standard, Text}
use Rattle.pl_print.specs.declared.reply.Level.{Level}
use Rattle.pl_print.specs.declared.reply.Level.TheVariants.{Info, Notice, Warning}

-- a text behind its label and two spaces, on a line
abbrev pub labelled : List ℕ → List ℕ → List ℕ
labelled label text = label ++ (codes ":  " ++ (text ++ codes "\n"))

-- such a line where there is a text
abbrev pub labelled_if_given : List ℕ → Option (List ℕ) → List ℕ
labelled_if_given label None = []
labelled_if_given label (Some text) = labelled label text

-- the lines below an error or a notice
abbrev pub parts : Option (List ℕ) → Option (List ℕ) → List ℕ
parts detail hint =
    labelled_if_given (codes "DETAIL") detail ++ labelled_if_given (codes "HINT") hint

-- the word of a level
abbrev pub level_label : Level → List ℕ
level_label Info = codes "INFO"
level_label Notice = codes "NOTICE"
level_label Warning = codes "WARNING"

-- a notice with its detail and its hint
abbrev pub notice_bytes : Level → List ℕ → Option (List ℕ) → Option (List ℕ) → List ℕ
notice_bytes level text detail hint = labelled (level_label level) text ++ parts detail hint

-- the name that the table gives a SQLSTATE, and the SQLSTATE itself where it gives none
abbrev pub name_in : List Row → List ℕ → List ℕ
name_in [] code = code
name_in (row ∷ rows) code = if bytes_eq row.0 code then row.1 else name_in rows code

-- the name of the condition of a SQLSTATE
abbrev pub condition_name : List ℕ → List ℕ
condition_name code = name_in conditions code

-- what an error says: its own text, or the name of its condition
abbrev pub message_text : List ℕ → Message → List ℕ
message_text code Standard = condition_name code
message_text code (Text text) = text

-- an error with its SQLSTATE, its detail and its hint
abbrev pub fail_bytes : Fail → List ℕ
fail_bytes fail =
    labelled (codes "ERROR")
    (fail.state.code ++ (codes ": " ++ message_text fail.state.code fail.message))
    ++ parts fail.detail fail.hint
