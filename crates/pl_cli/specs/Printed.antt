-- What the program prints besides the replies.
use Rattle.std.specs.Prelude.{ℕ, List, ◌++◌, codes}
use Rattle.std.specs.Fmt.{decimal}
use Rattle.pl_base.specs.declared.area.Area.{Area}
use Rattle.pl_base.specs.declared.area.Area.TheVariants.{A, B}

-- of words that are no valid line
abbrev pub usage_line : List ℕ
usage_line = codes "usage: plpg STORE SCRIPT [--steps N] [--on-error-stop]\n"

-- of a script that is refused at this offset
abbrev pub refusal_line : ℕ → List ℕ
refusal_line at = codes "plpg: script refused at byte " ++ (decimal at ++ codes "\n")

-- of a store that is damaged there
abbrev pub damage_line : Area → ℕ → List ℕ
damage_line A at = codes "plpg: store damaged in area A at byte " ++ (decimal at ++ codes "\n")
damage_line B at = codes "plpg: store damaged in area B at byte " ++ (decimal at ++ codes "\n")
