-- When each answer of a parser comes.
use Rattle.std.specs.Prelude.{Result, Ok, Err}
use Rattle.pl_grammar.specs.Marks.{Tokens}
use Rattle.pl_grammar.specs.Relations.{Rel}
use Rattle.pl_grammar.specs.Deep.{Deep, IsShallow}
use Rattle.pl_grammar.specs.declared.fail.ParseFail.{ParseFail}
use Rattle.pl_grammar.specs.declared.fail.ParseFail.TheVariants as fail

-- no tree is spelled by the tokens
abbrev pub NoneSpells : {A : Type 0} → Rel A → Tokens → Type 0
NoneSpells {A} R ts = (x : A) → R x ts → ⊥

-- TooDeep comes exactly where the tokens are deep, Syntax exactly where they aren't and no tree spells them, NotSupported never
abbrev pub Answers : {A : Type 0} → Rel A → Result A ParseFail → Tokens → Type 0
Answers R (Ok x) ts = IsShallow ts
Answers R (Err fail.Syntax) ts = IsShallow ts × NoneSpells R ts
Answers R (Err (fail.TooDeep at)) ts = Deep ts at
Answers R (Err fail.NotSupported) ts = ⊥
Answers R (Err fail.Memory) ts = Unit {0}
