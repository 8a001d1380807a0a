-- A function value that parses what stands inside, to a depth.
use Rattle.std.specs.Prelude.{ℕ, Some, Result}
use Rattle.std.specs.declared.alloc.Global.{Global}
use denote.Ref.{MutBor}
use Rattle.pl_grammar.specs.declared.fail.Fail.{Fail}
use Rattle.pl_grammar.specs.Marks.{Tokens}
use Rattle.pl_grammar.specs.Parser.{Parser, Reads, and_then}
use Rattle.pl_expr_parse.specs.declared.parts.Kind.{Kind}
use Rattle.pl_expr_parse.specs.declared.parts.Kind.TheVariants as k
use Rattle.pl_expr_parse.specs.declared.parts.Inside.{Inside}
use Rattle.pl_expr_parse.specs.declared.parts.Inside.TheVariants as i
use Rattle.pl_expr_parse.specs.Grammar.{Expression, Query, From}
use Rattle.pl_expr_parse.specs.FirstFollow.{reads_inside}

-- a part of the kind, and which it is
abbrev pub reads_kind : ℕ → Kind → Parser Inside
reads_kind depth k.Expression = λ ts. and_then (reads_inside depth Expression ts) (λ x ts. Some (i.Expression x, ts))
reads_kind depth k.Query = λ ts. and_then (reads_inside depth Query ts) (λ x ts. Some (i.Query x, ts))
reads_kind depth k.Source = λ ts. and_then (reads_inside depth From ts) (λ x ts. Some (i.Source x, ts))

abbrev pub Before : Type 1
Before = Global → MutBor Tokens → ℕ → Kind → Type 0

abbrev pub After : Type 1
After = Global → MutBor Tokens → ℕ → Kind → Result Inside Fail → MutBor Tokens → Type 0

pub record Nests (depth : ℕ) (pre : Before) (post : After) : Type 0 where
  pub callable : (alloc : Global) (old : MutBor Tokens) (kind : Kind) → pre alloc old depth kind
  pub reads : (alloc : Global) (old new : MutBor Tokens) (kind : Kind) (r : Result Inside Fail) → post alloc old depth kind r new → Reads (reads_kind depth kind old.now) r new.now
