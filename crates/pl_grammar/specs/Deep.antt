-- How deep parts nest, counted on tokens alone: brackets, CASE, BEGIN, IF and LOOP open parts, and brackets and END close them.
use Rattle.std.specs.Prelude.{ℕ, ◌+◌, ◌<◌, ◌≤◌, Bool, true, false, fold, take, drop, length, List, [], ◌∷◌, Option, Some, None}
use Rattle.pl_lex.specs.declared.keyword.Keyword.{Keyword}
use Rattle.pl_lex.specs.declared.keyword.Keyword.TheVariants as w
use Rattle.pl_lex.specs.declared.sign.Sign.TheVariants as sign
use Rattle.pl_lex.specs.declared.token.TokenKind.{TokenKind}
use Rattle.pl_lex.specs.declared.token.TokenKind.TheVariants as kind
use Rattle.pl_grammar.specs.Marks.{Tokens}
use Rattle.pl_grammar.specs.declared.depth.Opened.{Opened}
use Rattle.pl_grammar.specs.declared.depth.Opened.TheVariants as o
use Rattle.pl_grammar.specs.declared.depth.Before.{Before}
use Rattle.pl_grammar.specs.declared.depth.Before.TheVariants as b

-- the parts that are open, the newest first, and what stands directly before the next token
pub record State : Type 0 where
  pub parts : List Opened
  pub before : Before

-- ---- what a token opens

-- CASE opens a part, but not in END CASE, whose END closed the part of that CASE
abbrev pub case_opens : Before → Option Opened
case_opens b.As = None
case_opens b.EndOfCase = None
case_opens _ = Some o.Case

-- LOOP opens a part, but not in END LOOP, whose END closed the part of that LOOP
abbrev pub loop_opens : Before → Option Opened
loop_opens b.As = None
loop_opens b.EndOfLoop = None
loop_opens _ = Some o.Loop

abbrev pub begin_opens : Before → Option Opened
begin_opens b.As = None
begin_opens _ = Some o.Other

-- IF opens a part only where a statement may begin: not in END IF, IF EXISTS and the like
abbrev pub if_opens : Before → Option Opened
if_opens b.Statement = Some o.Other
if_opens _ = None

abbrev pub word_opens : Before → Keyword → Option Opened
word_opens before w.Case = case_opens before
word_opens before w.Loop = loop_opens before
word_opens before w.Begin = begin_opens before
word_opens before w.If = if_opens before
word_opens before _ = None

-- a word directly after AS is a name, which opens nothing. A bracket there opens a part.
abbrev pub opens : Before → TokenKind → Option Opened
opens before (kind.Sign sign.Open) = Some o.Other
opens before (kind.Keyword word) = word_opens before word
opens before _ = None

-- ---- what a token closes

-- a word directly after AS closes nothing
abbrev pub end_closes : Before → Bool
end_closes b.As = false
end_closes _ = true

abbrev pub closes : Before → TokenKind → Bool
closes before (kind.Sign sign.Close) = true
closes before (kind.Keyword w.End) = end_closes before
closes before _ = false

-- what a token closes is the newest part, if one is open
abbrev pub parts_after : Option Opened → Bool → List Opened → List Opened
parts_after (Some new) closing parts = new ∷ parts
parts_after None true parts = drop 1 parts
parts_after None false parts = parts

-- ---- what then stands before the next token

-- END, by the part that it closed, which is none directly after AS
abbrev pub after_end : Before → List Opened → Before
after_end b.As parts = b.Nothing
after_end _ (o.Case ∷ parts) = b.EndOfCase
after_end _ (o.Loop ∷ parts) = b.EndOfLoop
after_end _ _ = b.Nothing

-- a statement may begin behind THEN, ELSE, BEGIN and LOOP
abbrev pub after_keyword : Before → Keyword → List Opened → Before
after_keyword before w.As parts = b.As
after_keyword before w.Then parts = b.Statement
after_keyword before w.Else parts = b.Statement
after_keyword before w.Begin parts = b.Statement
after_keyword before w.Loop parts = b.Statement
after_keyword before w.End parts = after_end before parts
after_keyword before _ parts = b.Nothing

-- a statement may begin behind `;` too
abbrev pub before_next : State → TokenKind → Before
before_next state (kind.Sign sign.Semicolon) = b.Statement
before_next state (kind.Keyword word) = after_keyword state.before word state.parts
before_next state _ = b.Nothing

-- ---- all tokens

unfoldable pub step : State → TokenKind → State
step state token = record {
  parts = parts_after (opens state.before token) (closes state.before token) state.parts;
  before = before_next state token;
}

abbrev pub start : State
start = record { parts = []; before = b.Nothing }

-- how many parts are open behind these tokens
abbrev pub open_parts : Tokens → ℕ
open_parts ts = length (fold step start ts).parts

abbrev pub max_parts : ℕ
max_parts = 100

-- the first token at which more parts are open
pub record Deep (ts : Tokens) (at : ℕ) : Type 0 where
  pub here : max_parts < open_parts (take (at + 1) ts)
  pub before : (k : ℕ) → k < at → open_parts (take (k + 1) ts) ≤ max_parts

-- there is no such token
abbrev pub IsShallow : Tokens → Type 0
IsShallow ts = (k : ℕ) → k < length ts → open_parts (take (k + 1) ts) ≤ max_parts
