-- Each part is as other grammars are told: what is read is spelled so, and what is spelled so is read.
use Rattle.std.proofs.Common.{◌≡◌, ◌∙◌, ℕ, suc, true, refl, sym, ◌++◌, length, length-append, arith}
use Rattle.pl_grammar.specs.Marks.{Tokens}
use Rattle.pl_grammar.specs.Rule.{Given, SpelledBy, read_inside}
use Rattle.pl_grammar.specs.Fit.{Lawful}
use Rattle.pl_grammar.proofs.Begins.{part_begun}
use Rattle.pl_grammar.proofs.Same.{reads_is}
use Rattle.pl_grammar.proofs.Sound.{sound_part}
use Rattle.pl_grammar.proofs.Theorem.{complete_inside}
use Rattle.pl_sql_parse.proofs.Flat.{flat, any_depth}
use Rattle.pl_body_grammar.specs.Grammar.{Part, BlockPiece, CasePiece, DeclarationPiece, Piece, OtherPiece, Ended, OptionalName, Opening, Condition, FirstArm, Values, Handler, Conditions, Caught, ConditionName, For, ForSource, Counted, Downward, Upward, Upper, Last, Declared, CursorDeclared, Scroll, CursorParameters, CursorParameter, BoundQuery, ForOrIs, VariableDeclared, Typed, VariableType, TypeSuffix, NotNull, Default, DefaultSign, Becomes, Assignment, Target, Targets, Into, Dynamic, Using, Expressions, Statement, Action, Control, Jump, Return, ReturnNext, ReturnQuery, Raise, Level, Raised, Format, UsingOptions, Options, RaiseOption, OptionKind, Assert, Get, RowCounts, StackedTargets, RowCount, StackedTarget, StackedItem, Cursor, Opened, OpenedFor, Scrolled, NotScrolled, Fetch, FetchedFrom, Direction, Place, FromName, FromOrIn, Move, Motion, Forward, Backward, Command, Perform, Select, QueryEnd, Selected, IntoItems, Execute, Changed, Change, Transaction, OtherCommand, Tree, rule}
use Rattle.pl_body_grammar.specs.FirstFollow.{first_follow, firsts, follow_last, empty, reads_part}
use Rattle.pl_body_grammar.proofs.Fits.{all_ranked}
use Rattle.pl_body_grammar.proofs.Told.{fit}

abbrev pub finished : (p : Part) → Given (Tree p)
finished p = record {
  spells = SpelledBy rule p;
  reader = reads_part p;
  firsts = firsts p;
  follow_last = follow_last p;
  empty = empty p;
}

all_flat : (p : Part) → flat (rule p) ≡ true
all_flat BlockPiece = refl
all_flat CasePiece = refl
all_flat DeclarationPiece = refl
all_flat Piece = refl
all_flat OtherPiece = refl
all_flat Ended = refl
all_flat OptionalName = refl
all_flat Opening = refl
all_flat Condition = refl
all_flat FirstArm = refl
all_flat Values = refl
all_flat Handler = refl
all_flat Conditions = refl
all_flat Caught = refl
all_flat ConditionName = refl
all_flat For = refl
all_flat ForSource = refl
all_flat Counted = refl
all_flat Downward = refl
all_flat Upward = refl
all_flat Upper = refl
all_flat Last = refl
all_flat Declared = refl
all_flat CursorDeclared = refl
all_flat Scroll = refl
all_flat CursorParameters = refl
all_flat CursorParameter = refl
all_flat BoundQuery = refl
all_flat ForOrIs = refl
all_flat VariableDeclared = refl
all_flat Typed = refl
all_flat VariableType = refl
all_flat TypeSuffix = refl
all_flat NotNull = refl
all_flat Default = refl
all_flat DefaultSign = refl
all_flat Becomes = refl
all_flat Assignment = refl
all_flat Target = refl
all_flat Targets = refl
all_flat Into = refl
all_flat Dynamic = refl
all_flat Using = refl
all_flat Expressions = refl
all_flat Statement = refl
all_flat Action = refl
all_flat Control = refl
all_flat Jump = refl
all_flat Return = refl
all_flat ReturnNext = refl
all_flat ReturnQuery = refl
all_flat Raise = refl
all_flat Level = refl
all_flat Raised = refl
all_flat Format = refl
all_flat UsingOptions = refl
all_flat Options = refl
all_flat RaiseOption = refl
all_flat OptionKind = refl
all_flat Assert = refl
all_flat Get = refl
all_flat RowCounts = refl
all_flat StackedTargets = refl
all_flat RowCount = refl
all_flat StackedTarget = refl
all_flat StackedItem = refl
all_flat Cursor = refl
all_flat Opened = refl
all_flat OpenedFor = refl
all_flat Scrolled = refl
all_flat NotScrolled = refl
all_flat Fetch = refl
all_flat FetchedFrom = refl
all_flat Direction = refl
all_flat Place = refl
all_flat FromName = refl
all_flat FromOrIn = refl
all_flat Move = refl
all_flat Motion = refl
all_flat Forward = refl
all_flat Backward = refl
all_flat Command = refl
all_flat Perform = refl
all_flat Select = refl
all_flat QueryEnd = refl
all_flat Selected = refl
all_flat IntoItems = refl
all_flat Execute = refl
all_flat Changed = refl
all_flat Change = refl
all_flat Transaction = refl
all_flat OtherCommand = refl

at_depth : (d : ℕ) (p : Part) (ts : Tokens) → read_inside rule first_follow (suc d) p ts ≡ reads_part p ts
unfolding reads_part
at_depth d p ts = any_depth rule first_follow all_flat d p ts

pub lawful : (p : Part) → Lawful (finished p)
unfolding reads_part
lawful p = record {
  sound = λ ts rest a h. let f = sound_part rule first_follow fit 0 p ts a rest h in (f.front, f.is, f.spells);
  complete = λ a front rest h end.
      let sizes = length-append front rest in
      let n = length (front ++ rest) in
      sym (at_depth n p (front ++ rest)) ∙ complete_inside rule first_follow fit (reads_is rule first_follow all_ranked) h.0 (suc n) p refl a front rest h.1 (omega arith) end;
  begun = λ a front h. part_begun rule first_follow fit h.0 p a front h.1;
}
