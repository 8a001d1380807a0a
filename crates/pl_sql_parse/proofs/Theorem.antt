-- Whole texts: what is read is spelled so, as that tree alone, and what isn't read is spelled by none.
use Rattle.std.proofs.Common.{◌≡◌, ◌∙◌, ℕ, suc, ◌<◌, true, refl, length, None, arith}
use Rattle.pl_grammar.specs.Marks.{Tokens}
use Rattle.pl_grammar.specs.Rule.{SpelledBy, read_inside}
use Rattle.pl_grammar.proofs.Begins.{part_begun}
use Rattle.pl_grammar.proofs.Same.{reads_is}
use Rattle.pl_grammar.proofs.Sound.{sound_inside}
use Rattle.pl_grammar.proofs.Theorem as whole
use Rattle.pl_grammar.proofs.Tools.{Gives}
use Rattle.pl_grammar.specs.Fit.{Begun}
use Rattle.pl_sql_parse.specs.Grammar.{Part, Command, Transaction, Work, Rollback, SavepointName, Do, Call, Insert, InsertAlias, Columns, Names, BracketedNames, NewRows, NewRow, NewValue, Returning, Update, FirstColumn, Assignment, Condition, Delete, Definition, Create, NewTable, IfNotExists, Element, TableRule, ForeignKey, BracketedExpression, Column, ColumnRules, ColumnRule, ColumnRuleKind, Referenced, NewRoutine, OrReplace, Signature, Params, Param, WayParam, NamedType, Returned, Result, ResultColumns, ResultColumn, Clauses, Clause, LanguageName, NewTrigger, Timing, Events, Event, Executed, Drop, DropRoutine, Dropped, IfExists, Types, Tree, rule}
use Rattle.pl_sql_parse.specs.FirstFollow.{first_follow, firsts, empty, reads_part}
use Rattle.pl_sql_parse.proofs.Fits.{all_ranked}
use Rattle.pl_sql_parse.proofs.Flat.{flat, any_depth}
use Rattle.pl_sql_parse.proofs.Told.{fit}

all_flat : (p : Part) → flat (rule p) ≡ true
all_flat Command = refl
all_flat Transaction = refl
all_flat Work = refl
all_flat Rollback = refl
all_flat SavepointName = refl
all_flat Do = refl
all_flat Call = refl
all_flat Insert = refl
all_flat InsertAlias = refl
all_flat Columns = refl
all_flat Names = refl
all_flat BracketedNames = refl
all_flat NewRows = refl
all_flat NewRow = refl
all_flat NewValue = refl
all_flat Returning = refl
all_flat Update = refl
all_flat FirstColumn = refl
all_flat Assignment = refl
all_flat Condition = refl
all_flat Delete = refl
all_flat Definition = refl
all_flat Create = refl
all_flat NewTable = refl
all_flat IfNotExists = refl
all_flat Element = refl
all_flat TableRule = refl
all_flat ForeignKey = refl
all_flat BracketedExpression = refl
all_flat Column = refl
all_flat ColumnRules = refl
all_flat ColumnRule = refl
all_flat ColumnRuleKind = refl
all_flat Referenced = refl
all_flat NewRoutine = refl
all_flat OrReplace = refl
all_flat Signature = refl
all_flat Params = refl
all_flat Param = refl
all_flat WayParam = refl
all_flat NamedType = refl
all_flat Returned = refl
all_flat Result = refl
all_flat ResultColumns = refl
all_flat ResultColumn = refl
all_flat Clauses = refl
all_flat Clause = refl
all_flat LanguageName = refl
all_flat NewTrigger = refl
all_flat Timing = refl
all_flat Events = refl
all_flat Event = refl
all_flat Executed = refl
all_flat Drop = refl
all_flat DropRoutine = refl
all_flat Dropped = refl
all_flat IfExists = refl
all_flat Types = refl

pub at_depth : (d : ℕ) (p : Part) (ts : Tokens) → read_inside rule first_follow (suc d) p ts ≡ reads_part p ts
unfolding reads_part
at_depth d p ts = any_depth rule first_follow all_flat d p ts

below : (ts : Tokens) → length ts < suc (length ts)
below ts = omega arith

pub read_spells : (p : Part) (ts rest : Tokens) (a : Tree p) → Gives (reads_part p ts) a rest → length rest ≡ 0 → SpelledBy rule p a ts
read_spells p ts rest a h none = whole.read_spells rule first_follow fit (reads_is rule first_follow all_ranked) (sound_inside rule first_follow fit) (suc (length ts)) p ts rest a (at_depth (length ts) p ts ∙ h) none

pub one_tree : (p : Part) (ts rest : Tokens) (a other : Tree p) → Gives (reads_part p ts) a rest → SpelledBy rule p other ts → other ≡ a
one_tree p ts rest a other h k = whole.one_tree rule first_follow fit (reads_is rule first_follow all_ranked) (sound_inside rule first_follow fit) (suc (length ts)) p refl ts rest a other (below ts) (at_depth (length ts) p ts ∙ h) k

pub unread : (p : Part) (ts : Tokens) → reads_part p ts ≡ None → (a : Tree p) → SpelledBy rule p a ts → ⊥
unread p ts h a k = whole.unread rule first_follow fit (reads_is rule first_follow all_ranked) (sound_inside rule first_follow fit) (suc (length ts)) p refl ts (below ts) (at_depth (length ts) p ts ∙ h) a k

pub not_whole : (p : Part) (ts rest : Tokens) (a : Tree p) → Gives (reads_part p ts) a rest → (length rest ≡ 0 → ⊥) → (other : Tree p) → SpelledBy rule p other ts → ⊥
not_whole p ts rest a h more other k = whole.not_whole rule first_follow fit (reads_is rule first_follow all_ranked) (sound_inside rule first_follow fit) (suc (length ts)) p refl ts rest a (below ts) (at_depth (length ts) p ts ∙ h) more other k

-- how what spells it begins
pub begins_so : (p : Part) (ts : Tokens) (a : Tree p) → SpelledBy rule p a ts → Begun (firsts p) (empty p) ts
begins_so p ts a h = part_begun rule first_follow fit h.0 p a ts h.1
