use Rattle.std.proofs.Common.{◌≡◌, ◌+◌, ◌++◌, ◌&&◌, length, drop}
use Rattle.pl_lex.specs.Lexemes.{tokens_of, first_bad, before_semicolon, command_end, all_skipped}
use Rattle.pl_lex.specs.Steps.{or_else}
use Rattle.pl_lex.specs.Computed.{lexemes}
use Rattle.pl_lex.proofs.command.cut.Given as goal

abbrev pub invariant-loop-rest : goal.invariant-loop-rest
invariant-loop-rest l = record {
  tokens : l.gathering.tokens ++ tokens_of (before_semicolon (lexemes l.at l.rest)) ≡ tokens_of (before_semicolon (lexemes l.fn.from (drop l.fn.from l.fn.text)));
  bad : or_else l.gathering.bad (first_bad (before_semicolon (lexemes l.at l.rest))) ≡ first_bad (before_semicolon (lexemes l.fn.from (drop l.fn.from l.fn.text)));
  ends : command_end (length l.fn.text) (lexemes l.at l.rest) ≡ command_end (length l.fn.text) (lexemes l.fn.from (drop l.fn.from l.fn.text));
  blank : (l.blank && all_skipped (lexemes l.at l.rest)) ≡ all_skipped (lexemes l.fn.from (drop l.fn.from l.fn.text));
  place : l.at + length l.rest ≡ length l.fn.text;
}

abbrev pub decreases-loop-rest : goal.decreases-loop-rest
decreases-loop-rest l = length l.rest
