use Rattle.std.proofs.Common.{◌≡◌, drop, true}
use Rattle.std.specs.Char.{is_ascii_digit}
use Rattle.pl_lex.specs.Characters.{every}
use Rattle.pl_lex.specs.Spellings.{number_from}
use Rattle.pl_lex.proofs.numbers.number.Given as goal

abbrev pub invariant-loop-b : goal.invariant-loop-b
invariant-loop-b l = record {
  value : number_from l.number (drop l.b-index l.digits) ≡ number_from 0 l.digits;
  digits : every is_ascii_digit (drop l.b-index l.digits) ≡ true;
}
