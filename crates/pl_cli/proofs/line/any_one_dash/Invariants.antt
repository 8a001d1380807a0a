-- The words so far leave the question to the others.
use Rattle.std.proofs.Common.{◌≡◌, map, drop, string_bytes}
use Rattle.pl_cli.specs.Command.{any_one_dash}
use Rattle.pl_cli.proofs.line.any_one_dash.Given as goal

abbrev pub invariant-loop-word : goal.invariant-loop-word
invariant-loop-word l = any_one_dash (map string_bytes (drop l.word-index l.fn.words)) ≡ any_one_dash (map string_bytes l.fn.words)
