use Rattle.std.proofs.Common.{◌≡◌, length}
use Rattle.pl_files.proofs.source.ScriptFile.read.Given as goal

abbrev pub invariant-loop : goal.invariant-loop
invariant-loop l = (length l.into ≡ length l.fn.into) × (l.self.name ≡ l.fn.self.name)
