-- How the bytes of a payload stand to the operations that are written to it.
use Rattle.std.specs.Prelude.{◌≡◌, ◌++◌, ℕ, List}
use Rattle.std.specs.List.{AllByRecursion}
use Rattle.pl_base.specs.declared.operation.Op.{Op}
use Rattle.pl_codec.specs.ReadBack.{OpReadsBack}
use Rattle.pl_codec.specs.Spelling.{ops_bytes}

-- the operations stand behind what was there, and each is read back
pub record Writes (ops : List Op) (old new : List ℕ) : Type 0 where
  pub spelled : new ≡ old ++ ops_bytes ops
  pub back : AllByRecursion OpReadsBack ops
