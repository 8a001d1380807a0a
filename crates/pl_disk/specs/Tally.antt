-- The counts of a host in memory, and the numbers of the calls that are to fail.
use Rattle.std.specs.Prelude.{ℕ, ◌+◌, ◌-◌, ◌^◌, ◌==◌, List, min, IsTrue}
use Rattle.std.specs.List.{list_any}

pub record Tally : Type 0 where
  -- the numbers of the calls that are to fail, counted from 0
  pub fail : List ℕ
  -- how many calls there were
  pub calls : ℕ
  -- how many of them failed, those that print apart
  pub disk_faults : ℕ
  pub say_faults : ℕ
  -- how many failed for want of memory
  pub starved : ℕ

-- A count after one more. The greatest u64 stays.
abbrev pub raised : ℕ → ℕ
raised n = min (n + 1) (2 ^ 64 - 1)

-- The call of this number is to fail.
abbrev pub IsListed : List ℕ → ℕ → Type 0
IsListed fail call = IsTrue (list_any (λ n. n == call) fail)

-- Before the first call.
abbrev pub tally_from : List ℕ → Tally
tally_from fail = record { fail = fail; calls = 0; disk_faults = 0; say_faults = 0; starved = 0 }
