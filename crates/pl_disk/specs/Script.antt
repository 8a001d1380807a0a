-- A script in memory.
use Rattle.std.specs.Prelude.{ℕ, ◌≡◌, ◌≤◌, ◌↔◌, List, [], drop, Result, IsErr, OnOk, OnErr}
use Rattle.pl_disk.specs.Attached.{AreAttached, IsGiven}
use Rattle.pl_disk.specs.Tally.{IsListed, raised}
use Rattle.pl_disk.specs.declared.device.Failed.{Failed}
use Rattle.pl_disk.specs.declared.memory.script.MemorySource.{MemorySource}

-- What is left of it.
abbrev pub left_of : MemorySource → List ℕ
left_of s = drop s.at s.bytes.items

-- The numbers of the calls that are to fail.
abbrev pub script_fail_list : MemorySource → List ℕ
script_fail_list s = s.fail.items

-- How many calls there were, and how many failed.
abbrev pub script_calls : MemorySource → ℕ
script_calls s = s.calls

abbrev pub script_faults : MemorySource → ℕ
script_faults s = s.faults

-- The names that it was given.
abbrev pub script_attached : MemorySource → List (List ℕ) → Type 0
script_attached s = AreAttached s.attached

-- It was given one.
abbrev pub script_is_attached : MemorySource → Type 0
script_is_attached s = IsGiven (script_attached s)

-- A script of these bytes before the first call.
pub record IsFreshScript (bytes fail : List ℕ) (s : MemorySource) : Type 0 where
  pub left : left_of s ≡ bytes
  pub fail_list : script_fail_list s ≡ fail
  pub calls : script_calls s ≡ 0
  pub faults : script_faults s ≡ 0
  pub attached : script_attached s []

-- How a call goes: it counts, it fails exactly where its number is listed, and then takes nothing.
pub record FailsWhereListed {T : Type 0} (old new : MemorySource) (result : Result T Failed) : Type 0 where
  pub fail_list : script_fail_list new ≡ script_fail_list old
  pub calls : script_calls new ≡ raised (script_calls old)
  pub fails : IsErr result ↔ IsListed (script_fail_list old) (script_calls old)
  pub no_fewer : script_faults old ≤ script_faults new
  pub counts : OnErr result (script_faults new ≡ raised (script_faults old))
  pub counts_no_more : OnOk result (script_faults new ≡ script_faults old)
  pub takes_nothing : OnErr result (left_of new ≡ left_of old)
