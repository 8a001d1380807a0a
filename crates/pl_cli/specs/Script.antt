-- The bytes that are a script, and where others are refused.
use Rattle.std.specs.Prelude.{◌≡◌, ◌<◌, ◌++◌, ◌⊎◌, ℕ, List, [], ◌∷◌, length, drop, slice_index, nat_eq, if◌then◌else◌, Option, Some, Result, Ok, Err, Vec, String, string_bytes}
use Rattle.std.specs.List.{starts_with}
use Rattle.std.specs.Str.{IsValidUpTo}
use Rattle.std.specs.declared.alloc.Global.{Global}
use Rattle.pl_cli.specs.declared.reading.ReadFail.{ReadFail}
use Rattle.pl_cli.specs.declared.reading.ReadFail.TheVariants.{Fault, Refused, Memory}

-- Bytes are no text from this offset on: those before it are UTF-8, and no more of them, or a zero byte stands there.
abbrev pub IsFlaw : List ℕ → ℕ → Type 0
IsFlaw bytes at = IsValidUpTo bytes at ⊎ ((at < length bytes) × (slice_index bytes at ≡ 0))

-- A script is spoiled at this offset: it has a flaw there, or is longer than 16 MiB, which are its first bytes.
abbrev pub Spoils : List ℕ → ℕ → Type 0
Spoils script at = IsFlaw script at ⊎ ((at ≡ 16777216) × (16777216 < length script))

-- A script has no such offset. Others are refused at their first one.
abbrev pub IsScript : List ℕ → Type 0
IsScript script = (at : ℕ) → Spoils script at → ⊥

abbrev pub IsFirst : (ℕ → Type 0) → ℕ → Type 0
IsFirst P at = P at × ((k : ℕ) → k < at → P k → ⊥)

abbrev pub IsRefusedAt : List ℕ → ℕ → Type 0
IsRefusedAt script at = IsFirst (Spoils script) at

-- a byte order mark in UTF-8
abbrev pub mark : List ℕ
mark = 239 ∷ 187 ∷ 191 ∷ []

-- The text of a script is what stands behind the byte order mark, where it begins with one.
abbrev pub script_text : List ℕ → List ℕ
script_text script = if starts_with nat_eq script mark then drop 3 script else script

-- The rest serves the functions that read it.

-- the whole of what was left was read, and `Refused` comes exactly where that is no script
abbrev pub IsScriptRead : (left : List ℕ) → (rest : Option (List ℕ)) → Result (String Global) ReadFail → Type 0
IsScriptRead left rest (Ok script) = (string_bytes script ≡ left) × (rest ≡ Some []) × IsScript left
IsScriptRead left rest (Err (Refused at)) = IsRefusedAt left at
IsScriptRead left rest (Err Fault) = Unit {0}
IsScriptRead left rest (Err Memory) = Unit {0}

-- the whole of what was left was taken, or so much that the character at the limit is there with all its bytes
abbrev pub IsTaken : (left : List ℕ) → (rest : Option (List ℕ)) → Result (Vec ℕ Global) ReadFail → Type 0
IsTaken left rest (Ok bytes) =
    ((bytes.items ≡ left) × (rest ≡ Some []))
    ⊎ ((16777219 < length bytes.items) × ((more : List ℕ) × (bytes.items ++ more ≡ left)))
IsTaken left rest (Err (Refused at)) = ⊥
IsTaken left rest (Err Fault) = Unit {0}
IsTaken left rest (Err Memory) = Unit {0}
