-- What the front of a file tells, and which two files may be those of a store. No crash of the
-- program leaves others: before its first opening an area has at most 18 bytes, and later one of
-- the two is always open.
use Rattle.std.specs.Prelude.{◌≡◌, ◌⊎◌, ◌&&◌, ◌||◌, ℕ, nat_eq, nat_le, Bool, List, [], ◌∷◌, drop, codes, if◌then◌else◌}
use Rattle.std.specs.List.{starts_with}
use Rattle.pl_files.specs.declared.front.Front.{Front}
use Rattle.pl_files.specs.declared.front.Front.TheVariants.{Open, Unopened, Other}

-- The gate is open.
abbrev pub begins_open : List ℕ → Bool
begins_open bytes = starts_with nat_eq bytes (1 ∷ [])

-- The gate is closed, or a front of the word stands behind it: closing, laying and opening an area
-- leave no others.
abbrev pub begins_unopened : List ℕ → Bool
begins_unopened bytes =
    starts_with nat_eq bytes (0 ∷ []) || starts_with nat_eq (codes "PLPGST01") (drop 1 bytes)

-- What the length and the first nine bytes of a file tell.
abbrev pub front_of : ℕ → List ℕ → Front
front_of len bytes =
    if begins_open bytes then Open
    else (if nat_le len 18 && begins_unopened bytes then Unopened else Other)

abbrev pub MayBeStore : Front → Front → Type 0
MayBeStore a b = (a ≡ Open) ⊎ ((b ≡ Open) ⊎ ((a ≡ Unopened) × (b ≡ Unopened)))
