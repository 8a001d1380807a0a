-- Tables that queries can't tell apart.
use Rattle.std.specs.Prelude.{◌≡◌, ℕ, List, Contains}
use Rattle.pl_query.specs.Sources.{Tables}

-- the tables of these names have the same rows
abbrev pub AgreeOn : List (List ℕ) → Tables → Tables → Type 0
AgreeOn names one other = (name : List ℕ) → Contains names name → one name ≡ other name

-- tables that agree on the new names agree on the old ones, and are alike in this
abbrev pub Covers : (old new : List (List ℕ)) → (Tables → Tables → Type 0) → Type 0
Covers old new IsAlike =
    (one other : Tables) → AgreeOn new one other → AgreeOn old one other × IsAlike one other
