-- States with a history. The code has one state and a list of changes.
use Rattle.std.specs.Prelude.{◌-◌, List, [], ◌∷◌, ◌++◌, length, map, take}

-- a state, and those before each change that can be undone, the oldest first
pub record History (A : Type 0) : Type 0 where
  pub current : A
  pub past : List A

module _ {A : Type 0} where
  abbrev pub last_or : A → List A → A
  last_or a [] = a
  last_or a (b ∷ bs) = last_or b bs

  -- after a change to this state
  abbrev pub changed : A → History A → History A
  changed a h = record { current = a; past = h.past ++ h.current ∷ [] }

  -- after the newest change is undone; the same where there is none
  abbrev pub back : History A → History A
  back h = record { current = last_or h.current h.past; past = take (length h.past - 1) h.past }

  -- nothing can be undone any more
  abbrev pub settled : History A → History A
  settled h = record { current = h.current; past = [] }

-- each state seen as another
abbrev pub seen_as : {A B : Type 0} → (A → B) → History A → History B
seen_as f h = record { current = f h.current; past = map f h.past }

-- what changes stand for, where this undoes one of them
module _ {C A : Type 0} (undo_one : C → A → A) where
  -- the newest change, which is the last one, is undone first
  abbrev pub undone : List C → A → A
  undone [] a = a
  undone (c ∷ cs) a = undo_one c (undone cs a)

  abbrev pub past_of : List C → A → List A
  past_of [] a = []
  past_of (c ∷ cs) a = undo_one c (undone cs a) ∷ past_of cs a

  abbrev pub history : List C → A → History A
  history cs a = record { current = a; past = past_of cs a }
