-- The tables that places hold.
use Rattle.std.specs.Prelude.{ℕ, zero, suc, ◌-◌, ◌&&◌, Bool, true, nat_eq, if◌then◌else◌}
use Rattle.std.specs.Prelude.{List, [], ◌∷◌, length, take, Option, None, Some, option_map}
use Rattle.std.specs.Cmp.Lexicographic.{pointwise}
use Rattle.pl_base.specs.declared.value.Value.{Value}
use Rattle.pl_history.specs.History.{back, changed, settled}
use Rattle.pl_tables.specs.declared.tables.Place.{Place}
use Rattle.pl_tables.specs.declared.tables.Step.{Step}
use Rattle.pl_tables.specs.declared.tables.Step.TheVariants.{Created, Dropped, Changed}
use Rattle.pl_tables.specs.Named.{Named, named}
use Rattle.pl_tables.specs.Rows.{Content, has_room, inserted, is_full, put_at, raised, removed, replaced, row_at}

abbrev pub kept : Bool → Named → List Named → List Named
kept is_there t ts = if is_there then t ∷ ts else ts

-- the tables that are there
abbrev pub there : List Place → List Named
there [] = []
there (p ∷ ps) = kept p.is_there (named p.name p.table.current) (there ps)

-- a table of this name is there
abbrev pub is_at : List ℕ → Place → Bool
is_at name p = p.is_there && pointwise nat_eq p.name name

-- the place is changed so, and the others stay
abbrev pub with_place : List Place → ℕ → (Place → Place) → List Place
with_place [] at change = []
with_place (p ∷ ps) zero change = change p ∷ ps
with_place (p ∷ ps) (suc at) change = p ∷ with_place ps at change

abbrev pub with_insert : List Value → Place → Place
with_insert row p =
    record { name = p.name; table = changed (inserted row p.table.current) p.table; is_there = p.is_there }

abbrev pub with_replace : ℕ → List Value → Place → Place
with_replace id row p =
    record { name = p.name; table = changed (replaced id row p.table.current) p.table; is_there = p.is_there }

abbrev pub with_remove : ℕ → Place → Place
with_remove id p =
    record { name = p.name; table = changed (removed id p.table.current) p.table; is_there = p.is_there }

-- with nothing that can be undone
abbrev pub with_put : ℕ → List Value → Place → Place
with_put id row p = record {
  name = p.name;
  table = record { current = put_at id row p.table.current; past = [] };
  is_there = p.is_there;
}

abbrev pub with_raised : ℕ → Place → Place
with_raised next p = record {
  name = p.name;
  table = record { current = raised next p.table.current; past = [] };
  is_there = p.is_there;
}

-- the row of this id at the place
abbrev pub row_in : ℕ → Option Place → Option (List Value)
row_in id None = None
row_in id (Some p) = row_at id p.table.current.rows

-- what the table at the place holds
abbrev pub content_in : Option Place → Option Content
content_in place = option_map (λ (p : Place). p.table.current) place

-- the next id of the table at the place, and whether it is full
abbrev pub next_in : Option Place → Option ℕ
next_in place = option_map (λ (p : Place). p.table.current.next) place

abbrev pub is_full_in : Option Place → Option Bool
is_full_in place = option_map (λ (p : Place). is_full p.table.current) place

-- whether it has room for a row of this id
abbrev pub has_room_in : ℕ → Option Place → Option Bool
has_room_in id place = option_map (λ (p : Place). has_room id p.table.current) place

abbrev pub settled_place : Place → Place
settled_place p = record { name = p.name; table = settled p.table; is_there = p.is_there }

abbrev pub undone_place : Place → Place
undone_place p = record { name = p.name; table = back p.table; is_there = p.is_there }

abbrev pub gone : Bool → Place → Place
gone is_there p = record { name = p.name; table = p.table; is_there = is_there }

abbrev pub undo_step : Step → List Place → List Place
undo_step Created ps = take (length ps - 1) ps
undo_step (Dropped at) ps = with_place ps at (gone true)
undo_step (Changed at) ps = with_place ps at undone_place
