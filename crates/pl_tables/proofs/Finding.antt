-- The place of a name, and the table that is there.
use Rattle.std.proofs.Common.{Result, Err, ◌≡◌, ◌≤◌, ◌<◌, ◌+◌, ◌&&◌, ℕ, zero, suc, List, [], ◌∷◌, ◌++◌, length, cond, not, nat_lt, nat_eq, Bool, true, false, Option, Some, None, refl, sym, ◌∙◌, ap, arith}
use Rattle.std.specs.Prelude.{IsSome, option_map, slice_get, slice_set}
use Rattle.std.specs.List.{position, position_or_len, prefix_len}
use Rattle.std.specs.Cmp.Lexicographic.{pointwise}
use Rattle.std.proofs.lemmas.Bool.Decides.{nat_tests}
use Rattle.pl_base.specs.declared.value.Value.{Value}
use Rattle.pl_history.specs.History.{History, changed, back, history, seen_as}
use Rattle.pl_history.specs.HistoryLaws.{history_changed, history_back, seen_changed, seen_back, back_changed, before_last}
use Rattle.pl_tables.specs.declared.tables.Place.{Place}
use Rattle.pl_tables.specs.declared.tables.Step.{Step}
use Rattle.pl_tables.specs.declared.tables.Step.TheVariants.{Created}
use Rattle.pl_tables.specs.declared.table.TableFail.{TableFail}
use Rattle.pl_tables.specs.declared.table.TableFail.TheVariants as fail
use Rattle.pl_tables.specs.Rows.{Content, has_room, is_full, row_at}
use Rattle.pl_tables.specs.Named.{Named, named, content_named, has_room_named, is_full_named, next_named, on_table, without_table, row_named, rows_of}
use Rattle.pl_tables.specs.Places.{content_in, has_room_in, is_full_in, next_in, kept, there, is_at, with_place, undone_place, row_in, gone, undo_step}

no_place : (n m : ℕ) → (let o : Option ℕ = cond (nat_lt n m) (Some n) None in o ≡ None) → m ≤ n
no_place n m is = grind (arith, nat_tests)

is_place : (n m at : ℕ) → (let o : Option ℕ = cond (nat_lt n m) (Some n) None in o ≡ Some at) → (n ≡ at) × (n < m)
is_place n m at is = (grind (arith, nat_tests), grind (arith, nat_tests))

-- a written place
pub place_set : (ps : List Place) (at : ℕ) (p : Place) (change : Place → Place) → slice_get ps at ≡ Some p → slice_set ps at (change p) ≡ with_place ps at change
place_set [] at p change is = refl
place_set (q ∷ ps) zero p change is = ap (λ (r : Place). change r ∷ ps) (let e : Some p ≡ Some q = sym is in cc)
place_set (q ∷ ps) (suc at) p change is = ap (λ (rs : List Place). q ∷ rs) (place_set ps at p change is)

pub place_past : (ps : List Place) (at : ℕ) (change : Place → Place) → length ps ≤ at → with_place ps at change ≡ ps
place_past [] at change le = refl
place_past (p ∷ ps) zero change le = absurd (omega (arith, le))
place_past (p ∷ ps) (suc at) change le = ap (λ (rs : List Place). p ∷ rs) (place_past ps at change (omega (arith, le)))

-- a change of a place that is undone
pub place_back : (ps : List Place) (at : ℕ) (change undo : Place → Place) → ((p : Place) → slice_get ps at ≡ Some p → undo (change p) ≡ p) → with_place (with_place ps at change) at undo ≡ ps
place_back [] at change undo is = refl
place_back (p ∷ ps) zero change undo is = ap (λ (r : Place). r ∷ ps) (is p refl)
place_back (p ∷ ps) (suc at) change undo is = ap (λ (rs : List Place). p ∷ rs) (place_back ps at change undo is)

pub there_append : (ps : List Place) (name : List ℕ) (table : History Content) → there (ps ++ (record { name = name; table = table; is_there = true }) ∷ []) ≡ there ps ++ named name table.current ∷ []
there_append [] name table = refl
there_append (p ∷ ps) name table = ap (kept p.is_there (named p.name p.table.current)) (there_append ps name table) ∙ kept_append p.is_there (named p.name p.table.current) (there ps) (named name table.current ∷ [])
  where
    kept_append : (b : Bool) (t : Named) (xs ys : List Named) → kept b t (xs ++ ys) ≡ kept b t xs ++ ys
    kept_append true t xs ys = refl
    kept_append false t xs ys = refl

module _ (name : List ℕ) where
  absent_at : (ps : List Place) → length ps ≤ position_or_len (is_at name) ps → content_named name (there ps) ≡ None
  absent_at [] long = refl
  absent_at (p ∷ ps) long =
      (elim p.is_there as (λ (b : Bool). (suc (length ps) ≤ cond (not (b && pointwise nat_eq p.name name)) (1 + prefix_len (λ (u : Place). not (is_at name u)) ps) 0) → content_named name (kept b (named p.name p.table.current) (there ps)) ≡ None) [
        | true ↦ (elim (pointwise nat_eq p.name name) as (λ (s : Bool). (suc (length ps) ≤ cond (not s) (1 + prefix_len (λ (u : Place). not (is_at name u)) ps) 0) → cond s (Some p.table.current) (content_named name (there ps)) ≡ None)
            [ true ↦ λ h. absurd (omega (arith, h)) | false ↦ λ h. absent_at ps (omega (arith, h)) ])
        | false ↦ λ h. absent_at ps (omega (arith, h))
      ]) long

  found_at : (ps : List Place) (at : ℕ) (q : Place) → at ≡ position_or_len (is_at name) ps → at < length ps → slice_get ps at ≡ Some q → content_named name (there ps) ≡ Some q.table.current
  found_at [] at q is below has = absurd (omega (arith, below))
  found_at (p ∷ ps) zero q is below has =
      let e : p ≡ q = (let o : Some p ≡ Some q = has in cc) in
      (elim p.is_there as (λ (b : Bool). (0 ≡ cond (not (b && pointwise nat_eq p.name name)) (1 + prefix_len (λ (u : Place). not (is_at name u)) ps) 0) → content_named name (kept b (named p.name p.table.current) (there ps)) ≡ Some p.table.current) [
        | true ↦ (elim (pointwise nat_eq p.name name) as (λ (s : Bool). (0 ≡ cond (not s) (1 + prefix_len (λ (u : Place). not (is_at name u)) ps) 0) → cond s (Some p.table.current) (content_named name (there ps)) ≡ Some p.table.current)
            [ true ↦ λ h. refl | false ↦ λ h. absurd (omega (arith, h)) ])
        | false ↦ λ h. absurd (omega (arith, h))
      ]) is
      ∙ ap (λ (r : Place). let o : Option Content = Some r.table.current in o) e
  found_at (p ∷ ps) (suc at) q is below has =
      (elim p.is_there as (λ (b : Bool). (suc at ≡ cond (not (b && pointwise nat_eq p.name name)) (1 + prefix_len (λ (u : Place). not (is_at name u)) ps) 0) → content_named name (kept b (named p.name p.table.current) (there ps)) ≡ Some q.table.current) [
        | true ↦ (elim (pointwise nat_eq p.name name) as (λ (s : Bool). (suc at ≡ cond (not s) (1 + prefix_len (λ (u : Place). not (is_at name u)) ps) 0) → cond s (Some p.table.current) (content_named name (there ps)) ≡ Some q.table.current)
            [ true ↦ λ h. absurd (omega (arith, h)) | false ↦ λ h. found_at ps at q (omega (arith, h)) (omega (arith, below)) has ])
        | false ↦ λ h. found_at ps at q (omega (arith, h)) (omega (arith, below)) has
      ]) is

  gone_at : (ps : List Place) (at : ℕ) → at ≡ position_or_len (is_at name) ps → at < length ps → there (with_place ps at (gone false)) ≡ without_table name (there ps)
  gone_at [] at is below = absurd (omega (arith, below))
  gone_at (p ∷ ps) zero is below =
      (elim p.is_there as (λ (b : Bool). (0 ≡ cond (not (b && pointwise nat_eq p.name name)) (1 + prefix_len (λ (u : Place). not (is_at name u)) ps) 0) → there ps ≡ without_table name (kept b (named p.name p.table.current) (there ps))) [
        | true ↦ (elim (pointwise nat_eq p.name name) as (λ (s : Bool). (0 ≡ cond (not s) (1 + prefix_len (λ (u : Place). not (is_at name u)) ps) 0) → there ps ≡ cond s (there ps) (named p.name p.table.current ∷ without_table name (there ps)))
            [ true ↦ λ h. refl | false ↦ λ h. absurd (omega (arith, h)) ])
        | false ↦ λ h. absurd (omega (arith, h))
      ]) is
  gone_at (p ∷ ps) (suc at) is below =
      (elim p.is_there as (λ (b : Bool). (suc at ≡ cond (not (b && pointwise nat_eq p.name name)) (1 + prefix_len (λ (u : Place). not (is_at name u)) ps) 0) → kept b (named p.name p.table.current) (there (with_place ps at (gone false))) ≡ without_table name (kept b (named p.name p.table.current) (there ps))) [
        | true ↦ (elim (pointwise nat_eq p.name name) as (λ (s : Bool). (suc at ≡ cond (not s) (1 + prefix_len (λ (u : Place). not (is_at name u)) ps) 0) → named p.name p.table.current ∷ there (with_place ps at (gone false)) ≡ cond s (there ps) (named p.name p.table.current ∷ without_table name (there ps)))
            [ true ↦ λ h. absurd (omega (arith, h)) | false ↦ λ h. ap (λ (l : List Named). named p.name p.table.current ∷ l) (gone_at ps at (omega (arith, h)) (omega (arith, below))) ])
        | false ↦ λ h. gone_at ps at (omega (arith, h)) (omega (arith, below))
      ]) is

  module _ (change : Content → Content) where
    abbrev with_change : Place → Place
    with_change p = record { name = p.name; table = changed (change p.table.current) p.table; is_there = p.is_there }

    changed_at : (ps : List Place) (at : ℕ) → at ≡ position_or_len (is_at name) ps → at < length ps → there (with_place ps at with_change) ≡ on_table name change (there ps)
    changed_at [] at is below = absurd (omega (arith, below))
    changed_at (p ∷ ps) zero is below =
        (elim p.is_there as (λ (b : Bool). (0 ≡ cond (not (b && pointwise nat_eq p.name name)) (1 + prefix_len (λ (u : Place). not (is_at name u)) ps) 0) → kept b (named p.name (change p.table.current)) (there ps) ≡ on_table name change (kept b (named p.name p.table.current) (there ps))) [
          | true ↦ (elim (pointwise nat_eq p.name name) as (λ (s : Bool). (0 ≡ cond (not s) (1 + prefix_len (λ (u : Place). not (is_at name u)) ps) 0) → named p.name (change p.table.current) ∷ there ps ≡ cond s (named p.name (change p.table.current) ∷ there ps) (named p.name p.table.current ∷ on_table name change (there ps)))
              [ true ↦ λ h. refl | false ↦ λ h. absurd (omega (arith, h)) ])
          | false ↦ λ h. absurd (omega (arith, h))
        ]) is
    changed_at (p ∷ ps) (suc at) is below =
        (elim p.is_there as (λ (b : Bool). (suc at ≡ cond (not (b && pointwise nat_eq p.name name)) (1 + prefix_len (λ (u : Place). not (is_at name u)) ps) 0) → kept b (named p.name p.table.current) (there (with_place ps at with_change)) ≡ on_table name change (kept b (named p.name p.table.current) (there ps))) [
          | true ↦ (elim (pointwise nat_eq p.name name) as (λ (s : Bool). (suc at ≡ cond (not s) (1 + prefix_len (λ (u : Place). not (is_at name u)) ps) 0) → named p.name p.table.current ∷ there (with_place ps at with_change) ≡ cond s (named p.name (change p.table.current) ∷ there ps) (named p.name p.table.current ∷ on_table name change (there ps)))
              [ true ↦ λ h. absurd (omega (arith, h)) | false ↦ λ h. ap (λ (l : List Named). named p.name p.table.current ∷ l) (changed_at ps at (omega (arith, h)) (omega (arith, below))) ])
          | false ↦ λ h. changed_at ps at (omega (arith, h)) (omega (arith, below))
        ]) is

    pub there_changed : (ps : List Place) (at : ℕ) → position (is_at name) ps ≡ Some at → there (with_place ps at with_change) ≡ on_table name change (there ps)
    there_changed ps at is = let h = is_place (position_or_len (is_at name) ps) (length ps) at is in changed_at ps at (sym h.0) (omega (arith, h.0, h.1))

    pub undone_change : (ps : List Place) (at : ℕ) → with_place (with_place ps at with_change) at undone_place ≡ ps
    undone_change ps at = place_back ps at with_change undone_place (λ p is. ap (λ (h : History Content). record { name = p.name; table = h; is_there = p.is_there }) (back_changed (change p.table.current) p.table))

  pub not_there : (ps : List Place) → position (is_at name) ps ≡ None → content_named name (there ps) ≡ None
  not_there ps is = absent_at ps (no_place _ _ is)

  pub is_found : (ps : List Place) (at : ℕ) (q : Place) → position (is_at name) ps ≡ Some at → slice_get ps at ≡ Some q → content_named name (there ps) ≡ Some q.table.current
  is_found ps at q is has = let h = is_place (position_or_len (is_at name) ps) (length ps) at is in found_at ps at q (sym h.0) (omega (arith, h.0, h.1)) has

  pub within : (ps : List Place) (at : ℕ) → position (is_at name) ps ≡ Some at → at < length ps
  within ps at is = let h = is_place _ _ at is in omega (arith, h.0, h.1)

  pub there_gone : (ps : List Place) (at : ℕ) → position (is_at name) ps ≡ Some at → there (with_place ps at (gone false)) ≡ without_table name (there ps)
  there_gone ps at is = let h = is_place (position_or_len (is_at name) ps) (length ps) at is in gone_at ps at (sym h.0) (omega (arith, h.0, h.1))

  is_true_at : (ps : List Place) (at : ℕ) (q : Place) → at ≡ position_or_len (is_at name) ps → at < length ps → slice_get ps at ≡ Some q → q.is_there ≡ true
  is_true_at [] at q is below has = absurd (omega (arith, below))
  is_true_at (p ∷ ps) zero q is below has =
      let e : q ≡ p = (let o : Some q ≡ Some p = sym has in cc) in
      ap (λ (r : Place). r.is_there) e
      ∙ (elim p.is_there as (λ (b : Bool). (0 ≡ cond (not (b && pointwise nat_eq p.name name)) (1 + prefix_len (λ (u : Place). not (is_at name u)) ps) 0) → b ≡ true)
      [ true ↦ λ h. refl | false ↦ λ h. absurd (omega (arith, h)) ]) is
  is_true_at (p ∷ ps) (suc at) q is below has =
      (elim (is_at name p) as (λ (b : Bool). (suc at ≡ cond (not b) (1 + prefix_len (λ (u : Place). not (is_at name u)) ps) 0) → q.is_there ≡ true)
      [ true ↦ λ h. absurd (omega (arith, h)) | false ↦ λ h. is_true_at ps at q (omega (arith, h)) (omega (arith, below)) has ]) is

  pub undone_gone : (ps : List Place) (at : ℕ) → position (is_at name) ps ≡ Some at → with_place (with_place ps at (gone false)) at (gone true) ≡ ps
  undone_gone ps at is =
      let h = is_place (position_or_len (is_at name) ps) (length ps) at is in
      place_back ps at (gone false) (gone true) (λ p has. ap (λ (b : Bool). record { name = p.name; table = p.table; is_there = b }) (sym (is_true_at ps at p (sym h.0) (omega (arith, h.0, h.1)) has)))

-- a change was made
pub gone_on : (ss all : List Step) (s : Step) (old new : List Place) → all ≡ ss ++ s ∷ [] → undo_step s new ≡ old
    → seen_as there (history undo_step all new) ≡ changed (there new) (seen_as there (history undo_step ss old))
gone_on ss all s old new is undone = ap (λ (l : List Step). seen_as there (history undo_step l new)) is
    ∙ (ap (seen_as there) (history_changed undo_step ss s old new undone) ∙ seen_changed there new (history undo_step ss old))

-- a change is undone
pub gone_back : (ss all : List Step) (s : Step) (old new : List Place) → all ≡ ss ++ s ∷ [] → new ≡ undo_step s old
    → seen_as there (history undo_step ss new) ≡ back (seen_as there (history undo_step all old))
gone_back ss all s old new is e =
    ap (λ (k : List Place). seen_as there (history undo_step ss k)) e
    ∙ (ap (seen_as there) (history_back undo_step ss s old ∙ ap (λ (l : List Step). back (history undo_step l old)) (sym is))
    ∙ seen_back there (history undo_step all old))

pub back_created : (ps : List Place) (p : Place) → undo_step Created (ps ++ p ∷ []) ≡ ps
back_created ps p = before_last ps p

pub not_some : (o : Option Content) → IsSome o → o ≡ None → ⊥
not_some None h e = grind (arith, h)
not_some (Some c) h e = absurd cc

pub no_row : (o : Option (List Value)) → IsSome o → o ≡ None → ⊥
no_row None h e = grind (arith, h)
no_row (Some r) h e = absurd cc

-- the row of a table of a name is that of its place
pub row_found : (name : List ℕ) (id : ℕ) (ps : List Place) (at : ℕ) (q : Place) → position (is_at name) ps ≡ Some at → slice_get ps at ≡ Some q → row_named name id (there ps) ≡ row_in id (slice_get ps at)
row_found name id ps at q is has = ap (λ (o : Option Content). row_at id (rows_of o)) (is_found name ps at q is has) ∙ sym (ap (row_in id) has)

pub next_found : (name : List ℕ) (ps : List Place) (at : ℕ) (q : Place) → position (is_at name) ps ≡ Some at → slice_get ps at ≡ Some q → next_named name (there ps) ≡ next_in (slice_get ps at)
next_found name ps at q is has = ap (option_map (λ (c : Content). c.next)) (is_found name ps at q is has) ∙ sym (ap next_in has)

pub full_found : (name : List ℕ) (ps : List Place) (at : ℕ) (q : Place) → position (is_at name) ps ≡ Some at → slice_get ps at ≡ Some q → is_full_named name (there ps) ≡ is_full_in (slice_get ps at)
full_found name ps at q is has = ap (option_map is_full) (is_found name ps at q is has) ∙ sym (ap is_full_in has)

pub content_found : (name : List ℕ) (ps : List Place) (at : ℕ) (q : Place) → position (is_at name) ps ≡ Some at → slice_get ps at ≡ Some q → content_named name (there ps) ≡ content_in (slice_get ps at)
content_found name ps at q is has = is_found name ps at q is has ∙ sym (ap content_in has)

pub row_absent : (name : List ℕ) (id : ℕ) (ps : List Place) → position (is_at name) ps ≡ None → row_named name id (there ps) ≡ None
row_absent name id ps is = ap (λ (o : Option Content). row_at id (rows_of o)) (not_there name ps is)

pub some_place : (ps : List Place) (at : ℕ) → at < length ps → (q : Place) × (slice_get ps at ≡ Some q)
some_place [] at lt = absurd (omega (arith, lt))
some_place (p ∷ ps) zero lt = (p, refl)
some_place (p ∷ ps) (suc at) lt = some_place ps at (omega (arith, lt))

pub there_settled : (ps : List Place) (at : ℕ) (change : Place → Place) → ((p : Place) → slice_get ps at ≡ Some p → kept (change p).is_there (named (change p).name (change p).table.current) ≡ kept p.is_there (named p.name p.table.current)) → there (with_place ps at change) ≡ there ps
there_settled [] at change same = refl
there_settled (p ∷ ps) zero change same = ap (λ (k : List Named → List Named). k (there ps)) (same p refl)
there_settled (p ∷ ps) (suc at) change same = ap (kept p.is_there (named p.name p.table.current)) (there_settled ps at change same)

-- what a place holds that isn't there doesn't count
pub there_cleared : (ps : List Place) (at : ℕ) (p q : Place) → slice_get ps at ≡ Some p → p.is_there ≡ false → q.is_there ≡ false → there (slice_set ps at q) ≡ there ps
there_cleared [] at p q has was is = refl
there_cleared (r ∷ ps) zero p q has was is =
    let same : r ≡ p = (let o : Some r ≡ Some p = has in cc) in
    let e : r.is_there ≡ false = ap (λ (s : Place). s.is_there) same ∙ was in
    ap (λ (b : Bool). kept b (named q.name q.table.current) (there ps)) is ∙ sym (ap (λ (b : Bool). kept b (named r.name r.table.current) (there ps)) e)
there_cleared (r ∷ ps) (suc at) p q has was is = ap (kept r.is_there (named r.name r.table.current)) (there_cleared ps at p q has was is)

pub same_place : (ps : List Place) (at : ℕ) (p q : Place) → slice_get ps at ≡ Some p → slice_get ps at ≡ Some q → p ≡ q
same_place ps at p q e f = let o : Some p ≡ Some q = sym e ∙ f in cc

pub not_full : (let r : Result ℕ TableFail = Err fail.Memory in r ≡ Err fail.Full) → ⊥
not_full e = absurd cc

pub full_absent : (name : List ℕ) (ps : List Place) → position (is_at name) ps ≡ None → is_full_named name (there ps) ≡ None
full_absent name ps is = ap (option_map is_full) (not_there name ps is)

-- as many states as changes
pub length_past : (ss : List Step) (ps : List Place) → length (seen_as there (history undo_step ss ps)).past ≡ length ss
length_past [] ps = refl
length_past (s ∷ ss) ps = ap suc (length_past ss ps)

-- what can be undone isn't seen
pub there_alike : (f g : Place → Place) → ((p : Place) (l : List Named) → kept (f p).is_there (named (f p).name (f p).table.current) l ≡ kept (g p).is_there (named (g p).name (g p).table.current) l)
    → (ps : List Place) (at : ℕ) → there (with_place ps at f) ≡ there (with_place ps at g)
there_alike f g same [] at = refl
there_alike f g same (p ∷ ps) zero = same p (there ps)
there_alike f g same (p ∷ ps) (suc at) = ap (kept p.is_there (named p.name p.table.current)) (there_alike f g same ps at)

pub there_put : (name : List ℕ) (change : Content → Content) (ps : List Place) (at : ℕ) → position (is_at name) ps ≡ Some at
    → there (with_place ps at (λ (p : Place). record { name = p.name; table = record { current = change p.table.current; past = [] }; is_there = p.is_there })) ≡ on_table name change (there ps)
there_put name change ps at is =
    there_alike (λ (p : Place). record { name = p.name; table = record { current = change p.table.current; past = [] }; is_there = p.is_there })
    (λ (p : Place). record { name = p.name; table = changed (change p.table.current) p.table; is_there = p.is_there }) (λ p l. refl) ps at
    ∙ there_changed name change ps at is

pub there_kept : (ps : List Place) (at : ℕ) (p : Place) (h : History Content) → slice_get ps at ≡ Some p → h.current ≡ p.table.current
    → there (slice_set ps at (record { name = p.name; table = h; is_there = p.is_there })) ≡ there ps
there_kept [] at p h has is = refl
there_kept (r ∷ ps) zero p h has is =
    let same : r ≡ p = (let o : Some r ≡ Some p = has in cc) in
    ap (λ (k : Content). kept p.is_there (named p.name k) (there ps)) is ∙ ap (λ (x : Place). kept x.is_there (named x.name x.table.current) (there ps)) (sym same)
there_kept (r ∷ ps) (suc at) p h has is = ap (kept r.is_there (named r.name r.table.current)) (there_kept ps at p h has is)

pub room_found : (name : List ℕ) (id : ℕ) (ps : List Place) (at : ℕ) (q : Place) → position (is_at name) ps ≡ Some at → slice_get ps at ≡ Some q → has_room_named name id (there ps) ≡ has_room_in id (slice_get ps at)
room_found name id ps at q is has = ap (option_map (has_room id)) (is_found name ps at q is has) ∙ sym (ap (has_room_in id) has)
