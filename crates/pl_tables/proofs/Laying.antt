-- A row that comes to its place by its id.
use Rattle.std.proofs.Common.{◌≡◌, ◌≢◌, ◌≤◌, ◌<◌, ◌+◌, ℕ, zero, suc, List, [], ◌∷◌, ◌++◌, Option, Some, None, length, Result, Ok, Err, OnOk, OnErr, refl, sym, ap, subst, Ordering, ◌∙◌, arith}
use Rattle.std.specs.Prelude.{insert, map, max}
use Rattle.std.specs.List.{AllByRecursion}
use Rattle.std.proofs.lemmas.List.{map-append}
use Rattle.std.specs.BTreeMap.{insert_entry}
use Rattle.std.specs.Cmp.{nat_cmp_is}
use Rattle.std.specs.Ordering.{match_ordering, nat_cmp}
use Rattle.std.specs.declared.cmp.Ordering.TheVariants.{Equal, Greater, Less}
use Rattle.pl_base.specs.declared.value.Value.{Value}
use Rattle.pl_tables.specs.declared.slots.Slot.{Slot}
use Rattle.pl_tables.specs.declared.heap.Change.{Change}
use Rattle.pl_tables.specs.Slots.{before, live, id_at, with_row, Rising}
use Rattle.pl_history.specs.History.{changed, past_of, seen_as, settled, History}
use Rattle.pl_unique.specs.declared.row_keys.Key.{Key}
use Rattle.pl_unique.specs.RowKeyLaws.{columns_changed, columns_settled}
use Rattle.pl_unique.specs.RowKeys.{changed_key, columns_of, key_given, placed, settled_key, HasPlace, IsTaken, KeyIsFree}
use Rattle.pl_tables.specs.Rows.{put_at, Content, Holds}
use Rattle.pl_tables.specs.Undo.{at_rest, content, laid, slot_keys, undo_one, with_gap, InStep, IsGap, IsInOrder, Kept, MayLay}
use Rattle.pl_tables.proofs.Living.{before_append, id_within, live_append, rising_append, rising_at, rising_with}
use Rattle.pl_tables.proofs.Steps.{all_on, all_placed, all_settled, keys_set, no_holder, none_placed, one_holder, other_holder, taken_holds}

cmp_greater : (a b : ℕ) → b < a → nat_cmp a b ≡ Greater
cmp_greater a b lt = sym (nat_cmp_is a b Greater lt)

cmp_less : (a b : ℕ) → a < b → nat_cmp a b ≡ Less
cmp_less a b lt = sym (nat_cmp_is a b Less lt)

cmp_equal : (a b : ℕ) → a ≡ b → nat_cmp a b ≡ Equal
cmp_equal a b is = sym (nat_cmp_is a b Equal is)

module _ (id : ℕ) (row : List Value) where
  abbrev pub put_in : List (ℕ × List Value) → List (ℕ × List Value)
  put_in rows = insert_entry nat_cmp rows id row

  behind_one : (own : ℕ) (r : Option (List Value)) (rows rows' : List (ℕ × List Value)) → own < id → rows' ≡ put_in rows → before own r rows' ≡ put_in (before own r rows)
  behind_one own None rows rows' lt h = h
  behind_one own (Some r) rows rows' lt h =
      ap (λ (xs : List (ℕ × List Value)). (own, r) ∷ xs) h
      ∙ sym (ap (λ (o : Ordering). match_ordering o ((id, row) ∷ (own, r) ∷ rows) ((own, row) ∷ rows) ((own, r) ∷ put_in rows)) (cmp_greater id own lt))

  first_one : (own : ℕ) (r : Option (List Value)) (rows : List (ℕ × List Value)) → id < own → put_in rows ≡ (id, row) ∷ rows → put_in (before own r rows) ≡ (id, row) ∷ before own r rows
  first_one own None rows lt h = h
  first_one own (Some r) rows lt h =
      ap (λ (o : Ordering). match_ordering o ((id, row) ∷ (own, r) ∷ rows) ((own, row) ∷ rows) ((own, r) ∷ put_in rows)) (cmp_less id own lt)

  put_first : (least : ℕ) (ss : List Slot) (top : ℕ) → Rising least ss top → id < least → put_in (live ss) ≡ (id, row) ∷ live ss
  put_first least [] top r lt = refl
  put_first least (s ∷ ss) top r lt = first_one s.id s.row (live ss) (omega (arith, lt, r.0)) (put_first (s.id + 1) ss top r.1 (omega (arith, lt, r.0)))

  -- behind the others
  pub live_behind : (least : ℕ) (ss : List Slot) (top : ℕ) → Rising least ss top → top ≤ id → live ss ++ (id, row) ∷ [] ≡ put_in (live ss)
  live_behind least [] top r le = refl
  live_behind least (s ∷ ss) top r le =
      let lt : s.id < top = (rising_at least (s ∷ ss) top 0 s.id r refl).1 in
      sym (before_append s.id s.row (live ss) ((id, row) ∷ []))
      ∙ behind_one s.id s.row (live ss) (live ss ++ (id, row) ∷ []) (omega (arith, lt, le)) (live_behind (s.id + 1) ss top r.1 le)

  filled_first : (own : ℕ) (r : Option (List Value)) (rows : List (ℕ × List Value)) → own ≡ id → put_in rows ≡ (id, row) ∷ rows → (own, row) ∷ rows ≡ put_in (before own r rows)
  filled_first own None rows e h = ap (λ (n : ℕ). (n, row) ∷ rows) e ∙ sym h
  filled_first own (Some r) rows e h =
      sym (ap (λ (o : Ordering). match_ordering o ((id, row) ∷ (own, r) ∷ rows) ((own, row) ∷ rows) ((own, r) ∷ put_in rows)) (cmp_equal id own (sym e)))

  -- in the slot of its id
  pub live_laid : (least : ℕ) (ss : List Slot) (top at : ℕ) → Rising least ss top → id_at ss at ≡ Some id → live (with_row ss at (Some row)) ≡ put_in (live ss)
  live_laid least [] top at r is = absurd cc
  live_laid least (s ∷ ss) top zero r is =
      let e : s.id ≡ id = (let o : Some s.id ≡ Some id = is in cc) in
      filled_first s.id s.row (live ss) e (put_first (s.id + 1) ss top r.1 (omega (arith, e)))
  live_laid least (s ∷ ss) top (suc at) r is =
      let lt = (rising_at (s.id + 1) ss top at id r.1 is).0 in
      behind_one s.id s.row (live ss) (live (with_row ss at (Some row))) (omega (arith, lt)) (live_laid (s.id + 1) ss top at r.1 is)

-- a slot without a row
module _ (id : ℕ) where
  abbrev gap : Slot
  gap = record { id = id; row = None }

  pub live_gap : (ss : List Slot) (at : ℕ) → at ≤ length ss → live (insert ss at gap) ≡ live ss
  live_gap ss zero le = refl
  live_gap [] (suc at) le = absurd (omega (arith, le))
  live_gap (s ∷ ss) (suc at) le = ap (before s.id s.row) (live_gap ss at (omega (arith, le)))

  pub id_gap : (ss : List Slot) (at : ℕ) → at ≤ length ss → id_at (insert ss at gap) at ≡ Some id
  id_gap ss zero le = refl
  id_gap [] (suc at) le = absurd (omega (arith, le))
  id_gap (s ∷ ss) (suc at) le = id_gap ss at (omega (arith, le))

  rising_more : (least most : ℕ) (ss : List Slot) (top : ℕ) → Rising least ss top → ((n : ℕ) → id_at ss 0 ≡ Some n → most ≤ n) → most ≤ top → Rising most ss top
  rising_more least most [] top r first le = le
  rising_more least most (s ∷ ss) top r first le = (first s.id refl, r.1)

  pub rising_gap : (least : ℕ) (ss : List Slot) (top at : ℕ) → Rising least ss top → least ≤ id → id < top → IsGap id at ss → Rising least (insert ss at gap) top
  rising_gap least ss top zero r ge lt g =
      (ge, rising_more least (id + 1) ss top r (λ n is. let b : id < n = g.above 0 n (omega arith) is in omega (arith, b)) (omega (arith, lt)))
  rising_gap least [] top (suc at) r ge lt g = absurd (omega (arith, g.within))
  rising_gap least (s ∷ ss) top (suc at) r ge lt g =
      let b : s.id < id = g.below 0 s.id (omega arith) refl in (
        r.0,
        rising_gap (s.id + 1) ss top at r.1 (omega (arith, b)) lt (record {
          within = omega (arith, g.within);
          below = λ p n lt is. g.below (suc p) n (omega (arith, lt)) is;
          above = λ p n le is. g.above (suc p) n (omega (arith, le)) is;
        }),
      )

pub at_rest_order : (cs : List Change) (k : Kept) → cs ≡ [] → AllByRecursion IsInOrder (past_of undo_one cs k)
at_rest_order cs k none = subst (λ (l : List Change). AllByRecursion IsInOrder (past_of undo_one l k)) (sym none) tt

pub rising_above : (least : ℕ) (ss : List Slot) (top more : ℕ) → Rising least ss top → top ≤ more → Rising least ss more
rising_above least [] top more r le = omega (arith, r, le)
rising_above least (s ∷ ss) top more r le = (r.0, rising_above (s.id + 1) ss top more r.1 le)

-- the row under its id, as it is seen
module _ (keys : List (List ℕ)) (id : ℕ) (row : List Value) (k : Kept) where
  abbrev seen : ℕ → List (ℕ × List Value) → Content
  seen next rows = record { next = next; rows = rows; keys = keys }

  pub content_laid : (place : Option ℕ) → IsInOrder k → MayLay place id k → content keys (laid place id row k) ≡ put_at id row (content keys k)
  content_laid None order may =
      let next : id + 1 ≡ max k.next (id + 1) = omega (arith, may) in
      ap (λ (n : ℕ). seen n (live (k.slots ++ (record { id = id; row = Some row }) ∷ []))) next
      ∙ ap (seen (max k.next (id + 1))) (live_append k.slots (record { id = id; row = Some row }) ∙ live_behind id row 0 k.slots k.next order may)
  content_laid (Some at) order may =
      let below = (rising_at 0 k.slots k.next at id order may).1 in
      let next : k.next ≡ max k.next (id + 1) = omega (arith, below) in
      ap (λ (n : ℕ). seen n (live (with_row k.slots at (Some row)))) next
      ∙ ap (seen (max k.next (id + 1))) (live_laid id row 0 k.slots k.next at order may)

  pub order_laid : (place : Option ℕ) → IsInOrder k → MayLay place id k → IsInOrder (laid place id row k)
  order_laid None order may = rising_append 0 k.slots (record { id = id; row = Some row }) id (rising_above 0 k.slots k.next id order may) refl
  order_laid (Some at) order may = rising_with 0 k.slots k.next at (Some row) order

pub keys_laid : (columns : List ℕ) (place : Option ℕ) (id : ℕ) (row : List Value) (k : Kept) → slot_keys columns (laid place id row k) ≡ placed place (key_given columns (Some row)) (slot_keys columns k)
keys_laid columns None id row k = map-append (λ (s : Slot). key_given columns s.row) k.slots ((record { id = id; row = Some row }) ∷ [])
keys_laid columns (Some at) id row k = keys_set columns at (Some row) k

-- keys in step with the slots, where a row comes under its id
module _ (h : History Kept) (ks : List Key) (all : AllByRecursion (InStep h) ks) where
  pub may_place : (place : Option ℕ) (id : ℕ) → MayLay place id h.current → AllByRecursion (HasPlace place) ks
  may_place None id may = none_placed ks
  may_place (Some at) id may = all_placed h at (id_within h.current.slots at id may) ks all

  module _ (row : List Value) where
    pub laid_taken : (place : Option ℕ) (id at holder : ℕ) → IsInOrder h.current → MayLay place id h.current → IsTaken place (Some row) ks at → id_at h.current.slots at ≡ Some holder
        → (holder ≢ id) × Holds row (content (columns_of ks) h.current) holder
    laid_taken None id at holder order may t is = (
      λ e. (let b = (rising_at 0 h.current.slots h.current.next at holder order is).1 in omega (arith, e, b, may)),
      taken_holds h ks all row None at holder order t is,
    )
    laid_taken (Some own) id at holder order may t is =
        (other_holder h ks all row own id at holder order may t is, taken_holds h ks all row (Some own) at holder order t is)

    pub laid_free : (place : Option ℕ) (id : ℕ) → MayLay place id h.current → AllByRecursion (KeyIsFree place (Some row)) ks → (holder : ℕ) → Holds row (content (columns_of ks) h.current) holder → holder ≡ id
    laid_free None id may free holder holds = absurd (no_holder h ks all row free holder holds)
    laid_free (Some at) id may free holder holds = one_holder h ks all row at id may free holder holds

    pub laid_steps : (place : Option ℕ) (id : ℕ) → AllByRecursion (InStep (at_rest (laid place id row h.current))) (map settled_key (map (changed_key place (Some row)) ks))
    laid_steps place id =
        all_settled (changed (laid place id row h.current) h) (map (changed_key place (Some row)) ks) (all_on h place (Some row) (laid place id row h.current) (λ columns. keys_laid columns place id row h.current) ks all)

    pub laid_columns : (place : Option ℕ) → columns_of (map settled_key (map (changed_key place (Some row)) ks)) ≡ columns_of ks
    laid_columns place = columns_settled (map (changed_key place (Some row)) ks) ∙ columns_changed place (Some row) ks

-- the rows of a table are those of another one whose slots have the same
pub same_content : (keys : List (List ℕ)) (k l : Kept) → content [] k ≡ content [] l → content keys k ≡ content keys l
same_content keys k l is = ap (λ (c : Content). let d : Content = record { next = c.next; rows = c.rows; keys = keys } in d) is

pub gap_content : (at id : ℕ) (k : Kept) → at ≤ length k.slots → content [] (with_gap at id k) ≡ content [] k
gap_content at id k le = ap (λ (rows : List (ℕ × List Value)). let d : Content = record { next = k.next; rows = rows; keys = [] } in d) (live_gap id k.slots at le)

pub laid_seen : (keys : List (List ℕ)) (id : ℕ) (row : List Value) (k : Kept) (c : Content) (g : History Kept) (place : Option ℕ) → IsInOrder k → MayLay place id k → content keys k ≡ c → g ≡ at_rest (laid place id row k) → content keys g.current ≡ put_at id row c
laid_seen keys id row k c g place order may same is =
    ap (λ (h : History Kept). content keys h.current) is ∙ (content_laid keys id row k place order may ∙ ap (put_at id row) same)

-- what a table holds stays where its changes are forgotten
pub rested_content : (h : History Kept) (ks : List Key) (t : History Content) (g : History Kept) (ls : List Key)
    → seen_as (content (columns_of ks)) h ≡ t → g ≡ settled h → ls ≡ map settled_key ks → content (columns_of ls) g.current ≡ t.current
rested_content h ks t g ls seen heap keys =
    ap (λ (l : List Key). content (columns_of l) g.current) keys
    ∙ (ap (λ (cs : List (List ℕ)). content cs g.current) (columns_settled ks)
    ∙ (ap (λ (x : History Kept). content (columns_of ks) x.current) heap ∙ ap (λ (x : History Content). x.current) seen))

module _ {A E P Q : Type 0} where
  pub on_ok : (r : Result A E) → OnOk r P → (P → Q) → OnOk r Q
  on_ok (Ok a) p f = f p
  on_ok (Err e) p f = tt

  pub on_err : (r : Result A E) → OnErr r P → (P → Q) → OnErr r Q
  on_err (Ok a) p f = tt
  on_err (Err e) p f = f p

-- nothing can be undone, whether the row comes to its place or not
pub rest_laid : {A E : Type 0} (r : Result A E) (k : Kept) (old new : History Kept) → OnOk r (new ≡ at_rest k) → OnErr r (new ≡ old) → old.past ≡ [] → new.past ≡ []
rest_laid (Ok a) k old new ok err rest = ap (λ (g : History Kept). g.past) ok
rest_laid (Err e) k old new ok err rest = ap (λ (g : History Kept). g.past) err ∙ rest
