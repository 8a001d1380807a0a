-- Marks under objects and tables that change.
use Rattle.std.proofs.Common.{◌≡◌, ◌≤◌, ◌<◌, ◌+◌, ◌-◌, refl, sym, ap, ◌∙◌, ℕ, zero, suc, List, [], ◌∷◌, ◌++◌, length, take, map, get_or, arith, subst, length-append, Option, Some, Result, Ok, Err, OnOk, OnErr}
use Rattle.std.specs.Prelude.{slice_get}
use Rattle.std.specs.List.{AllByRecursion}
use Rattle.pl_catalog.specs.declared.object.Object.{Object}
use Rattle.pl_catalog.specs.Objects.{Catalogue}
use Rattle.pl_history.specs.History.{History, changed, back, last_or}
use Rattle.pl_history.specs.HistoryLaws.{all_more, back_changed, map_take}
use Rattle.pl_tables.specs.Named.{on_table, Named}
use Rattle.pl_tables.specs.Rows.{Content}
use Rattle.pl_undo.specs.declared.store.Start.{Start}
use Rattle.pl_undo.specs.Database.{database, on_rows, Database, IsWhole}
use Rattle.pl_undo.specs.DatabaseLaws.{whole_on}
use Rattle.pl_undo.specs.Store.{at_first, at_last, database_at, objects_of, state_at, IsSound, IsUpTo, Keeps, Rising}

module _ {A : Type 0} where
  at_more : (xs : List A) (x a : A) (n : ℕ) → n ≤ length xs → get_or (xs ++ x ∷ []) n a ≡ get_or xs n x
  at_more [] x a zero le = refl
  at_more [] x a (suc n) le = absurd (omega (arith, le))
  at_more (y ∷ xs) x a zero le = refl
  at_more (y ∷ xs) x a (suc n) le = at_more xs x a n (omega (arith, le))

  at_length : (xs : List A) (a : A) → get_or xs (length xs) a ≡ a
  at_length [] a = refl
  at_length (x ∷ xs) a = at_length xs a

  -- after a change the older states are as they were
  pub at_changed : (h : History A) (a : A) (n : ℕ) → n ≤ length h.past → state_at (changed a h) n ≡ state_at h n
  at_changed h a n le = at_more h.past h.current a n le

  pub at_end : (h : History A) (n : ℕ) → length h.past ≡ n → state_at h n ≡ h.current
  at_end h n e = ap (λ (k : ℕ). state_at h k) (sym e) ∙ at_length h.past h.current

  parted : (x : A) (xs : List A) → x ∷ xs ≡ take (length xs) (x ∷ xs) ++ last_or x xs ∷ []
  parted x [] = refl
  parted x (y ∷ xs) = ap (λ (l : List A). x ∷ l) (parted y xs)

  behind : (a : A) (xs : List A) → 0 < length xs → xs ≡ take (length xs - 1) xs ++ last_or a xs ∷ []
  behind a [] lt = absurd (omega (arith, lt))
  behind a (x ∷ xs) lt =
      let n : length (x ∷ xs) - 1 ≡ length xs = omega arith in
      parted x xs ∙ ap (λ (k : ℕ). take k (x ∷ xs) ++ last_or x xs ∷ []) (sym n)

  pub length_back : (h : History A) → 0 < length h.past → length (back h).past + 1 ≡ length h.past
  length_back h lt =
      let e = ap (λ (l : List A). length l) (behind h.current h.past lt) in
      let n : length (take (length h.past - 1) h.past ++ last_or h.current h.past ∷ []) ≡ length (take (length h.past - 1) h.past) + 1 = length-append (take (length h.past - 1) h.past) (last_or h.current h.past ∷ []) in
      omega (arith, e, n)

  -- so they are after going back
  pub at_back : (h : History A) (n : ℕ) → n < length h.past → state_at (back h) n ≡ state_at h n
  at_back h n lt =
      let l : length (back h).past + 1 ≡ length h.past = length_back h (omega (arith, lt)) in
      sym (at_more (back h).past (back h).current h.current n (omega (arith, l, lt))) ∙ ap (λ (xs : List A). get_or xs n h.current) (sym (behind h.current h.past (omega (arith, lt))))

  pub at_rest : (h : History A) → h.past ≡ [] → (n : ℕ) → state_at h n ≡ h.current
  at_rest h none n = ap (λ (l : List A). get_or l n h.current) none

  pub keeps_same : (old new : History A) → new ≡ old → Keeps old new
  keeps_same old new e = subst (λ (h : History A). Keeps old h) (sym e) (record { long = omega arith; same = λ n le. refl })

  pub keeps_changed : (old new : History A) (a : A) → new ≡ changed a old → Keeps old new
  keeps_changed old new a e =
      let m : length (old.past ++ old.current ∷ []) ≡ length old.past + 1 = length-append old.past (old.current ∷ []) in
      subst (λ (h : History A). Keeps old h) (sym e) (record { long = omega (arith, m); same = λ n le. at_changed old a n le })

  pub keeps_by : {B E : Type 0} (r : Result B E) (old new : History A) (a : A) → OnOk r (new ≡ changed a old) → OnErr r (new ≡ old) → Keeps old new
  keeps_by (Ok b) old new a ok err = keeps_changed old new a ok
  keeps_by (Err e) old new a ok err = keeps_same old new err

pub on_ok : {A E P Q : Type 0} (r : Result A E) → (P → Q) → OnOk r P → OnOk r Q
on_ok (Ok a) f p = f p
on_ok (Err e) f p = tt

pub on_err : {A E P Q : Type 0} (r : Result A E) → (P → Q) → OnErr r P → OnErr r Q
on_err (Ok a) f p = tt
on_err (Err e) f p = f p

-- the objects as states with a history
pub objects_changed : (old new : Catalogue) → new.past ≡ old.past ++ old.objects ∷ [] → objects_of new ≡ changed new.objects (objects_of old)
objects_changed old new past = ap (λ (p : List (List Object)). let h : History (List Object) = record { current = new.objects; past = p } in h) past

pub objects_by : {B E : Type 0} (r : Result B E) (old new : Catalogue) → OnOk r (new.past ≡ old.past ++ old.objects ∷ []) → OnErr r (new ≡ old) → Keeps (objects_of old) (objects_of new)
objects_by r old new ok err = keeps_by r (objects_of old) (objects_of new) new.objects (on_ok r (objects_changed old new) ok) (on_err r (ap objects_of) err)

pub objects_undone : (old new : Catalogue) → new.objects ≡ last_or old.objects old.past → new.past ≡ take (length old.past - 1) old.past → objects_of new ≡ back (objects_of old)
objects_undone old new objects past =
    ap (λ (os : List Object). let h : History (List Object) = record { current = os; past = new.past } in h) objects
    ∙ ap (λ (p : List (List Object)). let h : History (List Object) = record { current = last_or old.objects old.past; past = p } in h) past

pub objects_return : (old mid new : Catalogue) → mid.past ≡ old.past ++ old.objects ∷ [] → new.objects ≡ last_or mid.objects mid.past → new.past ≡ take (length mid.past - 1) mid.past → objects_of new ≡ objects_of old
objects_return old mid new past objects less =
    objects_undone mid new objects less
    ∙ (ap (λ (h : History (List Object)). back h) (objects_changed old mid past) ∙ back_changed mid.objects (objects_of old))

pub no_past : {A : Type 0} (xs : List A) (n : ℕ) → n ≡ length xs → (0 < n → ⊥) → xs ≡ []
no_past [] n is not = refl
no_past (x ∷ xs) n is not = absurd (not (omega (arith, is)))

-- the order of marks
up_to : (a b c : Start) → IsUpTo a b → IsUpTo b c → IsUpTo a c
up_to a b c p q =
    record { objects = (let x = p.objects in let y = q.objects in omega (arith, x, y)); tables = (let x = p.tables in let y = q.tables in omega (arith, x, y)) }

pub up_to_self : (a : Start) → IsUpTo a a
up_to_self a = record { objects = omega arith; tables = omega arith }

pub from_first : (a : Start) → IsUpTo at_first a
from_first a = record { objects = omega arith; tables = omega arith }

pub least_top : (least : Start) (ss : List Start) (top : Start) → Rising least ss top → IsUpTo least top
least_top least [] top r = r
least_top least (s ∷ ss) top r = up_to least s top r.0 (least_top s ss top r.1)

pub rising_higher : (least : Start) (ss : List Start) (top top' : Start) → Rising least ss top → IsUpTo top top' → Rising least ss top'
rising_higher least [] top top' r le = up_to least top top' r le
rising_higher least (s ∷ ss) top top' r le = (r.0, rising_higher s ss top top' r.1 le)

pub rising_more : (least : Start) (ss : List Start) (top : Start) → Rising least ss top → Rising least (ss ++ top ∷ []) top
rising_more least [] top r = (r, up_to_self top)
rising_more least (s ∷ ss) top r = (r.0, rising_more s ss top r.1)

rising_to : (least : Start) (ss : List Start) (top : Start) (n : ℕ) (s : Start) → Rising least ss top → slice_get ss n ≡ Some s → Rising least (take n ss) s
rising_to least [] top n s r is = absurd cc
rising_to least (t ∷ ss) top zero s r is = subst (IsUpTo least) (let o : Some t ≡ Some s = is in cc) r.0
rising_to least (t ∷ ss) top (suc n) s r is = (r.0, rising_to t ss top n s r.1 is)

pub rising_upto : (least : Start) (ss : List Start) (top : Start) (n : ℕ) (s : Start) → Rising least ss top → slice_get ss n ≡ Some s → Rising least (take (suc n) ss) s
rising_upto least [] top n s r is = absurd cc
rising_upto least (t ∷ ss) top zero s r is = let e : t ≡ s = (let o : Some t ≡ Some s = is in cc) in (r.0, subst (IsUpTo t) e (up_to_self t))
rising_upto least (t ∷ ss) top (suc n) s r is = (r.0, rising_upto t ss top n s r.1 is)

pub rising_at : (least : Start) (ss : List Start) (top : Start) (n : ℕ) (s : Start) → Rising least ss top → slice_get ss n ≡ Some s → IsUpTo s top
rising_at least [] top n s r is = absurd cc
rising_at least (t ∷ ss) top zero s r is = subst (λ (u : Start). IsUpTo u top) (let o : Some t ≡ Some s = is in cc) (least_top t ss top r.1)
rising_at least (t ∷ ss) top (suc n) s r is = rising_at t ss top n s r.1 is

-- what marks stand for
module _ (f : Start → Database) where
  pub map_at : (ss : List Start) (n : ℕ) (s : Start) → slice_get ss n ≡ Some s → slice_get (map f ss) n ≡ Some (f s)
  map_at [] n s is = absurd cc
  map_at (t ∷ ss) zero s is = ap (λ (u : Start). let o : Option Database = Some (f u) in o) (let o : Some t ≡ Some s = is in cc)
  map_at (t ∷ ss) (suc n) s is = map_at ss n s is

  pub map_more : (ss : List Start) (s : Start) → map f (ss ++ s ∷ []) ≡ map f ss ++ f s ∷ []
  map_more [] s = refl
  map_more (t ∷ ss) s = ap (λ (ds : List Database). f t ∷ ds) (map_more ss s)

  pub no_starts : (ss : List Start) → map f ss ≡ [] → ss ≡ []
  no_starts [] is = refl
  no_starts (s ∷ ss) is = absurd (let e : f s ∷ map f ss ≡ [] = is in cc)

  pub start_at : (ss : List Start) (n : ℕ) → n < length (map f ss) → (s : Start) × (slice_get ss n ≡ Some s)
  start_at [] n lt = absurd (omega (arith, lt))
  start_at (s ∷ ss) zero lt = (s, refl)
  start_at (s ∷ ss) (suc n) lt = start_at ss n (omega (arith, lt))

same_marks : (f g : Start → Database) (least : Start) (ss : List Start) (top : Start) → Rising least ss top → ((s : Start) → IsUpTo s top → f s ≡ g s) → map f ss ≡ map g ss
same_marks f g least [] top r same = refl
same_marks f g least (s ∷ ss) top r same =
    ap (λ (d : Database). d ∷ map f ss) (same s (least_top s ss top r.1)) ∙ ap (λ (ds : List Database). g s ∷ ds) (same_marks f g s ss top r.1 same)

pub all_taken : {A : Type 0} (P : A → Type 0) (n : ℕ) (xs : List A) → AllByRecursion P xs → AllByRecursion P (take n xs)
all_taken P zero xs all = tt
all_taken P (suc n) [] all = tt
all_taken P (suc n) (x ∷ xs) all = (all.0, all_taken P n xs all.1)

pub all_at : {A : Type 0} (P : A → Type 0) (xs : List A) (n : ℕ) (x : A) → AllByRecursion P xs → slice_get xs n ≡ Some x → P x
all_at P [] n x all is = absurd cc
all_at P (y ∷ xs) zero x all is = subst P (let o : Some y ≡ Some x = is in cc) all.0
all_at P (y ∷ xs) (suc n) x all is = all_at P xs n x all.1 is

abbrev pub Tables : Type 0
Tables = History (List Named)

-- the objects and the tables before and after changes
module _ (c d : Catalogue) (t u : Tables) where
  -- up to some place they are the same
  module _ (top : Start) (objects : (n : ℕ) → n ≤ top.objects → state_at (objects_of d) n ≡ state_at (objects_of c) n) (tables : (n : ℕ) → n ≤ top.tables → state_at u n ≡ state_at t n) where
    same_at : (s : Start) → IsUpTo s top → database_at d u s ≡ database_at c t s
    same_at s le =
        ap (λ (os : List Object). database os (state_at u s.tables)) (objects s.objects le.objects)
        ∙ ap (database (state_at (objects_of c) s.objects)) (tables s.tables le.tables)

    pub same_last : database_at d u at_first ≡ database_at c t at_first
    same_last = same_at at_first (from_first top)

    pub same_below : (ss : List Start) → Rising at_first ss top → map (database_at d u) ss ≡ map (database_at c t) ss
    same_below ss rising = same_marks (database_at d u) (database_at c t) at_first ss top rising same_at

  module _ (objects : Keeps (objects_of c) (objects_of d)) (tables : Keeps t u) where
    pub kept_last : database_at d u at_first ≡ database_at c t at_first
    kept_last = same_last (at_last c t) objects.same tables.same

    pub kept_marks : (ss : List Start) → IsSound c t ss → map (database_at d u) ss ≡ map (database_at c t) ss
    kept_marks ss sound = same_below (at_last c t) objects.same tables.same ss sound.rising

    pub kept_sound : (ss : List Start) → IsSound c t ss → IsWhole (database d.objects u.current) → IsSound d u ss
    kept_sound ss sound whole = record {
      rising = rising_higher at_first ss (at_last c t) (at_last d u) sound.rising (record { objects = objects.long; tables = tables.long });
      now = whole;
      last = subst IsWhole (sym kept_last) sound.last;
      marks = subst (AllByRecursion IsWhole) (sym (kept_marks ss sound)) sound.marks;
    }

  -- they went back to this many changes
  module _ (s : Start) (objects : (n : ℕ) → n ≤ s.objects → state_at (objects_of d) n ≡ state_at (objects_of c) n) (tables : (n : ℕ) → n ≤ s.tables → state_at u n ≡ state_at t n)
      (long : length d.past ≡ s.objects) (wide : length u.past ≡ s.tables) where
    pub back_now : database d.objects u.current ≡ database_at c t s
    back_now =
        sym (ap (λ (os : List Object). database os (state_at u s.tables)) (at_end (objects_of d) s.objects long) ∙ ap (database d.objects) (at_end u s.tables wide))
        ∙ same_at s objects tables s (up_to_self s)

    pub back_last : database_at d u at_first ≡ database_at c t at_first
    back_last = same_last s objects tables

    module _ (ss : List Start) (rising : Rising at_first ss s) where
      pub back_marks : map (database_at d u) ss ≡ map (database_at c t) ss
      back_marks = same_below s objects tables ss rising

      pub back_sound : IsWhole (database_at c t s) → IsWhole (database_at c t at_first) → AllByRecursion IsWhole (map (database_at c t) ss) → IsSound d u ss
      back_sound now last marks =
          let top : s ≡ at_last d u =
          ap (λ (n : ℕ). let x : Start = record { objects = n; tables = s.tables } in x) (sym long) ∙ ap (λ (n : ℕ). let x : Start = record { objects = length d.past; tables = n } in x) (sym wide) in
          record {
            rising = subst (Rising at_first ss) top rising;
            now = subst IsWhole (sym back_now) now;
            last = subst IsWhole (sym back_last) last;
            marks = subst (AllByRecursion IsWhole) (sym back_marks) marks;
          }

-- no mark is live and nothing can be undone
module _ (c : Catalogue) (t : Tables) (objects : c.past ≡ []) (tables : t.past ≡ []) where
  pub rest_last : database_at c t at_first ≡ database c.objects t.current
  rest_last = ap (λ (os : List Object). database os (state_at t 0)) (at_rest (objects_of c) objects 0) ∙ ap (database c.objects) (at_rest t tables 0)

  pub rest_sound : (ss : List Start) → ss ≡ [] → IsWhole (database c.objects t.current) → IsSound c t ss
  rest_sound ss none whole =
      subst (IsSound c t) (sym none) (record { rising = from_first (at_last c t); now = whole; last = subst IsWhole (sym rest_last) whole; marks = tt })

-- a mark is set, or some are destroyed
module _ (c : Catalogue) (t : Tables) (ss : List Start) (sound : IsSound c t ss) where
  pub mark_is : database_at c t (at_last c t) ≡ database c.objects t.current
  mark_is = ap (λ (os : List Object). database os (state_at t (length t.past))) (at_end (objects_of c) (length c.past) refl) ∙ ap (database c.objects) (at_end t (length t.past) refl)

  pub marked : map (database_at c t) (ss ++ at_last c t ∷ []) ≡ map (database_at c t) ss ++ database c.objects t.current ∷ []
  marked = map_more (database_at c t) ss (at_last c t) ∙ ap (λ (d : Database). map (database_at c t) ss ++ d ∷ []) mark_is

  pub marked_sound : IsSound c t (ss ++ at_last c t ∷ [])
  marked_sound = record {
    rising = rising_more at_first ss (at_last c t) sound.rising;
    now = sound.now;
    last = sound.last;
    marks = subst (AllByRecursion IsWhole) (sym marked) (all_more IsWhole (map (database_at c t) ss) (database c.objects t.current) sound.marks sound.now);
  }

  pub released_sound : (at : ℕ) (s : Start) → slice_get ss at ≡ Some s → IsSound c t (take at ss)
  released_sound at s is = record {
    rising = rising_higher at_first (take at ss) s (at_last c t) (rising_to at_first ss (at_last c t) at s sound.rising is) (rising_at at_first ss (at_last c t) at s sound.rising is);
    now = sound.now;
    last = sound.last;
    marks = subst (AllByRecursion IsWhole) (sym (map_take (database_at c t) at ss)) (all_taken IsWhole at (map (database_at c t) ss) sound.marks);
  }

-- the database is as before, or changed to another one
pub whole_by : {A E : Type 0} (r : Result A E) (now after new : Database) → OnOk r (new ≡ after) → OnErr r (new ≡ now) → IsWhole now → IsWhole after → IsWhole new
whole_by (Ok a) now after new ok err is else_is = subst IsWhole (sym ok) else_is
whole_by (Err e) now after new ok err is else_is = subst IsWhole (sym err) is

-- the rows of a table are changed, or nothing is
module _ {A E : Type 0} (r : Result A E) (c : Catalogue) (t u : Tables) (name : List ℕ) (change : Content → Content) where
  module _ (now : Database) (seen : database c.objects t.current ≡ now) where
    pub rows_ok : OnOk r (u ≡ changed (on_table name change t.current) t) → OnOk r (database c.objects u.current ≡ on_rows name change now)
    rows_ok = on_ok r (λ is. ap (λ (h : Tables). database c.objects h.current) is ∙ ap (on_rows name change) seen)

    pub rows_err : OnErr r (u ≡ t) → OnErr r (database c.objects u.current ≡ now)
    rows_err = on_err r (λ is. ap (λ (h : Tables). database c.objects h.current) is ∙ seen)

  module _ (ok : OnOk r (u ≡ changed (on_table name change t.current) t)) (err : OnErr r (u ≡ t)) where
    rows_kept : Keeps t u
    rows_kept = keeps_by r t u (on_table name change t.current) ok err

    pub rows_last : database_at c u at_first ≡ database_at c t at_first
    rows_last = kept_last c c t u (keeps_same (objects_of c) (objects_of c) refl) rows_kept

    module _ (ss : List Start) (sound : IsSound c t ss) where
      pub rows_marks : map (database_at c u) ss ≡ map (database_at c t) ss
      rows_marks = kept_marks c c t u (keeps_same (objects_of c) (objects_of c) refl) rows_kept ss sound

      pub rows_sound : IsSound c u ss
      rows_sound =
          let now : Database = database c.objects t.current in
          kept_sound c c t u (keeps_same (objects_of c) (objects_of c) refl) rows_kept ss sound
          (whole_by r now (on_rows name change now) (database c.objects u.current) (rows_ok now refl ok) (rows_err now refl err) sound.now (whole_on name change now sound.now))

-- a row comes to its place, and nothing can be undone
module _ {A E : Type 0} (r : Result A E) (c d : Catalogue) (t u : Tables) (name : List ℕ) (change : Content → Content) (same : d.objects ≡ c.objects) where
  module _ (now : Database) (seen : database c.objects t.current ≡ now) where
    pub put_ok : OnOk r (u.current ≡ on_table name change t.current) → OnOk r (database d.objects u.current ≡ on_rows name change now)
    put_ok = on_ok r (λ is. ap (λ (os : List Object). database os u.current) same ∙ (ap (database c.objects) is ∙ ap (on_rows name change) seen))

    pub put_err : OnErr r (u.current ≡ t.current) → OnErr r (database d.objects u.current ≡ now)
    put_err = on_err r (λ is. ap (λ (os : List Object). database os u.current) same ∙ (ap (database c.objects) is ∙ seen))

  pub put_whole : OnOk r (u.current ≡ on_table name change t.current) → OnErr r (u.current ≡ t.current) → IsWhole (database c.objects t.current) → IsWhole (database d.objects u.current)
  put_whole ok err is =
      let now : Database = database c.objects t.current in
      whole_by r now (on_rows name change now) (database d.objects u.current) (put_ok now refl ok) (put_err now refl err) is (whole_on name change now is)
