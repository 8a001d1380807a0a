-- The fronts of a payload at live marks.
use Rattle.std.proofs.Common.{◌≡◌, ◌≤◌, ◌+◌, ◌++◌, ℕ, zero, suc, List, [], ◌∷◌, length, length-append, take, slice_get, Some, ap, arith, refl, subst, sym}
use Rattle.std.proofs.Math.Seq.{take-length}
use Rattle.std.proofs.lemmas.List.{length-take-le, take-append-le}
use Rattle.pl_journal.specs.Journal.{AreFronts, IsKept, IsMarked, LeadsTo}
use Rattle.pl_journal.specs.Sound.{IsSound}
use Rattle.pl_journal.specs.Steps.{Continues}
use Rattle.pl_journal.proofs.Sound.{apply_all_keeps}
use Rattle.pl_journal.proofs.Truths.{none_some, some_is}
use Rattle.pl_undo.specs.Database.{Database}
use Rattle.pl_undo.specs.Store.{Stored}

-- ---- fronts of lists

cut_twice : (m n : ℕ) (xs : List ℕ) → m ≤ n → take m (take n xs) ≡ take m xs
cut_twice zero zero [] le = refl
cut_twice zero zero (x ∷ xs) le = refl
cut_twice zero (suc n) [] le = refl
cut_twice zero (suc n) (x ∷ xs) le = refl
cut_twice (suc m) zero xs le = absurd (omega (arith, le))
cut_twice (suc m) (suc n) [] le = refl
cut_twice (suc m) (suc n) (x ∷ xs) le = ap (λ (ys : List ℕ). x ∷ ys) (cut_twice m n xs (omega (arith, le)))

led_by : (payload cut : List ℕ) (last d : Database) → cut ≡ payload → LeadsTo payload last d → LeadsTo cut last d
led_by payload cut last d is leads = subst (λ (bytes : List ℕ). LeadsTo bytes last d) (sym is) leads

-- what a payload leads to is sound
pub leads_sound : (payload : List ℕ) (last now : Database) → LeadsTo payload last now → IsSound last → IsSound now
leads_sound payload last now leads sound = apply_all_keeps leads.ops last now leads.leads sound

-- ---- at every mark

module _ (last : Database) where
  pub within : (payload : List ℕ) (least : ℕ) (ns : List ℕ) (ds : List Database) → AreFronts payload last least ns ds → least ≤ length payload
  within payload least [] [] are = are
  within payload least (n ∷ ns) (d ∷ ds) are = let high : n ≤ length payload = within payload n ns ds are.2 in let low : least ≤ n = are.0 in omega (arith, low, high)
  within payload least [] (d ∷ ds) are = absurd are
  within payload least (n ∷ ns) [] are = absurd are

  -- as many as there are marks
  pub as_many : (payload : List ℕ) (least : ℕ) (ns : List ℕ) (ds : List Database) → AreFronts payload last least ns ds → length ns ≡ length ds
  as_many payload least [] [] are = refl
  as_many payload least (n ∷ ns) (d ∷ ds) are = ap (λ (k : ℕ). suc k) (as_many payload n ns ds are.2)
  as_many payload least [] (d ∷ ds) are = absurd are
  as_many payload least (n ∷ ns) [] are = absurd are

  pub none_left : (payload : List ℕ) (least : ℕ) (ns : List ℕ) (ds : List Database) → AreFronts payload last least ns ds → ds ≡ [] → ns ≡ []
  none_left payload least [] ds are none = refl
  none_left payload least (n ∷ ns) [] are none = absurd are
  none_left payload least (n ∷ ns) (d ∷ ds) are none = absurd cc

  -- of a longer payload
  pub fronts_longer : (payload more : List ℕ) (least : ℕ) (ns : List ℕ) (ds : List Database) → AreFronts payload last least ns ds → AreFronts (payload ++ more) last least ns ds
  fronts_longer payload more least [] [] are = let n : length (payload ++ more) ≡ length payload + length more = length-append payload more in omega (arith, n, are)
  fronts_longer payload more least (n ∷ ns) (d ∷ ds) are = (
    are.0,
    led_by (take n payload) (take n (payload ++ more)) last d (take-append-le n payload more (within payload n ns ds are.2)) are.1,
    fronts_longer payload more n ns ds are.2,
  )
  fronts_longer payload more least [] (d ∷ ds) are = absurd are
  fronts_longer payload more least (n ∷ ns) [] are = absurd are

  -- with a mark at its end
  pub fronts_marked : (payload : List ℕ) (d : Database) → LeadsTo payload last d → (least : ℕ) (ns : List ℕ) (ds : List Database) → AreFronts payload last least ns ds
      → AreFronts payload last least (ns ++ length payload ∷ []) (ds ++ d ∷ [])
  fronts_marked payload d leads least [] [] are = (are, led_by payload (take (length payload) payload) last d (take-length payload) leads, omega arith)
  fronts_marked payload d leads least (n ∷ ns) (e ∷ ds) are = (are.0, are.1, fronts_marked payload d leads n ns ds are.2)
  fronts_marked payload d leads least [] (e ∷ ds) are = absurd are
  fronts_marked payload d leads least (n ∷ ns) [] are = absurd are

  -- without the later marks
  pub fronts_left : (payload : List ℕ) (k least : ℕ) (ns : List ℕ) (ds : List Database) → AreFronts payload last least ns ds → AreFronts payload last least (take k ns) (take k ds)
  fronts_left payload zero least [] [] are = are
  fronts_left payload (suc k) least [] [] are = are
  fronts_left payload zero least (n ∷ ns) (d ∷ ds) are = within payload least (n ∷ ns) (d ∷ ds) are
  fronts_left payload (suc k) least (n ∷ ns) (d ∷ ds) are = (are.0, are.1, fronts_left payload k n ns ds are.2)
  fronts_left payload k least [] (d ∷ ds) are = absurd are
  fronts_left payload k least (n ∷ ns) [] are = absurd are

  -- ---- at one mark

  at_most : (payload : List ℕ) (k least n : ℕ) (ns : List ℕ) (ds : List Database) → AreFronts payload last least ns ds → slice_get ns k ≡ Some n → (least ≤ n) × (n ≤ length payload)
  at_most payload k least n [] ds are is = absurd (none_some n is)
  at_most payload zero least n (m ∷ ns) (d ∷ ds) are is =
      let same : m ≡ n = some_is m n is in let low : least ≤ m = are.0 in let high : m ≤ length payload = within payload m ns ds are.2 in (omega (arith, same, low), omega (arith, same, high))
  at_most payload (suc k) least n (m ∷ ns) (d ∷ ds) are is =
      let later = at_most payload k m n ns ds are.2 is in let low : least ≤ m = are.0 in (omega (arith, low, later.0), later.1)
  at_most payload k least n (m ∷ ns) [] are is = absurd are

  -- its front leads to it
  pub front_leads : (payload : List ℕ) (k least n : ℕ) (d : Database) (ns : List ℕ) (ds : List Database) → AreFronts payload last least ns ds → slice_get ns k ≡ Some n → slice_get ds k ≡ Some d
      → LeadsTo (take n payload) last d
  front_leads payload k least n d [] ds are is there = absurd (none_some n is)
  front_leads payload zero least n d (m ∷ ns) (e ∷ ds) are is there =
      subst (λ (x : Database). LeadsTo (take n payload) last x) (some_is e d there) (subst (λ (k : ℕ). LeadsTo (take k payload) last e) (some_is m n is) are.1)
  front_leads payload (suc k) least n d (m ∷ ns) (e ∷ ds) are is there = front_leads payload k m n d ns ds are.2 is there
  front_leads payload k least n d (m ∷ ns) [] are is there = absurd are

  -- that front alone, and the marks up to this one
  pub fronts_back : (payload : List ℕ) (k least n : ℕ) (ns : List ℕ) (ds : List Database) → AreFronts payload last least ns ds → slice_get ns k ≡ Some n
      → AreFronts (take n payload) last least (take (suc k) ns) (take (suc k) ds)
  fronts_back payload k least n [] ds are is = absurd (none_some n is)
  fronts_back payload zero least n (m ∷ ns) (d ∷ ds) are is =
      let same : m ≡ n = some_is m n is in
      let high : n ≤ length payload = (at_most payload zero least n (m ∷ ns) (d ∷ ds) are is).1 in
      let long : length (take n payload) ≡ n = length-take-le n payload high in
      (are.0, led_by (take m payload) (take m (take n payload)) last d (cut_twice m n payload (omega (arith, same))) are.1, nothing_left (omega (arith, same, long)) ns ds)
    where
      nothing_left : m ≤ length (take n payload) → (ns : List ℕ) (ds : List Database) → AreFronts (take n payload) last m (take zero ns) (take zero ds)
      nothing_left le [] [] = le
      nothing_left le [] (e ∷ ds) = le
      nothing_left le (k ∷ ns) [] = le
      nothing_left le (k ∷ ns) (e ∷ ds) = le
  fronts_back payload (suc k) least n (m ∷ ns) (d ∷ ds) are is =
      (are.0, led_by (take m payload) (take m (take n payload)) last d (cut_twice m n payload (at_most payload k m n ns ds are.2 is).0) are.1, fronts_back payload k m n ns ds are.2 is)
  fronts_back payload k least n (m ∷ ns) [] are is = absurd are

-- ---- a journal with its marks

abbrev pub same_fronts : (payload : List ℕ) (last last' : Database) (sizes : List ℕ) (marks marks' : List Database) → AreFronts payload last 0 sizes marks → last' ≡ last → marks' ≡ marks
    → AreFronts payload last' 0 sizes marks'
same_fronts payload last last' sizes marks marks' are is_last is_marks =
    subst (λ (db : Database). AreFronts payload db 0 sizes marks') (sym is_last) (subst (λ (ds : List Database). AreFronts payload last 0 sizes ds) (sym is_marks) are)

module _ (payload sizes : List ℕ) (s : Stored) (is_marked : IsMarked payload sizes s) where
  -- more is done
  pub still : (longer : List ℕ) (t : Stored) → Continues payload longer s t → IsMarked longer sizes t
  still longer t more = record {
    kept = more.kept;
    fronts = same_fronts longer s.last t.last sizes s.marks t.marks
        (subst (λ (bytes : List ℕ). AreFronts bytes s.last 0 sizes s.marks) (sym more.grows) (fronts_longer s.last payload more.more 0 sizes s.marks is_marked.fronts)) more.last more.marks;
  }

  -- a mark is set
  pub is_set : (more : List ℕ) (t : Stored) → more ≡ sizes ++ length payload ∷ [] → t.now ≡ s.now → t.last ≡ s.last → t.marks ≡ s.marks ++ s.now ∷ [] → IsMarked payload more t
  is_set more t is is_now is_last is_marks = record {
    kept = record {
      now = subst (λ (d : Database). IsSound d) (sym is_now) is_marked.kept.now;
      last = subst (λ (d : Database). IsSound d) (sym is_last) is_marked.kept.last;
      leads = subst (λ (d : Database). LeadsTo payload t.last d) (sym is_now) (subst (λ (d : Database). LeadsTo payload d s.now) (sym is_last) is_marked.kept.leads);
    };
    fronts = subst (λ (ns : List ℕ). AreFronts payload t.last 0 ns t.marks) (sym is)
        (same_fronts payload s.last t.last (sizes ++ length payload ∷ []) (s.marks ++ s.now ∷ []) t.marks (fronts_marked s.last payload s.now is_marked.kept.leads 0 sizes s.marks is_marked.fronts) is_last is_marks);
  }

  -- marks are released
  pub is_left : (k : ℕ) (less : List ℕ) (t : Stored) → less ≡ take k sizes → t.now ≡ s.now → t.last ≡ s.last → t.marks ≡ take k s.marks → IsMarked payload less t
  is_left k less t is is_now is_last is_marks = record {
    kept = record {
      now = subst (λ (d : Database). IsSound d) (sym is_now) is_marked.kept.now;
      last = subst (λ (d : Database). IsSound d) (sym is_last) is_marked.kept.last;
      leads = subst (λ (d : Database). LeadsTo payload t.last d) (sym is_now) (subst (λ (d : Database). LeadsTo payload d s.now) (sym is_last) is_marked.kept.leads);
    };
    fronts = subst (λ (ns : List ℕ). AreFronts payload t.last 0 ns t.marks) (sym is)
        (same_fronts payload s.last t.last (take k sizes) (take k s.marks) t.marks (fronts_left s.last payload k 0 sizes s.marks is_marked.fronts) is_last is_marks);
  }

  -- it goes back to a mark
  pub is_back : (k n : ℕ) (cut less : List ℕ) (t : Stored) → slice_get sizes k ≡ Some n → cut ≡ take n payload → less ≡ take (suc k) sizes → slice_get s.marks k ≡ Some t.now → t.last ≡ s.last → t.marks ≡ take (suc k) s.marks
      → IsMarked cut less t
  is_back k n cut less t is is_cut is_less is_now is_last is_marks =
      let leads : LeadsTo (take n payload) s.last t.now = front_leads s.last payload k 0 n t.now sizes s.marks is_marked.fronts is is_now in
      record {
        kept = record {
          now = leads_sound (take n payload) s.last t.now leads is_marked.kept.last;
          last = subst (λ (d : Database). IsSound d) (sym is_last) is_marked.kept.last;
          leads = led_by (take n payload) cut t.last t.now is_cut (subst (λ (d : Database). LeadsTo (take n payload) d t.now) (sym is_last) leads);
        };
        fronts = subst (λ (bytes : List ℕ). AreFronts bytes t.last 0 less t.marks) (sym is_cut)
            (subst (λ (ns : List ℕ). AreFronts (take n payload) t.last 0 ns t.marks) (sym is_less)
            (same_fronts (take n payload) s.last t.last (take (suc k) sizes) (take (suc k) s.marks) t.marks (fronts_back s.last payload k 0 n sizes s.marks is_marked.fronts is) is_last is_marks));
      }

-- no mark is live
pub unmarked : (payload sizes : List ℕ) (s : Stored) → IsKept payload s → sizes ≡ [] → s.marks ≡ [] → IsMarked payload sizes s
unmarked payload sizes s kept none is_marks = record {
  kept = kept;
  fronts = subst (λ (ns : List ℕ). AreFronts payload s.last 0 ns s.marks) (sym none) (subst (λ (ds : List Database). AreFronts payload s.last 0 [] ds) (sym is_marks) (omega arith));
}
