-- Keys over slots of which one is new and has no row.
use Rattle.std.proofs.Common.{◌≡◌, ◌≤◌, ◌<◌, ◌-◌, length, get_or, drop-cons, length-drop, add-one, arith, ◌+◌, ◌++◌, ◌∷◌, [], ℕ, zero, suc, List, Option, None, map, take, drop, refl, sym, ap, ◌∙◌, append_assoc, append-nil}
use Rattle.std.specs.List.{AllByRecursion}
use Rattle.std.proofs.lemmas.List.{map-append}
use Rattle.pl_history.specs.History.{History}
use Rattle.pl_unique.specs.declared.key.Part.{Part}
use Rattle.pl_unique.specs.declared.row_keys.Key.{Key}
use Rattle.pl_unique.specs.RowKeys.{changed_key, columns_of, key_given, settled_key, IsNew}
use Rattle.pl_unique.specs.RowKeyLaws.{columns_changed, columns_settled}
use Rattle.pl_tables.specs.declared.slots.Slot.{Slot}
use Rattle.pl_tables.specs.Undo.{at_rest, kept, pushed_key, with_gap, InStep}

abbrev key_in : List ℕ → Slot → Option (List Part)
key_in columns s = key_given columns s.row

same_columns : (ss : List Slot) (k : Key) → (pushed_key ss k).columns.items ≡ k.columns.items
same_columns [] k = refl
same_columns (s ∷ ss) k = same_columns ss (changed_key None s.row k)

pushed_current : (ss : List Slot) (k : Key) → (pushed_key ss k).at.current ≡ k.at.current ++ map (key_in k.columns.items) ss
pushed_current [] k = sym (append-nil k.at.current)
pushed_current (s ∷ ss) k =
    pushed_current ss (changed_key None s.row k) ∙ append_assoc k.at.current (key_in k.columns.items s ∷ []) (map (key_in k.columns.items) ss)

one_over : (before after : List Slot) (gap : Slot) (next : ℕ) (k : Key) → gap.row ≡ None → IsNew k
    → InStep (at_rest (kept (before ++ gap ∷ after) next)) (settled_key (pushed_key after (changed_key None None (pushed_key before k))))
one_over before after gap next k none new =
    let c : List ℕ = k.columns.items in
    let k1 : Key = pushed_key before k in
    let k2 : Key = changed_key None None k1 in
    let k3 : Key = pushed_key after k2 in
    let e1 : k1.columns.items ≡ c = same_columns before k in
    let e3 : k3.columns.items ≡ c = same_columns after k2 ∙ e1 in
    let x1 : k1.at.current ≡ map (key_in c) before = pushed_current before k ∙ ap (λ (l : List (Option (List Part))). l ++ map (key_in c) before) new.0 in
    let empty : key_in c gap ≡ None = ap (key_given c) none in
    let x3 : k3.at.current ≡ map (key_in c) (before ++ gap ∷ after) =
    pushed_current after k2
    ∙ (ap (λ (cs : List ℕ). (k1.at.current ++ None ∷ []) ++ map (key_in cs) after) e1
    ∙ (ap (λ (l : List (Option (List Part))). (l ++ None ∷ []) ++ map (key_in c) after) x1
    ∙ (append_assoc (map (key_in c) before) (None ∷ []) (map (key_in c) after)
    ∙ (ap (λ (o : Option (List Part)). map (key_in c) before ++ o ∷ map (key_in c) after) (sym empty)
    ∙ sym (map-append (key_in c) before (gap ∷ after)))))) in
    ap (λ (l : List (Option (List Part))). let h : History (List (Option (List Part))) = record { current = l; past = [] } in h)
    (x3 ∙ ap (λ (cs : List ℕ). map (key_in cs) (before ++ gap ∷ after)) (sym e3))

pub all_over : (ss : List Slot) (at id next : ℕ) (made : List Key) → AllByRecursion IsNew made
    → AllByRecursion (InStep (at_rest (with_gap at id (kept ss next)))) (map settled_key (map (pushed_key (drop at ss)) (map (changed_key None None) (map (pushed_key (take at ss)) made))))
all_over ss at id next [] all = tt
all_over ss at id next (k ∷ ks) all =
    (one_over (take at ss) (drop at ss) (record { id = id; row = None }) next k refl all.0, all_over ss at id next ks all.1)

columns_pushed : (ss : List Slot) (ks : List Key) → columns_of (map (pushed_key ss) ks) ≡ columns_of ks
columns_pushed ss [] = refl
columns_pushed ss (k ∷ ks) =
    ap (λ (c : List ℕ). c ∷ columns_of (map (pushed_key ss) ks)) (same_columns ss k) ∙ ap (λ (l : List (List ℕ)). k.columns.items ∷ l) (columns_pushed ss ks)

pub columns_over : (before after : List Slot) (made : List Key) → columns_of (map settled_key (map (pushed_key after) (map (changed_key None None) (map (pushed_key before) made)))) ≡ columns_of made
columns_over before after made =
    columns_settled (map (pushed_key after) (map (changed_key None None) (map (pushed_key before) made)))
    ∙ (columns_pushed after (map (changed_key None None) (map (pushed_key before) made))
    ∙ (columns_changed None None (map (pushed_key before) made) ∙ columns_pushed before made))

pub pushed_on : (ss rest : List Slot) (s : Slot) (ks : List Key) → ss ≡ s ∷ rest → map (pushed_key ss) ks ≡ map (pushed_key rest) (map (changed_key None s.row) ks)
pushed_on ss rest s ks is = ap (λ (l : List Slot). map (pushed_key l) ks) is ∙ one ks
  where
    one : (ks : List Key) → map (pushed_key (s ∷ rest)) ks ≡ map (pushed_key rest) (map (changed_key None s.row) ks)
    one [] = refl
    one (k ∷ ks) = ap (λ (l : List Key). pushed_key rest (changed_key None s.row k) ∷ l) (one ks)

pub columns_step : (ks : List Key) (i : ℕ) (k own : Key) (done after : List Key) → i < length ks → k ≡ get_or ks i k → after ≡ done ++ own ∷ [] → own.columns.items ≡ k.columns.items
    → columns_of done ++ columns_of (drop i ks) ≡ columns_of ks → columns_of after ++ columns_of (drop (i + 1) ks) ≡ columns_of ks
columns_step ks i k own done after lt is on same before =
    let rest : List Key = drop (i + 1) ks in
    let e : drop i ks ≡ k ∷ rest = drop-cons ks i k lt ∙ (ap (λ (x : Key). x ∷ drop (suc i) ks) (sym is) ∙ ap (λ (n : ℕ). k ∷ drop n ks) (sym (add-one i))) in
    ap (λ (l : List Key). columns_of l ++ columns_of rest) on
    ∙ (ap (λ (l : List (List ℕ)). l ++ columns_of rest) (map-append (λ (x : Key). x.columns.items) done (own ∷ []))
    ∙ (append_assoc (columns_of done) (own.columns.items ∷ []) (columns_of rest)
    ∙ (ap (λ (c : List ℕ). columns_of done ++ c ∷ columns_of rest) same
    ∙ (ap (λ (l : List Key). columns_of done ++ columns_of l) (sym e) ∙ before))))

pub slot_step : (ss : List Slot) (i : ℕ) (s : Slot) → i < length ss → s ≡ get_or ss i s → drop i ss ≡ s ∷ drop (i + 1) ss
slot_step ss i s lt is = drop-cons ss i s lt ∙ (ap (λ (x : Slot). x ∷ drop (suc i) ss) (sym is) ∙ ap (λ (n : ℕ). s ∷ drop n ss) (sym (add-one i)))

pub drop_all : {A : Type 0} (xs : List A) (n : ℕ) → length xs ≤ n → drop n xs ≡ []
drop_all [] zero le = refl
drop_all [] (suc n) le = refl
drop_all (x ∷ xs) zero le = absurd (omega (arith, le))
drop_all (x ∷ xs) (suc n) le = drop_all xs n (omega (arith, le))

take_all : {A : Type 0} (xs : List A) (n : ℕ) → length xs ≤ n → take n xs ≡ xs
take_all [] zero le = refl
take_all [] (suc n) le = refl
take_all (x ∷ xs) zero le = absurd (omega (arith, le))
take_all (x ∷ xs) (suc n) le = ap (λ l. x ∷ l) (take_all xs n (omega (arith, le)))

-- what stands from a place on
pub tail_all : {A : Type 0} (xs : List A) (at : ℕ) → take (length xs - at) (drop at xs) ≡ drop at xs
tail_all xs at = take_all (drop at xs) (length xs - at) (let e = length-drop at xs in omega (arith, e))

pub none_pushed : (ks : List Key) → map (pushed_key []) ks ≡ ks
none_pushed [] = refl
none_pushed (k ∷ ks) = ap (λ (l : List Key). k ∷ l) (none_pushed ks)
