-- What the calls that close, lay and open an area leave.
use Rattle.std.proofs.Common.{◌≡◌, ◌≢◌, ◌⊎◌, ◌≤◌, inl, inr, ℕ, ◌+◌, List, [], ◌∷◌, ◌++◌, length, get_or, take, drop, false, refl, sym, ◌∙◌, ap, arith, append_assoc}
use Rattle.std.proofs.lemmas.Bool.{cases_eq}
use Rattle.std.proofs.lemmas.Bool.Decides.{nat_tests}
use Rattle.std.proofs.Common.{subst}
use Rattle.pl_base.specs.Image.{Image, file}
use Rattle.pl_base.specs.declared.area.Area.{Area}
use Rattle.pl_frames.specs.Format.{is_open, header_bytes}
use Rattle.pl_disk.specs.Disk.{Holds, Torn, View, TornAt, Written, After, Only, IsLawful, Looks, Writes}
use Rattle.pl_disk.specs.Lent.{writes_weaker, writes_on, looked_writes}
use Rattle.pl_frames.specs.Lent.{not_one_closed}
use Rattle.pl_frames.specs.Header.{MayClose, MayOpen, Shut, Laid, Leaves}

short_closed : (c : List ℕ) → length c ≤ 1 → is_open c ≡ false
short_closed c short = grind (arith, nat_tests)

pub closing : (d c : List ℕ) → (length d ≡ 0) ⊎ (get_or d 0 0 ≡ 1) → Torn 0 1 d c → (c ≡ d) ⊎ (is_open c ≡ false)
closing [] c first torn = inr (short_closed c (omega (arith, torn.no_longer)))
closing (y ∷ d) [] first torn = inr refl
closing (y ∷ d) (x ∷ c) (inl none) torn = absurd (omega (arith, none))
closing (y ∷ d) (x ∷ c) (inr one) torn = elim (cases_eq x 1) [
  | inl is ↦ inl (let same : c ≡ d = torn.after in cc)
  | inr shut ↦ inr (not_one_closed x c shut)
]

pub shut_of : (c gate : List ℕ) → take 1 c ≡ gate → length gate ≡ 1 → get_or gate 0 0 ≢ 1 → Shut c
shut_of [] gate is one shut = absurd (omega (arith, one, ap length is))
shut_of (x ∷ c) gate is one shut = record { gate = x; rest = c; split = refl; shut = λ at. shut (sym (ap (λ (l : List ℕ). get_or l 0 0) is) ∙ at) }

pub shut_written : (d c : List ℕ) → Holds d 0 (0 ∷ []) c → Shut c
shut_written d c is = record { gate = 0; rest = drop 1 d; split = is; shut = omega arith }

pub laid_written : (d c body : List ℕ) (generation : ℕ) → Shut d → body ≡ header_bytes generation ++ 0 ∷ [] → Holds d 1 body c → Laid generation c
laid_written d c body generation was is_body is =
    let tail = drop (1 + length body) d in
    let first : take 1 d ≡ was.gate ∷ [] = ap (λ (l : List ℕ). take 1 l) was.split in
    record {
      gate = was.gate;
      rest = tail;
      split = is ∙ ap (λ (l : List ℕ). l ++ body ++ tail) first ∙ ap (λ (l : List ℕ). was.gate ∷ (l ++ tail)) is_body ∙ ap (λ (l : List ℕ). was.gate ∷ l) (append_assoc (header_bytes generation) (0 ∷ []) tail);
    }

pub shut_laid : (d c : List ℕ) → take 1 c ≡ take 1 d → Shut d → Shut c
shut_laid d [] is was = absurd (omega (arith, ap length (is ∙ ap (λ (l : List ℕ). take 1 l) was.split)))
shut_laid d (x ∷ c) is was = record { gate = x; rest = c; split = refl; shut = λ at. was.shut (sym (ap (λ (l : List ℕ). get_or l 0 0) (is ∙ ap (λ (l : List ℕ). take 1 l) was.split)) ∙ at) }

pub opening : (d c : List ℕ) → Shut d → Torn 0 1 d c → Shut c ⊎ (c ≡ 1 ∷ drop 1 d)
opening d [] was torn = absurd (omega (arith, torn.no_shorter, ap length was.split))
opening d (x ∷ c) was torn = elim (cases_eq x 1) [
  | inl is ↦ inr (let same : c ≡ drop 1 d = torn.after in cc)
  | inr shut ↦ inl (record { gate = x; rest = c; split = refl; shut = shut })
]

pub open_written : (d c : List ℕ) → Holds d 0 (1 ∷ []) c → c ≡ 1 ∷ drop 1 d
open_written d c is = is

same_first : (d e : List ℕ) → take 1 d ≡ take 1 e → (length e ≡ 0) ⊎ (get_or e 0 0 ≡ 1) → (length d ≡ 0) ⊎ (get_or d 0 0 ≡ 1)
same_first [] e is first = inl refl
same_first (x ∷ d) [] is first = absurd (omega (arith, ap length is))
same_first (x ∷ d) (y ∷ e) is (inl none) = absurd (omega (arith, none))
same_first (x ∷ d) (y ∷ e) is (inr one) = inr (ap (λ (l : List ℕ). get_or l 0 0) is ∙ one)

same_gate : (d c body : List ℕ) {generation : ℕ} (was : Shut d) (laid : Laid generation c) → Holds d 1 body c → laid.gate ≢ 1
same_gate d c body was laid is one = was.shut (sym (ap (λ (l : List ℕ). get_or l 0 0) (sym laid.split ∙ is ∙ ap (λ (l : List ℕ). take 1 l ++ body ++ drop (1 + length body) d) was.split)) ∙ one)

-- whole runs
module _ (area : Area) where
  pub close_looks : (a b : View) → Looks a b → Writes a b (After (MayClose area) a.may_leave)
  close_looks a b looks = writes_weaker a b _ _ (looked_writes a b looks) (λ told c is. (c, is, record { rest = refl; change = inl refl }))

  pub close_writes : (a b d : View) → Looks a b → (a.told → Leaves area (λ f. take 1 f ≡ take 1 (file area a.seen)) a) → (a.told → (length (file area a.seen) ≡ 0) ⊎ (get_or (file area a.seen) 0 0 ≡ 1))
      → Writes b d (After (TornAt area 0 1) b.may_leave) → Writes a d (After (MayClose area) a.may_leave)
  close_writes a b d looks gate first write =
      writes_on a b d _ _ _ (looked_writes a b looks) write
      (λ told c is. (c, is, record { rest = refl; change = inl refl }))
      (λ told c is.
      let was = (looks.images told).crash is.0 is.1 in (
        is.0,
        was,
        record {
          rest = is.2.rest;
          change = closing (file area is.0) (file area c) (same_first (file area is.0) (file area a.seen) (gate told is.0 was) (first told)) is.2.torn;
        },
      ))

  pub close_looked : (a b : View) → a.told → Looks a b → (a.told → Leaves area (λ f. take 1 f ≡ take 1 (file area a.seen)) a) → Shut (file area a.seen) → Leaves area Shut b
  close_looked a b told looks gate shut c left = shut_laid (file area a.seen) (file area c) (gate told c ((looks.images told).crash c left)) shut

  pub close_written : (old new : Image) (left : Image → Type 0) → Only new left → Written area 0 (0 ∷ []) old new → (c : Image) → left c → Shut (file area c)
  close_written old new left only written c is = subst (λ (i : Image). Shut (file area i)) (sym (only c is)) (shut_written (file area old) (file area new) written.holds)

  pub lay_written : (old new : View) (generation : ℕ) (body : List ℕ) → IsLawful old → Only new.seen new.may_leave → Written area 1 body old.seen new.seen → body ≡ header_bytes generation ++ 0 ∷ []
      → Leaves area Shut old → Leaves area (λ f. Shut f × Laid generation f) new
  lay_written old new generation body lawful only written is shut c left =
      let was = shut old.seen lawful.reads in
      let laid = laid_written (file area old.seen) (file area new.seen) body generation was is written.holds in
      let P : Image → Type 0 = λ i. Shut (file area i) × Laid generation (file area i) in
      subst P (sym (only c left)) (record { gate = laid.gate; rest = header_bytes generation ++ 0 ∷ laid.rest; split = laid.split; shut = same_gate (file area old.seen) (file area new.seen) body was laid written.holds }, laid)

  pub open_runs : (a b : View) → (a.told → Leaves area Shut a) → Writes a b (After (TornAt area 0 1) a.may_leave) → Writes a b (After (MayOpen area) a.may_leave)
  open_runs a b shut run = writes_weaker a b _ _ run (λ told c is. (
    is.0,
    is.1,
    record { rest = is.2.rest; change = opening (file area is.0) (file area c) (shut told is.0 is.1) is.2.torn },
  ))

  pub open_done : (old new : Image) (left : Image → Type 0) → Only new left → Written area 0 (1 ∷ []) old new → (c : Image) → left c → file area c ≡ 1 ∷ drop 1 (file area old)
  open_done old new left only written c is = ap (λ (i : Image). file area i) (only c is) ∙ open_written (file area old) (file area new) written.holds
