-- What a crash leaves of a file after one more write is torn from what one left before it.
use Rattle.std.proofs.Common.{◌<◌, ◌≡◌, ◌⊎◌, inl, inr, ⊎_elim, ℕ, zero, suc, ◌+◌, ◌≤◌, max, min, List, [], ◌∷◌, length, get_or, take, drop, refl, sym, ◌∙◌, ap, arith, length-take}
use Rattle.std.proofs.lemmas.List.{take_all, drop_all, take-take, get_or-take}
use Rattle.pl_disk.specs.Disk.{Torn}
use Rattle.pl_disk.specs.Lawful.{place}
use Rattle.pl_disk.specs.Left.{IsWritten, end_of, IsLeft}

-- c with the synced bytes in a range
abbrev mended : ℕ → ℕ → List ℕ → List ℕ → List ℕ
mended at n ss [] = []
mended at n [] (x ∷ c) = x ∷ c
mended (suc at) n (s ∷ ss) (x ∷ c) = x ∷ mended at n ss c
mended zero zero (s ∷ ss) (x ∷ c) = x ∷ c
mended zero (suc n) (s ∷ ss) (x ∷ c) = s ∷ mended zero n ss c

length-mended : (at n : ℕ) (ss c : List ℕ) → length (mended at n ss c) ≡ length c
length-mended at n ss [] = refl
length-mended at n [] (x ∷ c) = refl
length-mended (suc at) n (s ∷ ss) (x ∷ c) = ap suc (length-mended at n ss c)
length-mended zero zero (s ∷ ss) (x ∷ c) = refl
length-mended zero (suc n) (s ∷ ss) (x ∷ c) = ap suc (length-mended zero n ss c)

take-mended : (at n : ℕ) (ss c : List ℕ) → take at (mended at n ss c) ≡ take at c
take-mended zero n ss c = refl
take-mended (suc at) n ss [] = refl
take-mended (suc at) n [] (x ∷ c) = refl
take-mended (suc at) n (s ∷ ss) (x ∷ c) = ap (λ (l : List ℕ). x ∷ l) (take-mended at n ss c)

drop-mended : (at n m : ℕ) (ss c : List ℕ) → m ≡ at + n → drop m (mended at n ss c) ≡ drop m c
drop-mended at n m ss [] is = refl
drop-mended at n m [] (x ∷ c) is = refl
drop-mended (suc at) n zero (s ∷ ss) (x ∷ c) is = absurd (omega (arith, is))
drop-mended (suc at) n (suc m) (s ∷ ss) (x ∷ c) is = drop-mended at n m ss c (omega (arith, is))
drop-mended zero zero m (s ∷ ss) (x ∷ c) is = refl
drop-mended zero (suc n) zero (s ∷ ss) (x ∷ c) is = absurd (omega (arith, is))
drop-mended zero (suc n) (suc m) (s ∷ ss) (x ∷ c) is = drop-mended zero n m ss c (omega (arith, is))

within : (at n i : ℕ) (ss c : List ℕ) → at ≤ i → i < at + n → i < length ss → i < length c → get_or (mended at n ss c) i 0 ≡ get_or ss i 0
within at n i ss [] low high short long = absurd (omega (arith, long))
within at n i [] (x ∷ c) low high short long = absurd (omega (arith, short))
within (suc at) n zero (s ∷ ss) (x ∷ c) low high short long = absurd (omega (arith, low))
within (suc at) n (suc i) (s ∷ ss) (x ∷ c) low high short long = within at n i ss c (omega (arith, low)) (omega (arith, high)) (omega (arith, short)) (omega (arith, long))
within zero zero i (s ∷ ss) (x ∷ c) low high short long = absurd (omega (arith, high))
within zero (suc n) zero (s ∷ ss) (x ∷ c) low high short long = refl
within zero (suc n) (suc i) (s ∷ ss) (x ∷ c) low high short long = within zero n i ss c (omega arith) (omega (arith, high)) (omega (arith, short)) (omega (arith, long))

outside : (at n i : ℕ) (ss c : List ℕ) → (i < at) ⊎ (at + n ≤ i) → get_or (mended at n ss c) i 0 ≡ get_or c i 0
outside at n i ss [] out = refl
outside at n i [] (x ∷ c) out = refl
outside (suc at) n zero (s ∷ ss) (x ∷ c) out = refl
outside (suc at) n (suc i) (s ∷ ss) (x ∷ c) out = outside at n i ss c (⊎_elim (λ low. inl (omega (arith, low))) (λ high. inr (omega (arith, high))) out)
outside zero zero i (s ∷ ss) (x ∷ c) out = refl
outside zero (suc n) zero (s ∷ ss) (x ∷ c) out = absurd (⊎_elim (λ low. omega (arith, low)) (λ high. omega (arith, high)) out)
outside zero (suc n) (suc i) (s ∷ ss) (x ∷ c) out = outside zero n i ss c (⊎_elim (λ low. absurd (omega (arith, low))) (λ high. inr (omega (arith, high))) out)

pub torn_from : (synced c : List ℕ) (ranges : List (ℕ × ℕ)) (at n : ℕ) → at ≤ max (length synced) (end_of ranges) → IsLeft synced ((at, n) ∷ ranges) c → (d : List ℕ) × IsLeft synced ranges d × Torn at n d c
torn_from synced c ranges at n near left =
    let longest = max (length synced) (end_of ranges) in
    let front = take longest c in
    let d = mended at n synced front in
    let long : length d ≡ min longest (length c) = length-mended at n synced front ∙ length-take longest c in
    let bound : length c ≤ max longest (at + n) = omega (arith, left.no_longer) in
    let short : (length c ≤ longest) ⊎ (longest < length c) = grind arith in
    let before : take at c ≡ take at d = sym (take-mended at n synced front ∙ take-take at longest c near) in
    let after : drop (at + n) c ≡ drop (at + n) d =
    ⊎_elim (λ fits. ap (λ (l : List ℕ). drop (at + n) l) (sym (take_all longest c fits)) ∙ sym (drop-mended at n (at + n) synced front refl))
    (λ past. drop_all (at + n) c (omega (arith, bound, past)) ∙ sym (drop_all (at + n) d (omega (arith, long, bound, past)))) short in
    let same : (i : ℕ) → i < length synced → (IsWritten i ranges → ⊥) → get_or d i 0 ≡ get_or synced i 0 = λ i below unwritten.
    ⊎_elim (λ is_in. within at n i synced front is_in.0 is_in.1 below (omega (arith, below, length-take longest c, left.no_shorter)))
    (λ out. outside at n i synced front out ∙ get_or-take longest c i 0 (omega (arith, below)) ∙ left.same i below (⊎_elim (λ is_in. absurd (⊎_elim (λ low. omega (arith, low, is_in.0)) (λ high. omega (arith, high, is_in.1)) out)) unwritten)) (place at n i) in (
      d,
      record { no_shorter = omega (arith, long, left.no_shorter); no_longer = omega (arith, long); same = same },
      record { before = before; after = after; no_shorter = omega (arith, long); no_longer = omega (arith, long, bound) },
    )
