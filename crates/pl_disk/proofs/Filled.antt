-- What a pick of one byte leaves has that byte wherever something was written.
use Rattle.std.proofs.Common.{◌≡◌, ◌≤◌, ◌<◌, ◌⊎◌, inl, inr, ⊎_elim, ℕ, ◌+◌, ◌-◌, min, List, [], ◌∷◌, ◌++◌, length, take, drop, refl, ◌∙◌, arith, get_or, length-append, length-take, length-drop}
use Rattle.std.proofs.lemmas.List.{get_or-append_right, get_or_append_left, get_or-replicate, length-replicate}
use Rattle.std.specs.Prelude.{replicate}
use Rattle.pl_disk.specs.Lawful.{place, put_elsewhere}
use Rattle.pl_disk.specs.Left.{IsFilled, IsWritten}
use Rattle.pl_disk.specs.Replay.{put}

-- the bytes that were put stand behind what is left of the old front
put_here : (old bytes : List ℕ) (at i : ℕ) → length (take at old) ≤ i → i < length (take at old) + length bytes → get_or (put old at bytes) i 0 ≡ get_or bytes (i - length (take at old)) 0
put_here old bytes at i low high =
    let both = length-append (take at old) bytes in
    get_or_append_left (take at old ++ bytes) (drop (at + length bytes) old) 0 i (omega (arith, both, high)) ∙ get_or-append_right (take at old) bytes (length (take at old)) i 0 refl low

length-put : (old bytes : List ℕ) (at : ℕ) → length (put old at bytes) ≡ min at (length old) + length bytes + (length old - (at + length bytes))
length-put old bytes at =
    omega (arith, length-append (take at old ++ bytes) (drop (at + length bytes) old), length-append (take at old) bytes, length-take at old, length-drop (at + length bytes) old)

not_first : (at n i : ℕ) (ranges : List (ℕ × ℕ)) → (i < at) ⊎ (at + n ≤ i) → IsWritten i ((at, n) ∷ ranges) → IsWritten i ranges
not_first at n i ranges out is = ⊎_elim (λ here. absurd (⊎_elim (λ low. omega (arith, low, here.0)) (λ high. omega (arith, high, here.1)) out)) (λ was. was) is

pub fill_more : (byte at : ℕ) (bytes seen c : List ℕ) (ranges : List (ℕ × ℕ)) → IsFilled byte ranges seen c → IsFilled byte ((at, length bytes) ∷ ranges) (put seen at bytes) (put c at (replicate (length bytes) byte))
fill_more byte at bytes seen c ranges is =
    let n = length bytes in
    let fill = replicate n byte in
    let many : length fill ≡ n = length-replicate n byte in
    let front : length (take at c) ≡ min at (length c) = length-take at c in
    let long = length-put c fill at in
    record {
      long = omega (arith, long, many, length-put seen bytes at, is.long);
      filled = λ i below written.
          ⊎_elim (λ here. put_here c fill at i here.0 (omega (arith, here.1, many)) ∙ get_or-replicate n (i - length (take at c)) byte 0 (omega (arith, here.0, here.1)))
          (λ out. ⊎_elim
          (λ low.
          let inside : i < length c = omega (arith, low, front) in
          put_elsewhere c fill at i inside (inl (omega (arith, low, front))) ∙ is.filled i inside (not_first at n i ranges (inl (omega (arith, low, front))) written))
          (λ high.
          let inside : i < length c = omega (arith, high, front, long, many, below) in
          let past : at + n ≤ i = omega (arith, high, front, long, many, below) in
          put_elsewhere c fill at i inside (inr (omega (arith, past, many))) ∙ is.filled i inside (not_first at n i ranges (inr past) written)) out)
          (place (length (take at c)) n i);
    }

pub fill_nothing : (byte : ℕ) (file : List ℕ) → IsFilled byte [] file file
fill_nothing byte file = record { long = refl; filled = λ i below none. absurd none }
