-- Where bytes stop being a script.
use Rattle.std.proofs.Common.{◌≡◌, ◌∙◌, ◌<◌, ◌≤◌, ◌+◌, ◌-◌, ◌&&◌, ◌⊎◌, inl, inr, ⊎_elim, ℕ, Bool, Option, Some, true, false, true≢false, refl, sym, ap, subst, arith, List, [], ◌∷◌, ◌++◌, length, take, slice_index, length-append, length-take, get_or-take, ◌==◌}
use Rattle.std.proofs.lemmas.Bool.Decides.{nat_tests}
use Rattle.std.proofs.lemmas.List.{append-nil, take-append-le, take_all, get_or_append_left}
use Rattle.std.proofs.lemmas.Str.{length-encode, len_utf8_bounds, IsUtf8-append, utf8_valid_len-IsValidUpTo}
use Rattle.std.proofs.Math.Seq.{take-append_seam, take-append-add, take-take}
use Rattle.std.proofs.Math.Utf8.{encode, encodes, scalar, scalars}
use Rattle.std.specs.Str.{IsUtf8, IsValidUpTo}
use Rattle.pl_cli.specs.Script.{IsFirst, IsFlaw, IsRefusedAt, IsScript}

-- characters have at most four bytes, so behind each byte of a text one of them ends soon
boundary_after : (cs : List ℕ) (p : ℕ) → scalars cs ≡ true → p < length (encodes cs) → (b : ℕ) × ((p < b) × ((b ≤ p + 4) × IsUtf8 (take b (encodes cs))))
boundary_after [] p fine within = absurd (omega (arith, within))
boundary_after (c ∷ cs) p fine within =
    let so = both_true (scalar c) (scalars cs) fine in
    let long = length-encode c in
    let bounds = len_utf8_bounds c in
    let one : IsUtf8 (encode c) = (c ∷ [], (alone so.0, append-nil (encode c))) in
    ⊎_elim (λ low. (length (encode c), (low, (omega (arith, long, bounds.1), subst IsUtf8 (sym (take-append_seam (encode c) (encodes cs))) one))))
    (λ high.
    let within_rest : p - length (encode c) < length (encodes cs) = omega (arith, within, high, length-append (encode c) (encodes cs)) in
    let rest = boundary_after cs (p - length (encode c)) so.1 within_rest in
    (length (encode c) + rest.0, (omega (arith, rest.1.0, high), (omega (arith, rest.1.1.0, high), subst IsUtf8 (sym (take-append-add (encode c) (encodes cs) rest.0)) (IsUtf8-append (encode c) (take rest.0 (encodes cs)) one rest.1.1.1)))))
    (below p (length (encode c)))
  where
    both_true : (a b : Bool) → (a && b) ≡ true → (a ≡ true) × (b ≡ true)
    both_true true b is = (refl, is)
    both_true false b is = absurd (true≢false (sym is))

    alone : scalar c ≡ true → scalars (c ∷ []) ≡ true
    alone is = rw is refl

    below : (m n : ℕ) → (m < n) ⊎ (n ≤ m)
    below m n = grind arith

-- no text has such an end
pub is_no_text : (bytes : List ℕ) (at : ℕ) → IsValidUpTo bytes at → IsUtf8 bytes → ⊥
is_no_text bytes at valid text = valid.longest (length bytes) valid.short (subst IsUtf8 (sym (take_all (length bytes) bytes (omega arith))) text)

-- bytes and more of them
module _ (bytes rest : List ℕ) where
  same_front : (n : ℕ) → n ≤ length bytes → take n (bytes ++ rest) ≡ take n bytes
  same_front n within = take-append-le n bytes rest within

  valid_longer : (at : ℕ) → at + 4 ≤ length bytes → IsValidUpTo bytes at → IsValidUpTo (bytes ++ rest) at
  valid_longer at room valid = record {
    short = omega (arith, room, length-append bytes rest);
    front = subst IsUtf8 (sym (same_front at (omega (arith, room)))) valid.front;
    longest = λ m more text. after m more text (below m (length bytes));
  }
    where
      below : (m n : ℕ) → (m ≤ n) ⊎ (n < m)
      below m n = grind arith

      after : (m : ℕ) → at < m → IsUtf8 (take m (bytes ++ rest)) → (m ≤ length bytes) ⊎ (length bytes < m) → ⊥
      after m more text (inl low) = valid.longest m more (subst IsUtf8 (same_front m low) text)
      after m more text (inr high) =
          let whole : List ℕ = take m (bytes ++ rest) in
          let long : at < length (encodes text.0) = omega (arith, ap length text.1.1, length-take m (bytes ++ rest), length-append bytes rest, room, more) in
          let next = boundary_after text.0 at text.1.0 long in
          let here : IsUtf8 (take next.0 whole) = subst (λ (l : List ℕ). IsUtf8 (take next.0 l)) text.1.1 next.1.1.1 in
          let within : next.0 ≤ length bytes = omega (arith, next.1.1.0, room) in
          let split : take next.0 whole ≡ take next.0 bytes = take_take next.0 m (omega (arith, within, high)) ∙ same_front next.0 within in
          valid.longest next.0 next.1.0 (subst IsUtf8 split here)
        where
          take_take : (a b : ℕ) → a ≤ b → take a (take b (bytes ++ rest)) ≡ take a (bytes ++ rest)
          take_take a b le = take-take a b (bytes ++ rest) le

  valid_shorter : (at : ℕ) → at < length bytes → IsValidUpTo (bytes ++ rest) at → IsValidUpTo bytes at
  valid_shorter at within valid = record {
    short = within;
    front = subst IsUtf8 (same_front at (omega (arith, within))) valid.front;
    longest = λ m more text. after m more text (below m (length bytes));
  }
    where
      below : (m n : ℕ) → (m ≤ n) ⊎ (n < m)
      below m n = grind arith

      after : (m : ℕ) → at < m → IsUtf8 (take m bytes) → (m ≤ length bytes) ⊎ (length bytes < m) → ⊥
      after m more text (inl low) = valid.longest m more (subst IsUtf8 (sym (same_front m low)) text)
      after m more text (inr high) =
          valid.longest (length bytes) within (subst IsUtf8 (take_all m bytes (omega (arith, high)) ∙ sym (take_all (length bytes) bytes (omega arith)) ∙ sym (same_front (length bytes) (omega arith))) text)

  flaw_longer : (at : ℕ) → at + 4 ≤ length bytes → IsFlaw bytes at → IsFlaw (bytes ++ rest) at
  flaw_longer at room (inl valid) = inl (valid_longer at room valid)
  flaw_longer at room (inr zero) = inr (omega (arith, zero.0, length-append bytes rest), get_or_append_left bytes rest 0 at zero.0 ∙ zero.1)

  flaw_shorter : (at : ℕ) → at < length bytes → IsFlaw (bytes ++ rest) at → IsFlaw bytes at
  flaw_shorter at within (inl valid) = inl (valid_shorter at within valid)
  flaw_shorter at within (inr zero) = inr (within, sym (get_or_append_left bytes rest 0 at within) ∙ zero.1)

flaw_within : (bytes : List ℕ) (at : ℕ) → IsFlaw bytes at → at < length bytes
flaw_within bytes at (inl valid) = valid.short
flaw_within bytes at (inr zero) = zero.0

-- the first flaw, by the end of the text at the front and the first zero byte in it
pub first_zero : (bytes : List ℕ) (end at : ℕ) → end ≤ length bytes → ((k : ℕ) → IsValidUpTo bytes k → end ≤ k) → at < end → slice_index bytes at ≡ 0 → ((k : ℕ) → k < at → slice_index bytes k ≡ 0 → ⊥) → IsFirst (IsFlaw bytes) at
first_zero bytes end at short valid within zero none = (inr (omega (arith, within, short), zero), λ k before flaw. ⊎_elim (λ v. let later = valid k v in omega (arith, later, before, within)) (λ z. none k before z.1) flaw)

pub first_end : (bytes : List ℕ) (end : ℕ) → IsValidUpTo bytes end → ((k : ℕ) → IsValidUpTo bytes k → end ≤ k) → ((k : ℕ) → k < end → slice_index bytes k ≡ 0 → ⊥) → IsFirst (IsFlaw bytes) end
first_end bytes end valid least none = (inl valid, λ k before flaw. ⊎_elim (λ v. let later = least k v in omega (arith, later, before)) (λ z. none k before z.1) flaw)

pub no_flaw : (bytes : List ℕ) → IsUtf8 bytes → ((k : ℕ) → k < length bytes → slice_index bytes k ≡ 0 → ⊥) → (k : ℕ) → IsFlaw bytes k → ⊥
no_flaw bytes text none k (inl valid) = is_no_text bytes k valid text
no_flaw bytes text none k (inr zero) = none k zero.0 zero.1

-- one end at most
pub one_end : (bytes : List ℕ) (a b : ℕ) → IsValidUpTo bytes a → IsValidUpTo bytes b → a ≡ b
one_end bytes a b one two = sym (utf8_valid_len-IsValidUpTo bytes a one) ∙ utf8_valid_len-IsValidUpTo bytes b two

-- a byte of the front
pub in_front : (bytes : List ℕ) (end k : ℕ) → k < end → slice_index bytes k ≡ 0 → (slice_index (take end bytes) k == 0) ≡ true
in_front bytes end k before zero = rw (get_or-take end bytes k 0 before, zero) refl

pub from_front : (bytes : List ℕ) (end k : ℕ) → k < end → (slice_index (take end bytes) k == 0) ≡ true → slice_index bytes k ≡ 0
from_front bytes end k before is = sym (get_or-take end bytes k 0 before) ∙ grind (arith, nat_tests)

-- what was taken of the source, and what is left of it then
abbrev Taken : List ℕ → Option (List ℕ) → List ℕ → Type 0
Taken left over bytes = ((bytes ≡ left) × (over ≡ Some [])) ⊎ ((16777219 < length bytes) × ((rest : List ℕ) × (bytes ++ rest ≡ left)))

pub refused_early : (left : List ℕ) (over : Option (List ℕ)) (bytes : List ℕ) (at : ℕ) → Taken left over bytes → IsFirst (IsFlaw bytes) at → at < 16777216 → IsRefusedAt left at
refused_early left over bytes at (inl same) first early = subst (λ (l : List ℕ). IsRefusedAt l at) same.0 (inl first.0, λ k before spoils. ⊎_elim (λ flaw. first.1 k before flaw) (λ limit. omega (arith, limit.0, before, early)) spoils)
refused_early left over bytes at (inr more) first early = subst (λ (l : List ℕ). IsRefusedAt l at) more.1.1 (
  inl (flaw_longer bytes more.1.0 at (omega (arith, early, more.0)) first.0),
  λ k before spoils. ⊎_elim (λ flaw. first.1 k before (flaw_shorter bytes more.1.0 k (omega (arith, before, early, more.0)) flaw)) (λ limit. omega (arith, limit.0, before, early)) spoils,
)

pub refused_long : (left : List ℕ) (over : Option (List ℕ)) (bytes : List ℕ) → Taken left over bytes → ((k : ℕ) → k < 16777216 → IsFlaw bytes k → ⊥) → 16777216 < length bytes → IsRefusedAt left 16777216
refused_long left over bytes (inl same) none long = subst (λ (l : List ℕ). IsRefusedAt l 16777216) same.0 (inr (refl, long), λ k before spoils. ⊎_elim (λ flaw. none k before flaw) (λ limit. omega (arith, limit.0, before)) spoils)
refused_long left over bytes (inr more) none long = subst (λ (l : List ℕ). IsRefusedAt l 16777216) more.1.1 (
  inr (refl, omega (arith, long, length-append bytes more.1.0)),
  λ k before spoils. ⊎_elim (λ flaw. none k before (flaw_shorter bytes more.1.0 k (omega (arith, before, long)) flaw)) (λ limit. omega (arith, limit.0, before)) spoils,
)

pub past_limit : (left : List ℕ) (over : Option (List ℕ)) (bytes : List ℕ) (at : ℕ) → Taken left over bytes → IsFirst (IsFlaw bytes) at → 16777216 ≤ at → IsRefusedAt left 16777216
past_limit left over bytes at taken first late = refused_long left over bytes taken (λ k before flaw. first.1 k (omega (arith, before, late)) flaw) (omega (arith, flaw_within bytes at first.0, late))

pub read_well : (left : List ℕ) (over : Option (List ℕ)) (bytes text : List ℕ) → Taken left over bytes → ((k : ℕ) → IsFlaw bytes k → ⊥) → length bytes ≤ 16777216 → text ≡ bytes → (text ≡ left) × (over ≡ Some []) × IsScript left
read_well left over bytes text (inl same) none short is = (is ∙ same.0, same.1, subst (λ (l : List ℕ). IsScript l) same.0 (λ at spoils. ⊎_elim (none at) (λ limit. omega (arith, limit.1, short)) spoils))
read_well left over bytes text (inr more) none short is = absurd (omega (arith, more.0, short))
