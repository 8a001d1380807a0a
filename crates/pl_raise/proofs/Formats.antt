-- Formats, from their first byte on.
use Rattle.std.proofs.Common.{◌≡◌, ◌≢◌, ◌<◌, ◌∙◌, ℕ, Bool, true, false, ◌==◌, if◌then◌else◌, List, [], ◌∷◌, ◌++◌, append-nil, append_assoc, ap, arith, drop, get_or, length, sym}
use Rattle.std.proofs.lemmas.Bool.{eq-eqb, ne_eqb}
use Rattle.pl_raise.specs.Texts.{starts_with_percent}
use Rattle.pl_world.specs.Raising.{Text, first_text, formatted, percent}

-- a byte that is no percent sign
plain : (c : ℕ) (cs : Text) (ts : List Text) → (c == percent) ≡ false → formatted (c ∷ cs) ts ≡ c ∷ formatted cs ts
plain c [] ts is = ap (λ (b : Bool). if b then first_text ts else c ∷ []) is
plain c (d ∷ cs) ts is = ap (λ (b : Bool). if b then (if d == percent then percent ∷ formatted cs ts else first_text ts ++ formatted (d ∷ cs) (drop 1 ts)) else c ∷ formatted (d ∷ cs) ts) is

-- two percent signs
double : (c : ℕ) (cs : Text) (ts : List Text) → (c == percent) ≡ true → starts_with_percent cs ≡ true → formatted (c ∷ cs) ts ≡ percent ∷ formatted (drop 1 cs) ts
double c [] ts is other = absurd cc
double c (d ∷ cs) ts is other = ap (λ (b : Bool). if b then (if d == percent then percent ∷ formatted cs ts else first_text ts ++ formatted (d ∷ cs) (drop 1 ts)) else c ∷ formatted (d ∷ cs) ts) is
    ∙ ap (λ (b : Bool). if b then percent ∷ formatted cs ts else first_text ts ++ formatted (d ∷ cs) (drop 1 ts)) other

-- one that stands for a text
single : (c : ℕ) (cs : Text) (ts : List Text) → (c == percent) ≡ true → starts_with_percent cs ≡ false → formatted (c ∷ cs) ts ≡ first_text ts ++ formatted cs (drop 1 ts)
single c [] ts is other = ap (λ (b : Bool). if b then first_text ts else c ∷ []) is ∙ sym (append-nil (first_text ts))
single c (d ∷ cs) ts is other = ap (λ (b : Bool). if b then (if d == percent then percent ∷ formatted cs ts else first_text ts ++ formatted (d ∷ cs) (drop 1 ts)) else c ∷ formatted (d ∷ cs) ts) is
    ∙ ap (λ (b : Bool). if b then percent ∷ formatted cs ts else first_text ts ++ formatted (d ∷ cs) (drop 1 ts)) other

-- what was made goes on
goes_on : (made piece rest whole all : Text) → all ≡ piece ++ rest → made ++ all ≡ whole → (made ++ piece) ++ rest ≡ whole
goes_on made piece rest whole all is way = append_assoc made piece rest ∙ (ap (λ (t : Text). made ++ t) (sym is) ∙ way)

pub on_byte : (left : Text) (ts : List Text) (made whole : Text) → 0 < length left → get_or left 0 0 ≢ percent → made ++ formatted left ts ≡ whole
    → (made ++ get_or left 0 0 ∷ []) ++ formatted (drop 1 left) ts ≡ whole
on_byte [] ts made whole lt other way = absurd (omega (arith, lt))
on_byte (c ∷ cs) ts made whole lt other way = goes_on made (c ∷ []) (formatted cs ts) whole (formatted (c ∷ cs) ts) (plain c cs ts (ne_eqb c percent other)) way

pub on_double : (left : Text) (ts : List Text) (made whole : Text) → 0 < length left → get_or left 0 0 ≡ percent → starts_with_percent (drop 1 left) ≡ true → made ++ formatted left ts ≡ whole
    → (made ++ percent ∷ []) ++ formatted (drop 1 (drop 1 left)) ts ≡ whole
on_double [] ts made whole lt is other way = absurd (omega (arith, lt))
on_double (c ∷ cs) ts made whole lt is other way = goes_on made (percent ∷ []) (formatted (drop 1 cs) ts) whole (formatted (c ∷ cs) ts) (double c cs ts (eq-eqb c percent is) other) way

pub on_single : (left : Text) (ts : List Text) (made whole : Text) → 0 < length left → get_or left 0 0 ≡ percent → starts_with_percent (drop 1 left) ≡ false → made ++ formatted left ts ≡ whole
    → (made ++ first_text ts) ++ formatted (drop 1 left) (drop 1 ts) ≡ whole
on_single [] ts made whole lt is other way = absurd (omega (arith, lt))
on_single (c ∷ cs) ts made whole lt is other way = goes_on made (first_text ts) (formatted cs (drop 1 ts)) whole (formatted (c ∷ cs) ts) (single c cs ts (eq-eqb c percent is) other) way
