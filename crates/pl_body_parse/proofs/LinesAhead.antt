-- Lines of places that come one behind the other.
use Rattle.std.proofs.Common.{◌≡◌, ◌∙◌, ap, sym, subst, ℕ, zero, suc, ◌+◌, ◌-◌, ◌^◌, ◌<◌, ◌≤◌, ◌==◌, Bool, List, [], ◌∷◌, ◌++◌, length, get_or, map, take, drop, arith}
use Rattle.std.specs.Prelude.{count_by, cond}
use Rattle.std.proofs.lemmas.List.{drop-take, length-take-le, take-take}
use Rattle.std.proofs.lemmas.List.Sums.{sum_by-take-drop, count_by-le-length}
use Rattle.pl_lex.specs.Characters.{Text}
use Rattle.pl_lex.specs.Lexemes.{StandIn}
use Rattle.pl_lex.specs.declared.token.Token.{Token}
use Rattle.pl_sql_parse.specs.Spells.{Placed}
use Rattle.pl_body_parse.specs.Spells.{line_at}

-- the tokens begin at the place or behind it, one behind the other, and end in the text
abbrev pub Ahead : Text → ℕ → List Token → Type 0
Ahead text at [] = at ≤ length text
Ahead text at (t ∷ ts) = (at ≤ t.start) × (t.start ≤ length text) × Ahead text t.start ts

stand_ahead : (text : Text) (from at end : ℕ) (ts : List Token) → StandIn text from end ts → at ≤ from → end ≤ length text → Ahead text at ts × (from ≤ end)
stand_ahead text from at end [] h low high = (omega (arith, h, low, high), h)
stand_ahead text from at end (t ∷ ts) h low high =
    let own = h.1 in
    let first = h.0 in
    let more = stand_ahead text t.end t.start end ts h.3 (omega (arith, own)) high in
    let last = more.1 in
    ((omega (arith, low, first), omega (arith, own, last, high), more.0), omega (arith, first, own, last))

pub placed_ahead : (text : Text) (ts : List Token) → Placed text ts → Ahead text 0 ts
placed_ahead text ts h = (stand_ahead text h.0 0 h.1 ts h.3 (omega arith) h.2).0

-- ---- newlines between two places

abbrev pub is_newline : ℕ → Bool
is_newline byte = byte == 10

pub count_more : (text : Text) (at to : ℕ) → at ≤ to → count_by is_newline (take to text) ≡ count_by is_newline (take at text) + count_by is_newline (take (to - at) (drop at text))
count_more text at to h =
    let all : at + (to - at) ≡ to = omega (arith, h) in
    let first = take-take at to text h in
    let rest : drop at (take to text) ≡ take (to - at) (drop at text) = ap (λ (n : ℕ). drop at (take n text)) (sym all) ∙ drop-take at (to - at) text in
    sym (sum_by-take-drop (λ (byte : ℕ). cond (is_newline byte) 1 0) (take to text) at)
    ∙ ap (λ (xs : Text). count_by is_newline xs + count_by is_newline (drop at (take to text))) first
    ∙ ap (λ (xs : Text). count_by is_newline (take at text) + count_by is_newline xs) rest

pub count_within : (text : Text) (at : ℕ) → at ≤ length text → count_by is_newline (take at text) ≤ at
count_within text at h = let few = count_by-le-length is_newline (take at text) in let size = length-take-le at text h in omega (arith, few, size)

-- ---- the turns of a loop over the tokens

pub next_line : (text : Text) (at to : ℕ) → at ≤ to → line_at text to ≡ line_at text at + count_by is_newline (take (to - at) (drop at text))
next_line text at to h = let more = count_more text at to h in omega (arith, more)

pub line_within : (text : Text) (at : ℕ) → at ≤ length text → line_at text at ≤ suc (length text)
line_within text at h = let few = count_within text at h in omega (arith, few, h)

pub ahead_step : (text : Text) (at index : ℕ) (ts : List Token) (t : Token) → index < length ts → t ≡ get_or ts index t → Ahead text at (drop index ts) → (at ≤ t.start) × (t.start ≤ length text) × Ahead text t.start (drop (suc index) ts)
ahead_step text at index [] t h is a = absurd (omega (arith, h))
ahead_step text at zero (u ∷ ts) t h is a = subst (λ (v : Token). (at ≤ v.start) × (v.start ≤ length text) × Ahead text v.start ts) (sym is) a
ahead_step text at (suc index) (u ∷ ts) t h is a = ahead_step text at index ts t (omega (arith, h)) is a

pub lines_more : (text : Text) (index : ℕ) (ts : List Token) (t : Token) → index < length ts → t ≡ get_or ts index t
    → map (λ (t : Token). line_at text t.start) (take (suc index) ts) ≡ map (λ (t : Token). line_at text t.start) (take index ts) ++ line_at text t.start ∷ []
lines_more text index [] t h is = absurd (omega (arith, h))
lines_more text zero (u ∷ ts) t h is = ap (λ (v : Token). line_at text v.start ∷ []) (sym is)
lines_more text (suc index) (u ∷ ts) t h is = ap (λ (xs : List ℕ). line_at text u.start ∷ xs) (lines_more text index ts t (omega (arith, h)) is)

-- a line fits its type, in a text that is short enough
pub line_fits : (text : Text) (at : ℕ) → at ≤ length text → length text < 2 ^ 32 - 1 → line_at text at < 2 ^ 32
line_fits text at h short = let few = line_within text at h in omega (arith, few, short)
