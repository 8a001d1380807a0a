-- Where the tokens of a command begin and end in their text.
use Rattle.std.proofs.Common.{◌≡◌, ◌∙◌, ap, sym, ℕ, ◌-◌, ◌≤◌, ◌==◌, false, List, [], ◌∷◌, length, drop, take, slice_index_or, refl, arith}
use Rattle.pl_lex.specs.Characters.{Text}
use Rattle.pl_lex.specs.Lexemes.{StandIn}
use Rattle.pl_lex.specs.declared.token.Token.{Token}
use Rattle.pl_sql_parse.specs.Spells.{Placed}
use Rattle.pl_lex.specs.Slices.{end_of, slice_of}

last_end : (t : Token) (ts : List Token) (e : Token) → (slice_index_or (t ∷ ts) (length ts) e).end ≡ end_of t.end ts
last_end t [] e = refl
last_end t (u ∷ ts) e = last_end u ts e

ends : (text : Text) (at end : ℕ) (ts : List Token) → StandIn text at end ts → (at ≤ end_of at ts) × (end_of at ts ≤ end)
ends text at end [] h = (omega arith, h)
ends text at end (t ∷ ts) h =
    let more = ends text t.end end ts h.3 in
    let first = h.0 in
    let own = h.1 in
    let low = more.0 in
    (omega arith, more.1)

-- the text from the first byte of the first token to the last byte of the last one lies in the whole text
pub record Span (text : Text) (start end : ℕ) (ts : List Token) : Type 0 where
  pub low : start ≤ end
  pub high : end ≤ length text
  pub is : slice_of text ts ≡ take (end - start) (drop start text)

pub span : (text : Text) (ts : List Token) (d e : Token) → (length ts == 0) ≡ false → Placed text ts
    → Span text (slice_index_or ts 0 d).start (slice_index_or ts (length ts - 1) e).end ts
span text [] d e some h = absurd (cc)
span text (t ∷ ts) d e some h =
    let s = h.3 in
    let own = s.1 in
    let more = ends text t.end h.1 ts s.3 in
    let low = more.0 in
    let high = more.1 in
    let within = h.2 in
    let place : length (t ∷ ts) - 1 ≡ length ts = omega arith in
    let first : (slice_index_or (t ∷ ts) 0 d).start ≡ t.start = refl in
    let last : (slice_index_or (t ∷ ts) (length (t ∷ ts) - 1) e).end ≡ end_of t.end ts = ap (λ (n : ℕ). (slice_index_or (t ∷ ts) n e).end) place ∙ last_end t ts e in
    record {
      low = omega (arith, first, last);
      high = omega (arith, last);
      is = ap (λ (n : ℕ). take (n - t.start) (drop t.start text)) (sym last);
    }
