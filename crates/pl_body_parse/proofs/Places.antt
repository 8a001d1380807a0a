-- Tokens at their places.
use Rattle.std.proofs.Common.{◌≡◌, refl, ℕ, zero, suc, ◌+◌, ◌<◌, ◌≤◌, List, [], ◌∷◌, length, get_or, take, drop, map, arith}
use Rattle.pl_lex.specs.Characters.{Text}
use Rattle.pl_lex.specs.Lexemes.{StandIn}
use Rattle.pl_lex.specs.declared.token.Token.{Token}
use Rattle.pl_sql_parse.specs.Spells.{Placed}
use Rattle.pl_body_parse.specs.Spells.{line_at, line_of}

pub lines_at : (text : Text) (ts : List Token) (at d : ℕ) → at < length ts → get_or (map (λ (t : Token). line_at text t.start) ts) at d ≡ line_of text (drop at ts)
lines_at text [] at d h = absurd (omega (arith, h))
lines_at text (t ∷ ts) zero d h = refl
lines_at text (t ∷ ts) (suc at) d h = lines_at text ts at d (omega (arith, h))

-- ---- some of the tokens stand in the text too

stand_low : (text : Text) (from end : ℕ) (ts : List Token) → StandIn text from end ts → from ≤ end
stand_low text from end [] h = h
stand_low text from end (t ∷ ts) h = let a = h.0 in let b = h.1 in let c = stand_low text t.end end ts h.3 in omega (arith, a, b, c)

stand_take : (text : Text) (from end n : ℕ) (ts : List Token) → StandIn text from end ts → StandIn text from end (take n ts)
stand_take text from end zero ts h = stand_low text from end ts h
stand_take text from end (suc n) [] h = h
stand_take text from end (suc n) (t ∷ ts) h = (h.0, h.1, h.2, stand_take text t.end end n ts h.3)

placed_drop : (text : Text) (from end a : ℕ) (ts : List Token) → end ≤ length text → StandIn text from end ts → Placed text (drop a ts)
placed_drop text from end zero ts low h = (from, end, low, h)
placed_drop text from end (suc a) [] low h = (from, end, low, h)
placed_drop text from end (suc a) (t ∷ ts) low h = placed_drop text t.end end a ts low h.3

pub placed_slice : (text : Text) (ts : List Token) (a n : ℕ) → Placed text ts → Placed text (take n (drop a ts))
placed_slice text ts a n h = let p = placed_drop text h.0 h.1 a ts h.2 h.3 in (p.0, p.1, p.2, stand_take text p.0 p.1 n (drop a ts) p.3)

stand_count : (text : Text) (from end : ℕ) (ts : List Token) → StandIn text from end ts → from + length ts ≤ end
stand_count text from end [] h = omega (arith, h)
stand_count text from end (t ∷ ts) h = let a = h.0 in let b = h.1 in let c = stand_count text t.end end ts h.3 in omega (arith, a, b, c)

pub placed_few : (text : Text) (ts : List Token) → Placed text ts → length ts ≤ length text
placed_few text ts h = let a = stand_count text h.0 h.1 ts h.3 in let b = h.2 in omega (arith, a, b)
