-- Where the tokens of a text stand.
use Rattle.std.proofs.Common.{◌≡◌, ℕ, ◌+◌, ◌<◌, ◌≤◌, Bool, true, false, cond, List, [], ◌∷◌, ◌++◌, length, drop, Option, Some, None, IfSome, IfOk, refl, sym, ap, ◌∙◌, arith, subst, length-append, length-drop, drop-drop}
use Rattle.std.proofs.Math.Seq.{drop-append_seam}
use Rattle.pl_lex.specs.Characters.{Text}
use Rattle.pl_lex.specs.declared.token.LexemeKind.{LexemeKind}
use Rattle.pl_lex.specs.declared.token.LexemeKind.TheVariants as what
use Rattle.pl_lex.specs.declared.token.Token.{Token}
use Rattle.pl_lex.specs.declared.token.Bad.{Bad}
use Rattle.pl_lex.specs.declared.token.Piece.{Piece}
use Rattle.pl_lex.specs.Lexemes.{Longest, Lexeme, Stand, with_token, tokens_of, first_bad, Lexemes, is_semicolon, all_skipped, before_semicolon, command_end, outcome_by, piece_of, IsNext, StandIn, IsPlaced}
use Rattle.pl_lex.proofs.Tools.{cond_then, cond_else}
use Rattle.pl_lex.proofs.Whole.{some_front}

-- tokens that stand behind a place stand behind each one before it
from_before : (text : Text) (from later end : ℕ) (ts : List Token) → from ≤ later → StandIn text later end ts → StandIn text from end ts
from_before text from later end [] h s = omega arith
from_before text from later end (t ∷ ts) h (begins, some, spelled, more) = (omega arith, some, spelled, more)

-- what Stand says of a text from a place on
pub record At (text : Text) (at : ℕ) (t : Text) : Type 0 where
  pub within : at ≤ length text
  pub rest : drop at text ≡ t

at_rest : (text front rest : Text) (at : ℕ) → At text at (front ++ rest) → At text (at + length front) rest
at_rest text front rest at a = record {
  within = omega (arith, a.within, length-drop at text, ap (λ (t : Text). length t) a.rest, length-append front rest);
  rest = sym (drop-drop (length front) at text) ∙ ap (λ (t : Text). drop (length front) t) a.rest ∙ drop-append_seam front rest;
}

-- one lexeme's token before the others
one_more : (text front rest : Text) (what : LexemeKind) (start end last : ℕ) (ts : List Token) → drop start text ≡ front ++ rest → end ≡ start + length front → Longest what front rest → StandIn text end last ts → StandIn text start last (with_token what start end ts)
one_more text front rest (what.Read k) start end last ts is e l more =
    let some : start < end = omega (arith, some_front l.stands) in
    (omega arith, some, record { front = front; rest = rest; is = is; ends = e; read = l }, more)
one_more text front rest what.Skipped start end last ts is e l more = from_before text start end last ts (omega arith) more
one_more text front rest (what.Bad s) start end last ts is e l more = from_before text start end last ts (omega arith) more

pub record Found (text : Text) (x : Lexeme) (xs : List Lexeme) : Type 0 where
  pub front : Text
  pub rest : Text
  pub is : drop x.start text ≡ front ++ rest
  pub ends : x.end ≡ x.start + length front
  pub read : Longest x.what front rest
  pub after : At text x.end rest
  pub goes_on : Stand x.end xs rest

head_of : (text : Text) (x : Lexeme) (xs : List Lexeme) (at : ℕ) (t : Text) → At text at t → Stand at (x ∷ xs) t → Found text x xs
head_of text x xs at t a (front, rest, is, start, end, l, more) =
    let here : At text at (front ++ rest) = record { within = a.within; rest = a.rest ∙ is } in
    record {
      front = front;
      rest = rest;
      is = ap (λ (k : ℕ). drop k text) start ∙ here.rest;
      ends = omega (arith, start, end);
      read = l;
      after = subst (λ (k : ℕ). At text k rest) (sym end) (at_rest text front rest at here);
      goes_on = more;
    }

-- the tokens of a whole text
pub all_stand_in : (text : Text) (all : List Lexeme) (at : ℕ) (t : Text) → At text at t → Stand at all t → StandIn text at (length text) (tokens_of all)
all_stand_in text [] at t a s = a.within
all_stand_in text (x ∷ xs) at t a s =
    let f = head_of text x xs at t a s in
    let here : StandIn text x.start (length text) (with_token x.what x.start x.end (tokens_of xs)) = one_more text f.front f.rest x.what x.start x.end (length text) (tokens_of xs) f.is f.ends f.read (all_stand_in text xs x.end f.rest f.after f.goes_on) in
    subst (λ (k : ℕ). StandIn text k (length text) (tokens_of (x ∷ xs))) (start_of s) here
  where
    start_of : Stand at (x ∷ xs) t → x.start ≡ at
    start_of (front, rest, is, start, end, l, more) = start

-- ---- the tokens of a command

pub record Command (text : Text) (all : List Lexeme) (at : ℕ) : Type 0 where
  pub tokens : StandIn text at (command_end (length text) all) (tokens_of (before_semicolon all))
  pub begins : at ≤ command_end (length text) all
  pub ends : command_end (length text) all ≤ length text

by_semicolon : (text : Text) (x : Lexeme) (xs : List Lexeme) (at : ℕ) (c : Bool) → is_semicolon x.what ≡ c → x.start ≡ at → at ≤ length text → Found text x xs → Command text xs x.end → Command text (x ∷ xs) at
by_semicolon text x xs at true e start within f more =
    let n : command_end (length text) (x ∷ xs) ≡ at = cond_then (is_semicolon x.what) _ _ e ∙ start in
    let none : before_semicolon (x ∷ xs) ≡ [] = cond_then (is_semicolon x.what) _ _ e in
    let here : StandIn text at at [] = omega arith in
    record {
      tokens = subst (λ (ys : List Lexeme). StandIn text at (command_end (length text) (x ∷ xs)) (tokens_of ys)) (sym none) (subst (λ (k : ℕ). StandIn text at k []) (sym n) here);
      begins = omega (arith, n);
      ends = omega (arith, n);
    }
by_semicolon text x xs at false e start within f more =
    let n : command_end (length text) (x ∷ xs) ≡ command_end (length text) xs = cond_else (is_semicolon x.what) _ _ e in
    let ys : before_semicolon (x ∷ xs) ≡ x ∷ before_semicolon xs = cond_else (is_semicolon x.what) _ _ e in
    let here : StandIn text x.start (command_end (length text) xs) (tokens_of (x ∷ before_semicolon xs)) = one_more text f.front f.rest x.what x.start x.end (command_end (length text) xs) (tokens_of (before_semicolon xs)) f.is f.ends f.read more.tokens in
    record {
      tokens = subst (λ (zs : List Lexeme). StandIn text at (command_end (length text) (x ∷ xs)) (tokens_of zs)) (sym ys) (subst (λ (k : ℕ). StandIn text at k (tokens_of (x ∷ before_semicolon xs))) (sym n) (subst (λ (k : ℕ). StandIn text k (command_end (length text) xs) (tokens_of (x ∷ before_semicolon xs))) start here));
      begins = omega (arith, n, start, f.ends, more.begins);
      ends = omega (arith, n, more.ends);
    }

command_of : (text : Text) (all : List Lexeme) (at : ℕ) (t : Text) → At text at t → Stand at all t → Command text all at
command_of text [] at t a s = record { tokens = a.within; begins = a.within; ends = omega arith }
command_of text (x ∷ xs) at t a s = by_semicolon text x xs at (is_semicolon x.what) refl (start_of s) a.within (head_of text x xs at t a s) (command_of text xs x.end (head_of text x xs at t a s).rest (head_of text x xs at t a s).after (head_of text x xs at t a s).goes_on)
  where
    start_of : Stand at (x ∷ xs) t → x.start ≡ at
    start_of (front, rest, is, start, end, l, more) = start

placed_by : (text : Text) (from end : ℕ) (bad : Option Bad) (ts : List Token) → StandIn text from end ts → IfOk (outcome_by bad ts) (λ tokens. StandIn text from end tokens)
placed_by text from end None ts s = s
placed_by text from end (Some b) ts s = tt

placed_piece : (text : Text) (all : List Lexeme) (from : ℕ) → Command text all from → IsPlaced text from (piece_of (before_semicolon all) from (command_end (length text) all))
placed_piece text all from c = record { start = refl; begins = c.begins; ends = c.ends; tokens = placed_by text from (command_end (length text) all) (first_bad (before_semicolon all)) (tokens_of (before_semicolon all)) c.tokens }

by_blank : (text : Text) (all : List Lexeme) (from : ℕ) (c : Bool) → all_skipped all ≡ c → Command text all from → IfSome (cond c None (Some (piece_of (before_semicolon all) from (command_end (length text) all)))) (λ p. IsPlaced text from p)
by_blank text all from true e c = tt
by_blank text all from false e c = placed_piece text all from c

pub next_placed : (text : Text) (from : ℕ) (next : Option Piece) → from ≤ length text → IsNext text from next → IfSome next (λ p. IsPlaced text from p)
next_placed text from next within (all, s, is) =
    subst (λ (o : Option Piece). IfSome o (λ p. IsPlaced text from p)) is (by_blank text all from (all_skipped all) refl (command_of text all from (drop from text) (record { within = within; rest = refl }) s))

pub lexemes_placed : (text : Text) (tokens : List Token) → Lexemes tokens text → StandIn text 0 (length text) tokens
lexemes_placed text tokens (all, s, good, is) = subst (λ (ts : List Token). StandIn text 0 (length text) ts) is (all_stand_in text all 0 text (record { within = omega arith; rest = refl }) s)
