-- The pieces of a script, one after the other.
use Rattle.std.proofs.Common.{◌≡◌, ◌≤◌, ◌<◌, ℕ, zero, suc, ◌+◌, List, [], ◌∷◌, length, drop, min, Option, Some, None, refl, sym, ◌∙◌, ap, subst, arith}
use Rattle.pl_lex.specs.Characters.{Text}
use Rattle.pl_lex.specs.Lexemes.{Lexeme, IsNext, Cuts, next_command}
use Rattle.pl_lex.specs.declared.token.Piece.{Piece}
use Rattle.pl_lex.specs.Computed.{lexemes}
use Rattle.pl_lex.proofs.Lent.{lexemes_nil, all_stand, unique, commands_are_cut}
use Rattle.pl_reading.specs.Reading.{IsPieceRead}
use Rattle.pl_reading.specs.declared.reading.Reading.{Reading}
use Rattle.pl_exec.proofs.of_pl_world.Lent.{outcome_only}
use Rattle.pl_reading.specs.Computed.{piece_reading, pieces_in, readings_of, script_readings}
use Rattle.pl_session.specs.Scripts.{Left, IsNextReading}
use Rattle.pl_session.specs.declared.script.Next.{Next}

-- at the start all readings are left
pub all_left : (text : Text) → Left text 0 (script_readings text)
unfolding script_readings
all_left text = (pieces_in text, commands_are_cut text (pieces_in text) (lexemes 0 text, all_stand 0 text, refl), refl)

next_is : (text : Text) (at : ℕ) (next : Option Piece) → IsNext text at next → next_command at (length text) (lexemes at (drop at text)) ≡ next
next_is text at next (all, stand, is) = ap (λ (xs : List Lexeme). next_command at (length text) xs) (sym (unique all at (drop at text) stand)) ∙ is

one_next : (text : Text) (at : ℕ) (a b : Option Piece) → IsNext text at a → IsNext text at b → a ≡ b
one_next text at a b x y = sym (next_is text at a x) ∙ next_is text at b y

-- no piece is left
pub none_left : (text : Text) (at : ℕ) (readings : List Reading) → IsNext text at None → Left text at readings → readings ≡ []
none_left text at readings next ([], cuts, is) = is
none_left text at readings next (p ∷ ps, cuts, is) = let same : None ≡ Some p = one_next text at None (Some p) next cuts.0 in absurd (cc)

-- a piece is left
pub one_left : (text : Text) (at : ℕ) (piece : Piece) (next : Next) → IsNext text at (Some piece) → next.reading ≡ piece_reading text piece → next.after ≡ min (piece.end + 1) (length text)
    → (readings : List Reading) → Left text at readings → IsNextReading text readings (Some next)
one_left text at piece next is_next reading after readings ([], cuts, is) = let same : Some piece ≡ None = one_next text at (Some piece) None is_next cuts in absurd (cc)
one_left text at piece next is_next reading after readings (p ∷ ps, cuts, is) =
    let same : Some piece ≡ Some p = one_next text at (Some piece) (Some p) is_next cuts.0 in
    let here : piece ≡ p = cc in
    let head : piece_reading text p ≡ next.reading = ap (λ (q : Piece). piece_reading text q) (sym here) ∙ sym reading in
    let place : min (p.end + 1) (length text) ≡ next.after = ap (λ (q : Piece). min (q.end + 1) (length text)) (sym here) ∙ sym after in
    (readings_of text ps, is ∙ ap (λ (r : Reading). r ∷ readings_of text ps) head, (ps, subst (λ (k : ℕ). Cuts text k ps) place cuts.1, refl))

-- a piece stands before the end
pub before_end : (text : Text) (at : ℕ) (piece : Piece) → IsNext text at (Some piece) → at < length text
before_end text at piece next = by_rest (drop at text) refl
  where
    clash : (p : Piece) → (let o : Option Piece = None in o ≡ Some p) → ⊥
    clash p h = cc

    nothing : (b : ℕ) (bs : Text) → (let none : Text = [] in none ≡ b ∷ bs) → ⊥
    nothing b bs h = cc

    few : (at : ℕ) (b : ℕ) (bs t : Text) → drop at t ≡ b ∷ bs → at < length t
    few zero b bs [] is = absurd (nothing b bs is)
    few (suc at) b bs [] is = absurd (nothing b bs is)
    few zero b bs (x ∷ t) is = omega arith
    few (suc at) b bs (x ∷ t) is = let more = few at b bs t is in omega (arith, more)

    by_rest : (rest : Text) → drop at text ≡ rest → at < length text
    by_rest [] is =
        let none : next_command at (length text) (lexemes at (drop at text)) ≡ None = ap (λ (t : Text). next_command at (length text) (lexemes at t)) is ∙ ap (λ (xs : List Lexeme). next_command at (length text) xs) (lexemes_nil at) in
        absurd (clash piece (sym none ∙ next_is text at (Some piece) next))
    by_rest (b ∷ bs) is = few at b bs text is

-- and the one behind it is looked for later
pub behind : (text : Text) (at : ℕ) (piece : Piece) (after : ℕ) → at < length text → at ≤ piece.end → after ≡ min (piece.end + 1) (length text) → (at < after) × (after ≤ length text)
behind text at piece after below begins is = (omega (arith, below, begins, is), omega (arith, is))

-- the reading of a piece
pub reading_is : (text : Text) (piece : Piece) (reading : Reading) → IsPieceRead text piece reading → reading ≡ piece_reading text piece
reading_is text piece reading read = outcome_only text piece.tokens reading read
