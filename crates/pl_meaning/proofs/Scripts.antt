-- A script has exactly one list of readings.
use Rattle.std.proofs.Common.{◌≡◌, List, [], ◌∷◌, length, refl, sym, ◌∙◌, ap, subst}
use Rattle.std.specs.Prelude.{◌↔◌}
use Rattle.pl_lex.specs.Characters.{Text}
use Rattle.pl_lex.specs.Lexemes.{Lexeme, pieces_from}
use Rattle.pl_lex.specs.declared.token.Piece.{Piece}
use Rattle.pl_lex.specs.Computed.{lexemes}
use Rattle.pl_lex.proofs.Lent.{all_stand, unique}
use Rattle.pl_change.specs.pl_reading.declared.reading.Reading.{Reading}
use Rattle.pl_change.proofs.of_pl_reading.Readings.{outcome_only, outcome_read}
use Rattle.pl_change.specs.pl_reading.Computed.{pieces_in, readings_of, script_readings}
use Rattle.pl_meaning.specs.Meaning.{AreRead, Readings}

are_read : (text : Text) (pieces : List Piece) → AreRead text pieces (readings_of text pieces)
are_read text [] = tt
are_read text (piece ∷ pieces) = (outcome_read text piece.tokens, are_read text pieces)

read_only : (text : Text) (pieces : List Piece) (readings : List Reading) → AreRead text pieces readings → readings ≡ readings_of text pieces
read_only text [] [] read = refl
read_only text [] (r ∷ rs) read = absurd read
read_only text (piece ∷ pieces) [] read = absurd read
read_only text (piece ∷ pieces) (r ∷ rs) read = λ i. outcome_only text piece.tokens r read.0 i ∷ read_only text pieces rs read.1 i

pub readings_some : (text : Text) → Readings text (script_readings text)
unfolding script_readings
readings_some text = (pieces_in text, (lexemes 0 text, all_stand 0 text, refl), are_read text (pieces_in text))

pub readings_only : (text : Text) (readings : List Reading) → Readings text readings → readings ≡ script_readings text
unfolding script_readings
readings_only text readings (pieces, (all, stand, cut), read) =
    let same : pieces ≡ pieces_in text = sym cut ∙ ap (λ (xs : List Lexeme). pieces_from (length text) 0 [] xs) (unique all 0 text stand) in
    read_only text pieces readings read ∙ ap (λ (ps : List Piece). readings_of text ps) same

pub one_list : (text : Text) (readings : List Reading) → Readings text readings ↔ (readings ≡ script_readings text)
one_list text readings = (readings_only text readings, λ is. subst (λ (rs : List Reading). Readings text rs) (sym is) (readings_some text))
