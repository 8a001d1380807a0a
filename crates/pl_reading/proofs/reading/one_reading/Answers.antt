use Rattle.std.proofs.Common.{◌≡◌, sym, subst}
use Rattle.std.specs.Prelude.{◌↔◌}
use Rattle.pl_lex.specs.Characters.{Text}
use Rattle.pl_lex.specs.declared.token.Piece.{Piece}
use Rattle.pl_reading.specs.Computed.{piece_reading}
use Rattle.pl_reading.specs.Reading.{IsPieceRead}
use Rattle.pl_reading.specs.declared.reading.Reading.{Reading}
use Rattle.pl_reading.proofs.Readings.{outcome_only, outcome_read}
use Rattle.pl_reading.proofs.reading.one_reading.Goals as goal

law : (text : Text) (piece : Piece) (reading : Reading) → IsPieceRead text piece reading ↔ (reading ≡ piece_reading text piece)
law text piece reading = (outcome_only text piece.tokens reading, λ is. subst (λ (r : Reading). IsPieceRead text piece r) (sym is) (outcome_read text piece.tokens))

pub returns : goal.returns
returns c = record { is = law }
