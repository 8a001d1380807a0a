-- The item of a piece, by whether it is of words alone.
use Rattle.std.proofs.Common.{◌≡◌, ◌≤◌, ◌+◌, ℕ, refl, ap, sym, List, Option, Some, None, Result, Ok, Err, arith}
use Rattle.std.specs.Prelude.{IfOk}
use Rattle.pl_lex.specs.Characters.{Text}
use Rattle.pl_lex.specs.declared.token.Token.{Token}
use Rattle.pl_grammar.specs.Parser.{Makes}
use Rattle.pl_grammar.specs.declared.fail.Fail.{Fail}
use Rattle.pl_body_items.specs.declared.items.Item.{Item}
use Rattle.pl_body_items.specs.declared.items.Item.TheVariants as i
use Rattle.pl_body_items.specs.declared.items.Spot.{Spot}
use Rattle.pl_body_items.specs.declared.items.Word.{Word}
use Rattle.pl_body_grammar.specs.declared.parts.Piece.{Piece}
use Rattle.pl_body_grammar.specs.declared.parts.Piece.TheVariants as piece
use Rattle.pl_body_parse.specs.Computed.{word_of, tree_item, blocked, plain, taking}
use Rattle.pl_body_parse.specs.Spells.{Name, item_of, spot_of}
use Rattle.pl_body_parse.proofs.Found.{pair_is}

abbrev as_item : Option Word → Option Item
as_item None = None
as_item (Some w) = Some (i.Word w)

pub word_item : (spot : Spot) (x : Piece) (w : Word) → word_of x ≡ Some w → item_of spot x ≡ Some (i.Word w)
word_item spot piece.Else w h = ap as_item h
word_item spot piece.EndIf w h = ap as_item h
word_item spot piece.EndCase w h = ap as_item h
word_item spot (piece.EndLoop label) w h = ap as_item h
word_item spot (piece.End label) w h = ap as_item h
word_item spot _ w h = absurd (cc)

pub other_item : (spot : Spot) (x : Piece) → word_of x ≡ None → item_of spot x ≡ tree_item spot x
other_item spot piece.Else h = absurd (cc)
other_item spot piece.EndIf h = absurd (cc)
other_item spot piece.EndCase h = absurd (cc)
other_item spot (piece.EndLoop label) h = absurd (cc)
other_item spot (piece.End label) h = absurd (cc)
other_item spot _ h = refl

-- ---- pieces that head no block

pub blocked_rest : (text : Text) (n : ℕ) (label : Option Name) (x : Piece) (more : ℕ) (ts : List Token) (spot : Spot) → spot ≡ spot_of text n ts → (x ≡ piece.Begin → ⊥) → (x ≡ piece.Declare → ⊥) → blocked text n label x more ts ≡ plain spot label x more
blocked_rest text n label piece.Begin more ts spot is a b = absurd (a refl)
blocked_rest text n label piece.Declare more ts spot is a b = absurd (b refl)
blocked_rest text n label x more ts spot is a b = ap (λ (spot : Spot). plain spot label x more) (sym is)

taking_count : (more : ℕ) (o : Option Item) (y : Item) (own : ℕ) → taking more o ≡ Some (y, own) → more ≡ own
taking_count more None y own h = absurd (cc)
taking_count more (Some z) y own h = (pair_is z y more own h).1

plain_count : (spot : Spot) (label : Option Name) (x : Piece) (more : ℕ) (y : Item) (own : ℕ) → plain spot label x more ≡ Some (y, own) → more ≡ own
plain_count spot None x more y own h = taking_count more (item_of spot x) y own h
plain_count spot (Some label) x more y own h = absurd (cc)

pub plain_within : (spot : Spot) (label : Option Name) (x : Piece) (more at all : ℕ) (r : Result (Item × ℕ) Fail) → Makes (plain spot label x more) r → at + more ≤ all → IfOk r (λ p. at + p.1 ≤ all)
plain_within spot label x more at all (Ok (y, own)) h low = let same = plain_count spot label x more y own h in omega (arith, same, low)
plain_within spot label x more at all (Err e) h low = tt
