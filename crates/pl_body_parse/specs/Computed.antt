-- The body that tokens spell, computed: `one_body` proves that it is the one that `SpellsBody`
-- gives.
use Rattle.std.specs.Prelude.{ℕ, zero, suc, ◌+◌, ◌-◌, Bool, true, false, List, [], ◌∷◌, ◌++◌}
use Rattle.std.specs.Prelude.{length, take, drop, Option, Some, None}
use Rattle.pl_lex.specs.Characters.{Text}
use Rattle.pl_lex.specs.Slices.{slice_of}
use Rattle.pl_lex.specs.declared.token.Token.{Token}
use Rattle.pl_tree.specs.declared.command.Command.TheVariants.{Define}
use Rattle.pl_tree.specs.declared.command.Definition.{Definition}
use Rattle.pl_bodies.specs.declared.declaration.Declaration.{Declaration}
use Rattle.pl_bodies.specs.declared.simple.Simple.TheVariants.{Command}
use Rattle.pl_bodies.specs.declared.statement.Body.{Body}
use Rattle.pl_body_items.specs.Steps.{start, step, in_case, body_in}
use Rattle.pl_body_items.specs.declared.items.Item.{Item}
use Rattle.pl_body_items.specs.declared.items.Item.TheVariants as i
use Rattle.pl_body_items.specs.declared.items.Word.TheVariants as word
use Rattle.pl_body_items.specs.declared.items.Word.{Word}
use Rattle.pl_body_items.specs.declared.items.Spot.{Spot}
use Rattle.pl_body_items.specs.declared.making.Making.{Making}
use Rattle.pl_grammar.specs.Marks.{kinds}
use Rattle.pl_grammar.specs.Parser.{Outcome, Parser}
use Rattle.pl_body_grammar.specs.Grammar.{BlockPiece, CasePiece, DeclarationPiece}
use Rattle.pl_body_grammar.specs.FirstFollow.{reads_part}
use Rattle.pl_body_grammar.specs.declared.parts.Piece.{Piece}
use Rattle.pl_body_grammar.specs.declared.parts.Piece.TheVariants as piece
use Rattle.pl_body_parse.specs.Spells.{Name, bare_end, item_of, line_of, next, spot_of}

-- what is read, and how many tokens it takes
abbrev pub Taken : Type 0 → Type 0
Taken A = Option (A × ℕ)

abbrev pub counted : {A : Type 0} → ℕ → Outcome A → Taken A
counted before None = None
counted before (Some (x, rest)) = Some (x, before - length rest)

-- ---- pieces

-- where an arm of CASE may come, and where a handler may
unfoldable pub reads_piece : Bool → Parser Piece
reads_piece true = reads_part CasePiece
reads_piece false = reads_part BlockPiece

unfoldable pub piece_at : Bool → List Token → Taken Piece
piece_at in_case ts = counted (length ts) (reads_piece in_case (kinds ts))

unfoldable pub declared_at : List Token → Taken Piece
declared_at ts = counted (length ts) (reads_part DeclarationPiece (kinds ts))

-- ---- items

-- behind so many tokens
abbrev pub behind : ℕ → Taken Item → Taken Item
behind before None = None
behind before (Some (x, more)) = Some (x, before + more)

abbrev pub taking : ℕ → Option Item → Taken Item
taking more None = None
taking more (Some y) = Some (y, more)

abbrev pub plain : Spot → Option Name → Piece → ℕ → Taken Item
plain spot None x more = taking more (item_of spot x)
plain spot (Some label) x more = None

-- the words that a piece is, and the item that another piece is
abbrev pub word_of : Piece → Option Word
word_of piece.Else = Some word.Else
word_of piece.EndIf = Some word.EndIf
word_of piece.EndCase = Some word.EndCase
word_of (piece.EndLoop label) = Some (word.EndLoop label)
word_of (piece.End label) = Some (word.End label)
word_of _ = None

abbrev pub tree_item : Spot → Piece → Option Item
tree_item spot (piece.Exception conditions) = Some (i.Exception conditions)
tree_item spot (piece.Handler conditions) = Some (i.Handler conditions)
tree_item spot (piece.If e) = Some (i.If spot e)
tree_item spot (piece.Elsif e) = Some (i.Elsif e)
tree_item spot (piece.Case x vs) = Some (i.Case spot x vs)
tree_item spot (piece.Arm vs) = Some (i.Arm vs)
tree_item spot (piece.Simple x) = Some (i.Simple spot x)
tree_item spot _ = None

abbrev pub is_begin : Piece → Bool
is_begin piece.Begin = true
is_begin _ = false

abbrev pub declaration_of : ℕ → Piece → Option Declaration
declaration_of line (piece.Declaration name kind) =
    Some (record { line = line; name = name; kind = kind })
declaration_of line _ = None

-- behind DECLARE and these declarations
module _ (text : Text) (n : ℕ) (label : Option Name) where
  abbrev pub declared : (List Declaration → List Token → Taken Item) → List Declaration
      → List Token → Taken Piece → Taken Item
  declared then_on ds ts (Some (piece.Begin, more)) =
      Some (i.Block (spot_of text n ts) label ds, more)
  declared then_on ds ts (Some (piece.Declaration name kind, more)) =
      behind more (then_on (ds ++ record { line = line_of text ts; name = name; kind = kind } ∷ [])
      (drop more ts))
  declared then_on ds ts _ = None

  unfoldable pub declaring : ℕ → List Declaration → List Token → Taken Item
  declaring zero ds ts = None
  declaring (suc k) ds ts = declared (declaring k) ds ts (declared_at ts)

-- behind a label or none: the tokens begin with this piece, which takes so many
abbrev pub blocked : Text → ℕ → Option Name → Piece → ℕ → List Token → Taken Item
blocked text n label piece.Begin more ts = Some (i.Block (spot_of text n ts) label [], more)
blocked text n label piece.Declare more ts =
    behind more (declaring text n label (length (drop more ts)) [] (drop more ts))
blocked text n label x more ts = plain (spot_of text n ts) label x more

unfoldable pub headed : Text → ℕ → Option Name → Piece → ℕ → List Token → Taken Item
headed text n label (piece.Loop head) more ts = Some (i.Loop (spot_of text n ts) label head, more)
headed text n label x more ts = blocked text n label x more ts

abbrev pub after_label : Text → ℕ → Name → List Token → Taken Piece → Taken Item
after_label text n label ts None = None
after_label text n label ts (Some (x, more)) = headed text n (Some label) x more ts

abbrev pub labelled : Text → ℕ → Name → List Token → Taken Item
labelled text n label ts = after_label text n label ts (piece_at false ts)

-- a definition with its text, without the `;`
abbrev pub define : Text → ℕ → Definition → ℕ → List Token → Taken Item
define text n x more ts = Some
    (i.Simple (spot_of text n ts) (Command (Define x (slice_of text (take (more - 1) ts)))), more)

abbrev pub unlabelled : Text → ℕ → Piece → ℕ → List Token → Taken Item
unlabelled text n (piece.Definition x) more ts = define text n x more ts
unlabelled text n x more ts = headed text n None x more ts

abbrev pub itemed : Text → ℕ → List Token → Taken Piece → Taken Item
itemed text n ts None = None
itemed text n ts (Some (piece.Label label, more)) =
    behind more (labelled text n label (drop more ts))
itemed text n ts (Some (x, more)) = unlabelled text n x more ts

abbrev pub or_item : Option (Option Name) → ℕ → Taken Item → Taken Item
or_item None all other = other
or_item (Some label) all other = Some (i.Word (word.End label), all)

unfoldable pub item_at : Text → Bool → ℕ → List Token → Taken Item
item_at text in_case n ts =
    or_item (bare_end (kinds ts)) (length ts) (itemed text n ts (piece_at in_case ts))

-- ---- bodies

abbrev pub made_with : (Making → Option Making) → Option Making → Option Making
made_with more None = None
made_with more (Some m) = more m

module _ (text : Text) where
  abbrev pub taken : (Making → ℕ → List Token → Option Making) → Making → ℕ → List Token
      → Taken Item → Option Making
  taken then_on m n ts None = None
  taken then_on m n ts (Some (x, more)) =
      made_with (λ m. then_on m (next x n) (drop more ts)) (step m x)

  -- with at most so many items more
  unfoldable pub read_from : ℕ → Making → ℕ → List Token → Option Making
  read_from k m n [] = Some m
  read_from zero m n (t ∷ ts) = None
  read_from (suc k) m n (t ∷ ts) =
      taken (read_from k) m n (t ∷ ts) (item_at text (in_case m.inner.section) n (t ∷ ts))

unfoldable pub body_of_tokens : Text → List Token → Option Body
body_of_tokens text ts = body_in (read_from text (length ts) start 0 ts)
