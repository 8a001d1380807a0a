-- Which tokens of a text spell a body: PostgreSQL manual, "PL/pgSQL", "Structure of PL/pgSQL".
use Rattle.std.specs.Prelude.{◌≡◌, ◌==◌, ℕ, suc, List, [], ◌∷◌, ◌++◌, count_by, take, Option, Some}
use Rattle.std.specs.Prelude.{None, Result, Ok, Err}
use Rattle.pl_lex.specs.Characters.{Text}
use Rattle.pl_lex.specs.Slices.{slice_of}
use Rattle.pl_lex.specs.declared.keyword.Keyword.TheVariants as w
use Rattle.pl_lex.specs.declared.token.Token.{Token}
use Rattle.pl_lex.specs.declared.token.TokenKind.TheVariants as kind
use Rattle.pl_tree.specs.declared.command.Command.TheVariants.{Define}
use Rattle.pl_tree.specs.declared.command.Definition.{Definition}
use Rattle.pl_tree.specs.declared.tree.Expr.{Expr}
use Rattle.pl_bodies.specs.declared.declaration.Declaration.{Declaration}
use Rattle.pl_bodies.specs.declared.declaration.DeclarationKind.{DeclarationKind}
use Rattle.pl_bodies.specs.declared.simple.Simple.TheVariants.{Command}
use Rattle.pl_bodies.specs.declared.statement.Body.{Body}
use Rattle.pl_bodies.specs.declared.statement.LoopHead.{LoopHead}
use Rattle.pl_body_items.specs.Items.{Said, item, body_said}
use Rattle.pl_body_items.specs.declared.items.Item.{Item}
use Rattle.pl_body_items.specs.declared.items.Item.TheVariants as i
use Rattle.pl_body_items.specs.declared.items.Word.TheVariants as word
use Rattle.pl_body_items.specs.declared.items.Spot.{Spot}
use Rattle.pl_grammar.specs.Deep.{Deep, IsShallow}
use Rattle.pl_grammar.specs.Marks.{Tokens, kinds}
use Rattle.pl_grammar.specs.Rule.{SpelledBy}
use Rattle.pl_grammar.specs.declared.fail.ParseFail.{ParseFail}
use Rattle.pl_grammar.specs.declared.fail.ParseFail.TheVariants as fail
use Rattle.pl_body_grammar.specs.Grammar.{Part, Tree, BlockPiece, CasePiece, DeclarationPiece, rule}
use Rattle.pl_body_grammar.specs.declared.parts.Piece.{Piece}
use Rattle.pl_body_grammar.specs.declared.parts.Piece.TheVariants as piece

-- ---- where items stand

-- the line of a place: one more than the newlines before it
abbrev pub line_at : Text → ℕ → ℕ
line_at text at = suc (count_by (λ byte. byte == 10) (take at text))

-- the line on which tokens begin
abbrev pub line_of : Text → List Token → ℕ
line_of text [] = 1
line_of text (t ∷ ts) = line_at text t.start

abbrev pub spot_of : Text → ℕ → List Token → Spot
spot_of text n ts = record { line = line_of text ts; ordinal = n }

-- the number of the next statement, behind an item
abbrev pub next : Item → ℕ → ℕ
next (i.Simple spot x) n = suc n
next (i.Block spot label ds) n = suc n
next (i.If spot e) n = suc n
next (i.Case spot x vs) n = suc n
next (i.Loop spot label head) n = suc n
next _ n = n

-- ---- items

abbrev pub Name : Type 0
Name = List ℕ

-- the item that a piece is by itself
abbrev pub item_of : Spot → Piece → Option Item
item_of spot (piece.Exception conditions) = Some (i.Exception conditions)
item_of spot (piece.Handler conditions) = Some (i.Handler conditions)
item_of spot (piece.End label) = Some (i.Word (word.End label))
item_of spot (piece.If e) = Some (i.If spot e)
item_of spot (piece.Elsif e) = Some (i.Elsif e)
item_of spot piece.Else = Some (i.Word word.Else)
item_of spot piece.EndIf = Some (i.Word word.EndIf)
item_of spot (piece.Case x vs) = Some (i.Case spot x vs)
item_of spot (piece.Arm vs) = Some (i.Arm vs)
item_of spot piece.EndCase = Some (i.Word word.EndCase)
item_of spot (piece.EndLoop label) = Some (i.Word (word.EndLoop label))
item_of spot (piece.Simple x) = Some (i.Simple spot x)
item_of spot _ = None

-- the tokens are this piece: one of a block, of CASE or of declarations
abbrev pub Is : (p : Part) → Tree p → List Token → Type 0
Is p x ts = SpelledBy rule p x (kinds ts)

-- [<<label>>]
pub data Labelled : Option Name → List Token → Type 0 where
  unlabelled : Labelled None []
  labelled : {label : Name} {ts : List Token} → Is BlockPiece (piece.Label label) ts
      → Labelled (Some label) ts

-- {declaration} BEGIN
pub data Declares (text : Text) (n : ℕ) : List Declaration → Spot → List Token → Type 0 where
  begins : {ts : List Token} → Is DeclarationPiece piece.Begin ts
      → Declares text n [] (spot_of text n ts) ts
  declares : {name : Name} {kind : DeclarationKind} {ds : List Declaration} {spot : Spot}
      (xs : List Token) {ys : List Token}
      → Is DeclarationPiece (piece.Declaration name kind) xs → Declares text n ds spot ys
      → Declares text n (record { line = line_of text xs; name = name; kind = kind } ∷ ds) spot
      (xs ++ ys)

-- the tokens are the item, and the statement that begins with it, if one does, has this number
pub data Stands (text : Text) (n : ℕ) : Item → List Token → Type 0 where
  alone : {x : Piece} {y : Item} {ts : List Token} → Is BlockPiece x ts
      → item_of (spot_of text n ts) x ≡ Some y → Stands text n y ts
  -- WHEN begins an arm where it doesn't begin a handler
  arm : {vs : List Expr} {ts : List Token} → Is CasePiece (piece.Arm vs) ts
      → Stands text n (i.Arm vs) ts
  -- a definition has its text too, without the `;`
  definition : {x : Definition} (ts : List Token) (t : Token)
      → Is BlockPiece (piece.Definition x) (ts ++ t ∷ [])
      → Stands text n (i.Simple (spot_of text n (ts ++ t ∷ []))
      (Command (Define x (slice_of text ts)))) (ts ++ t ∷ [])
  block : {label : Option Name} {xs : List Token} (ys : List Token) → Labelled label xs
      → Is BlockPiece piece.Begin ys
      → Stands text n (i.Block (spot_of text n ys) label []) (xs ++ ys)
  -- with DECLARE
  declaring : {label : Option Name} {ds : List Declaration} {spot : Spot} {xs zs : List Token}
      (ys : List Token) → Labelled label xs → Is BlockPiece piece.Declare ys
      → Declares text n ds spot zs → Stands text n (i.Block spot label ds) (xs ++ ys ++ zs)
  turns : {label : Option Name} {head : LoopHead} {xs : List Token} (ys : List Token)
      → Labelled label xs → Is BlockPiece (piece.Loop head) ys
      → Stands text n (i.Loop (spot_of text n ys) label head) (xs ++ ys)

-- ---- bodies

-- END [name], without `;`
abbrev pub bare_end : Tokens → Option (Option Name)
bare_end (kind.Keyword w.End ∷ []) = Some None
bare_end (kind.Keyword w.End ∷ kind.Word name ∷ []) = Some (Some name)
bare_end (kind.Keyword w.End ∷ kind.Quoted name ∷ []) = Some (Some name)
bare_end _ = None

-- the tokens are the items one behind the other, the statements numbered from here on
pub data Row (text : Text) : ℕ → List Said → List Token → Type 0 where
  no_item : {n : ℕ} → Row text n [] []
  one_more : {n : ℕ} {x : Item} {xs : List Said} {front rest : List Token}
      → Stands text n x front → Row text (next x n) xs rest
      → Row text n (item x ∷ xs) (front ++ rest)
  -- the last `;` may be left out
  bare : {n : ℕ} {label : Option Name} {ts : List Token} → bare_end (kinds ts) ≡ Some label
      → Row text n (item (i.Word (word.End label)) ∷ []) ts

-- the tokens spell the body
abbrev pub SpellsBody : Text → Body → List Token → Type 0
SpellsBody text body ts = Row text 0 (body_said body) ts

abbrev pub NoneSpells : Text → List Token → Type 0
NoneSpells text ts = (body : Body) → SpellsBody text body ts → ⊥

-- TooDeep comes exactly where the tokens are deep, Syntax exactly where they aren't and spell no
-- body, NotSupported never
abbrev pub Answers : Text → Result Body ParseFail → List Token → Type 0
Answers text (Ok body) ts = IsShallow (kinds ts)
Answers text (Err fail.Syntax) ts = IsShallow (kinds ts) × NoneSpells text ts
Answers text (Err (fail.TooDeep at)) ts = Deep (kinds ts) at
Answers text (Err fail.NotSupported) ts = ⊥
Answers text (Err fail.Memory) ts = Unit {0}
