-- Items at the front of tokens.
use Rattle.std.proofs.Common.{◌≡◌, ◌∙◌, ap, sym, refl, subst, ℕ, zero, suc, ◌+◌, ◌-◌, ◌<◌, ◌≤◌, Bool, true, false, List, [], ◌∷◌, ◌++◌, length, take, drop, Option, Some, None, length-append, append-nil, append_assoc, arith}
use Rattle.pl_lex.specs.Characters.{Text}
use Rattle.pl_lex.specs.Slices.{slice_of}
use Rattle.pl_lex.specs.declared.token.Token.{Token}
use Rattle.pl_tree.specs.declared.command.Command.TheVariants.{Define}
use Rattle.pl_bodies.specs.declared.declaration.Declaration.{Declaration}
use Rattle.pl_bodies.specs.declared.simple.Simple.TheVariants.{Command}
use Rattle.pl_bodies.specs.declared.statement.LoopHead.{LoopHead}
use Rattle.pl_body_items.specs.declared.items.Item.{Item}
use Rattle.pl_body_items.specs.declared.items.Item.TheVariants as i
use Rattle.pl_body_items.specs.declared.items.Spot.{Spot}
use Rattle.pl_body_grammar.specs.Grammar.{BlockPiece, CasePiece, DeclarationPiece}
use Rattle.pl_body_grammar.specs.declared.parts.Piece.{Piece}
use Rattle.pl_body_grammar.specs.declared.parts.Piece.TheVariants as piece
use Rattle.pl_body_parse.specs.Computed.{Taken, piece_at, declared_at, behind, taking, plain, declared, declaring, headed, after_label, labelled, itemed}
use Rattle.pl_body_parse.specs.Spells.{Name, Is, Labelled, unlabelled, Declares, begins, declares, Stands, alone, arm, definition, block, turns, item_of, line_of, spot_of, labelled as has_label, declaring as has_declarations}
use Rattle.pl_body_parse.proofs.Found.{pair_is, drop_front, take_front, some_tokens, not_arm, not_handler, Known, in_block, an_arm, FoundPiece, found_piece, found_declared, finds_in_block, finds_arm, finds_declared}

-- ---- places

-- tokens that are there begin where they begin
pub spot_front : (text : Text) (n : ℕ) (front rest : List Token) → 0 < length front → spot_of text n (front ++ rest) ≡ spot_of text n front
spot_front text n [] rest some = absurd (omega (arith, some))
spot_front text n (t ∷ front) rest some = refl

pub line_front : (text : Text) (front rest : List Token) → 0 < length front → line_of text (front ++ rest) ≡ line_of text front
line_front text [] rest some = absurd (omega (arith, some))
line_front text (t ∷ front) rest some = refl

-- ---- what is taken behind tokens

behind_is : (before : ℕ) (o : Taken Item) (x : Item) (more : ℕ) → behind before o ≡ Some (x, more) → (own : ℕ) × (o ≡ Some (x, own)) × (before + own ≡ more)
behind_is before None x more h = absurd (cc)
behind_is before (Some (y, own)) x more h =
    let same = pair_is y x (before + own) more h in
    (own, ap (λ (y : Item). let o : Taken Item = Some (y, own) in o) same.0, same.1)

-- the tokens at the front that an item takes
pub record Standing (text : Text) (n : ℕ) (x : Item) (ts : List Token) (more : ℕ) : Type 0 where
  pub front : List Token
  pub rest : List Token
  pub is : ts ≡ front ++ rest
  pub stands : Stands text n x front
  pub count : length front ≡ more
  pub some : 0 < more

-- behind a piece that was found there is what is left
pub rest_is : (ts front rest : List Token) (more : ℕ) → ts ≡ front ++ rest → length front ≡ more → drop more ts ≡ rest
rest_is ts front rest more is count = ap (λ (n : ℕ). drop n ts) (sym count) ∙ ap (drop (length front)) is ∙ drop_front front rest

-- ---- declarations

module _ (text : Text) (n : ℕ) (label : Option Name) where
  pub record Declaring (ds : List Declaration) (x : Item) (ts : List Token) (more : ℕ) : Type 0 where
    pub new : List Declaration
    pub spot : Spot
    pub front : List Token
    pub rest : List Token
    pub item : x ≡ i.Block spot label (ds ++ new)
    pub is : ts ≡ front ++ rest
    pub spells : Declares text n new spot front
    pub count : length front ≡ more

  pub found_declaring : (k : ℕ) (ds : List Declaration) (ts : List Token) (x : Item) (more : ℕ) → declaring text n label k ds ts ≡ Some (x, more) → Declaring ds x ts more
  unfolding declaring
  found_declaring zero ds ts x more h = absurd (cc)
  found_declaring (suc k) ds ts x more h = by_piece (declared_at ts) refl h (λ ds us own e. found_declaring k ds us x own e)
    where
      by_piece : (o : Taken Piece) → declared_at ts ≡ o → declared text n label (declaring text n label k) ds ts o ≡ Some (x, more)
          → ((ds : List Declaration) (us : List Token) (own : ℕ) → declaring text n label k ds us ≡ Some (x, own) → Declaring ds x us own) → Declaring ds x ts more
      by_piece (Some (piece.Begin, own)) e h on =
          let f = found_declared ts piece.Begin own e in
          let same = pair_is (i.Block (spot_of text n ts) label ds) x own more h in
          record {
            new = [];
            spot = spot_of text n f.front;
            front = f.front;
            rest = f.rest;
            item = sym same.0 ∙ ap (λ (spot : Spot). i.Block spot label ds) (ap (spot_of text n) f.is ∙ spot_front text n f.front f.rest (let s = f.some in omega (arith, s, f.count))) ∙ ap (λ (ds : List Declaration). i.Block (spot_of text n f.front) label ds) (sym (append-nil ds));
            is = f.is;
            spells = begins f.spells;
            count = f.count ∙ same.1;
          }
      by_piece (Some (piece.Declaration name kind, own)) e h on =
          let f = found_declared ts (piece.Declaration name kind) own e in
          let d : Declaration = record { line = line_of text ts; name = name; kind = kind } in
          let d' : Declaration = record { line = line_of text f.front; name = name; kind = kind } in
          let line : d ≡ d' = ap (λ (line : ℕ). let d : Declaration = record { line = line; name = name; kind = kind } in d) (ap (line_of text) f.is ∙ line_front text f.front f.rest (let s = f.some in omega (arith, s, f.count))) in
          let b = behind_is own (declaring text n label k (ds ++ d ∷ []) (drop own ts)) x more h in
          let r = on (ds ++ d ∷ []) (drop own ts) b.0 b.1 in
          let both = length-append f.front r.front in
          record {
            new = d' ∷ r.new;
            spot = r.spot;
            front = f.front ++ r.front;
            rest = r.rest;
            item = r.item ∙ ap (λ (ds : List Declaration). i.Block r.spot label ds) (append_assoc ds (d ∷ []) r.new ∙ ap (λ (d : Declaration). ds ++ d ∷ r.new) line);
            is = f.is ∙ ap (λ (us : List Token). f.front ++ us) (sym (rest_is ts f.front f.rest own f.is f.count) ∙ r.is) ∙ sym (append_assoc f.front r.front r.rest);
            spells = declares f.front f.spells r.spells;
            count = let c = f.count in let d = r.count in let e = b.2 in omega (arith, both, c, d, e);
          }
      by_piece _ e h on = absurd (cc)

  some_declared : (ds : List Declaration) (spot : Spot) (front : List Token) → Declares text n ds spot front → 0 < length front
  some_declared _ _ _ (begins {ts} h) = some_tokens DeclarationPiece refl piece.Begin ts h
  some_declared _ _ _ (declares {name} {kind} {ds} {spot} xs {ys} h d) =
      let some = some_tokens DeclarationPiece refl (piece.Declaration name kind) xs h in
      let both = length-append xs ys in
      omega (arith, some, both)

  pub finds_declaring : (ds : List Declaration) (spot : Spot) (front : List Token) → Declares text n ds spot front → (k : ℕ) (before : List Declaration) (rest : List Token) → length front ≤ k
      → declaring text n label k before (front ++ rest) ≡ Some (i.Block spot label (before ++ ds), length front)
  unfolding declaring
  finds_declaring ds spot front d zero before rest low = absurd (let n = some_declared ds spot front d in omega (arith, n, low))
  finds_declaring _ _ _ (begins {ts = front} h) (suc k) before rest low =
      ap (declared text n label (declaring text n label k) before (front ++ rest)) (finds_declared piece.Begin front rest h)
      ∙ ap (λ (x : Item). let o : Taken Item = Some (x, length front) in o)
      (ap (λ (spot : Spot). i.Block spot label before) (spot_front text n front rest (some_tokens DeclarationPiece refl piece.Begin front h))
      ∙ ap (λ (ds : List Declaration). i.Block (spot_of text n front) label ds) (sym (append-nil before)))
  finds_declaring _ _ _ (declares {name} {kind} {ds} {spot} xs {ys} h d) (suc k) before rest low =
      let x = piece.Declaration name kind in
      let some = some_tokens DeclarationPiece refl x xs h in
      let own : Declaration = record { line = line_of text xs; name = name; kind = kind } in
      let both = length-append xs ys in
      ap (declaring text n label (suc k) before) (append_assoc xs ys rest)
      ∙ ap (declared text n label (declaring text n label k) before (xs ++ (ys ++ rest))) (finds_declared x xs (ys ++ rest) h)
      ∙ ap (λ (line : ℕ). behind (length xs) (declaring text n label k (before ++ record { line = line; name = name; kind = kind } ∷ []) (drop (length xs) (xs ++ (ys ++ rest))))) (line_front text xs (ys ++ rest) some)
      ∙ ap (λ (us : List Token). behind (length xs) (declaring text n label k (before ++ own ∷ []) us)) (drop_front xs (ys ++ rest))
      ∙ ap (behind (length xs)) (finds_declaring ds spot ys d k (before ++ own ∷ []) rest (omega (arith, low, both, some)))
      ∙ ap (λ (ds : List Declaration). let o : Taken Item = Some (i.Block spot label ds, length xs + length ys) in o) (append_assoc before (own ∷ []) ds)
      ∙ ap (λ (n : ℕ). let o : Taken Item = Some (i.Block spot label (before ++ own ∷ ds), n) in o) (sym both)

-- ---- behind a label, or without one

-- the tokens at the front that an item takes, behind these
pub record Behind (text : Text) (n : ℕ) (pre : List Token) (x : Item) (ts : List Token) (more : ℕ) : Type 0 where
  pub front : List Token
  pub rest : List Token
  pub is : ts ≡ front ++ rest
  pub stands : Stands text n x (pre ++ front)
  pub count : length front ≡ more

module _ (text : Text) (n : ℕ) where
  -- an item that is its first piece
  alone_behind : (label : Option Name) (pre : List Token) (l : Labelled label pre) (x : Piece) (ts : List Token) (y : Item) (more all : ℕ) (f : FoundPiece x ts more)
      → plain (spot_of text n ts) label x more ≡ Some (y, all) → Behind text n pre y ts all
  alone_behind _ _ (has_label l) x ts y more all f h = absurd (cc)
  alone_behind _ _ unlabelled x ts y more all f h = by_item (item_of (spot_of text n ts) x) refl h
    where
      spot : spot_of text n ts ≡ spot_of text n f.front
      spot = ap (spot_of text n) f.is ∙ spot_front text n f.front f.rest (let s = f.some in omega (arith, s, f.count))

      known_stands : (x : Piece) (z : Item) (ts : List Token) → Known x ts → item_of (spot_of text n ts) x ≡ Some z → Stands text n z ts
      known_stands x z ts (in_block h) e = alone h e
      known_stands _ z ts (an_arm {vs} h) e = subst (λ (z : Item). Stands text n z ts) (let same : i.Arm vs ≡ z = cc in same) (arm h)

      by_item : (o : Option Item) → item_of (spot_of text n ts) x ≡ o → taking more o ≡ Some (y, all) → Behind text n [] y ts all
      by_item None e h = absurd (cc)
      by_item (Some z) e h =
          let same = pair_is z y more all h in
          record {
            front = f.front;
            rest = f.rest;
            is = f.is;
            stands = subst (λ (z : Item). Stands text n z f.front) same.0 (known_stands x z f.front f.spells (ap (λ (spot : Spot). item_of spot x) (sym spot) ∙ e));
            count = f.count ∙ same.1;
          }

  pub known_block : (x : Piece) (ts : List Token) → Known x ts → not_arm x ≡ true → Is BlockPiece x ts
  known_block x ts (in_block h) e = h
  known_block _ ts (an_arm h) e = absurd (cc)

  pub found_headed : (label : Option Name) (pre : List Token) (l : Labelled label pre) (x : Piece) (ts : List Token) (y : Item) (more all : ℕ) (f : FoundPiece x ts more)
      → headed text n label x more ts ≡ Some (y, all) → Behind text n pre y ts all
  unfolding headed
  found_headed label pre l piece.Begin ts y more all f h =
      let same = pair_is (i.Block (spot_of text n ts) label []) y more all h in
      let spot = ap (spot_of text n) f.is ∙ spot_front text n f.front f.rest (let s = f.some in omega (arith, s, f.count)) in
      record {
        front = f.front;
        rest = f.rest;
        is = f.is;
        stands = subst (λ (z : Item). Stands text n z (pre ++ f.front)) (ap (λ (spot : Spot). i.Block spot label []) (sym spot) ∙ same.0) (block f.front l (known_block piece.Begin f.front f.spells refl));
        count = f.count ∙ same.1;
      }
  found_headed label pre l (piece.Loop head) ts y more all f h =
      let same = pair_is (i.Loop (spot_of text n ts) label head) y more all h in
      let spot = ap (spot_of text n) f.is ∙ spot_front text n f.front f.rest (let s = f.some in omega (arith, s, f.count)) in
      record {
        front = f.front;
        rest = f.rest;
        is = f.is;
        stands = subst (λ (z : Item). Stands text n z (pre ++ f.front)) (ap (λ (spot : Spot). i.Loop spot label head) (sym spot) ∙ same.0) (turns f.front l (known_block (piece.Loop head) f.front f.spells refl));
        count = f.count ∙ same.1;
      }
  found_headed label pre l piece.Declare ts y more all f h =
      let left = drop more ts in
      let b = behind_is more (declaring text n label (length left) [] left) y all h in
      let d = found_declaring text n label (length left) [] left y b.0 b.1 in
      let both = length-append f.front d.front in
      record {
        front = f.front ++ d.front;
        rest = d.rest;
        is = f.is ∙ ap (λ (us : List Token). f.front ++ us) (sym (rest_is ts f.front f.rest more f.is f.count) ∙ d.is) ∙ sym (append_assoc f.front d.front d.rest);
        stands = subst (λ (us : List Token). Stands text n y us) (append_assoc pre f.front d.front)
            (subst (λ (y : Item). Stands text n y (pre ++ f.front ++ d.front)) (sym d.item) (has_declarations f.front l (known_block piece.Declare f.front f.spells refl) d.spells));
        count = let c = f.count in let e = d.count in let g = b.2 in omega (arith, both, c, e, g);
      }
  found_headed label pre l x ts y more all f h = alone_behind label pre l x ts y more all f h

  -- ---- what stands behind a label is read

  finds_block : (label : Option Name) (ys rest : List Token) → Is BlockPiece piece.Begin ys → headed text n label piece.Begin (length ys) (ys ++ rest) ≡ Some (i.Block (spot_of text n ys) label [], length ys)
  unfolding headed
  finds_block label ys rest h = ap (λ (spot : Spot). let o : Taken Item = Some (i.Block spot label [], length ys) in o) (spot_front text n ys rest (some_tokens BlockPiece refl piece.Begin ys h))

  finds_turns : (label : Option Name) (head : LoopHead) (ys rest : List Token) → Is BlockPiece (piece.Loop head) ys → headed text n label (piece.Loop head) (length ys) (ys ++ rest) ≡ Some (i.Loop (spot_of text n ys) label head, length ys)
  unfolding headed
  finds_turns label head ys rest h = ap (λ (spot : Spot). let o : Taken Item = Some (i.Loop spot label head, length ys) in o) (spot_front text n ys rest (some_tokens BlockPiece refl (piece.Loop head) ys h))

  finds_with_declarations : (label : Option Name) (ds : List Declaration) (spot : Spot) (ys zs rest : List Token) → Declares text n ds spot zs
      → headed text n label piece.Declare (length ys) (ys ++ (zs ++ rest)) ≡ Some (i.Block spot label ds, length ys + length zs)
  unfolding headed
  finds_with_declarations label ds spot ys zs rest d =
      let both = length-append zs rest in
      ap (λ (us : List Token). behind (length ys) (declaring text n label (length us) [] us)) (drop_front ys (zs ++ rest))
      ∙ ap (behind (length ys)) (finds_declaring text n label ds spot zs d (length (zs ++ rest)) [] rest (omega (arith, both)))

  finds_alone : (x : Piece) (ts : List Token) (y : Item) (more : ℕ) → item_of (spot_of text n ts) x ≡ Some y → headed text n None x more ts ≡ Some (y, more)
  unfolding headed
  finds_alone piece.Begin ts y more h = absurd (cc)
  finds_alone piece.Declare ts y more h = absurd (cc)
  finds_alone (piece.Loop head) ts y more h = absurd (cc)
  finds_alone x ts y more h = ap (taking more) h

  itemed_alone : (x : Piece) (ts : List Token) (y : Item) (more : ℕ) → item_of (spot_of text n ts) x ≡ Some y → itemed text n ts (Some (x, more)) ≡ Some (y, more)
  itemed_alone (piece.Label label) ts y more h = absurd (cc)
  itemed_alone (piece.Definition d) ts y more h = absurd (cc)
  itemed_alone x ts y more h = finds_alone x ts y more h

  -- a head, with its label or without
  head_read : (in_case : Bool) (label : Option Name) (pre : List Token) (l : Labelled label pre) (x : Piece) (own rest : List Token) (y : Item) (all : ℕ) → Is BlockPiece x own → not_handler x ≡ true
      → ((ts : List Token) (more : ℕ) → itemed text n ts (Some (x, more)) ≡ headed text n None x more ts)
      → headed text n label x (length own) (own ++ rest) ≡ Some (y, all)
      → itemed text n (pre ++ (own ++ rest)) (piece_at in_case (pre ++ (own ++ rest))) ≡ Some (y, length pre + all)
  head_read in_case _ _ unlabelled x own rest y all h free plainly is =
      ap (itemed text n (own ++ rest)) (finds_in_block in_case x own rest h (λ _. free))
      ∙ plainly (own ++ rest) (length own)
      ∙ is
      ∙ ap (λ (k : ℕ). let o : Taken Item = Some (y, k) in o) (omega arith)
  head_read in_case _ _ (has_label {label} {ts = pre} l) x own rest y all h free plainly is =
      ap (itemed text n (pre ++ (own ++ rest))) (finds_in_block in_case (piece.Label label) pre (own ++ rest) l (λ _. refl))
      ∙ ap (λ (us : List Token). behind (length pre) (labelled text n label us)) (drop_front pre (own ++ rest))
      ∙ ap (λ (o : Taken Piece). behind (length pre) (after_label text n label (own ++ rest) o)) (finds_in_block false x own rest h (λ e. absurd (cc)))
      ∙ ap (behind (length pre)) is

-- ---- items

-- the item may come where an arm may, or where a handler may
abbrev pub fits : Bool → Item → Bool
fits true (i.Handler cs) = false
fits false (i.Arm vs) = false
fits in_case x = true

free_of_handler : (spot : Spot) (x : Piece) (y : Item) → item_of spot x ≡ Some y → fits true y ≡ true → not_handler x ≡ true
free_of_handler spot (piece.Handler cs) y h f = let same : i.Handler cs ≡ y = cc in let g : fits true (i.Handler cs) ≡ true = ap (fits true) same ∙ f in absurd (cc)
free_of_handler spot x y h f = refl

module _ (text : Text) (n : ℕ) where
  pub stands_some : (x : Item) (ts : List Token) → Stands text n x ts → 0 < length ts
  stands_some _ _ (alone {x} {y} {ts} h e) = some_tokens BlockPiece refl x ts h
  stands_some _ _ (arm {vs} {ts} h) = some_tokens CasePiece refl (piece.Arm vs) ts h
  stands_some _ _ (definition {x} ts t h) = some_tokens BlockPiece refl (piece.Definition x) (ts ++ t ∷ []) h
  stands_some _ _ (block {label} {xs} ys l h) = let a = some_tokens BlockPiece refl piece.Begin ys h in let b = length-append xs ys in omega (arith, a, b)
  stands_some _ _ (has_declarations {label} {ds} {spot} {xs} {zs} ys l h d) =
      let a = some_tokens BlockPiece refl piece.Declare ys h in
      let b = length-append xs ys in
      let c = length-append (xs ++ ys) zs in
      omega (arith, a, b, c)
  stands_some _ _ (turns {label} {head} {xs} ys l h) = let a = some_tokens BlockPiece refl (piece.Loop head) ys h in let b = length-append xs ys in omega (arith, a, b)

  pub item_read : (in_case : Bool) (y : Item) (front rest : List Token) → Stands text n y front → fits in_case y ≡ true → itemed text n (front ++ rest) (piece_at in_case (front ++ rest)) ≡ Some (y, length front)
  item_read in_case _ _ rest (alone {x} {y} {ts = front} h e) f =
      ap (itemed text n (front ++ rest)) (finds_in_block in_case x front rest h (λ c. free_of_handler (spot_of text n front) x y e (subst (λ (b : Bool). fits b y ≡ true) c f)))
      ∙ itemed_alone text n x (front ++ rest) y (length front) (ap (λ (spot : Spot). item_of spot x) (spot_front text n front rest (some_tokens BlockPiece refl x front h)) ∙ e)
  item_read false _ _ rest (arm {vs} {ts = front} h) f = absurd (cc)
  item_read true _ _ rest (arm {vs} {ts = front} h) f =
      ap (itemed text n (front ++ rest)) (finds_arm (piece.Arm vs) front rest h)
      ∙ itemed_alone text n (piece.Arm vs) (front ++ rest) (i.Arm vs) (length front) refl
  item_read in_case _ _ rest (definition {x} ts t h) f =
      let front = ts ++ t ∷ [] in
      let size = length-append ts (t ∷ []) in
      let short : length front - 1 ≡ length ts = omega (arith, size) in
      ap (itemed text n (front ++ rest)) (finds_in_block in_case (piece.Definition x) front rest h (λ _. refl))
      ∙ ap (λ (spot : Spot). let o : Taken Item = Some (i.Simple spot (Command (Define x (slice_of text (take (length front - 1) (front ++ rest))))), length front) in o) (spot_front text n front rest (some_tokens BlockPiece refl (piece.Definition x) front h))
      ∙ ap (λ (us : List Token). let o : Taken Item = Some (i.Simple (spot_of text n front) (Command (Define x (slice_of text us))), length front) in o)
      (ap (λ (k : ℕ). take k (front ++ rest)) short ∙ ap (take (length ts)) (append_assoc ts (t ∷ []) rest) ∙ take_front ts (t ∷ rest))
  item_read in_case _ _ rest (block {label} {xs} ys l h) f =
      ap (λ (us : List Token). itemed text n us (piece_at in_case us)) (append_assoc xs ys rest)
      ∙ head_read text n in_case label xs l piece.Begin ys rest (i.Block (spot_of text n ys) label []) (length ys) h refl (λ ts more. refl) (finds_block text n label ys rest h)
      ∙ ap (λ (k : ℕ). let o : Taken Item = Some (i.Block (spot_of text n ys) label [], k) in o) (sym (length-append xs ys))
  item_read in_case _ _ rest (turns {label} {head} {xs} ys l h) f =
      ap (λ (us : List Token). itemed text n us (piece_at in_case us)) (append_assoc xs ys rest)
      ∙ head_read text n in_case label xs l (piece.Loop head) ys rest (i.Loop (spot_of text n ys) label head) (length ys) h refl (λ ts more. refl) (finds_turns text n label head ys rest h)
      ∙ ap (λ (k : ℕ). let o : Taken Item = Some (i.Loop (spot_of text n ys) label head, k) in o) (sym (length-append xs ys))
  item_read in_case _ _ rest (has_declarations {label} {ds} {spot} {xs} {zs} ys l h d) f =
      let first = length-append xs ys in
      let second = length-append (xs ++ ys) zs in
      let size : length xs + (length ys + length zs) ≡ length (xs ++ ys ++ zs) = omega (arith, first, second) in
      ap (λ (us : List Token). itemed text n us (piece_at in_case us)) (append_assoc (xs ++ ys) zs rest ∙ append_assoc xs ys (zs ++ rest))
      ∙ head_read text n in_case label xs l piece.Declare ys (zs ++ rest) (i.Block spot label ds) (length ys + length zs) h refl (λ ts more. refl) (finds_with_declarations text n label ds spot ys zs rest d)
      ∙ ap (λ (k : ℕ). let o : Taken Item = Some (i.Block spot label ds, k) in o) size

  -- ---- what is read stands there

  record Last (xs : List Token) : Type 0 where
    pub front : List Token
    pub last : Token
    pub is : xs ≡ front ++ last ∷ []

  last_of : (xs : List Token) → 0 < length xs → Last xs
  last_of [] h = absurd (omega (arith, h))
  last_of (t ∷ []) h = record { front = []; last = t; is = refl }
  last_of (t ∷ u ∷ xs) h = let l = last_of (u ∷ xs) (omega arith) in record { front = t ∷ l.front; last = l.last; is = ap (λ (us : List Token). t ∷ us) l.is }

  pub found_itemed : (ts : List Token) (x : Piece) (y : Item) (more all : ℕ) → FoundPiece x ts more → itemed text n ts (Some (x, more)) ≡ Some (y, all) → Behind text n [] y ts all
  found_itemed ts (piece.Label label) y more all f h =
      let left = drop more ts in
      let b = behind_is more (labelled text n label left) y all h in
      by_piece (piece_at false left) refl b.1
    where
      by_piece : (o : Taken Piece) → piece_at false (drop more ts) ≡ o → after_label text n label (drop more ts) o ≡ Some (y, (behind_is more (labelled text n label (drop more ts)) y all h).0) → Behind text n [] y ts all
      by_piece None e k = absurd (cc)
      by_piece (Some (z, own)) e k =
          let left = drop more ts in
          let b = behind_is more (labelled text n label left) y all h in
          let g = found_piece false left z own e in
          let r = found_headed text n (Some label) f.front (has_label (known_block text n (piece.Label label) f.front f.spells refl)) z left y own b.0 g k in
          let both = length-append f.front r.front in
          record {
            front = f.front ++ r.front;
            rest = r.rest;
            is = f.is ∙ ap (λ (us : List Token). f.front ++ us) (sym (rest_is ts f.front f.rest more f.is f.count) ∙ r.is) ∙ sym (append_assoc f.front r.front r.rest);
            stands = r.stands;
            count = let c = f.count in let d = r.count in let e = b.2 in omega (arith, both, c, d, e);
          }
  found_itemed ts (piece.Definition x) y more all f h =
      let l = last_of f.front (let s = f.some in let c = f.count in omega (arith, s, c)) in
      let size = length-append l.front (l.last ∷ []) in
      let whole : length f.front ≡ length (l.front ++ l.last ∷ []) = ap length l.is in
      let short : more - 1 ≡ length l.front = let c = f.count in omega (arith, c, size, whole) in
      let spot : spot_of text n ts ≡ spot_of text n f.front = ap (spot_of text n) f.is ∙ spot_front text n f.front f.rest (let s = f.some in let c = f.count in omega (arith, s, c)) in
      let slice : take (more - 1) ts ≡ l.front = ap (λ (k : ℕ). take k ts) short ∙ ap (take (length l.front)) (f.is ∙ ap (λ (us : List Token). us ++ f.rest) l.is ∙ append_assoc l.front (l.last ∷ []) f.rest) ∙ take_front l.front (l.last ∷ f.rest) in
      let same = pair_is (i.Simple (spot_of text n ts) (Command (Define x (slice_of text (take (more - 1) ts))))) y more all h in
      record {
        front = f.front;
        rest = f.rest;
        is = f.is;
        stands = subst (λ (z : Item). Stands text n z f.front)
            (ap (λ (us : List Token). i.Simple (spot_of text n f.front) (Command (Define x (slice_of text us)))) (sym slice)
            ∙ ap (λ (spot : Spot). i.Simple spot (Command (Define x (slice_of text (take (more - 1) ts))))) (sym spot) ∙ same.0)
            (subst (λ (us : List Token). Stands text n (i.Simple (spot_of text n us) (Command (Define x (slice_of text l.front)))) us) (sym l.is)
            (definition l.front l.last (subst (λ (us : List Token). Is BlockPiece (piece.Definition x) us) l.is (known_block text n (piece.Definition x) f.front f.spells refl))));
        count = f.count ∙ same.1;
      }
  found_itemed ts x y more all f h = found_headed text n None [] unlabelled x ts y more all f h
