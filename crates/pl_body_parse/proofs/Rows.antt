-- Tokens spell one body or none, and it is computed.
use Rattle.std.proofs.Common.{◌≡◌, ◌∙◌, ap, sym, refl, subst, ℕ, zero, suc, ◌≤◌, Bool, true, false, List, [], ◌∷◌, ◌++◌, length, drop, map, Option, Some, None, length-append, arith}
use Rattle.std.specs.Prelude.{◌↔◌}
use Rattle.pl_lex.specs.Characters.{Text}
use Rattle.pl_lex.specs.declared.keyword.Keyword.TheVariants as w
use Rattle.pl_lex.specs.declared.token.Token.{Token}
use Rattle.pl_lex.specs.declared.token.TokenKind.TheVariants as kind
use Rattle.pl_bodies.specs.declared.statement.Body.{Body}
use Rattle.pl_body_items.specs.Items.{Said, item, body_said}
use Rattle.pl_body_items.specs.Steps.{start, step, then_steps, steps, in_case, body_in}
use Rattle.pl_body_items.specs.declared.items.Item.{Item}
use Rattle.pl_body_items.specs.declared.items.Item.TheVariants as i
use Rattle.pl_body_items.specs.declared.items.Word.TheVariants as word
use Rattle.pl_body_items.specs.declared.making.Making.{Making}
use Rattle.pl_body_items.proofs.OneTree.{one_tree, handler_in_block, arm_in_case}
use Rattle.pl_grammar.specs.Marks.{Tokens, kinds, sees, after, begins, same_keyword, same_sign}
use Rattle.pl_grammar.specs.Rule.{read_part}
use Rattle.pl_grammar.specs.Parser.{expect, take as take_token, joins}
use Rattle.pl_body_grammar.specs.Ahead.{sees_pair}
use Rattle.pl_body_grammar.specs.Grammar.{BlockPiece, CasePiece}
use Rattle.pl_body_grammar.specs.FirstFollow.{reads_part}
use Rattle.pl_body_grammar.specs.declared.parts.Piece.{Piece}
use Rattle.pl_body_parse.specs.Computed.{Taken, counted, reads_piece, piece_at, itemed, or_item, item_at, made_with, taken, read_from, body_of_tokens}
use Rattle.pl_body_parse.specs.Spells.{Name, Stands, bare_end, next, Row, no_item, one_more, bare, SpellsBody, NoneSpells}
use Rattle.pl_body_parse.proofs.Found.{pair_is, drop_front, found_piece}
use Rattle.pl_body_parse.proofs.Standing.{fits, stands_some, item_read, found_itemed}

-- ---- END without `;` is no piece

no_block_piece : (ks : Tokens) (label : Option Name) → bare_end ks ≡ Some label → reads_part BlockPiece ks ≡ None
unfolding reads_part read_part sees after begins expect take_token joins sees_pair same_keyword same_sign
no_block_piece (kind.Keyword w.End ∷ []) label h = refl
no_block_piece (kind.Keyword w.End ∷ kind.Word name ∷ []) label h = refl
no_block_piece (kind.Keyword w.End ∷ kind.Quoted name ∷ []) label h = refl
no_block_piece _ label h = absurd (cc)

no_case_piece : (ks : Tokens) (label : Option Name) → bare_end ks ≡ Some label → reads_part CasePiece ks ≡ None
unfolding reads_part read_part sees after begins expect take_token joins sees_pair same_keyword same_sign
no_case_piece (kind.Keyword w.End ∷ []) label h = refl
no_case_piece (kind.Keyword w.End ∷ kind.Word name ∷ []) label h = refl
no_case_piece (kind.Keyword w.End ∷ kind.Quoted name ∷ []) label h = refl
no_case_piece _ label h = absurd (cc)

no_piece : (in_case : Bool) (ts : List Token) (label : Option Name) → bare_end (kinds ts) ≡ Some label → piece_at in_case ts ≡ None
unfolding piece_at reads_piece
no_piece true ts label h = ap (counted (length ts)) (no_case_piece (kinds ts) label h)
no_piece false ts label h = ap (counted (length ts)) (no_block_piece (kinds ts) label h)

-- ---- items

module _ (text : Text) where
  item_found : (in_case : Bool) (n : ℕ) (front rest : List Token) (x : Item) → Stands text n x front → fits in_case x ≡ true → item_at text in_case n (front ++ rest) ≡ Some (x, length front)
  unfolding item_at
  item_found in_case n front rest x s f = by_end (bare_end (kinds (front ++ rest))) refl
    where
      by_end : (o : Option (Option Name)) → bare_end (kinds (front ++ rest)) ≡ o → or_item o (length (front ++ rest)) (itemed text n (front ++ rest) (piece_at in_case (front ++ rest))) ≡ Some (x, length front)
      by_end None e = item_read text n in_case x front rest s f
      by_end (Some label) e =
          let read = item_read text n in_case x front rest s f in
          let none : itemed text n (front ++ rest) (piece_at in_case (front ++ rest)) ≡ None = ap (itemed text n (front ++ rest)) (no_piece in_case (front ++ rest) label e) in
          absurd (cc)

  -- what an item that is read stands on
  data Begun (n : ℕ) : Item → List Token → ℕ → Type 0 where
    standing : {x : Item} {front : List Token} (rest : List Token) → Stands text n x front → Begun n x (front ++ rest) (length front)
    ending : {label : Option Name} {ts : List Token} → bare_end (kinds ts) ≡ Some label → Begun n (i.Word (word.End label)) ts (length ts)

  begun : (in_case : Bool) (n : ℕ) (ts : List Token) (x : Item) (more : ℕ) → item_at text in_case n ts ≡ Some (x, more) → Begun n x ts more
  unfolding item_at
  begun in_case n ts x more h = by_end (bare_end (kinds ts)) refl h
    where
      by_piece : (o : Taken Piece) → piece_at in_case ts ≡ o → itemed text n ts o ≡ Some (x, more) → Begun n x ts more
      by_piece None e h = absurd (cc)
      by_piece (Some (y, own)) e h =
          let f = found_itemed text n ts y x own more (found_piece in_case ts y own e) h in
          subst (λ (us : List Token). Begun n x us more) (sym f.is) (subst (λ (k : ℕ). Begun n x (f.front ++ f.rest) k) f.count (standing f.rest f.stands))

      by_end : (o : Option (Option Name)) → bare_end (kinds ts) ≡ o → or_item o (length ts) (itemed text n ts (piece_at in_case ts)) ≡ Some (x, more) → Begun n x ts more
      by_end None e h = by_piece (piece_at in_case ts) refl h
      by_end (Some label) e h =
          let same = pair_is (i.Word (word.End label)) x (length ts) more h in
          subst (λ (k : ℕ). Begun n x ts k) same.1 (subst (λ (x : Item). Begun n x ts (length ts)) same.0 (ending e))

  -- ---- rows

  read_nil : (k : ℕ) (m : Making) (n : ℕ) → read_from text k m n [] ≡ Some m
  unfolding read_from
  read_nil zero m n = refl
  read_nil (suc k) m n = refl

  -- what is read is a row of items, which make the same
  record Rows (m : Making) (n : ℕ) (ts : List Token) (p : Making) : Type 0 where
    pub items : List Item
    pub row : Row text n (map item items) ts
    pub makes : steps m items ≡ Some p

  drop_all : (ts : List Token) → drop (length ts) ts ≡ []
  drop_all [] = refl
  drop_all (t ∷ ts) = drop_all ts

  then_row : (m q p : Making) (n : ℕ) (x : Item) (ts : List Token) (more : ℕ) → step m x ≡ Some q → Begun n x ts more → (k : ℕ) → ((us : List Token) → read_from text k q (next x n) us ≡ Some p → Rows q (next x n) us p) → read_from text k q (next x n) (drop more ts) ≡ Some p → Rows m n ts p
  then_row m q p n x _ _ first (standing {front} rest s) k on h =
      let r = on rest (ap (read_from text k q (next x n)) (sym (drop_front front rest)) ∙ h) in
      record { items = x ∷ r.items; row = one_more s r.row; makes = ap (λ (o : Option Making). then_steps (λ (m : Making). steps m r.items) o) first ∙ r.makes }
  then_row m q p n _ _ _ first (ending {label} {ts} e) k on h =
      let same : q ≡ p = let e : (let o : Option Making = Some q in o ≡ Some p) = sym (read_nil k q n) ∙ ap (read_from text k q n) (sym (drop_all ts)) ∙ h in cc in
      record { items = i.Word (word.End label) ∷ []; row = bare e; makes = ap (λ (o : Option Making). then_steps (λ (m : Making). steps m []) o) first ∙ ap (λ (m : Making). let o : Option Making = Some m in o) same }

  row_read : (k : ℕ) (m : Making) (n : ℕ) (ts : List Token) (p : Making) → read_from text k m n ts ≡ Some p → Rows m n ts p
  unfolding read_from
  row_read zero m n [] p h = record { items = []; row = no_item; makes = h }
  row_read (suc k) m n [] p h = record { items = []; row = no_item; makes = h }
  row_read zero m n (t ∷ ts) p h = absurd (cc)
  row_read (suc k) m n (t ∷ ts) p h = by_item (item_at text (in_case m.inner.section) n (t ∷ ts)) refl h (λ q n us e. row_read k q n us p e)
    where
      by_step : (x : Item) (more : ℕ) → item_at text (in_case m.inner.section) n (t ∷ ts) ≡ Some (x, more) → (o : Option Making) → step m x ≡ o → made_with (λ m. read_from text k m (next x n) (drop more (t ∷ ts))) o ≡ Some p
          → ((q : Making) (n : ℕ) (us : List Token) → read_from text k q n us ≡ Some p → Rows q n us p) → Rows m n (t ∷ ts) p
      by_step x more e None first h on = absurd (cc)
      by_step x more e (Some q) first h on = then_row m q p n x (t ∷ ts) more first (begun (in_case m.inner.section) n (t ∷ ts) x more e) k (λ us. on q (next x n) us) h

      by_item : (o : Taken Item) → item_at text (in_case m.inner.section) n (t ∷ ts) ≡ o → taken text (read_from text k) m n (t ∷ ts) o ≡ Some p
          → ((q : Making) (n : ℕ) (us : List Token) → read_from text k q n us ≡ Some p → Rows q n us p) → Rows m n (t ∷ ts) p
      by_item None e h on = absurd (cc)
      by_item (Some (x, more)) e h on = by_step x more e (step m x) refl h on

  -- what the making takes may come there
  may_come : (m q : Making) (x : Item) → step m x ≡ Some q → fits (in_case m.inner.section) x ≡ true
  may_come m q x h = by_item x h
    where
      by_case : (b : Bool) (x : Item) → in_case m.inner.section ≡ b → ((cs : List _) → x ≡ i.Handler cs → b ≡ false) → ((vs : List _) → x ≡ i.Arm vs → b ≡ true) → fits b x ≡ true
      by_case true (i.Handler cs) e f g = absurd (let k = f cs refl in cc)
      by_case false (i.Arm vs) e f g = absurd (let k = g vs refl in cc)
      by_case _ x e f g = refl

      by_item : (x : Item) → step m x ≡ Some q → fits (in_case m.inner.section) x ≡ true
      by_item x h = by_case (in_case m.inner.section) x refl (λ cs e. handler_in_block m q cs (ap (step m) (sym e) ∙ h)) (λ vs e. arm_in_case m q vs (ap (step m) (sym e) ∙ h))

  abbrev first_item : Item → List Said → Item
  first_item x (item y ∷ xs) = y
  first_item x _ = x

  abbrev other_items : List Said → List Said
  other_items [] = []
  other_items (x ∷ xs) = xs

  first_is : (x y : Item) (xs ys : List Said) → item x ∷ xs ≡ item y ∷ ys → (y ≡ x) × (xs ≡ ys)
  first_is x y xs ys e = (sym (ap (first_item x) e), ap other_items e)

  found_more : (n : ℕ) (x : Item) (front rest : List Token) → Stands text n x front → (ys : List Item) (m p : Making) (k : ℕ) → then_steps (λ m. steps m ys) (step m x) ≡ Some p → length (front ++ rest) ≤ k
      → ((q : Making) (k : ℕ) → steps q ys ≡ Some p → length rest ≤ k → read_from text k q (next x n) rest ≡ Some p) → read_from text k m n (front ++ rest) ≡ Some p
  unfolding read_from
  found_more n x [] rest s ys m p k h low on = absurd (let some = stands_some text n x [] s in omega (arith, some))
  found_more n x (t ∷ front) rest s ys m p zero h low on = absurd (omega (arith, low))
  found_more n x (t ∷ front) rest s ys m p (suc k) h low on = by_step (step m x) refl h
    where
      by_step : (o : Option Making) → step m x ≡ o → then_steps (λ m. steps m ys) o ≡ Some p → read_from text (suc k) m n (t ∷ front ++ rest) ≡ Some p
      by_step None first h = absurd (cc)
      by_step (Some q) first h =
          let sizes = length-append (t ∷ front) rest in
          ap (taken text (read_from text k) m n (t ∷ front ++ rest)) (item_found (in_case m.inner.section) n (t ∷ front) rest x s (may_come m q x first))
          ∙ ap (made_with (λ m. read_from text k m (next x n) (drop (length (t ∷ front)) (t ∷ front ++ rest)))) first
          ∙ ap (read_from text k q (next x n)) (drop_front (t ∷ front) rest)
          ∙ on q k h (omega (arith, low, sizes))

  row_found : (n : ℕ) (xs : List Said) (ts : List Token) → Row text n xs ts → (ys : List Item) → xs ≡ map item ys → (m p : Making) (k : ℕ) → steps m ys ≡ Some p → length ts ≤ k → read_from text k m n ts ≡ Some p
  unfolding read_from item_at
  row_found n _ _ no_item [] e m p k h low = read_nil k m n ∙ h
  row_found n _ _ no_item (y ∷ ys) e m p k h low = absurd (cc)
  row_found n _ _ (one_more s r) [] e m p k h low = absurd (cc)
  row_found n _ _ (one_more {x} {xs} {front} {rest} s r) (y ∷ ys) e m p k h low =
      let items = first_is x y xs (map item ys) e in
      found_more n x front rest s ys m p k (ap (λ (y : Item). then_steps (λ m. steps m ys) (step m y)) (sym items.0) ∙ h) low (λ q k h low. row_found (next x n) xs rest r ys items.1 q p k h low)
  row_found n _ ts (bare {label} e) ys is m p k h low = by_items ys is h
    where
      by_step : (o : Option Making) → step m (i.Word (word.End label)) ≡ o → then_steps (λ m. steps m []) o ≡ Some p → (k : ℕ) (ts : List Token) → bare_end (kinds ts) ≡ Some label → length ts ≤ k → read_from text k m n ts ≡ Some p
      by_step o first h k [] e low = absurd (cc)
      by_step o first h zero (t ∷ ts) e low = absurd (omega (arith, low))
      by_step None first h (suc k) (t ∷ ts) e low = absurd (cc)
      by_step (Some q) first h (suc k) (t ∷ ts) e low =
          let other = itemed text n (t ∷ ts) (piece_at (in_case m.inner.section) (t ∷ ts)) in
          ap (λ (o : Option (Option Name)). taken text (read_from text k) m n (t ∷ ts) (or_item o (length (t ∷ ts)) other)) e
          ∙ ap (made_with (λ m. read_from text k m n (drop (length (t ∷ ts)) (t ∷ ts)))) first
          ∙ ap (read_from text k q n) (drop_all (t ∷ ts))
          ∙ read_nil k q n
          ∙ h

      by_items : (ys : List Item) → item (i.Word (word.End label)) ∷ [] ≡ map item ys → steps m ys ≡ Some p → read_from text k m n ts ≡ Some p
      by_items [] is h = absurd (cc)
      by_items (y ∷ z ∷ ys) is h = absurd (cc)
      by_items (y ∷ []) is h =
          let same : i.Word (word.End label) ≡ y = ap (first_item y) is in
          by_step (step m (i.Word (word.End label))) refl (ap (λ (y : Item). then_steps (λ m. steps m []) (step m y)) same ∙ h) k ts e low

  row_items : (n : ℕ) (xs : List Said) (ts : List Token) → Row text n xs ts → (ys : List Item) × (xs ≡ map item ys)
  row_items n _ _ no_item = ([], refl)
  row_items n _ _ (one_more {x} {xs} {front} {rest} s r) = let more = row_items (next x n) xs rest r in (x ∷ more.0, ap (λ (xs : List Said). item x ∷ xs) more.1)
  row_items n _ _ (bare {label} e) = (i.Word (word.End label) ∷ [], refl)

  -- ---- bodies

  spelled : (ts : List Token) (body : Body) → body_of_tokens text ts ≡ Some body → SpellsBody text body ts
  unfolding body_of_tokens
  spelled ts body h = by_making (read_from text (length ts) start 0 ts) refl h
    where
      by_making : (o : Option Making) → read_from text (length ts) start 0 ts ≡ o → body_in o ≡ Some body → SpellsBody text body ts
      by_making None e h = absurd (cc)
      by_making (Some m) e h =
          let r = row_read (length ts) start 0 ts m e in
          let said = (one_tree r.items body).0 (ap body_in r.makes ∙ h) in
          subst (λ (xs : List Said). Row text 0 xs ts) (sym said) r.row

  computed : (ts : List Token) (body : Body) → SpellsBody text body ts → body_of_tokens text ts ≡ Some body
  unfolding body_of_tokens
  computed ts body row =
      let items = row_items 0 (body_said body) ts row in
      by_making (steps start items.0) refl ((one_tree items.0 body).1 items.1)
    where
      by_making : (o : Option Making) → steps start (row_items 0 (body_said body) ts row).0 ≡ o → body_in o ≡ Some body → body_in (read_from text (length ts) start 0 ts) ≡ Some body
      by_making None e h = absurd (cc)
      by_making (Some m) e h =
          let items = row_items 0 (body_said body) ts row in
          ap body_in (row_found 0 (body_said body) ts row items.0 items.1 start m (length ts) e (omega arith)) ∙ h

pub one_body : (text : Text) (ts : List Token) (body : Body) → (body_of_tokens text ts ≡ Some body) ↔ SpellsBody text body ts
one_body text ts body = (spelled text ts body, computed text ts body)

-- ---- what a reader that makes just this says

pub made_spells : (text : Text) (ts : List Token) (body : Body) → body_of_tokens text ts ≡ Some body → SpellsBody text body ts
made_spells = spelled

pub made_alone : (text : Text) (ts : List Token) (body other : Body) → body_of_tokens text ts ≡ Some body → SpellsBody text other ts → other ≡ body
made_alone text ts body other h spells = let k = computed text ts other spells in cc

pub none_made : (text : Text) (ts : List Token) → body_of_tokens text ts ≡ None → NoneSpells text ts
none_made text ts h body spells = let k = computed text ts body spells in absurd (cc)
