-- The turns of the loops over declarations and over items.
use Rattle.std.proofs.Common.{◌≡◌, ◌∙◌, ap, sym, refl, ℕ, zero, suc, ◌+◌, ◌-◌, ◌<◌, ◌≤◌, true, false, List, [], ◌∷◌, ◌++◌, length, length-drop, drop, Option, Some, None, arith}
use Rattle.pl_lex.specs.Characters.{Text}
use Rattle.pl_lex.specs.declared.token.Token.{Token}
use Rattle.pl_bodies.specs.declared.declaration.Declaration.{Declaration}
use Rattle.pl_body_items.specs.Steps.{step, in_case}
use Rattle.pl_body_items.specs.declared.items.Item.{Item}
use Rattle.pl_body_items.specs.declared.items.Item.TheVariants as i
use Rattle.pl_body_items.specs.declared.making.Making.{Making}
use Rattle.pl_body_grammar.specs.declared.parts.Piece.{Piece}
use Rattle.pl_body_grammar.specs.declared.parts.Piece.TheVariants as piece
use Rattle.pl_body_parse.specs.Computed.{Taken, declared_at, behind, is_begin, declaration_of, declared, declaring, item_at, made_with, taken, read_from}
use Rattle.pl_body_parse.specs.Spells.{Name, line_of, next, spot_of}

pub behind_nothing : (o : Taken Item) → behind 0 o ≡ o
behind_nothing None = refl
behind_nothing (Some (x, more)) = ap (λ (k : ℕ). let o : Taken Item = Some (x, k) in o) (omega arith)

pub behind_twice : (a b : ℕ) (o : Taken Item) → behind a (behind b o) ≡ behind (a + b) o
behind_twice a b None = refl
behind_twice a b (Some (x, more)) = ap (λ (k : ℕ). let o : Taken Item = Some (x, k) in o) (omega arith)

-- ---- declarations

module _ (text : Text) (n : ℕ) (label : Option Name) where
  no_declaration : (then_on : List Declaration → List Token → Taken Item) (ds : List Declaration) (ts : List Token) (x : Piece) (more : ℕ) → is_begin x ≡ false → declaration_of (line_of text ts) x ≡ None → declared text n label then_on ds ts (Some (x, more)) ≡ None
  no_declaration then_on ds ts piece.Begin more b h = absurd (cc)
  no_declaration then_on ds ts (piece.Declaration name kind) more b h = absurd (cc)
  no_declaration then_on ds ts _ more b h = refl

  one_declaration : (then_on : List Declaration → List Token → Taken Item) (ds : List Declaration) (ts : List Token) (x : Piece) (more : ℕ) (d : Declaration) → is_begin x ≡ false → declaration_of (line_of text ts) x ≡ Some d
      → declared text n label then_on ds ts (Some (x, more)) ≡ behind more (then_on (ds ++ d ∷ []) (drop more ts))
  one_declaration then_on ds ts piece.Begin more d b h = absurd (cc)
  one_declaration then_on ds ts (piece.Declaration name kind) more d b h =
      let own : Option Declaration → Declaration = λ o. elim o [ None ↦ d | Some e ↦ e ] in
      ap (λ (d : Declaration). behind more (then_on (ds ++ d ∷ []) (drop more ts))) (ap own h)
  one_declaration then_on ds ts _ more d b h = absurd (cc)

  begun : (then_on : List Declaration → List Token → Taken Item) (ds : List Declaration) (ts : List Token) (x : Piece) (more : ℕ) → is_begin x ≡ true → declared text n label then_on ds ts (Some (x, more)) ≡ Some (i.Block (spot_of text n ts) label ds, more)
  begun then_on ds ts piece.Begin more h = refl
  begun then_on ds ts _ more h = absurd (cc)

  pub declaring_fails : (k : ℕ) (ds : List Declaration) (ts : List Token) → declared_at ts ≡ None → declaring text n label (suc k) ds ts ≡ None
  unfolding declaring
  declaring_fails k ds ts h = ap (declared text n label (declaring text n label k) ds ts) h

  pub declaring_begins : (k : ℕ) (ds : List Declaration) (ts : List Token) (x : Piece) (more : ℕ) → declared_at ts ≡ Some (x, more) → is_begin x ≡ true → declaring text n label (suc k) ds ts ≡ Some (i.Block (spot_of text n ts) label ds, more)
  unfolding declaring
  declaring_begins k ds ts x more h b = ap (declared text n label (declaring text n label k) ds ts) h ∙ begun (declaring text n label k) ds ts x more b

  pub declaring_stops : (k : ℕ) (ds : List Declaration) (ts : List Token) (x : Piece) (more : ℕ) → declared_at ts ≡ Some (x, more) → is_begin x ≡ false → declaration_of (line_of text ts) x ≡ None → declaring text n label (suc k) ds ts ≡ None
  unfolding declaring
  declaring_stops k ds ts x more h b d = ap (declared text n label (declaring text n label k) ds ts) h ∙ no_declaration (declaring text n label k) ds ts x more b d

  pub declaring_more : (k : ℕ) (ds : List Declaration) (ts : List Token) (x : Piece) (more : ℕ) (d : Declaration) → declared_at ts ≡ Some (x, more) → is_begin x ≡ false → declaration_of (line_of text ts) x ≡ Some d
      → declaring text n label (suc k) ds ts ≡ behind more (declaring text n label k (ds ++ d ∷ []) (drop more ts))
  unfolding declaring
  declaring_more k ds ts x more d h b is = ap (declared text n label (declaring text n label k) ds ts) h ∙ one_declaration (declaring text n label k) ds ts x more d b is

  pub declaring_ends : (ds : List Declaration) (ts : List Token) → declaring text n label 0 ds ts ≡ None
  unfolding declaring
  declaring_ends ds ts = refl

-- ---- items

module _ (text : Text) where
  pub all_taken : (k : ℕ) (m : Making) (n : ℕ) → read_from text k m n [] ≡ Some m
  unfolding read_from
  all_taken zero m n = refl
  all_taken (suc k) m n = refl

  pub none_taken : (m : Making) (n : ℕ) (ts : List Token) → 0 < length ts → read_from text 0 m n ts ≡ None
  unfolding read_from
  none_taken m n [] h = absurd (omega (arith, h))
  none_taken m n (t ∷ ts) h = refl

  pub taking_fails : (k : ℕ) (m : Making) (n : ℕ) (ts : List Token) → 0 < length ts → item_at text (in_case m.inner.section) n ts ≡ None → read_from text (suc k) m n ts ≡ None
  unfolding read_from
  taking_fails k m n [] h e = absurd (omega (arith, h))
  taking_fails k m n (t ∷ ts) h e = ap (taken text (read_from text k) m n (t ∷ ts)) e

  pub making_fails : (k : ℕ) (m : Making) (n : ℕ) (ts : List Token) (x : Item) (more : ℕ) → 0 < length ts → item_at text (in_case m.inner.section) n ts ≡ Some (x, more) → step m x ≡ None → read_from text (suc k) m n ts ≡ None
  unfolding read_from
  making_fails k m n [] x more h e f = absurd (omega (arith, h))
  making_fails k m n (t ∷ ts) x more h e f = ap (taken text (read_from text k) m n (t ∷ ts)) e ∙ ap (made_with (λ m. read_from text k m (next x n) (drop more (t ∷ ts)))) f

  pub taking_more : (k : ℕ) (m p : Making) (n : ℕ) (ts : List Token) (x : Item) (more : ℕ) → 0 < length ts → item_at text (in_case m.inner.section) n ts ≡ Some (x, more) → step m x ≡ Some p → read_from text (suc k) m n ts ≡ read_from text k p (next x n) (drop more ts)
  unfolding read_from
  taking_more k m p n [] x more h e f = absurd (omega (arith, h))
  taking_more k m p n (t ∷ ts) x more h e f = ap (taken text (read_from text k) m n (t ∷ ts)) e ∙ ap (made_with (λ m. read_from text k m (next x n) (drop more (t ∷ ts)))) f

-- ---- the same, by the turns of a loop

-- where a loop over declarations begins
pub turn_first : (text : Text) (n : ℕ) (label : Option Name) (ts : List Token) (at : ℕ) (new : List Declaration) → new ≡ [] → declaring text n label (length (drop at ts)) [] (drop at ts) ≡ behind (at - at) (declaring text n label (length ts - at) new (drop at ts))
turn_first text n label ts at new is =
    let none : at - at ≡ 0 = omega arith in
    ap (λ (k : ℕ). declaring text n label k [] (drop at ts)) (length-drop at ts)
    ∙ ap (λ (ds : List Declaration). declaring text n label (length ts - at) ds (drop at ts)) (sym is)
    ∙ sym (behind_nothing (declaring text n label (length ts - at) new (drop at ts)))
    ∙ ap (λ (k : ℕ). behind k (declaring text n label (length ts - at) new (drop at ts))) (sym none)

-- and one over items
pub item_first : (text : Text) (ts : List Token) (m p : Making) → p ≡ m → read_from text (length ts) m 0 ts ≡ read_from text (length ts - 0) p 0 ts
item_first text ts m p is =
    let all : length ts ≡ length ts - 0 = omega arith in
    ap (λ (k : ℕ). read_from text k m 0 ts) all ∙ ap (λ (m : Making). read_from text (length ts - 0) m 0 ts) (sym is)

pub next_low : (x : Item) (n : ℕ) → next x n ≤ n + 1
next_low (i.Simple spot x) n = omega arith
next_low (i.Block spot label ds) n = omega arith
next_low (i.If spot e) n = omega arith
next_low (i.Case spot x vs) n = omega arith
next_low (i.Loop spot label head) n = omega arith
next_low _ n = omega arith

one_turn : (turn end : ℕ) → turn < end → end - turn ≡ suc (end - (turn + 1))
one_turn turn end h = omega (arith, h)

no_turn : (turn end : ℕ) → end ≤ turn → end - turn ≡ 0
no_turn turn end h = omega (arith, h)

module _ (text : Text) (n : ℕ) (label : Option Name) (all : Taken Item) (b turn end : ℕ) (ds : List Declaration) (ts : List Token) (same : all ≡ behind b (declaring text n label (end - turn) ds ts)) where
  next_turn : turn < end → all ≡ behind b (declaring text n label (suc (end - (turn + 1))) ds ts)
  next_turn h = same ∙ ap (λ (k : ℕ). behind b (declaring text n label k ds ts)) (one_turn turn end h)

  pub turn_fails : turn < end → declared_at ts ≡ None → all ≡ None
  turn_fails h e = next_turn h ∙ ap (behind b) (declaring_fails text n label (end - (turn + 1)) ds ts e)

  pub turn_begins : turn < end → (x : Piece) (more : ℕ) → declared_at ts ≡ Some (x, more) → is_begin x ≡ true → all ≡ Some (i.Block (spot_of text n ts) label ds, b + more)
  turn_begins h x more e is = next_turn h ∙ ap (behind b) (declaring_begins text n label (end - (turn + 1)) ds ts x more e is)

  pub turn_stops : turn < end → (x : Piece) (more : ℕ) → declared_at ts ≡ Some (x, more) → is_begin x ≡ false → declaration_of (line_of text ts) x ≡ None → all ≡ None
  turn_stops h x more e is none = next_turn h ∙ ap (behind b) (declaring_stops text n label (end - (turn + 1)) ds ts x more e is none)

  pub turn_goes_on : turn < end → (x : Piece) (more : ℕ) (d : Declaration) → declared_at ts ≡ Some (x, more) → is_begin x ≡ false → declaration_of (line_of text ts) x ≡ Some d
      → all ≡ behind (b + more) (declaring text n label (end - (turn + 1)) (ds ++ d ∷ []) (drop more ts))
  turn_goes_on h x more d e is some =
      next_turn h
      ∙ ap (behind b) (declaring_more text n label (end - (turn + 1)) ds ts x more d e is some)
      ∙ behind_twice b more (declaring text n label (end - (turn + 1)) (ds ++ d ∷ []) (drop more ts))

  pub turns_end : end ≤ turn → all ≡ None
  turns_end h = same ∙ ap (λ (k : ℕ). behind b (declaring text n label k ds ts)) (no_turn turn end h) ∙ ap (behind b) (declaring_ends text n label ds ts)

module _ (text : Text) (all : Option Making) (turn end : ℕ) (m : Making) (n : ℕ) (ts : List Token) (same : all ≡ read_from text (end - turn) m n ts) where
  next_item : turn < end → all ≡ read_from text (suc (end - (turn + 1))) m n ts
  next_item h = same ∙ ap (λ (k : ℕ). read_from text k m n ts) (one_turn turn end h)

  pub item_fails : turn < end → 0 < length ts → item_at text (in_case m.inner.section) n ts ≡ None → all ≡ None
  item_fails h some e = next_item h ∙ taking_fails text (end - (turn + 1)) m n ts some e

  pub step_fails : turn < end → 0 < length ts → (x : Item) (more : ℕ) → item_at text (in_case m.inner.section) n ts ≡ Some (x, more) → step m x ≡ None → all ≡ None
  step_fails h some x more e f = next_item h ∙ making_fails text (end - (turn + 1)) m n ts x more some e f

  pub item_goes_on : turn < end → 0 < length ts → (x : Item) (more : ℕ) (p : Making) → item_at text (in_case m.inner.section) n ts ≡ Some (x, more) → step m x ≡ Some p → all ≡ read_from text (end - (turn + 1)) p (next x n) (drop more ts)
  item_goes_on h some x more p e f = next_item h ∙ taking_more text (end - (turn + 1)) m p n ts x more some e f

  pub all_read : length ts ≡ 0 → all ≡ Some m
  all_read none = same ∙ ap (read_from text (end - turn) m n) (nothing_left ts none) ∙ all_taken text (end - turn) m n
    where
      nothing_left : (ts : List Token) → length ts ≡ 0 → ts ≡ []
      nothing_left [] h = refl
      nothing_left (t ∷ ts) h = absurd (omega (arith, h))

  pub some_left : end ≤ turn → 0 < length ts → all ≡ None
  some_left h some = same ∙ ap (λ (k : ℕ). read_from text k m n ts) (no_turn turn end h) ∙ none_taken text m n ts some

  -- with the number and the tokens as a loop has them
  pub item_taken : turn < end → 0 < length ts → (x : Item) (more : ℕ) (p : Making) (number : ℕ) (left : List Token) → item_at text (in_case m.inner.section) n ts ≡ Some (x, more) → step m x ≡ Some p → number ≡ next x n → drop more ts ≡ left → all ≡ read_from text (end - (turn + 1)) p number left
  item_taken h some x more p number left e f is rest =
      item_goes_on h some x more p e f
      ∙ ap (λ (k : ℕ). read_from text (end - (turn + 1)) p k (drop more ts)) (sym is)
      ∙ ap (read_from text (end - (turn + 1)) p number) rest
