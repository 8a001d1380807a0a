-- Texts with backslashes: their parts against the scan.
use Rattle.std.proofs.Common.{◌≡◌, ℕ, ◌+◌, ◌≤◌, ◌==◌, ◌||◌, not, Bool, true, false, cond, List, [], ◌∷◌, ◌++◌, length, map, Option, Some, None, refl, sym, ap, subst, ◌∙◌, arith, inl, inr, ◌⊎◌, length-append, append_assoc, add-zero, IfSome}
use Rattle.std.proofs.lemmas.Bool.{eqb-true}
use Rattle.pl_lex.specs.Characters.{Text}
use Rattle.pl_lex.specs.Spellings.{Part, is_part, are_parts, spelled_part, spelled_parts, value_of_part, any_refused, is_refused, escape}
use Rattle.pl_lex.specs.Spellings as part
use Rattle.pl_lex.specs.declared.escapes.Pending.{Pending}
use Rattle.pl_lex.specs.declared.escapes.Pending.TheVariants.{Nothing, Quote, Backslash}
use Rattle.pl_lex.specs.Scan.{opened_by, close_escape_text, has_refused, unescaped}
use Rattle.pl_lex.proofs.Tools.{and_left, and_right, and-true, cond_then, cond_else}
use Rattle.pl_lex.proofs.QuotedTexts.{Closing, here, later, never}

-- ---- a plain character

pub record IsPlain (b : ℕ) : Type 0 where
  pub no_quote : (b == 39) ≡ false
  pub no_backslash : (b == 92) ≡ false

plain_is : (x y : Bool) → not (x || y) ≡ true → (x ≡ false) × (y ≡ false)
plain_is true y h = absurd (cc)
plain_is false true h = absurd (cc)
plain_is false false h = (refl, refl)

is_plain : (b : ℕ) → is_part (part.plain b) ≡ true → IsPlain b
is_plain b h = let k = plain_is (b == 39) (b == 92) h in record { no_quote = k.0; no_backslash = k.1 }

plain_part : (b : ℕ) → (b == 39) ≡ false → (b == 92) ≡ false → is_part (part.plain b) ≡ true
plain_part b h k = rw (h, k) refl

opens_nothing : (b : ℕ) → IsPlain b → opened_by b ≡ Nothing
opens_nothing b h = cond_else (b == 39) _ _ h.no_quote ∙ cond_else (b == 92) _ _ h.no_backslash

-- ---- the scan passes each part

abbrev Passes : ℕ → Text → Text → Type 0
Passes at text rest = close_escape_text Nothing at (text ++ rest) ≡ close_escape_text Nothing (at + length text) rest

passes_part : (p : Part) (at : ℕ) (rest : Text) → is_part p ≡ true → Passes at (spelled_part p) rest
passes_part (part.plain b) at rest h = ap (λ (s : Pending). close_escape_text s (at + 1) rest) (opens_nothing b (is_plain b h))
passes_part part.quotes at rest h = ap (λ (n : ℕ). close_escape_text Nothing n rest) two
  where
    two : at + 1 + 1 ≡ at + 2
    two = omega arith
passes_part (part.escaped b) at rest h = ap (λ (n : ℕ). close_escape_text Nothing n rest) two
  where
    two : at + 1 + 1 ≡ at + 2
    two = omega arith

pub passes_parts : (ps : List Part) (at : ℕ) (rest : Text) → are_parts ps ≡ true → Passes at (spelled_parts ps) rest
passes_parts [] at rest h = ap (λ (n : ℕ). close_escape_text Nothing n rest) (sym (add-zero at))
passes_parts (p ∷ ps) at rest h =
    let one : is_part p ≡ true = and_left (is_part p) _ h in
    let more : are_parts ps ≡ true = and_right (is_part p) _ h in
    let n : at + length (spelled_part p) + length (spelled_parts ps) ≡ at + length (spelled_part p ++ spelled_parts ps) = omega (arith, length-append (spelled_part p) (spelled_parts ps)) in
    ap (λ (t : Text). close_escape_text Nothing at t) (append_assoc (spelled_part p) (spelled_parts ps) rest)
    ∙ passes_part p at (spelled_parts ps ++ rest) one
    ∙ passes_parts ps (at + length (spelled_part p)) rest more
    ∙ ap (λ (n : ℕ). close_escape_text Nothing n rest) n

-- ---- what the parts stand for

pub unescaped_parts : (ps : List Part) → are_parts ps ≡ true → unescaped Nothing (spelled_parts ps) ≡ map value_of_part ps
unescaped_parts [] h = refl
unescaped_parts (part.plain b ∷ ps) h =
    let k = is_plain b (and_left (is_part (part.plain b)) _ h) in
    let ih : unescaped Nothing (spelled_parts ps) ≡ map value_of_part ps = unescaped_parts ps (and_right (is_part (part.plain b)) _ h) in
    cond_else (b == 92) _ _ k.no_backslash ∙ ap (λ (s : Pending). b ∷ unescaped s (spelled_parts ps)) (opens_nothing b k) ∙ ap (λ (t : Text). b ∷ t) ih
unescaped_parts (part.quotes ∷ ps) h = ap (λ (t : Text). 39 ∷ t) (unescaped_parts ps h)
unescaped_parts (part.escaped b ∷ ps) h = ap (λ (t : Text). escape b ∷ t) (unescaped_parts ps h)

pub refused_parts : (ps : List Part) → are_parts ps ≡ true → has_refused Nothing (spelled_parts ps) ≡ any_refused ps
refused_parts [] h = refl
refused_parts (part.plain b ∷ ps) h = ap (λ (s : Pending). has_refused s (spelled_parts ps)) (opens_nothing b (is_plain b (and_left (is_part (part.plain b)) _ h))) ∙ refused_parts ps (and_right (is_part (part.plain b)) _ h)
refused_parts (part.quotes ∷ ps) h = refused_parts ps h
refused_parts (part.escaped b ∷ ps) h = ap (λ (c : Bool). is_refused b || c) (refused_parts ps h)

-- ---- it closes no earlier than it looks

weaker : (at : ℕ) (o : Option ℕ) → IfSome o (λ end. at + 1 ≤ end) → IfSome o (λ end. at ≤ end)
weaker at None h = tt
weaker at (Some e) h = omega arith

either : (at : ℕ) (c : Bool) (o : Option ℕ) → IfSome o (λ end. at + 1 ≤ end) → IfSome (cond c o (Some at)) (λ end. at ≤ end)
either at true o h = weaker at o h
either at false o h = omega arith

pub escape-after : (open_ : Pending) (at : ℕ) (t : Text) → IfSome (close_escape_text open_ at t) (λ end. at ≤ end)
escape-after Nothing at [] = tt
escape-after Quote at [] = omega arith
escape-after Backslash at [] = tt
escape-after Nothing at (b ∷ bs) = weaker at (close_escape_text (opened_by b) (at + 1) bs) (escape-after (opened_by b) (at + 1) bs)
escape-after Quote at (b ∷ bs) = either at (b == 39) (close_escape_text Nothing (at + 1) bs) (escape-after Nothing (at + 1) bs)
escape-after Backslash at (b ∷ bs) = weaker at (close_escape_text Nothing (at + 1) bs) (escape-after Nothing (at + 1) bs)

-- ---- behind parts and a quote: it closes there, or later, or not at all

quote_closing : (end : ℕ) (rest : Text) → Closing end rest (close_escape_text Quote end rest)
quote_closing end [] = here refl
quote_closing end (b ∷ bs) = go (b == 39) (close_escape_text Nothing (end + 1) bs) (escape-after Nothing (end + 1) bs)
  where
    go : (c : Bool) (o : Option ℕ) → IfSome o (λ other. end + 1 ≤ other) → Closing end (b ∷ bs) (cond c o (Some end))
    go true None h = never (omega arith) refl
    go true (Some other) h = later other (omega arith) refl
    go false o h = here refl

pub parts_closing : (e : ℕ) (ps : List Part) (rest : Text) → are_parts ps ≡ true → Closing (length (e ∷ 39 ∷ (spelled_parts ps ++ 39 ∷ []))) rest (close_escape_text Nothing 2 ((spelled_parts ps ++ 39 ∷ []) ++ rest))
parts_closing e ps rest h =
    let regroup : (spelled_parts ps ++ 39 ∷ []) ++ rest ≡ spelled_parts ps ++ (39 ∷ rest) = append_assoc (spelled_parts ps) (39 ∷ []) rest in
    let found : close_escape_text Nothing 2 ((spelled_parts ps ++ 39 ∷ []) ++ rest) ≡ close_escape_text Quote (2 + length (spelled_parts ps) + 1) rest = ap (λ (t : Text). close_escape_text Nothing 2 t) regroup ∙ passes_parts ps 2 (39 ∷ rest) h in
    let n : 2 + length (spelled_parts ps) + 1 ≡ length (e ∷ 39 ∷ (spelled_parts ps ++ 39 ∷ [])) = omega (arith, length-append (spelled_parts ps) (39 ∷ [])) in
    let P : Option ℕ → Type 0 = λ o. Closing (length (e ∷ 39 ∷ (spelled_parts ps ++ 39 ∷ []))) rest o in
    subst P (sym (found ∙ ap (λ (n : ℕ). close_escape_text Quote n rest) n)) (quote_closing (length (e ∷ 39 ∷ (spelled_parts ps ++ 39 ∷ []))) rest)

pub never_closing : (ps : List Part) (last : Text) → are_parts ps ≡ true → (last ≡ []) ⊎ (last ≡ 92 ∷ []) → close_escape_text Nothing 2 (spelled_parts ps ++ last) ≡ None
never_closing ps last h (inl e) = ap (λ (t : Text). close_escape_text Nothing 2 (spelled_parts ps ++ t)) e ∙ passes_parts ps 2 [] h
never_closing ps last h (inr e) = ap (λ (t : Text). close_escape_text Nothing 2 (spelled_parts ps ++ t)) e ∙ passes_parts ps 2 (92 ∷ []) h

-- ---- what the scan says of the text before

pub data Unescaped (at : ℕ) (u : Text) (o : Option ℕ) : Type 0 where
  closed_at : (ps : List Part) (rest : Text) → are_parts ps ≡ true → u ≡ spelled_parts ps ++ (39 ∷ rest) → o ≡ Some (at + length (spelled_parts ps) + 1) → Unescaped at u o
  open_all : (ps : List Part) (last : Text) → are_parts ps ≡ true → (last ≡ []) ⊎ (last ≡ 92 ∷ []) → u ≡ spelled_parts ps ++ last → o ≡ None → Unescaped at u o

by_end : {at : ℕ} {u : Text} {o p : Option ℕ} → o ≡ p → Unescaped at u p → Unescaped at u o
by_end e u = rw e u

with_part : (p : Part) (at : ℕ) (u us : Text) (o : Option ℕ) → is_part p ≡ true → u ≡ spelled_part p ++ us → Unescaped (at + length (spelled_part p)) us o → Unescaped at u o
with_part p at u us o h is (closed_at ps rest all more end) =
    let n : at + length (spelled_part p) + length (spelled_parts ps) + 1 ≡ at + length (spelled_part p ++ spelled_parts ps) + 1 = omega (arith, length-append (spelled_part p) (spelled_parts ps)) in
    closed_at (p ∷ ps) rest (and-true (is_part p) _ h all) (is ∙ ap (λ (t : Text). spelled_part p ++ t) more ∙ sym (append_assoc (spelled_part p) (spelled_parts ps) (39 ∷ rest))) (end ∙ ap (λ k. Some k) n)
with_part p at u us o h is (open_all ps last all l more end) =
    open_all (p ∷ ps) last (and-true (is_part p) _ h all) l (is ∙ ap (λ (t : Text). spelled_part p ++ t) more ∙ sym (append_assoc (spelled_part p) (spelled_parts ps) last)) end

one_more : (at : ℕ) → at + 1 + 1 ≡ at + 2
one_more at = omega arith

-- a byte by itself
last_byte : (b at : ℕ) (x y : Bool) → (b == 39) ≡ x → (b == 92) ≡ y → Unescaped at (b ∷ []) (close_escape_text Nothing at (b ∷ []))
last_byte b at true y e k =
    let q : b ≡ 39 = eqb-true b 39 e in
    by_end (ap (λ (s : Pending). close_escape_text s (at + 1) []) (cond_then (b == 39) _ _ e)) (closed_at [] [] refl (ap (λ x. x ∷ []) q) (ap (λ k. Some k) (omega arith)))
last_byte b at false true e k =
    let q : b ≡ 92 = eqb-true b 92 k in
    by_end (ap (λ (s : Pending). close_escape_text s (at + 1) []) (cond_else (b == 39) _ _ e ∙ cond_then (b == 92) _ _ k)) (open_all [] (92 ∷ []) refl (inr refl) (ap (λ x. x ∷ []) q) refl)
last_byte b at false false e k =
    by_end (ap (λ (s : Pending). close_escape_text s (at + 1) []) (opens_nothing b (record { no_quote = e; no_backslash = k }))) (open_all (part.plain b ∷ []) [] (and-true _ _ (plain_part b e k) refl) (inl refl) refl refl)

-- a quote, and another character or a second quote
quoted_byte : (c at : ℕ) (us : Text) (x : Bool) → (c == 39) ≡ x → Unescaped (at + 2) us (close_escape_text Nothing (at + 2) us) → Unescaped at (39 ∷ c ∷ us) (close_escape_text Quote (at + 1) (c ∷ us))
quoted_byte c at us true e two =
    by_end (cond_then (c == 39) _ _ e ∙ ap (λ (n : ℕ). close_escape_text Nothing n us) (one_more at)) (with_part part.quotes at (39 ∷ c ∷ us) us _ refl (ap (λ x. 39 ∷ x ∷ us) (eqb-true c 39 e)) two)
quoted_byte c at us false e two =
    by_end (cond_else (c == 39) _ _ e) (closed_at [] (c ∷ us) refl refl (ap (λ k. Some k) (omega arith)))

first_byte : (b c at : ℕ) (us : Text) (x y : Bool) → (b == 39) ≡ x → (b == 92) ≡ y → Unescaped (at + 2) us (close_escape_text Nothing (at + 2) us) → Unescaped (at + 1) (c ∷ us) (close_escape_text Nothing (at + 1) (c ∷ us)) → Unescaped at (b ∷ c ∷ us) (close_escape_text Nothing at (b ∷ c ∷ us))
first_byte b c at us true y e k two one =
    let q : b ≡ 39 = eqb-true b 39 e in
    let P : ℕ → Type 0 = λ x. Unescaped at (x ∷ c ∷ us) (close_escape_text Nothing at (x ∷ c ∷ us)) in
    subst P (sym q) (quoted_byte c at us (c == 39) refl two)
first_byte b c at us false true e k two one =
    let q : b ≡ 92 = eqb-true b 92 k in
    by_end (ap (λ (s : Pending). close_escape_text s (at + 1) (c ∷ us)) (cond_else (b == 39) _ _ e ∙ cond_then (b == 92) _ _ k) ∙ ap (λ (n : ℕ). close_escape_text Nothing n us) (one_more at)) (with_part (part.escaped c) at (b ∷ c ∷ us) us _ refl (ap (λ x. x ∷ c ∷ us) q) two)
first_byte b c at us false false e k two one =
    by_end (ap (λ (s : Pending). close_escape_text s (at + 1) (c ∷ us)) (opens_nothing b (record { no_quote = e; no_backslash = k }))) (with_part (part.plain b) at (b ∷ c ∷ us) (c ∷ us) _ (plain_part b e k) refl one)

pub unescape : (u : Text) (at : ℕ) → Unescaped at u (close_escape_text Nothing at u)
unescape [] at = open_all [] [] refl (inl refl) refl refl
unescape (b ∷ []) at = last_byte b at (b == 39) (b == 92) refl refl
unescape (b ∷ c ∷ us) at = first_byte b c at us (b == 39) (b == 92) refl refl (unescape us (at + 2)) (unescape (c ∷ us) (at + 1))
