-- Sets of marks.
use Rattle.std.proofs.Common.{◌≡◌, ℕ, Bool, true, false, not, ◌&&◌, ◌||◌, ◌==◌, if◌then◌else◌, ◌⊎◌, inl, inr, List, [], ◌∷◌, ◌++◌, Some, None, rules, refl, sym, ap, ◌∙◌}
use Rattle.std.proofs.lemmas.Bool.{eqb-true}
use denote.Enum.Bare.{same_true}
use Rattle.pl_lex.specs.contracts.keyword.Keyword.{the_type as keyword_type}
use Rattle.pl_lex.specs.contracts.sign.Sign.{the_type as sign_type}
use Rattle.pl_lex.specs.declared.keyword.Keyword.{Keyword}
use Rattle.pl_lex.specs.declared.sign.Sign.{Sign}
use Rattle.pl_lex.specs.declared.token.TokenKind.{TokenKind}
use Rattle.pl_lex.specs.declared.token.TokenKind.TheVariants as kind
use Rattle.pl_grammar.specs.Marks.{Tokens, Mark, keyword, sign, word, name, number, text, parameter, label, same_keyword, same_sign, same_text, marked, among, joined_by}
use Rattle.pl_grammar.specs.Rule.{words}
use Rattle.pl_grammar.specs.Fit.{apart, apart_all, clear, same_mark, member, included, Ends}

-- ---- Booleans

pub and_true : (a b : Bool) → (a && b) ≡ true → (a ≡ true) × (b ≡ true)
and_true true b h = (refl, h)
and_true false b h = absurd (cc)

pub not_true : (b : Bool) → not b ≡ true → b ≡ false
not_true true h = absurd (cc)
not_true false h = refl

pub either_true : (a b : Bool) → (if a then true else b) ≡ true → (a ≡ true) ⊎ (b ≡ true)
either_true true b h = inl refl
either_true false b h = inr h

pub either_false : (a b : Bool) → (if a then true else b) ≡ false → (a ≡ false) × (b ≡ false)
either_false true b h = absurd (cc)
either_false false b h = (refl, h)

pub false_unless : (b : Bool) → (b ≡ true → ⊥) → b ≡ false
false_unless true h = absurd (h refl)
false_unless false h = refl

-- ---- equal marks

keyword_is : (a b : Keyword) → same_keyword a b ≡ true → a ≡ b
unfolding same_keyword
keyword_is a b h = same_true keyword_type (search rules) a b h

sign_is : (a b : Sign) → same_sign a b ≡ true → a ≡ b
unfolding same_sign
sign_is a b h = same_true sign_type (search rules) a b h

text_is : (xs ys : List ℕ) → same_text xs ys ≡ true → xs ≡ ys
text_is [] [] h = refl
text_is [] (y ∷ ys) h = absurd (cc)
text_is (x ∷ xs) [] h = absurd (cc)
text_is (x ∷ xs) (y ∷ ys) h =
    let two = and_true (x == y) (same_text xs ys) h in
    let first = eqb-true x y two.0 in
    let more = text_is xs ys two.1 in
    cc

pub mark_is : (m n : Mark) → same_mark m n ≡ true → m ≡ n
mark_is (keyword k) (keyword l) h = ap keyword (keyword_is k l h)
mark_is (sign s) (sign t) h = ap sign (sign_is s t h)
mark_is (word v) (word w) h = ap word (text_is v w h)
mark_is name name h = refl
mark_is number number h = refl
mark_is text text h = refl
mark_is parameter parameter h = refl
mark_is label label h = refl
mark_is m n h = absurd (cc)

-- ---- marks that no token shares

keyword_off : (m n : Mark) (j : Keyword) → apart m n ≡ true → marked m (kind.Keyword j) ≡ true → marked n (kind.Keyword j) ≡ false
keyword_off (keyword k) (keyword l) j a h = ap (λ (j : Keyword). same_keyword j l) (keyword_is j k h) ∙ not_true (same_keyword k l) a
keyword_off label (keyword l) j a h = cc
keyword_off label label j a h = cc
keyword_off m n j a h = cc

sign_off : (m n : Mark) (j : Sign) → apart m n ≡ true → marked m (kind.Sign j) ≡ true → marked n (kind.Sign j) ≡ false
sign_off (sign r) (sign s) j a h = ap (λ (j : Sign). same_sign j s) (sign_is j r h) ∙ not_true (same_sign r s) a
sign_off m n j a h = cc

word_off : (m n : Mark) (x : List ℕ) → apart m n ≡ true → marked m (kind.Word x) ≡ true → marked n (kind.Word x) ≡ false
word_off (word v) (word w) x a h = ap (λ (x : List ℕ). same_text x w) (text_is x v h) ∙ not_true (same_text v w) a
word_off name (word w) x a h = cc
word_off label (word w) x a h = cc
word_off label name x a h = cc
word_off label label x a h = cc
word_off name label x a h = cc
word_off m n x a h = cc

pub apart_off : (m n : Mark) (t : TokenKind) → apart m n ≡ true → marked m t ≡ true → marked n t ≡ false
apart_off m n (kind.Keyword j) a h = keyword_off m n j a h
apart_off m n (kind.Sign j) a h = sign_off m n j a h
apart_off m n (kind.Word x) a h = word_off m n x a h
apart_off name name (kind.Quoted x) a h = cc
apart_off label name (kind.Quoted x) a h = cc
apart_off name label (kind.Quoted x) a h = cc
apart_off label label (kind.Quoted x) a h = cc
apart_off number number (kind.Number x) a h = cc
apart_off text text (kind.Text x) a h = cc
apart_off text text (kind.EscapeText x) a h = cc
apart_off text text (kind.DollarText x) a h = cc
apart_off parameter parameter (kind.Parameter x) a h = cc
apart_off m n t a h = cc

pub apart_all_off : (m : Mark) (ns : List Mark) (t : TokenKind) → apart_all m ns ≡ true → marked m t ≡ true → among ns t ≡ false
apart_all_off m [] t a h = refl
apart_all_off m (n ∷ ns) t a h =
    let two = and_true (apart m n) (apart_all m ns) a in
    ap (λ b. if b then true else among ns t) (apart_off m n t two.0 h) ∙ apart_all_off m ns t two.1 h

pub unmarked : (m : Mark) (ns : List Mark) (t : TokenKind) → apart_all m ns ≡ true → among ns t ≡ true → marked m t ≡ false
unmarked m ns t a h = false_unless (marked m t) (λ k. let off = apart_all_off m ns t a k in cc)

clear_at : (m : Mark) (ms ns : List Mark) (t : TokenKind) → apart_all m ns ≡ true → (among ms t ≡ true → among ns t ≡ false) → (marked m t ≡ true) ⊎ (among ms t ≡ true) → among ns t ≡ false
clear_at m ms ns t a more (inl h) = apart_all_off m ns t a h
clear_at m ms ns t a more (inr h) = more h

pub clear_off : (ms ns : List Mark) (t : TokenKind) → clear ms ns ≡ true → among ms t ≡ true → among ns t ≡ false
clear_off [] ns t c h = absurd (cc)
clear_off (m ∷ ms) ns t c h =
    let two = and_true (apart_all m ns) (clear ms ns) c in
    clear_at m ms ns t two.0 (clear_off ms ns t two.1) (either_true (marked m t) (among ms t) h)

pub clear_off_left : (ms ns : List Mark) (t : TokenKind) → clear ms ns ≡ true → among ns t ≡ true → among ms t ≡ false
clear_off_left ms ns t c h = false_unless (among ms t) (λ k. let off = clear_off ms ns t c k in cc)

-- ---- sets of several marks

pub among_here : (m : Mark) (ms : List Mark) (t : TokenKind) → marked m t ≡ true → among (m ∷ ms) t ≡ true
among_here m ms t h = ap (λ b. if b then true else among ms t) h

among_more_at : (b c : Bool) → c ≡ true → (if b then true else c) ≡ true
among_more_at true c h = refl
among_more_at false c h = h

pub among_more : (m : Mark) (ms : List Mark) (t : TokenKind) → among ms t ≡ true → among (m ∷ ms) t ≡ true
among_more m ms t h = among_more_at (marked m t) (among ms t) h

among_left_at : (m : Mark) (ms ns : List Mark) (t : TokenKind) → (among ms t ≡ true → among (ms ++ ns) t ≡ true) → (marked m t ≡ true) ⊎ (among ms t ≡ true) → among (m ∷ (ms ++ ns)) t ≡ true
among_left_at m ms ns t more (inl h) = among_here m (ms ++ ns) t h
among_left_at m ms ns t more (inr h) = among_more m (ms ++ ns) t (more h)

pub among_left : (ms ns : List Mark) (t : TokenKind) → among ms t ≡ true → among (ms ++ ns) t ≡ true
among_left [] ns t h = absurd (cc)
among_left (m ∷ ms) ns t h = among_left_at m ms ns t (among_left ms ns t) (either_true (marked m t) (among ms t) h)

pub among_right : (ms ns : List Mark) (t : TokenKind) → among ns t ≡ true → among (ms ++ ns) t ≡ true
among_right [] ns t h = h
among_right (m ∷ ms) ns t h = among_more m (ms ++ ns) t (among_right ms ns t h)

pub among_off : (ms ns : List Mark) (t : TokenKind) → among (ms ++ ns) t ≡ false → (among ms t ≡ false) × (among ns t ≡ false)
among_off [] ns t h = (refl, h)
among_off (m ∷ ms) ns t h =
    let two = either_false (marked m t) (among (ms ++ ns) t) h in
    let more = among_off ms ns t two.1 in
    (ap (λ b. if b then true else among ms t) two.0 ∙ more.0, more.1)

-- ---- included sets

among_member_at : (m n : Mark) (ns : List Mark) (t : TokenKind) (b : Bool) → same_mark m n ≡ b → (b || member m ns) ≡ true → marked m t ≡ true → (member m ns ≡ true → among ns t ≡ true) → among (n ∷ ns) t ≡ true
among_member_at m n ns t true e h k more = among_here n ns t (ap (λ (m : Mark). marked m t) (sym (mark_is m n e)) ∙ k)
among_member_at m n ns t false e h k more = among_more n ns t (more h)

pub among_member : (m : Mark) (ns : List Mark) (t : TokenKind) → member m ns ≡ true → marked m t ≡ true → among ns t ≡ true
among_member m [] t h k = absurd (cc)
among_member m (n ∷ ns) t h k = among_member_at m n ns t (same_mark m n) refl h k (λ i. among_member m ns t i k)

included_at : (m : Mark) (ms ns : List Mark) (t : TokenKind) → member m ns ≡ true → (among ms t ≡ true → among ns t ≡ true) → (marked m t ≡ true) ⊎ (among ms t ≡ true) → among ns t ≡ true
included_at m ms ns t i more (inl h) = among_member m ns t i h
included_at m ms ns t i more (inr h) = more h

pub included_among : (ms ns : List Mark) (t : TokenKind) → included ms ns ≡ true → among ms t ≡ true → among ns t ≡ true
included_among [] ns t i h = absurd (cc)
included_among (m ∷ ms) ns t i h =
    let two = and_true (member m ns) (included ms ns) i in
    included_at m ms ns t two.0 (included_among ms ns t two.1) (either_true (marked m t) (among ms t) h)

pub included_off : (ms ns : List Mark) (t : TokenKind) → included ms ns ≡ true → among ns t ≡ false → among ms t ≡ false
included_off ms ns t i h = false_unless (among ms t) (λ k. let there = included_among ms ns t i k in cc)

-- ---- what may follow

pub ends_both : (ms ns : List Mark) (rest : Tokens) → Ends (ms ++ ns) rest → Ends ms rest × Ends ns rest
ends_both ms ns [] h = (tt, tt)
ends_both ms ns (t ∷ ts) h = among_off ms ns t h

pub ends_included : (ms ns : List Mark) (rest : Tokens) → included ms ns ≡ true → Ends ns rest → Ends ms rest
ends_included ms ns [] i h = tt
ends_included ms ns (t ∷ ts) i h = included_off ms ns t i h

-- ---- the marks of a table

table_at : {O : Type 0} (e : Mark × O) (es : List (Mark × O)) (t : TokenKind) (o : O) (b : Bool) → marked e.0 t ≡ b → (if b then Some e.1 else joined_by es t) ≡ Some o
    → (joined_by es t ≡ Some o → among (words es) t ≡ true) → among (e.0 ∷ words es) t ≡ true
table_at e es t o true k h more = among_here e.0 (words es) t k
table_at e es t o false k h more = among_more e.0 (words es) t (more h)

pub table_among : {O : Type 0} (table : List (Mark × O)) (t : TokenKind) (o : O) → joined_by table t ≡ Some o → among (words table) t ≡ true
table_among [] t o h = absurd (cc)
table_among (e ∷ es) t o h = table_at e es t o (marked e.0 t) refl h (table_among es t o)

pub table_none : {O : Type 0} (table : List (Mark × O)) (t : TokenKind) → among (words table) t ≡ false → joined_by table t ≡ None
table_none [] t h = refl
table_none (e ∷ es) t h = let two = either_false (marked e.0 t) (among (words es) t) h in ap (λ b. if b then Some e.1 else joined_by es t) two.0 ∙ table_none es t two.1
