-- How what a rule spells begins.
use Rattle.std.proofs.Common.{◌≡◌, ℕ, zero, suc, Bool, true, false, ◌&&◌, ◌||◌, if◌then◌else◌, List, [], ◌∷◌, ◌++◌, Some, refl, sym, ap, ◌∙◌}
use Rattle.pl_lex.specs.declared.token.TokenKind.{TokenKind}
use Rattle.pl_lex.specs.declared.token.TokenKind.TheVariants as kind
use Rattle.pl_grammar.specs.Marks.{Tokens, Mark, marked, Sort, a_name, a_number, a_text, a_parameter, a_label, a_written_name, a_table_name, a_bare_alias, Carried, carried, mark_of, among}
use Rattle.pl_grammar.specs.Parser.{Parser}
use Rattle.pl_grammar.specs.Relations.{Rel, carries, both, behind_mark, before_mark, made, checked, empty, there, absent, with_mark, without, first, second, preferred, otherwise, no_link, joined, unlinked, linked, Many, no_more, one_more}
use Rattle.pl_grammar.specs.Rule.{Rule, part, inside, given, one, nothing, maybe, ◌before◌, ◌until◌, ◌then◌, make, check, fork, ◌or◌, ahead, prefer, links, link, many, Spelled, Within, FirstFollow, nullable, starts, read_inside, read_part}
use Rattle.pl_grammar.specs.Fit.{included, Begun, Told, Fit}
use Rattle.pl_grammar.proofs.Sets.{among_here, among_more, among_left, among_right, included_among, table_among}

carried_marked : (s : Sort) (t : TokenKind) (a : Carried s) → carried s t ≡ Some a → marked (mark_of s) t ≡ true
carried_marked a_name (kind.Word n) a h = refl
carried_marked a_number (kind.Number n) a h = refl
carried_marked a_text (kind.Text n) a h = refl
carried_marked a_parameter (kind.Parameter n) a h = refl
carried_marked a_label (kind.Word n) a h = refl
carried_marked a_label (kind.Quoted n) a h = refl
carried_marked a_label (kind.Keyword k) a h = refl
carried_marked a_written_name (kind.Word n) a h = refl
carried_marked a_written_name (kind.Quoted n) a h = refl
carried_marked a_table_name (kind.Word n) a h = refl
carried_marked a_table_name (kind.Quoted n) a h = refl
carried_marked a_bare_alias (kind.Word n) a h = refl
carried_marked a_bare_alias (kind.Quoted n) a h = refl
carried_marked s t a h = cc

begun_then : (ss us : List Mark) (a b : Bool) (xs ys : Tokens) → Begun ss a xs → Begun us b ys → Begun (ss ++ (if a then us else [])) (a && b) (xs ++ ys)
begun_then ss us a b [] [] h k = ap (λ a. a && b) h ∙ k
begun_then ss us a b [] (t ∷ ys) h k = ap (λ a. among (ss ++ (if a then us else [])) t) h ∙ among_right ss us t k
begun_then ss us a b (t ∷ xs) ys h k = among_left ss (if a then us else []) t h

begun_until : (ss : List Mark) (m : Mark) (a : Bool) (t : TokenKind) (xs : Tokens) → Begun ss a xs → marked m t ≡ true → Begun (ss ++ (if a then m ∷ [] else [])) false (xs ++ t ∷ [])
begun_until ss m a t [] h k = ap (λ a. among (ss ++ (if a then m ∷ [] else [])) t) h ∙ among_right ss (m ∷ []) t (among_here m [] t k)
begun_until ss m a t (u ∷ xs) h k = among_left ss (if a then m ∷ [] else []) u h

or_right : (a b : Bool) → b ≡ true → (a || b) ≡ true
or_right true b h = refl
or_right false b h = h

begun_first : (ss us : List Mark) (a b : Bool) (xs : Tokens) → Begun ss a xs → Begun (ss ++ us) (a || b) xs
begun_first ss us a b [] h = ap (λ a. a || b) h
begun_first ss us a b (t ∷ xs) h = among_left ss us t h

begun_second : (ss us : List Mark) (a b : Bool) (xs : Tokens) → Begun us b xs → Begun (ss ++ us) (a || b) xs
begun_second ss us a b [] h = or_right a b h
begun_second ss us a b (t ∷ xs) h = among_right ss us t h

begun_without : (m : Mark) (ss : List Mark) (a : Bool) (xs : Tokens) → Begun ss a xs → Begun (m ∷ ss) a xs
begun_without m ss a [] h = h
begun_without m ss a (t ∷ xs) h = among_more m ss t h

begun_more : (ss : List Mark) (a : Bool) (xs ys : Tokens) → Begun ss a xs → Begun ss true ys → Begun ss true (xs ++ ys)
begun_more ss a [] ys h k = k
begun_more ss a (t ∷ xs) ys h k = h

pub many_begun : {A : Type 0} (Item : Rel A) (ss : List Mark) (a : Bool) → ((x : A) (xs : Tokens) → Item x xs → Begun ss a xs) → (all : List A) (xs : Tokens) → Many Item all xs → Begun ss true xs
many_begun Item ss a begin all front no_more = refl
many_begun Item ss a begin all front (one_more {a = x} {xs = xs} {bs = more} {ys = ys} h k) = begun_more ss a xs ys (begin x xs h) (many_begun Item ss a begin more ys k)

begun_included : (ss us : List Mark) (a b : Bool) (xs : Tokens) → included ss us ≡ true → a ≡ b → Begun ss a xs → Begun us b xs
begun_included ss us a b [] i e h = sym e ∙ h
begun_included ss us a b (t ∷ xs) i e h = included_among ss us t i h

module _ {Part : Type 0} {Tree : Part → Type 0} (e : FirstFollow Part) (R : (p : Part) → Rel (Tree p)) (inner here : (p : Part) → Parser (Tree p))
    (begin : (p : Part) (a : Tree p) (xs : Tokens) → R p a xs → Begun (e.firsts p) (e.empty p) xs) where
  pub begun : {A : Type 0} (r : Rule Tree A) → Told e R inner here r → (a : A) (xs : Tokens) → Spelled R r a xs → Begun (starts e r) (nullable e r) xs
  begun (part p) l a xs h = begin p a xs h
  begun (inside p) l a xs h = begin p a xs h
  begun (given g) l a xs h = l.begun a xs h
  begun (one s) l a xs (carries {t = t} h) = among_here (mark_of s) [] t (carried_marked s t a h)
  begun (nothing x) l a xs empty = refl
  begun (maybe m) l a xs (there {t = t} h) = among_here m [] t h
  begun (maybe m) l a xs absent = refl
  begun (◌before◌ m r) l a xs (behind_mark {t = t} h k) = among_here m [] t h
  begun (◌until◌ r m) l a xs (before_mark t {xs = ys} h k) = begun_until (starts e r) m (nullable e r) t ys (begun r l a ys h) k
  begun (◌then◌ r s) l c xs (both {a = a} {b = b} {xs = ys} {ys = zs} h k) = begun_then (starts e r) (starts e s) (nullable e r) (nullable e s) ys zs (begun r l.0 a ys h) (begun s l.1 b zs k)
  begun (make f r) l b xs (made {a = a} h) = begun r l a xs h
  begun (check f r) l b xs (checked {a = a} h k) = begun r l a xs h
  begun (fork m r s) l a xs (with_mark {t = t} h k) = among_here m (starts e s) t h
  begun (fork m r s) l a xs (without h) = begun_without m (starts e s) (nullable e s) xs (begun s l.1 a xs h)
  begun (◌or◌ r s) l a xs (first h) = begun_first (starts e r) (starts e s) (nullable e r) (nullable e s) xs (begun r l.0 a xs h)
  begun (◌or◌ r s) l a xs (second h) = begun_second (starts e r) (starts e s) (nullable e r) (nullable e s) xs (begun s l.1 a xs h)
  begun (ahead test marks r s) l a xs (first h) = begun_first (starts e r) (starts e s) (nullable e r) (nullable e s) xs (begun r l.0 a xs h)
  begun (ahead test marks r s) l a xs (second h) = begun_second (starts e r) (starts e s) (nullable e r) (nullable e s) xs (begun s l.1 a xs h)
  begun (prefer test marks r s) l a xs (preferred h) = begun_first (starts e r) (starts e s) (nullable e r) (nullable e s) xs (begun r l.0 a xs h)
  begun (prefer test marks r s) l a xs (otherwise fails h) = begun_second (starts e r) (starts e s) (nullable e r) (nullable e s) xs (begun s l.1 a xs h)
  begun (links table r f) l bs xs no_link = refl
  begun (links table r f) l bs xs (joined {o = o} {t = t} h k more) = table_among table t o h
  begun (link table r f) l b xs unlinked = refl
  begun (link table r f) l b xs (linked {o = o} {t = t} h k) = table_among table t o h
  begun (many r) l bs xs h = many_begun (Spelled R r) (starts e r) (nullable e r) (begun r l) bs xs h

pub part_begun : {Part : Type 0} {Tree : Part → Type 0} (rule : (p : Part) → Rule Tree (Tree p)) (e : FirstFollow Part) → ((p : Part) → Fit rule e p) → (h : ℕ) (p : Part) (a : Tree p) (xs : Tokens) → Within rule h p a xs
    → Begun (e.firsts p) (e.empty p) xs
part_begun rule e fit zero p a xs k = absurd k
part_begun rule e fit (suc h) p a xs k =
    let f = fit p in
    begun_included (starts e (rule p)) (e.firsts p) (nullable e (rule p)) (e.empty p) xs f.firsts f.begun (begun e (Within rule h) (read_inside rule e 0) (read_part rule e 0) (part_begun rule e fit h) (rule p) (f.told h 0) a xs k)
