-- The failure of the least name is the same, in whatever order two of three are compared first.
use Rattle.std.proofs.Common.{◌≡◌, refl, sym, ap, ◌∙◌, ℕ, Bool, true, false, List, Option, Some, None}
use Rattle.std.proofs.lemmas.Cmp.{nat_list_cmp_total, upto}
use Rattle.std.specs.Cmp.Lexicographic.{slice_cmp}
use Rattle.std.specs.Ordering.{is_gt, is_lt, nat_cmp, ordering_reverse}
use Rattle.std.specs.declared.cmp.Ordering.{Ordering}
use Rattle.std.specs.declared.cmp.Ordering.TheVariants.{Less, Equal, Greater}
use Rattle.pl_rules.specs.Rules.{is_before, lesser}
use Rattle.pl_rules.specs.declared.rules.Failure.{Failure}

pub lesser_none : (f : Option Failure) → lesser f None ≡ f
lesser_none None = refl
lesser_none (Some f) = refl

less : (o : Ordering) → is_lt o ≡ true → o ≡ Less
less Less h = refl
less Equal h = cc
less Greater h = cc

turned_back : (o : Ordering) → is_lt (ordering_reverse o) ≡ is_gt o
turned_back Less = refl
turned_back Equal = refl
turned_back Greater = refl

turned : (a b : List ℕ) → is_before a b ≡ is_gt (slice_cmp nat_cmp b a)
turned a b = ap is_lt (nat_list_cmp_total.antisymm a b) ∙ turned_back (slice_cmp nat_cmp b a)

before_all : (a b c : List ℕ) → is_before a b ≡ true → is_before b c ≡ true → is_before a c ≡ true
before_all a b c p q =
    ap is_lt (nat_list_cmp_total.trans a b c (less (slice_cmp nat_cmp a b) p) (less (slice_cmp nat_cmp b c) q))

not_before : (a b c : List ℕ) → is_before a b ≡ false → is_before b c ≡ false → is_before a c ≡ false
not_before a b c p q =
    turned a c ∙ upto nat_list_cmp_total c b a (sym (turned b c) ∙ q) (sym (turned a b) ∙ p)

three : (f g h : Failure) (gf hg hf : Bool) → is_before g.rule f.rule ≡ gf → is_before h.rule g.rule ≡ hg → is_before h.rule f.rule ≡ hf
    → lesser (lesser (Some f) (Some g)) (Some h) ≡ lesser (Some f) (lesser (Some g) (Some h))
three f g h true true true p q r = simp (p, q, r)
three f g h true true false p q r =
    let e : is_before h.rule f.rule ≡ true = before_all h.rule g.rule f.rule q p in cc (e, r)
three f g h true false hf p q r = simp (p, q)
three f g h false true hf p q r = simp (p, q)
three f g h false false true p q r =
    let e : is_before h.rule f.rule ≡ false = not_before h.rule g.rule f.rule q p in cc (e, r)
three f g h false false false p q r = simp (p, q, r)

pub lesser_assoc : (f g h : Option Failure) → lesser (lesser f g) h ≡ lesser f (lesser g h)
lesser_assoc None g h = refl
lesser_assoc (Some f) None h = refl
lesser_assoc (Some f) (Some g) None = lesser_none (lesser (Some f) (Some g))
lesser_assoc (Some f) (Some g) (Some h) =
    three f g h (is_before g.rule f.rule) (is_before h.rule g.rule) (is_before h.rule f.rule) refl refl refl

pub further : (found made next failure rest : Option Failure) → made ≡ failure → next ≡ lesser found made → lesser found (lesser failure rest) ≡ lesser next rest
further found made next failure rest is_made is_next =
    sym (lesser_assoc found failure rest)
    ∙ ap (λ (f : Option Failure). lesser f rest) (ap (lesser found) (sym is_made) ∙ sym is_next)
