-- One tree, and no other.
use Rattle.std.proofs.Common.{◌≡◌, ℕ, zero, suc, ◌<◌, Bool, true, false, ◌||◌, List, [], ◌∷◌, ◌++◌, length, None, refl, sym, ap, ◌∙◌, subst, append-nil, arith}
use Rattle.pl_grammar.specs.Marks.{Tokens, Mark}
use Rattle.pl_grammar.specs.Parser.{Parser}
use Rattle.pl_grammar.specs.Relations.{Rel}
use Rattle.pl_grammar.specs.Rule.{Rule, FirstFollow, Within, SpelledBy, read, read_inside, read_part}
use Rattle.pl_grammar.specs.Fit.{Fit, included, stops, guarded}
use Rattle.pl_grammar.proofs.Tools.{Gives, Sound, same_pair}
use Rattle.pl_grammar.proofs.Sets.{ends_included}
use Rattle.pl_grammar.proofs.Begins.{part_begun}
use Rattle.pl_grammar.proofs.Complete.{Complete, first, later}

stricter : {A : Type 0} (n : ℕ) (p q : Parser A) (R : Rel A) (ms ns : List Mark) → included ms ns ≡ true → ((ts : Tokens) → q ts ≡ p ts) → Complete n p R ms → Complete n q R ns
stricter n p q R ms ns i same c a front rest h low end = same (front ++ rest) ∙ c a front rest h low (ends_included ms ns rest i end)

none_left : (ts : Tokens) → length ts ≡ 0 → ts ≡ []
none_left [] h = refl
none_left (t ∷ ts) h = absurd (omega arith)

module _ {Part : Type 0} {Tree : Part → Type 0} (rule : (p : Part) → Rule Tree (Tree p)) (e : FirstFollow Part) where
  inside_complete : (d : ℕ) (p : Part) (R : Rel (Tree p)) (ms : List Mark) → ((d : ℕ) → Complete (suc d) (read_part rule e d p) R ms) → Complete d (read_inside rule e d p) R ms
  unfolding read_inside read_part
  inside_complete zero p R ms c a front rest h low end = absurd (omega arith)
  inside_complete (suc d) p R ms c a front rest h low end = c d a front rest h low end

  module _ (fit : (p : Part) → Fit rule e p) (reads_is : (d : ℕ) (p : Part) (ts : Tokens) → read_part rule e d p ts ≡ read e (read_inside rule e d) (read_part rule e d) (rule p) ts) where
    complete_both : (h d : ℕ) (p : Part) → Complete d (read_part rule e d p) (Within rule h p) (e.follow_last p) × (e.behind p ≡ false → Complete (suc d) (read_part rule e d p) (Within rule h p) (e.follow_last p))
    complete_both zero d p = (λ a front rest k low end. absurd k, λ own a front rest k low end. absurd k)
    complete_both (suc h) d p =
        let f = fit p in
        let inner = λ (q : Part) (own : e.behind q ≡ false). inside_complete d q (Within rule h q) (e.follow_last q) (λ d. (complete_both h d q).1 own) in
        let all = λ (q : Part). (complete_both h d q).0 in
        let own = λ (q : Part). (complete_both h d q).1 in (
          stricter d (read e (read_inside rule e d) (read_part rule e d) (rule p)) (read_part rule e d p) (Within rule (suc h) p) (stops e (rule p)) (e.follow_last p) f.stops (reads_is d p)
              (later e (Within rule h) (read_inside rule e d) (read_part rule e d) (part_begun rule e fit h) d inner all (rule p) f.fits (f.told h d)),
          λ free. stricter (suc d) (read e (read_inside rule e d) (read_part rule e d) (rule p)) (read_part rule e d p) (Within rule (suc h) p) (stops e (rule p)) (e.follow_last p) f.stops (reads_is d p)
              (first e (Within rule h) (read_inside rule e d) (read_part rule e d) (part_begun rule e fit h) d inner all own (rule p) f.fits (f.told h d)
              (ap (λ (b : Bool). b || guarded e (rule p)) (sym free) ∙ f.guarded)),
        )

    -- any part is read with one token fewer
    pub complete_any : (h d : ℕ) (p : Part) → Complete d (read_part rule e d p) (Within rule h p) (e.follow_last p)
    complete_any h d p = (complete_both h d p).0

    -- a part that isn't behind a token is read
    pub complete_part : (h d : ℕ) (p : Part) → e.behind p ≡ false → Complete (suc d) (read_part rule e d p) (Within rule h p) (e.follow_last p)
    complete_part h d p = (complete_both h d p).1

    pub complete_inside : (h d : ℕ) (p : Part) → e.behind p ≡ false → Complete d (read_inside rule e d p) (Within rule h p) (e.follow_last p)
    complete_inside h d p own = inside_complete d p (Within rule h p) (e.follow_last p) (λ d. complete_part h d p own)

    -- ---- whole texts

    pub spelled_read : (n : ℕ) (p : Part) → e.behind p ≡ false → (ts : Tokens) (a : Tree p) → length ts < n → SpelledBy rule p a ts → Gives (read_inside rule e n p ts) a []
    spelled_read n p own ts a low h = ap (read_inside rule e n p) (sym (append-nil ts)) ∙ complete_inside h.0 n p own a ts [] h.1 low tt

    module _ (sound : (d : ℕ) (p : Part) → Sound (read_inside rule e d p) (SpelledBy rule p)) where
      pub read_spells : (n : ℕ) (p : Part) (ts rest : Tokens) (a : Tree p) → Gives (read_inside rule e n p ts) a rest → length rest ≡ 0 → SpelledBy rule p a ts
      read_spells n p ts rest a h none =
          let f = sound n p ts a rest h in
          subst (SpelledBy rule p a) (sym (append-nil f.front) ∙ ap (λ (r : Tokens). f.front ++ r) (sym (none_left rest none)) ∙ sym f.is) f.spells

      pub one_tree : (n : ℕ) (p : Part) → e.behind p ≡ false → (ts rest : Tokens) (a other : Tree p) → length ts < n → Gives (read_inside rule e n p ts) a rest → SpelledBy rule p other ts → other ≡ a
      one_tree n p own ts rest a other low h k = (same_pair other a [] rest (sym (spelled_read n p own ts other low k) ∙ h)).0

      pub unread : (n : ℕ) (p : Part) → e.behind p ≡ false → (ts : Tokens) → length ts < n → read_inside rule e n p ts ≡ None → (a : Tree p) → SpelledBy rule p a ts → ⊥
      unread n p own ts low h a k = let r = spelled_read n p own ts a low k in cc

      pub not_whole : (n : ℕ) (p : Part) → e.behind p ≡ false → (ts rest : Tokens) (a : Tree p) → length ts < n → Gives (read_inside rule e n p ts) a rest → (length rest ≡ 0 → ⊥) → (other : Tree p) → SpelledBy rule p other ts → ⊥
      not_whole n p own ts rest a low h more other k = let r = (same_pair a other rest [] (sym h ∙ spelled_read n p own ts other low k)).1 in more (ap length r)
