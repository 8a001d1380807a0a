-- The turns of the loops that read items.
use Rattle.std.proofs.Common.{◌≡◌, ℕ, zero, suc, ◌+◌, ◌-◌, ◌<◌, ◌≤◌, true, false, List, [], ◌∷◌, ◌++◌, length, drop, Option, Some, None, Result, subst, refl, sym, ap, ◌∙◌, append_assoc}
use Rattle.pl_grammar.specs.Marks.{Tokens, Mark, sees, after, begins}
use Rattle.pl_grammar.specs.Parser.{Outcome, Parser, and_then, joins, links_turn, links_from, many_from, listed, Reads}
use Rattle.pl_grammar.specs.declared.fail.Fail.{Fail}
use Rattle.pl_grammar.specs.Forms.{alone, by}
use Rattle.pl_grammar.proofs.Turns.{one_turn, no_turn, link_ends, link_more, many_ends, many_more}

module _ {A : Type 0} (m : Mark) (item : Parser A) where
  abbrev pub from : ℕ → List A → Tokens → Outcome (List A)
  from n found ts = links_from (by m) item alone n found ts

  pub links_ended : {x : Outcome (List A)} (n at : ℕ) (found : List A) (ts ts' : Tokens) → at < n → x ≡ from (n - at) found ts → false ≡ sees m ts → ts' ≡ after m ts → x ≡ Some (found, ts')
  links_ended n at found ts ts' below e seen rest =
      one_turn (λ n. from n found ts) n at below e ∙ link_ends m item alone (n - (at + 1)) found ts (sym seen) ∙ ap (λ (ts : Tokens). Some (found, ts)) (sym rest)

  pub links_failed : {x : Outcome (List A)} (n at : ℕ) (found : List A) (ts ts' : Tokens) → at < n → x ≡ from (n - at) found ts → true ≡ sees m ts → ts' ≡ after m ts → item ts' ≡ None → x ≡ None
  links_failed n at found ts ts' below e seen rest none =
      one_turn (λ n. from n found ts) n at below e ∙ link_more m item alone (n - (at + 1)) found ts (sym seen)
      ∙ ap (λ (o : Outcome A). and_then o (λ a. from (n - (at + 1)) (found ++ a ∷ []))) (ap item (sym rest) ∙ none)

  pub links_went_on : {x : Outcome (List A)} (n at : ℕ) (found : List A) (ts ts' ts'' : Tokens) (a : A) → at < n → x ≡ from (n - at) found ts → true ≡ sees m ts → ts' ≡ after m ts → item ts' ≡ Some (a, ts'')
      → x ≡ from (n - (at + 1)) (found ++ a ∷ []) ts''
  links_went_on n at found ts ts' ts'' a below e seen rest some =
      one_turn (λ n. from n found ts) n at below e ∙ link_more m item alone (n - (at + 1)) found ts (sym seen)
      ∙ ap (λ (o : Outcome A). and_then o (λ a. from (n - (at + 1)) (found ++ a ∷ []))) (ap item (sym rest) ∙ some)

  pub links_done : {x : Outcome (List A)} (n at : ℕ) (found : List A) (ts : Tokens) → n ≤ at → x ≡ from (n - at) found ts → x ≡ Some (found, ts)
  links_done n at found ts over e = no_turn (λ n. from n found ts) n at over e

  -- what was found before stands at the front
  abbrev put : List A → Outcome (List A) → Outcome (List A)
  put front o = and_then o (λ more ts. Some (front ++ more, ts))

  module _ (front : List A) (more : List A → Parser (List A)) (same : (found : List A) (ts : Tokens) → more (front ++ found) ts ≡ put front (more found ts)) (found : List A) where
    put_item : (o : Outcome A) → and_then o (λ a. more ((front ++ found) ++ a ∷ [])) ≡ put front (and_then o (λ a. more (found ++ a ∷ [])))
    put_item None = refl
    put_item (Some p) = ap (λ (l : List A). more l p.1) (append_assoc front found (p.0 ∷ [])) ∙ same (found ++ p.0 ∷ []) p.1

    put_turn : (ts : Tokens) (o : Option (Unit {0})) → links_turn (by m) item alone more (front ++ found) ts o ≡ put front (links_turn (by m) item alone more found ts o)
    put_turn ts None = refl
    put_turn ts (Some o) = put_item (item (drop 1 ts))

  links_put : (front : List A) (n : ℕ) (found : List A) (ts : Tokens) → from n (front ++ found) ts ≡ put front (from n found ts)
  links_put front zero found ts = refl
  links_put front (suc n) found ts = put_turn front (from n) (links_put front n) found ts (joins (by m) ts)

  listed_item : (ts : Tokens) (a : A) (o : Outcome (List A))
      → and_then (and_then o (λ b ts. Some ((a, b), ts))) (λ (p : A × List A) ts. Some (p.0 ∷ p.1, ts)) ≡ put (a ∷ []) o
  listed_item ts a None = refl
  listed_item ts a (Some p) = refl

  pub listed_reads : (ts ts' new : Tokens) (a : A) (found : List A) (r : Result (List A) Fail) → item ts ≡ Some (a, ts') → found ≡ a ∷ [] → Reads (from (length ts') found ts') r new → Reads (listed m item ts) r new
  listed_reads ts ts' new a found r read is more =
      let same : listed m item ts ≡ from (length ts') (a ∷ []) ts' =
      ap (λ (r : Outcome A). and_then (and_then r (λ a ts. and_then (from (length ts) [] ts) (λ b ts. Some ((a, b), ts)))) (λ (p : A × List A) ts. Some (p.0 ∷ p.1, ts))) read
      ∙ listed_item ts' a (from (length ts') [] ts') ∙ sym (links_put (a ∷ []) (length ts') [] ts') in
      subst (λ (o : Outcome (List A)). Reads o r new) (sym (same ∙ ap (λ (l : List A). from (length ts') l ts') (sym is))) more

module _ {A : Type 0} (ms : List Mark) (item : Parser A) where
  abbrev again : ℕ → List A → Tokens → Outcome (List A)
  again n found ts = many_from ms item n found ts

  pub many_ended : {x : Outcome (List A)} (n at : ℕ) (found : List A) (ts : Tokens) → at < n → x ≡ again (n - at) found ts → false ≡ begins ms ts → x ≡ Some (found, ts)
  many_ended n at found ts below e seen = one_turn (λ n. again n found ts) n at below e ∙ many_ends ms item (n - (at + 1)) found ts (sym seen)

  pub many_failed : {x : Outcome (List A)} (n at : ℕ) (found : List A) (ts : Tokens) → at < n → x ≡ again (n - at) found ts → true ≡ begins ms ts → item ts ≡ None → x ≡ None
  many_failed n at found ts below e seen none =
      one_turn (λ n. again n found ts) n at below e ∙ many_more ms item (n - (at + 1)) found ts (sym seen)
      ∙ ap (λ (o : Outcome A). and_then o (λ a. again (n - (at + 1)) (found ++ a ∷ []))) none

  pub many_went_on : {x : Outcome (List A)} (n at : ℕ) (found : List A) (ts ts' : Tokens) (a : A) → at < n → x ≡ again (n - at) found ts → true ≡ begins ms ts → item ts ≡ Some (a, ts')
      → x ≡ again (n - (at + 1)) (found ++ a ∷ []) ts'
  many_went_on n at found ts ts' a below e seen some =
      one_turn (λ n. again n found ts) n at below e ∙ many_more ms item (n - (at + 1)) found ts (sym seen)
      ∙ ap (λ (o : Outcome A). and_then o (λ a. again (n - (at + 1)) (found ++ a ∷ []))) some

  pub many_done : {x : Outcome (List A)} (n at : ℕ) (found : List A) (ts : Tokens) → n ≤ at → x ≡ again (n - at) found ts → x ≡ Some (found, ts)
  many_done n at found ts over e = no_turn (λ n. again n found ts) n at over e
