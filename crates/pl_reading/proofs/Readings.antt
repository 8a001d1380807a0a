-- A list of tokens has exactly one reading.
use Rattle.std.proofs.Common.{◌≡◌, ◌<◌, ◌≤◌, ◌+◌, ◌||◌, ℕ, zero, suc, List, [], ◌∷◌, length, take, fold, cond, nat_lt, nat_eq, Bool, true, false, Option, Some, None, Result, Ok, Err, refl, sym, ◌∙◌, ap, subst, arith}
use Rattle.std.specs.Prelude.{IfOk}
use Rattle.std.proofs.lemmas.Bool.{eqb-true}
use Rattle.std.proofs.lemmas.Bool.Decides.{nat_tests}
use Rattle.pl_base.specs.States.{FEATURE_NOT_SUPPORTED, STATEMENT_TOO_COMPLEX}
use Rattle.pl_lex.specs.Characters.{Text}
use Rattle.pl_lex.specs.declared.token.Bad.{Bad}
use Rattle.pl_lex.specs.declared.token.Token.{Token}
use Rattle.pl_tree.specs.declared.command.Command.{Command}
use Rattle.pl_grammar.specs.Marks.{Tokens, kinds}
use Rattle.pl_grammar.specs.Deep.{Deep, IsShallow, State as Parts, step, start, max_parts, open_parts}
use Rattle.pl_sql_parse.specs.LeftOut.{is_left_out}
use Rattle.pl_sql_parse.specs.Spells.{SpellsCommand}
use Rattle.pl_sql_parse.specs.Computed.{command_in}
use Rattle.pl_sql_parse.proofs.Lent.{one_command}
use Rattle.pl_reading.specs.Reading.{IsCommandRead, left_out, too_deep, no_command, a_command, IsRead, IsOutcomeRead}
use Rattle.pl_reading.specs.Computed.{deep_from, spelled, command_reading, reading_of, outcome_reading}
use Rattle.pl_reading.specs.declared.reading.Reading.{Reading}
use Rattle.pl_reading.specs.declared.reading.Reading.TheVariants.{Nothing, Refused}

-- ---- depth

abbrev parts_of : Parts → Tokens → ℕ
parts_of s ts = length (fold step s ts).parts

below : (a b : ℕ) → nat_lt a b ≡ false → b ≤ a
below a b is = grind (arith, nat_tests, is)

above : (a b : ℕ) → nat_lt a b ≡ true → a < b
above a b is = grind (arith, nat_tests, is)

or_false : (a b : Bool) → (a || b) ≡ false → (a ≡ false) × (b ≡ false)
or_false false b is = (refl, is)
or_false true b is = absurd (cc)

shallow_all : (s : Parts) (ts : Tokens) (n : ℕ) → length s.parts ≤ 100 → deep_from s ts ≡ false → parts_of s (take n ts) ≤ 100
shallow_all s [] zero few is = few
shallow_all s [] (suc n) few is = few
shallow_all s (t ∷ ts) zero few is = few
shallow_all s (t ∷ ts) (suc n) few is =
    let two = or_false (nat_lt max_parts (length (step s t).parts)) (deep_from (step s t) ts) is in
    shallow_all (step s t) ts n (below max_parts (length (step s t).parts) two.0) two.1

pub record DeepFrom (s : Parts) (ts : Tokens) : Type 0 where
  pub at : ℕ
  pub within : at < length ts
  pub here : 100 < parts_of s (take (suc at) ts)
  pub before : (k : ℕ) → k < at → parts_of s (take (suc k) ts) ≤ 100

deep_at : (s : Parts) (ts : Tokens) → deep_from s ts ≡ true → DeepFrom s ts
deep_at s [] is = absurd (cc)
deep_at s (t ∷ ts) is = by_test (nat_lt max_parts (length (step s t).parts)) refl (λ h. deep_at (step s t) ts h) is
  where
    by_place : (c : ℕ → Type 0) → c zero → ((k : ℕ) → c (suc k)) → (k : ℕ) → c k
    by_place c z n zero = z
    by_place c z n (suc k) = n k

    by_test : (b : Bool) → nat_lt max_parts (length (step s t).parts) ≡ b → (deep_from (step s t) ts ≡ true → DeepFrom (step s t) ts) → (b || deep_from (step s t) ts) ≡ true → DeepFrom s (t ∷ ts)
    by_test true e next h = record { at = 0; within = omega arith; here = above max_parts (length (step s t).parts) e; before = λ k low. absurd (omega (arith, low)) }
    by_test false e next h =
        let d = next h in
        let few : length (step s t).parts ≤ 100 = below max_parts (length (step s t).parts) e in
        record {
          at = suc d.at;
          within = omega (arith, d.within);
          here = d.here;
          before = λ k. by_place (λ k. k < suc d.at → parts_of s (take (suc k) (t ∷ ts)) ≤ 100) (λ low. few) (λ k low. d.before k (omega (arith, low))) k;
        }

one_more : (k : ℕ) → k + 1 ≡ suc k
one_more k = omega arith

pub deep_is : (ts : Tokens) (at : ℕ) → Deep ts at → deep_from start ts ≡ true
deep_is ts at deep = by_test (deep_from start ts) refl
  where
    by_test : (b : Bool) → deep_from start ts ≡ b → b ≡ true
    by_test true e = refl
    by_test false e = let few = shallow_all start ts (at + 1) (omega arith) e in absurd (omega (arith, few, deep.here))

pub shallow_is : (ts : Tokens) → IsShallow ts → deep_from start ts ≡ false
shallow_is ts shallow = by_test (deep_from start ts) refl
  where
    by_test : (b : Bool) → deep_from start ts ≡ b → b ≡ false
    by_test false e = refl
    by_test true e =
        let d = deep_at start ts e in
        let few : open_parts (take (suc d.at) ts) ≤ 100 = subst (λ (n : ℕ). open_parts (take n ts) ≤ 100) (one_more d.at) (shallow d.at d.within) in
        absurd (omega (arith, few, d.here))

pub is_deep : (ts : Tokens) → deep_from start ts ≡ true → (at : ℕ) × Deep ts at
is_deep ts e =
    let d = deep_at start ts e in (
      d.at,
      record {
        here = subst (λ (n : ℕ). 100 < open_parts (take n ts)) (sym (one_more d.at)) d.here;
        before = λ k low. subst (λ (n : ℕ). open_parts (take n ts) ≤ 100) (sym (one_more k)) (d.before k low);
      },
    )

pub is_shallow : (ts : Tokens) → deep_from start ts ≡ false → IsShallow ts
is_shallow ts e k low = shallow_all start ts (k + 1) (omega arith) e

-- ---- a command

module _ (text : Text) (tokens : List Token) where
  abbrev reading_by : Bool → Bool → Option Command → Reading
  reading_by left deep found = cond left (Refused FEATURE_NOT_SUPPORTED) (cond deep (Refused STATEMENT_TOO_COMPLEX) (spelled found))

  none_found : ((c : Command) → SpellsCommand text c tokens → ⊥) → command_in text tokens ≡ None
  none_found none = by_found (command_in text tokens) refl
    where
      by_found : (o : Option Command) → command_in text tokens ≡ o → o ≡ None
      by_found None e = refl
      by_found (Some c) e = absurd (none c ((one_command text tokens c).0 e))

  pub command_only : (reading : Reading) → IsCommandRead text tokens reading → reading ≡ command_reading text tokens
  command_only reading (left_out left is) = is ∙ ap (λ (b : Bool). reading_by b (deep_from start (kinds tokens)) (command_in text tokens)) (sym left)
  command_only reading (too_deep left at deep is) = is ∙ (λ i. reading_by (sym left i) (sym (deep_is (kinds tokens) at deep) i) (command_in text tokens))
  command_only reading (no_command left shallow none is) = is ∙ (λ i. reading_by (sym left i) (sym (shallow_is (kinds tokens) shallow) i) (sym (none_found none) i))
  command_only reading (a_command left shallow c spells is) = is ∙ (λ i. reading_by (sym left i) (sym (shallow_is (kinds tokens) shallow) i) (sym ((one_command text tokens c).1 spells) i))

  pub command_read : IsCommandRead text tokens (command_reading text tokens)
  command_read = by_left (is_left_out (kinds tokens)) refl
    where
      by_found : (o : Option Command) → is_left_out (kinds tokens) ≡ false → IsShallow (kinds tokens) → command_in text tokens ≡ o → IsCommandRead text tokens (spelled o)
      by_found None left shallow e = no_command left shallow (λ c spells. let there : None ≡ Some c = sym e ∙ (one_command text tokens c).1 spells in cc) refl
      by_found (Some c) left shallow e = a_command left shallow c ((one_command text tokens c).0 e) refl

      by_deep : (b : Bool) → is_left_out (kinds tokens) ≡ false → deep_from start (kinds tokens) ≡ b → IsCommandRead text tokens (cond b (Refused STATEMENT_TOO_COMPLEX) (spelled (command_in text tokens)))
      by_deep true left e = let d = is_deep (kinds tokens) e in too_deep left d.0 d.1 refl
      by_deep false left e = by_found (command_in text tokens) left (is_shallow (kinds tokens) e) refl

      by_left : (b : Bool) → is_left_out (kinds tokens) ≡ b → IsCommandRead text tokens (reading_by b (deep_from start (kinds tokens)) (command_in text tokens))
      by_left true e = left_out e refl
      by_left false e = by_deep (deep_from start (kinds tokens)) e refl

-- ---- tokens

pub read_only : (text : Text) (tokens : List Token) (reading : Reading) → IsRead text tokens reading → reading ≡ reading_of text tokens
unfolding reading_of
read_only text [] reading is = is
read_only text (t ∷ ts) reading is = command_only text (t ∷ ts) reading is

pub is_read : (text : Text) (tokens : List Token) → IsRead text tokens (reading_of text tokens)
unfolding reading_of
is_read text [] = refl
is_read text (t ∷ ts) = command_read text (t ∷ ts)

pub outcome_only : (text : Text) (outcome : Result (List Token) Bad) (reading : Reading) → IsOutcomeRead text outcome reading → reading ≡ outcome_reading text outcome
outcome_only text (Err bad) reading is = is
outcome_only text (Ok tokens) reading is = read_only text tokens reading is

pub outcome_read : (text : Text) (outcome : Result (List Token) Bad) → IsOutcomeRead text outcome (outcome_reading text outcome)
outcome_read text (Err bad) = refl
outcome_read text (Ok tokens) = is_read text tokens

-- ---- what the reader finds

pub no_tokens : (text : Text) (tokens : List Token) → nat_eq (length tokens) 0 ≡ true → Nothing ≡ reading_of text tokens
unfolding reading_of
no_tokens text [] is = refl
no_tokens text (t ∷ ts) is = absurd (omega (arith, eqb-true (suc (length ts)) 0 is))

pub some_tokens : (text : Text) (tokens : List Token) (reading : Reading) → nat_eq (length tokens) 0 ≡ false → IsCommandRead text tokens reading → reading ≡ reading_of text tokens
unfolding reading_of
some_tokens text [] reading is read = absurd (cc)
some_tokens text (t ∷ ts) reading is read = command_only text (t ∷ ts) reading read

pub read_so : {E : Type 0} (text : Text) (outcome : Result (List Token) Bad) (r : Result Reading E) → IfOk r (λ reading. reading ≡ outcome_reading text outcome) → IfOk r (λ reading. IsOutcomeRead text outcome reading)
read_so text outcome (Ok reading) is = subst (λ (x : Reading). IsOutcomeRead text outcome x) (sym is) (outcome_read text outcome)
read_so text outcome (Err e) is = tt
