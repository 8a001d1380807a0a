-- The loop of `cut`.
use Rattle.std.proofs.Common.{◌≡◌, ℕ, ◌+◌, Bool, true, false, ◌&&◌, List, [], ◌∷◌, ◌++◌, length, drop, Option, Some, None, refl, sym, ap, ◌∙◌, append_assoc, append-nil}
use Rattle.pl_lex.specs.Characters.{Text}
use Rattle.pl_lex.specs.Scan.{IsRead}
use Rattle.pl_lex.specs.declared.token.LexemeKind.{LexemeKind}
use Rattle.pl_lex.specs.declared.token.LexemeKind.TheVariants as what
use Rattle.pl_lex.specs.declared.token.Token.{Token}
use Rattle.pl_lex.specs.declared.token.Bad.{Bad}
use Rattle.pl_lex.specs.declared.token.Piece.{Piece}
use Rattle.pl_lex.specs.Lexemes.{Lexeme, with_token, or_bad, tokens_of, first_bad, before_semicolon, command_end, all_skipped, is_semicolon, is_skipped, piece, IsNext}
use Rattle.pl_lex.specs.Steps.{or_else, Gathered}
use Rattle.pl_lex.proofs.Tools.{cond_then, cond_else}
use Rattle.pl_lex.specs.Computed.{lexemes}
use Rattle.pl_lex.proofs.Whole.{lexemes_read, with_token_all, all_stand}

module _ {w : LexemeKind} {n : ℕ} {t : Text} (at : ℕ) (r : IsRead w n t) where
  abbrev More : List Lexeme
  More = lexemes (at + n) (drop n t)

  abbrev One : Lexeme
  One = record { what = w; start = at; end = at + n }

  before_more : is_semicolon w ≡ false → before_semicolon (lexemes at t) ≡ One ∷ before_semicolon More
  before_more e = ap (λ xs. before_semicolon xs) (lexemes_read at r) ∙ cond_else (is_semicolon w) _ _ e

  pub more_tokens : {old new : List Token} {a b : Option Bad} → is_semicolon w ≡ false → Gathered w at (at + n) old a new b → new ++ tokens_of (before_semicolon More) ≡ old ++ tokens_of (before_semicolon (lexemes at t))
  more_tokens {old} {new} e g =
      let rest : List Token = tokens_of (before_semicolon More) in
      ap (λ ts. ts ++ rest) g.tokens ∙ append_assoc old (with_token w at (at + n) []) rest ∙ ap (λ ts. old ++ ts) (sym (with_token_all w at (at + n) rest)) ∙ ap (λ xs. old ++ tokens_of xs) (sym (before_more e))

  pub more_bad : {old new : List Token} {a b : Option Bad} → is_semicolon w ≡ false → Gathered w at (at + n) old a new b → or_else b (first_bad (before_semicolon More)) ≡ or_else a (first_bad (before_semicolon (lexemes at t)))
  more_bad {old} {new} {a} {b} e g = ap (λ o. or_else o (first_bad (before_semicolon More))) g.bad ∙ joined a w at (first_bad (before_semicolon More)) ∙ ap (λ xs. or_else a (first_bad xs)) (sym (before_more e))
    where
      joined : (a : Option Bad) (w : LexemeKind) (at : ℕ) (o : Option Bad) → or_else (or_else a (or_bad w at None)) o ≡ or_else a (or_bad w at o)
      joined (Some b) w at o = refl
      joined None (what.Read k) at o = refl
      joined None what.Skipped at o = refl
      joined None (what.Bad s) at o = refl

  pub more_end : (end : ℕ) → is_semicolon w ≡ false → command_end end More ≡ command_end end (lexemes at t)
  more_end end e = sym (ap (λ xs. command_end end xs) (lexemes_read at r) ∙ cond_else (is_semicolon w) _ _ e)

  pub more_blank : (blank : Bool) → ((blank && is_skipped w) && all_skipped More) ≡ (blank && all_skipped (lexemes at t))
  more_blank true = ap (λ xs. all_skipped xs) (sym (lexemes_read at r))
  more_blank false = refl

  pub none_before : is_semicolon w ≡ true → before_semicolon (lexemes at t) ≡ []
  none_before e = ap (λ xs. before_semicolon xs) (lexemes_read at r) ∙ cond_then (is_semicolon w) _ _ e

  pub ends_here : (end : ℕ) → is_semicolon w ≡ true → command_end end (lexemes at t) ≡ at
  ends_here end e = ap (λ xs. command_end end xs) (lexemes_read at r) ∙ cond_then (is_semicolon w) _ _ e

  pub not_blank : (blank : Bool) → is_semicolon w ≡ true → (blank && all_skipped (lexemes at t)) ≡ false
  not_blank false e = refl
  not_blank true e = ap (λ xs. all_skipped xs) (lexemes_read at r) ∙ ap (λ c. c && all_skipped More) (unskipped w e)
    where
      unskipped : (w : LexemeKind) → is_semicolon w ≡ true → is_skipped w ≡ false
      unskipped (what.Read k) e = refl
      unskipped what.Skipped e = absurd (cc)
      unskipped (what.Bad s) e = refl

or_else_none : (a : Option Bad) → or_else a None ≡ a
or_else_none None = refl
or_else_none (Some b) = refl

-- what is left holds nothing of the command
pub cut_some : (text : Text) (from end place : ℕ) (tokens : List Token) (bad : Option Bad) (left : List Lexeme) (p : Piece) → left ≡ [] → tokens ++ tokens_of left ≡ tokens_of (before_semicolon (lexemes from (drop from text))) → or_else bad (first_bad left) ≡ first_bad (before_semicolon (lexemes from (drop from text))) → place ≡ command_end (length text) (lexemes from (drop from text)) → all_skipped (lexemes from (drop from text)) ≡ false → p ≡ piece tokens bad from place → IsNext text from (Some p)
cut_some text from end place tokens bad left p n e k q b is =
    let all : List Lexeme = lexemes from (drop from text) in
    let ts : tokens ≡ tokens_of (before_semicolon all) = sym (append-nil tokens) ∙ ap (λ xs. tokens ++ tokens_of xs) (sym n) ∙ e in
    let bs : bad ≡ first_bad (before_semicolon all) = sym (or_else_none bad) ∙ ap (λ xs. or_else bad (first_bad xs)) (sym n) ∙ k in
    let same : piece tokens bad from place ≡ piece (tokens_of (before_semicolon all)) (first_bad (before_semicolon all)) from (command_end (length text) all) = ap (λ x. piece x bad from place) ts ∙ ap (λ x. piece (tokens_of (before_semicolon all)) x from place) bs ∙ ap (λ x. piece (tokens_of (before_semicolon all)) (first_bad (before_semicolon all)) from x) q in
    (all, all_stand from (drop from text), cond_else (all_skipped all) _ _ b ∙ ap (λ x. Some x) (sym (is ∙ same)))

pub cut_none : (text : Text) (from : ℕ) → all_skipped (lexemes from (drop from text)) ≡ true → IsNext text from None
cut_none text from b = (lexemes from (drop from text), all_stand from (drop from text), cond_then (all_skipped (lexemes from (drop from text))) _ _ b)
