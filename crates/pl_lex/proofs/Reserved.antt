-- The list of reserved words has each of them, and no two are spelled alike.
use Rattle.std.proofs.Common.{◌≡◌, Bool, true, false, cond, List, [], ◌∷◌, Option, Some, None, refl, sym, ap, ◌∙◌}
use Rattle.std.specs.Str.{bytes_eq}
use Rattle.std.proofs.lemmas.Slice.Eq.{bytes_eq-Decides}
use Rattle.pl_lex.specs.Characters.{Text}
use Rattle.pl_lex.specs.Keywords.{keyword_text}
use Rattle.pl_lex.specs.Scan.{all_keywords, keyword_among, keyword_of, named, kind_of_word}
use Rattle.pl_lex.specs.declared.keyword.Keyword.{Keyword}
use Rattle.pl_lex.specs.declared.keyword.Keyword.TheVariants as k
use Rattle.pl_lex.specs.declared.token.TokenKind.TheVariants as kind

pub found : (word : Keyword) → keyword_of (keyword_text word) ≡ Some word
unfolding keyword_of
found k.All = refl
found k.And = refl
found k.As = refl
found k.Asc = refl
found k.Begin = refl
found k.Between = refl
found k.By = refl
found k.Case = refl
found k.Cast = refl
found k.Check = refl
found k.Coalesce = refl
found k.Constraint = refl
found k.Create = refl
found k.Cross = refl
found k.Declare = refl
found k.Default = refl
found k.Delete = refl
found k.Desc = refl
found k.Distinct = refl
found k.Do = refl
found k.Else = refl
found k.End = refl
found k.Execute = refl
found k.Exists = refl
found k.False = refl
found k.For = refl
found k.Foreign = refl
found k.From = refl
found k.Greatest = refl
found k.Group = refl
found k.Having = refl
found k.If = refl
found k.In = refl
found k.Inner = refl
found k.Insert = refl
found k.Into = refl
found k.Is = refl
found k.Join = refl
found k.Least = refl
found k.Left = refl
found k.Like = refl
found k.Limit = refl
found k.Loop = refl
found k.Not = refl
found k.Null = refl
found k.Nullif = refl
found k.Offset = refl
found k.On = refl
found k.Or = refl
found k.Order = refl
found k.Primary = refl
found k.References = refl
found k.Returning = refl
found k.Row = refl
found k.Select = refl
found k.Strict = refl
found k.Table = refl
found k.Then = refl
found k.To = refl
found k.True = refl
found k.Union = refl
found k.Unique = refl
found k.Update = refl
found k.Using = refl
found k.Values = refl
found k.When = refl
found k.Where = refl
found k.While = refl
found k.With = refl

-- what is found is spelled so
by_head : (w : Keyword) (ws : List Keyword) (text : Text) (word : Keyword) (c : Bool) → bytes_eq (keyword_text w) text ≡ c → cond c (Some w) (keyword_among ws text) ≡ Some word → (keyword_among ws text ≡ Some word → keyword_text word ≡ text) → keyword_text word ≡ text
by_head w ws text word true h e more =
    let same : w ≡ word = cc e in
    ap (λ x. keyword_text x) (sym same) ∙ (bytes_eq-Decides (keyword_text w) text).0 h
by_head w ws text word false h e more = more e

is_spelled : (words : List Keyword) (text : Text) (word : Keyword) → keyword_among words text ≡ Some word → keyword_text word ≡ text
is_spelled [] text word e = absurd (cc e)
is_spelled (w ∷ ws) text word e = by_head w ws text word (bytes_eq (keyword_text w) text) refl e (λ more. is_spelled ws text word more)

pub named_is : (text : Text) (word : Keyword) → keyword_of text ≡ Some word → keyword_text word ≡ text
unfolding keyword_of
named_is text word e = is_spelled all_keywords text word e

pub none_is : (text : Text) → keyword_of text ≡ None → (word : Keyword) → keyword_text word ≡ text → ⊥
none_is text e word is =
    let both : None ≡ Some word = sym e ∙ ap (λ t. keyword_of t) (sym is) ∙ found word in
    cc both

-- ---- the kind of a word

pub kind_of_keyword : (text : Text) (word : Keyword) → text ≡ keyword_text word → kind_of_word text ≡ kind.Keyword word
kind_of_keyword text word is = ap (λ o. named text o) (ap (λ t. keyword_of t) is ∙ found word)

pub kind_of_name : (text : Text) → ((word : Keyword) → text ≡ keyword_text word → ⊥) → kind_of_word text ≡ kind.Word text
kind_of_name text no_word = by_found (keyword_of text) refl
  where
    by_found : (o : Option Keyword) → keyword_of text ≡ o → kind_of_word text ≡ kind.Word text
    by_found None e = ap (λ o. named text o) e
    by_found (Some word) e = absurd (no_word word (sym (named_is text word e)))
