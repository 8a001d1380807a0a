-- Where a rule looks ahead, the test tells which of its rules it is.
use Rattle.std.proofs.Common.{◌≡◌, ℕ, zero, suc, Bool, true, false, ◌&&◌, List, [], ◌∷◌, ◌++◌, Option, Some, None, rules, refl, sym, ap, ◌∙◌, subst}
use denote.Enum.Bare.{same_true}
use Rattle.pl_tree.specs.declared.tree.Expr.TheVariants as e
use Rattle.pl_tree.specs.declared.tree.Argument.{Argument as Argument_}
use Rattle.pl_tree.specs.declared.tree.Argument.TheVariants as a
use Rattle.pl_tree.specs.declared.tree.Item.{Item as Item_}
use Rattle.pl_tree.specs.declared.tree.Item.TheVariants as i
use Rattle.pl_lex.specs.contracts.sign.Sign.{the_type as sign_type}
use Rattle.pl_lex.specs.declared.sign.Sign.{Sign}
use Rattle.pl_lex.specs.declared.sign.Sign.TheVariants as s
use Rattle.pl_lex.specs.declared.token.TokenKind.{TokenKind}
use Rattle.pl_lex.specs.declared.token.TokenKind.TheVariants as kind
use Rattle.pl_grammar.specs.Marks.{Tokens, sign, name, a_name, carried, marked, same_sign, same_keyword, sees, after, begins, sees_two, sees_three}
use Rattle.pl_grammar.specs.Parser.{Parser, Outcome, and_then, expect, take, joins}
use Rattle.pl_grammar.specs.Relations.{Rel, behind_mark, before_mark, made, carries}
use Rattle.pl_grammar.specs.Rule.{one, ◌until◌, make, Spelled, Within, read_inside, read_part}
use Rattle.pl_grammar.specs.Fit.{Told, Ends, Fit}
use Rattle.pl_grammar.specs.Words.{ARROW, DOT, STAR, FATAL_ERRORS}
use Rattle.pl_grammar.proofs.Tools.{Gives, same_pair}
use Rattle.pl_grammar.proofs.Plain.{plain, plain_told, split}
use Rattle.pl_expr_parse.specs.Grammar.{Part, Expression, Conjunction, Negation, Test, Question, Comparison, Ranged, Range, Members, Concatenation, Sum, Product, Signed, Conversion, Primary, Bracketed, TypeName, Expressions, BracketedList, Named, Suffix, Arguments, ArgumentList, Argument, NamedArgument, Worded, Exists, NullIf, BeforeComma, BeforeClose, Cast, Row, Case, Arms, Whens, Arm, Otherwise, Query, Selected, Items, Item, Label, Alias, Sources, Condition, Groups, Having, Order, Key, Direction, Nulls, Paging, Limit, Offset, From, Join, JoinedOn, Factor, Call, FactorInBrackets, Tree, rule, R, is_named, is_all_of}
use Rattle.pl_expr_parse.specs.FirstFollow.{first_follow}
use Rattle.pl_expr_parse.proofs.Fits.{all_fit, all_guarded, all_begun, all_firsts, all_stops, all_ranked}

-- ---- what an expression is before tokens that pass a test

arrow_next : (d : ℕ) (n : List ℕ) (ts : Tokens) → read_inside rule first_follow (suc d) Expression (kind.Word n ∷ kind.Sign s.Arrow ∷ ts) ≡ Some (e.Name n, kind.Sign s.Arrow ∷ ts)
unfolding read_inside same_keyword same_sign sees after expect take begins joins
arrow_next d n ts = refl

star_next : (d : ℕ) (n : List ℕ) (ts : Tokens) → ◌≡◌ {A = Outcome (Tree Expression)} (read_inside rule first_follow (suc d) Expression (kind.Word n ∷ kind.Sign s.Dot ∷ kind.Sign s.Star ∷ ts)) None
unfolding read_inside same_keyword same_sign sees after expect take begins joins
star_next d n ts = refl

star_next_quoted : (d : ℕ) (n : List ℕ) (ts : Tokens) → ◌≡◌ {A = Outcome (Tree Expression)} (read_inside rule first_follow (suc d) Expression (kind.Quoted n ∷ kind.Sign s.Dot ∷ kind.Sign s.Star ∷ ts)) None
unfolding read_inside same_keyword same_sign sees after expect take begins joins
star_next_quoted d n ts = refl

-- ---- tokens with a mark

is_sign : (o : Sign) (t : TokenKind) → marked (sign o) t ≡ true → t ≡ kind.Sign o
unfolding same_sign
is_sign o (kind.Sign x) h = ap kind.Sign (same_true sign_type (search rules) x o h)
is_sign o t h = absurd (cc)

both_hold : {a b : Bool} → a ≡ true → b ≡ true → (a && b) ≡ true
both_hold {a} {b} h k = ap (λ (x : Bool). x && b) h ∙ k

name_marked : (t : TokenKind) (n : List ℕ) → carried a_name t ≡ Some n → marked name t ≡ true
name_marked (kind.Word m) n h = refl
name_marked (kind.Quoted m) n h = refl
name_marked t n h = absurd (cc)

-- ---- fatal_errors =>

abbrev all_of : R Item_
all_of = make i.AllOf (one a_name until DOT until STAR)

named_passes : (h : ℕ) (a : Argument_) (front rest : Tokens) → Within rule h NamedArgument a front → is_named (front ++ rest) ≡ true
unfolding sees_two
named_passes zero a front rest x = absurd x
named_passes (suc h) a front rest (behind_mark k (behind_mark m x)) = both_hold k m

module _ (S : (p : Part) → Rel (Tree p)) where
  all_of_passes : (a : Item_) (front rest : Tokens) → Spelled S all_of a front → is_all_of (front ++ rest) ≡ true
  unfolding sees_three
  all_of_passes a front rest (made (before_mark t (before_mark u (carries {t = v} e) h) k)) = both_hold (both_hold (name_marked v _ e) h) k

abbrev expression_at : ℕ → Tokens → Outcome (Tree Expression)
expression_at d ts = read_inside rule first_follow d Expression ts

none_at : (ts : Tokens) → expression_at 0 ts ≡ None
unfolding read_inside
none_at ts = refl

arrow_ends : (ts rest : Tokens) → kind.Sign s.Arrow ∷ ts ≡ rest → Ends (ARROW ∷ []) rest → ⊥
unfolding same_sign
arrow_ends ts rest e end = let k : true ≡ false = subst (Ends (ARROW ∷ [])) (sym e) end in cc

abbrev value_of : Outcome (Tree Expression) → Outcome Argument_
value_of o = and_then o (λ x ts. Some (a.Value x, ts))

named_alone : (d : ℕ) (ts rest : Tokens) (x : Argument_) → is_named ts ≡ true → value_of (expression_at d ts) ≡ Some (x, rest) → Ends (ARROW ∷ []) rest → ⊥
unfolding sees_two
named_alone zero ts rest x h k end = let none : value_of None ≡ Some (x, rest) = ap value_of (sym (none_at ts)) ∙ k in absurd (cc)
named_alone (suc d) [] rest x h k end = absurd (cc)
named_alone (suc d) (t ∷ []) rest x h k end = absurd (cc)
named_alone (suc d) (kind.Word n ∷ u ∷ ts) rest x h k end =
    let arrow = is_sign s.Arrow u (split (marked FATAL_ERRORS (kind.Word n)) (marked ARROW u) h).1 in
    let at = ap (λ (u : TokenKind). expression_at (suc d) (kind.Word n ∷ u ∷ ts)) arrow ∙ arrow_next d n ts in
    let g : Gives (value_of (Some (e.Name n, kind.Sign s.Arrow ∷ ts))) x rest = ap value_of (sym at) ∙ k in
    arrow_ends ts rest (same_pair (a.Value (e.Name n)) x (kind.Sign s.Arrow ∷ ts) rest g).1 end
named_alone (suc d) (t ∷ u ∷ ts) rest x h k end = absurd (cc)

-- ---- name.*

abbrev item_of : Outcome (Tree Expression) → Parser (Option (List ℕ)) → Outcome Item_
item_of o p = and_then {A = Tree Expression × Option (List ℕ)} (and_then o (λ x ts. and_then (p ts) (λ y ts. Some ((x, y), ts)))) (λ x ts. Some (i.Value x.0 x.1, ts))

dotted : (d : ℕ) (t u v : TokenKind) (ts : Tokens) → ((ts : Tokens) → expression_at (suc d) (t ∷ kind.Sign s.Dot ∷ kind.Sign s.Star ∷ ts) ≡ None) → (marked DOT u && marked STAR v) ≡ true → expression_at (suc d) (t ∷ u ∷ v ∷ ts) ≡ None
dotted d t u v ts none h =
    let two = split (marked DOT u) (marked STAR v) h in
    ap (λ (u : TokenKind). expression_at (suc d) (t ∷ u ∷ v ∷ ts)) (is_sign s.Dot u two.0)
    ∙ ap (λ (v : TokenKind). expression_at (suc d) (t ∷ kind.Sign s.Dot ∷ v ∷ ts)) (is_sign s.Star v two.1)
    ∙ none ts

unread_all_of : (d : ℕ) (ts : Tokens) → is_all_of ts ≡ true → expression_at d ts ≡ None
unfolding sees_three
unread_all_of zero ts h = none_at ts
unread_all_of (suc d) [] h = absurd (cc)
unread_all_of (suc d) (t ∷ []) h = absurd (cc)
unread_all_of (suc d) (t ∷ u ∷ []) h = absurd (cc)
unread_all_of (suc d) (kind.Word n ∷ u ∷ v ∷ ts) h = dotted d (kind.Word n) u v ts (star_next d n) h
unread_all_of (suc d) (kind.Quoted n ∷ u ∷ v ∷ ts) h = dotted d (kind.Quoted n) u v ts (star_next_quoted d n) h
unread_all_of (suc d) (t ∷ u ∷ v ∷ ts) h = absurd (cc)

all_of_alone : (d : ℕ) (p : Parser (Option (List ℕ))) (ts rest : Tokens) (x : Item_) → is_all_of ts ≡ true → item_of (expression_at d ts) p ≡ Some (x, rest) → ⊥
all_of_alone d p ts rest x h k = let g : item_of None p ≡ Some (x, rest) = ap (λ (o : Outcome (Tree Expression)). item_of o p) (sym (unread_all_of d ts h)) ∙ k in absurd (cc)

-- ---- the grammar

module _ (h d : ℕ) where
  abbrev Tells : {A : Type 0} → R A → Type 0
  Tells r = Told first_follow (Within rule h) (read_inside rule first_follow d) (read_part rule first_follow d) r

  plainly : {A : Type 0} (r : R A) → plain r ≡ true → Tells r
  plainly r p = plain_told first_follow (Within rule h) (read_inside rule first_follow d) (read_part rule first_follow d) r p

  argument_told : Tells (rule Argument)
  argument_told = (tt, tt, named_passes h, named_alone d)

  item_told : Tells (rule Item)
  item_told = (tt, (tt, (tt, tt), all_of_passes (Within rule h), λ ts rest x t k _. all_of_alone d (read_part rule first_follow d Label) ts rest x t k))

pub all_told : (p : Part) (h d : ℕ) → Told first_follow (Within rule h) (read_inside rule first_follow d) (read_part rule first_follow d) (rule p)
all_told Argument h d = argument_told h d
all_told Item h d = item_told h d
all_told Expression h d = plainly h d (rule Expression) refl
all_told Conjunction h d = plainly h d (rule Conjunction) refl
all_told Negation h d = plainly h d (rule Negation) refl
all_told Test h d = plainly h d (rule Test) refl
all_told Question h d = plainly h d (rule Question) refl
all_told Comparison h d = plainly h d (rule Comparison) refl
all_told Ranged h d = plainly h d (rule Ranged) refl
all_told Range h d = plainly h d (rule Range) refl
all_told Members h d = plainly h d (rule Members) refl
all_told Concatenation h d = plainly h d (rule Concatenation) refl
all_told Sum h d = plainly h d (rule Sum) refl
all_told Product h d = plainly h d (rule Product) refl
all_told Signed h d = plainly h d (rule Signed) refl
all_told Conversion h d = plainly h d (rule Conversion) refl
all_told Primary h d = plainly h d (rule Primary) refl
all_told Bracketed h d = plainly h d (rule Bracketed) refl
all_told TypeName h d = plainly h d (rule TypeName) refl
all_told Expressions h d = plainly h d (rule Expressions) refl
all_told BracketedList h d = plainly h d (rule BracketedList) refl
all_told Named h d = plainly h d (rule Named) refl
all_told Suffix h d = plainly h d (rule Suffix) refl
all_told Arguments h d = plainly h d (rule Arguments) refl
all_told ArgumentList h d = plainly h d (rule ArgumentList) refl
all_told NamedArgument h d = plainly h d (rule NamedArgument) refl
all_told Worded h d = plainly h d (rule Worded) refl
all_told Exists h d = plainly h d (rule Exists) refl
all_told NullIf h d = plainly h d (rule NullIf) refl
all_told BeforeComma h d = plainly h d (rule BeforeComma) refl
all_told BeforeClose h d = plainly h d (rule BeforeClose) refl
all_told Cast h d = plainly h d (rule Cast) refl
all_told Row h d = plainly h d (rule Row) refl
all_told Case h d = plainly h d (rule Case) refl
all_told Arms h d = plainly h d (rule Arms) refl
all_told Whens h d = plainly h d (rule Whens) refl
all_told Arm h d = plainly h d (rule Arm) refl
all_told Otherwise h d = plainly h d (rule Otherwise) refl
all_told Query h d = plainly h d (rule Query) refl
all_told Selected h d = plainly h d (rule Selected) refl
all_told Items h d = plainly h d (rule Items) refl
all_told Label h d = plainly h d (rule Label) refl
all_told Alias h d = plainly h d (rule Alias) refl
all_told Sources h d = plainly h d (rule Sources) refl
all_told Condition h d = plainly h d (rule Condition) refl
all_told Groups h d = plainly h d (rule Groups) refl
all_told Having h d = plainly h d (rule Having) refl
all_told Order h d = plainly h d (rule Order) refl
all_told Key h d = plainly h d (rule Key) refl
all_told Direction h d = plainly h d (rule Direction) refl
all_told Nulls h d = plainly h d (rule Nulls) refl
all_told Paging h d = plainly h d (rule Paging) refl
all_told Limit h d = plainly h d (rule Limit) refl
all_told Offset h d = plainly h d (rule Offset) refl
all_told From h d = plainly h d (rule From) refl
all_told Join h d = plainly h d (rule Join) refl
all_told JoinedOn h d = plainly h d (rule JoinedOn) refl
all_told Factor h d = plainly h d (rule Factor) refl
all_told Call h d = plainly h d (rule Call) refl
all_told FactorInBrackets h d = plainly h d (rule FactorInBrackets) refl

pub fit : (p : Part) → Fit rule first_follow p
fit p = record { fits = all_fit p; guarded = all_guarded p; begun = all_begun p; firsts = all_firsts p; stops = all_stops p; ranked = all_ranked p; told = λ h d. all_told p h d }
