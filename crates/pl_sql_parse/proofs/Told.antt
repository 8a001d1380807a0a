-- Where a rule looks ahead, the test tells which of its rules it is, and the grammar of expressions is as it is told.
use Rattle.std.proofs.Common.{◌≡◌, ℕ, zero, suc, Bool, true, false, ◌&&◌, ◌||◌, if◌then◌else◌, List, [], ◌∷◌, ◌++◌, drop, Option, Some, None, refl, sym, ap, ◌∙◌, subst}
use Rattle.pl_lex.specs.declared.token.TokenKind.{TokenKind}
use Rattle.pl_lex.specs.declared.token.TokenKind.TheVariants as kind
use Rattle.pl_base.specs.declared.types.Ty.{Ty}
use Rattle.pl_grammar.specs.Marks.{Tokens, Mark, name, a_name, carried, marked, among, sees_two, sees_three, a_bare_alias, a_written_name}
use Rattle.pl_grammar.specs.Parser.{Parser, and_then, expect, take}
use Rattle.pl_grammar.specs.Relations.{Rel, both, behind_mark, before_mark, made, carries, with_mark, without, first, second}
use Rattle.pl_grammar.specs.Rule.{one, make, ◌before◌, ◌until◌, ◌then◌, part, Spelled, SpelledBy, Within, read_inside, read_part}
use Rattle.pl_grammar.specs.Fit.{Told, Ends, Fit}
use Rattle.pl_grammar.proofs.Plain.{plain, plain_told, split}
use Rattle.pl_grammar.proofs.Tools.{Gives, bind_some, same_pair, rest_some, expected}
use Rattle.pl_expr_parse.specs.Grammar as x
use Rattle.pl_expr_parse.specs.Finished.{reads_front}
use Rattle.pl_expr_parse.proofs.Finished.{lawful}
use Rattle.pl_tree.specs.declared.command.Param.{Param as Param_}
use Rattle.pl_tree.specs.declared.command.ResultType.{ResultType}
use Rattle.pl_tree.specs.declared.command.ResultType.TheVariants as result
use Rattle.pl_tree.specs.declared.command.Way.TheVariants as way
use Rattle.pl_sql_parse.specs.declared.parts.Clause.{Clause as Clause_}
use Rattle.pl_sql_parse.specs.Trees.{param_of}
use Rattle.pl_sql_parse.specs.Words.{SET, SETOF, SAVEPOINT, OUT, INOUT}
use Rattle.pl_sql_parse.specs.Grammar.{Part, Command, Transaction, Work, Rollback, SavepointName, Do, Call, Insert, InsertAlias, Columns, Names, BracketedNames, NewRows, NewRow, NewValue, Returning, Update, FirstColumn, Assignment, Condition, Delete, Definition, Create, NewTable, IfNotExists, Element, TableRule, ForeignKey, BracketedExpression, Column, ColumnRules, ColumnRule, ColumnRuleKind, Referenced, NewRoutine, OrReplace, Signature, Params, Param, WayParam, NamedType, Returned, Result, ResultColumns, ResultColumn, Clauses, Clause, LanguageName, NewTrigger, Timing, Events, Event, Executed, Drop, DropRoutine, Dropped, IfExists, Types, Tree, Name, rule, R, type, has_alias, names_savepoint, is_named, has_way, is_set}
use Rattle.pl_sql_parse.specs.FirstFollow.{first_follow}
use Rattle.pl_sql_parse.proofs.Fits.{all_fit, all_guarded, all_begun, all_firsts, all_stops, all_ranked}

-- ---- names

name_marked : (t : TokenKind) (n : List ℕ) → carried a_name t ≡ Some n → marked name t ≡ true
name_marked (kind.Word m) n h = refl
name_marked (kind.Quoted m) n h = refl
name_marked t n h = absurd (cc)

bare_marked : (t : TokenKind) (n : List ℕ) → carried a_bare_alias t ≡ Some n → marked name t ≡ true
bare_marked (kind.Word m) n h = refl
bare_marked (kind.Quoted m) n h = refl
bare_marked t n h = absurd (cc)

written_marked : (t : TokenKind) (n : Bool × List ℕ) → carried a_written_name t ≡ Some n → marked name t ≡ true
written_marked (kind.Word m) n h = refl
written_marked (kind.Quoted m) n h = refl
written_marked t n h = absurd (cc)

both_hold : {a b : Bool} → a ≡ true → b ≡ true → (a && b) ≡ true
both_hold {a} {b} h k = ap (λ (x : Bool). x && b) h ∙ k

-- no name follows
no_name : (t : TokenKind) (ts : Tokens) → marked name t ≡ true → Ends (name ∷ []) (t ∷ ts) → ⊥
no_name t ts h end = let e : (if true then true else among [] t) ≡ false = ap (λ (b : Bool). if b then true else among [] t) (sym h) ∙ end in cc

taken : (t : TokenKind) (ts : Tokens) (a : List ℕ) (rest : Tokens) → Gives (take a_name (t ∷ ts)) a rest → ts ≡ rest
unfolding take
taken t ts a rest h = (rest_some (carried a_name t) a ts rest h).1

-- a type is one name
one_name : (h : ℕ) (a : Ty) (xs : Tokens) → Within x.rule h x.TypeName a xs → (t : TokenKind) × (xs ≡ t ∷ []) × (marked name t ≡ true)
one_name zero a xs d = absurd d
one_name (suc h) a xs (made (carries {a = n} {t = t} e)) = (t, refl, written_marked t n e)

-- ---- two tokens ahead

two_steady : (m n : Mark) (front rest : Tokens) → sees_two m n front ≡ true → sees_two m n (front ++ rest) ≡ true
unfolding sees_two
two_steady m n [] rest h = absurd (cc)
two_steady m n (t ∷ []) rest h = absurd (cc)
two_steady m n (t ∷ u ∷ ts) rest h = h

two_alone : (m : Mark) (t : TokenKind) (front rest : Tokens) → sees_two m name (t ∷ front) ≡ false → sees_two m name (t ∷ (front ++ rest)) ≡ true → Ends (name ∷ []) rest → ⊥
unfolding sees_two
two_alone m t [] [] h k end = absurd (cc)
two_alone m t [] (u ∷ rest) h k end = no_name u rest (split (marked m t) (marked name u) k).1 end
two_alone m t (u ∷ front) rest h k end = absurd (cc)

two_here : (m n : Mark) (t u : TokenKind) (ts : Tokens) → marked m t ≡ true → marked n u ≡ true → sees_two m n (t ∷ u ∷ ts) ≡ true
unfolding sees_two
two_here m n t u ts h k = both_hold h k

-- ---- SAVEPOINT

module _ (S : (p : Part) → Rel (Tree p)) where
  savepoint_passes : (a : Name) (front rest : Tokens) → Spelled S (SAVEPOINT before one a_name) a front → names_savepoint (front ++ rest) ≡ true
  savepoint_passes a front rest (behind_mark {t = t} h (carries {t = u} e)) = two_here SAVEPOINT name t u rest h (name_marked u a e)

one_alone : (m : Mark) (ts rest : Tokens) (a : Name) → sees_two m name ts ≡ true → Gives (take a_name ts) a rest → Ends (name ∷ []) rest → ⊥
unfolding sees_two
one_alone m [] rest a h k end = absurd (cc)
one_alone m (t ∷ []) rest a h k end = absurd (cc)
one_alone m (t ∷ u ∷ ts) rest a h k end = no_name u ts (split (marked m t) (marked name u) h).1 (subst (Ends (name ∷ [])) (sym (taken t (u ∷ ts) a rest k)) end)

savepoint_alone : (ts rest : Tokens) (a : Name) → names_savepoint ts ≡ true → Gives (take a_name ts) a rest → Ends (name ∷ []) rest → ⊥
savepoint_alone ts rest a h k end = one_alone SAVEPOINT ts rest a h k end

-- ---- an alias before SET

abbrev aliased : R (Option Name × Name)
aliased = make (λ p. (Some p.0, p.1)) ((one a_bare_alias until SET) then one a_name)

abbrev bare : R (Option Name × Name)
bare = SET before make (λ n. (None, n)) (one a_name)

module _ (S : (p : Part) → Rel (Tree p)) where
  alias_passes : (a : Option Name × Name) (front rest : Tokens) → Spelled S aliased a front → has_alias (front ++ rest) ≡ true
  unfolding sees_three
  alias_passes a front rest (made (both (before_mark t (carries {t = v} e) h) (carries {t = u} k))) = both_hold (both_hold (bare_marked v _ e) h) (name_marked u _ k)

abbrev read_bare : Parser (Option Name × Name)
read_bare = λ ts. and_then (expect SET ts) (λ _ ts. and_then (take a_name ts) (λ n ts. Some ((None, n), ts)))

alias_at : (t u v : TokenKind) (ts rest : Tokens) (a : Option Name × Name) → marked name v ≡ true → Gives (read_bare (t ∷ u ∷ v ∷ ts)) a rest → Ends (name ∷ []) rest → ⊥
alias_at t u v ts rest a h k end =
    let o = bind_some (expect SET (t ∷ u ∷ v ∷ ts)) (λ _ ts. and_then (take a_name ts) (λ n ts. Some ((None, n), ts))) a rest k in
    let m = expected SET (t ∷ u ∷ v ∷ ts) o.0 o.1 o.2 in
    let mid : u ∷ v ∷ ts ≡ o.1 = ap (drop 1) m.is in
    let n = bind_some (take a_name o.1) (λ n ts. Some ((None, n), ts)) a rest o.3 in
    let past : v ∷ ts ≡ n.1 = taken u (v ∷ ts) n.0 n.1 (ap (take a_name) mid ∙ n.2) in
    let ends : n.1 ≡ rest = (same_pair (None, n.0) a n.1 rest n.3).1 in
    no_name v ts h (subst (Ends (name ∷ [])) (sym (past ∙ ends)) end)

alias_alone : (ts rest : Tokens) (a : Option Name × Name) → has_alias ts ≡ true → Gives (read_bare ts) a rest → Ends (name ∷ []) rest → ⊥
unfolding sees_three
alias_alone [] rest a h k end = absurd (cc)
alias_alone (t ∷ []) rest a h k end = absurd (cc)
alias_alone (t ∷ u ∷ []) rest a h k end = absurd (cc)
alias_alone (t ∷ u ∷ v ∷ ts) rest a h k end = alias_at t u v ts rest a (split (marked name t && marked SET u) (marked name v) h).1 k end

-- ---- a name before a type

module _ (S : (p : Part) → Rel (Tree p)) where
  named_at : (t : TokenKind) (xs rest : Tokens) (ty : Ty) → marked name t ≡ true → SpelledBy x.rule x.TypeName ty xs → is_named ((t ∷ xs) ++ rest) ≡ true
  named_at t xs rest ty h d =
      let o = one_name d.0 ty xs d.1 in
      ap (λ (xs : Tokens). is_named ((t ∷ xs) ++ rest)) o.1 ∙ two_here name name t o.0 rest h o.2

  named_passes : (a : Option Name × Ty) (front rest : Tokens) → Spelled S (make (λ p. (Some p.0, p.1)) (one a_name then type)) a front → is_named (front ++ rest) ≡ true
  named_passes a front rest (made (both {b = ty} {ys = ys} (carries {t = t} e) d)) = named_at t ys rest ty (name_marked t _ e) d

abbrev read_type : Parser (Option Name × Ty)
read_type = λ ts. and_then (reads_front x.TypeName ts) (λ ty ts. Some ((None, ty), ts))

behind_name : (t : TokenKind) (rest : Tokens) → is_named (t ∷ rest) ≡ true → Ends (name ∷ []) rest → ⊥
unfolding sees_two
behind_name t [] h end = absurd (cc)
behind_name t (u ∷ ts) h end = no_name u ts (split (marked name t) (marked name u) h).1 end

named_alone : (ts rest : Tokens) (a : Option Name × Ty) → is_named ts ≡ true → Gives (read_type ts) a rest → Ends (name ∷ []) rest → ⊥
named_alone ts rest a h k end =
    let o = bind_some (reads_front x.TypeName ts) (λ ty ts. Some ((None, ty), ts)) a rest k in
    let ends = (same_pair (None, o.0) a o.1 rest o.3).1 in
    let f = (lawful x.TypeName).sound ts o.1 o.0 o.2 in
    let t = one_name f.2.0 o.0 f.0 f.2.1 in
    let is : ts ≡ t.0 ∷ rest = f.1 ∙ ap (λ (xs : Tokens). xs ++ o.1) t.1 ∙ ap (λ (r : Tokens). t.0 ∷ r) ends in
    behind_name t.0 rest (ap is_named (sym is) ∙ h) end

-- ---- OUT and INOUT

-- what has a name and a type, or a type alone, begins with a name
named_first : (h : ℕ) (a : Option Name × Ty) (xs : Tokens) → Within rule h NamedType a xs → (t : TokenKind) × (ts : Tokens) × (xs ≡ t ∷ ts) × (marked name t ≡ true)
named_first zero a xs d = absurd d
named_first (suc h) a xs (first (made (both {ys = ys} (carries {a = n} {t = t} e) d))) = (t, ys, refl, name_marked t n e)
named_first (suc h) a xs (second (made {a = ty} d)) = let o = one_name d.0 ty xs d.1 in (o.0, [], o.1, o.2)

or_steady : (a b c d : Bool) → (a ≡ true → c ≡ true) → (b ≡ true → d ≡ true) → (a || b) ≡ true → (c || d) ≡ true
or_steady true b true d f g h = refl
or_steady true b false d f g h = let k = f refl in absurd (cc)
or_steady false b true d f g h = refl
or_steady false b false d f g h = g h

has_way_steady : (front rest : Tokens) → has_way front ≡ true → has_way (front ++ rest) ≡ true
has_way_steady front rest h =
    or_steady (sees_two OUT name front) (sees_two INOUT name front) (sees_two OUT name (front ++ rest)) (sees_two INOUT name (front ++ rest)) (two_steady OUT name front rest) (two_steady INOUT name front rest) h

or_left : (a b : Bool) → a ≡ true → (a || b) ≡ true
or_left true b h = refl
or_left false b h = absurd (cc)

or_right : (a b : Bool) → b ≡ true → (a || b) ≡ true
or_right true b h = refl
or_right false b h = h

way_at : (m : Mark) (t : TokenKind) (xs rest : Tokens) (h : ℕ) (a : Option Name × Ty) → marked m t ≡ true → Within rule h NamedType a xs → sees_two m name ((t ∷ xs) ++ rest) ≡ true
way_at m t xs rest h a k d = let f = named_first h a xs d in ap (λ (xs : Tokens). sees_two m name ((t ∷ xs) ++ rest)) f.2 ∙ two_here m name t f.0 (f.1 ++ rest) k f.3

way_passes : (h : ℕ) (a : Param_) (front rest : Tokens) → Within rule h WayParam a front → has_way (front ++ rest) ≡ true
way_passes zero a front rest d = absurd d
way_passes (suc h) a front rest (with_mark {t = t} {xs = xs} k (made {a = p} d)) = or_left (sees_two OUT name (front ++ rest)) (sees_two INOUT name (front ++ rest)) (way_at OUT t xs rest h p k d)
way_passes (suc h) a front rest (without (behind_mark {t = t} {xs = xs} k (made {a = p} d))) = or_right (sees_two OUT name (front ++ rest)) (sees_two INOUT name (front ++ rest)) (way_at INOUT t xs rest h p k d)

either_alone : (a b c d : Bool) → (a ≡ false → c ≡ true → ⊥) → (b ≡ false → d ≡ true → ⊥) → (a || b) ≡ false → (c || d) ≡ true → ⊥
either_alone true b c d f g h k = absurd (cc)
either_alone false true c d f g h k = absurd (cc)
either_alone false false true d f g h k = f refl refl
either_alone false false false d f g h k = g refl k

way_excluded : (t : TokenKind) (front rest : Tokens) → has_way (t ∷ front) ≡ false → has_way (t ∷ (front ++ rest)) ≡ true → Ends (name ∷ []) rest → ⊥
way_excluded t front rest h k end =
    either_alone (sees_two OUT name (t ∷ front)) (sees_two INOUT name (t ∷ front)) (sees_two OUT name (t ∷ (front ++ rest))) (sees_two INOUT name (t ∷ (front ++ rest)))
    (λ h k. two_alone OUT t front rest h k end) (λ h k. two_alone INOUT t front rest h k end) h k

way_alone : (h : ℕ) (a : Param_) (front rest : Tokens) → Spelled (Within rule h) (make (λ p. param_of way.In p.0 p.1) (part NamedType)) a front → has_way front ≡ false → has_way (front ++ rest) ≡ true → Ends (name ∷ []) rest → ⊥
way_alone h a front rest (made {a = p} d) fails k end =
    let f = named_first h p front d in
    way_excluded f.0 f.1 rest (ap has_way (sym f.2) ∙ fails) (ap (λ (xs : Tokens). has_way (xs ++ rest)) (sym f.2) ∙ k) end

-- ---- SETOF

abbrev Results : Type 0
Results = ResultType × List Clause_

module _ (S : (p : Part) → Rel (Tree p)) where
  set_at : (t : TokenKind) (xs ys rest : Tokens) (ty : Ty) → marked SETOF t ≡ true → SpelledBy x.rule x.TypeName ty xs → is_set ((t ∷ (xs ++ ys)) ++ rest) ≡ true
  set_at t xs ys rest ty h d =
      let o = one_name d.0 ty xs d.1 in
      ap (λ (xs : Tokens). is_set ((t ∷ (xs ++ ys)) ++ rest)) o.1 ∙ two_here SETOF name t o.0 (ys ++ rest) h o.2

  set_passes : (a : Results) (front rest : Tokens) → Spelled S (SETOF before make (λ p. (result.Set p.0, p.1)) (type then part Clauses)) a front → is_set (front ++ rest) ≡ true
  set_passes a front rest (behind_mark {t = t} h (made (both {a = ty} {xs = xs} {ys = ys} d e))) = set_at t xs ys rest ty h d

  set_excluded : (xs ys rest : Tokens) (ty : Ty) → SpelledBy x.rule x.TypeName ty xs → is_set (xs ++ ys) ≡ false → is_set ((xs ++ ys) ++ rest) ≡ true → Ends (name ∷ []) rest → ⊥
  set_excluded xs ys rest ty d fails k end =
      let o = one_name d.0 ty xs d.1 in
      two_alone SETOF o.0 ys rest (ap (λ (xs : Tokens). is_set (xs ++ ys)) (sym o.1) ∙ fails) (ap (λ (xs : Tokens). is_set ((xs ++ ys) ++ rest)) (sym o.1) ∙ k) end

  set_alone : (a : Results) (front rest : Tokens) → Spelled S (make (λ p. (result.One p.0, p.1)) (type then part Clauses)) a front → is_set front ≡ false → is_set (front ++ rest) ≡ true → Ends (name ∷ []) rest → ⊥
  set_alone a front rest (made (both {a = ty} {xs = xs} {ys = ys} d e)) fails k end = set_excluded xs ys rest ty d fails k end

-- ---- the grammar

abbrev plainly : (h d : ℕ) {A : Type 0} (r : R A) → plain r ≡ true → Told first_follow (Within rule h) (read_inside rule first_follow d) (read_part rule first_follow d) r
plainly h d r p = plain_told first_follow (Within rule h) (read_inside rule first_follow d) (read_part rule first_follow d) r p

pub all_told : (p : Part) (h d : ℕ) → Told first_follow (Within rule h) (read_inside rule first_follow d) (read_part rule first_follow d) (rule p)
all_told Command h d = (tt, (tt, (tt, (tt, (tt, (lawful x.Query, tt))))))
all_told Transaction h d = plainly h d (rule Transaction) refl
all_told Work h d = plainly h d (rule Work) refl
all_told Rollback h d = plainly h d (rule Rollback) refl
all_told SavepointName h d = (tt, tt, savepoint_passes (Within rule h), savepoint_alone)
all_told Do h d = plainly h d (rule Do) refl
all_told Call h d = (tt, lawful x.Arguments)
all_told Insert h d = plainly h d (rule Insert) refl
all_told InsertAlias h d = plainly h d (rule InsertAlias) refl
all_told Columns h d = plainly h d (rule Columns) refl
all_told Names h d = plainly h d (rule Names) refl
all_told BracketedNames h d = plainly h d (rule BracketedNames) refl
all_told NewRows h d = ((tt, tt), (tt, lawful x.Query))
all_told NewRow h d = plainly h d (rule NewRow) refl
all_told NewValue h d = (tt, lawful x.Expression)
all_told Returning h d = (lawful x.Items, tt)
all_told Update h d = plainly h d (rule Update) refl
all_told FirstColumn h d = ((tt, tt), ((tt, tt), tt, alias_passes (Within rule h), alias_alone))
all_told Assignment h d = plainly h d (rule Assignment) refl
all_told Condition h d = (lawful x.Expression, tt)
all_told Delete h d = (tt, (lawful x.Alias, (tt, tt)))
all_told Definition h d = plainly h d (rule Definition) refl
all_told Create h d = plainly h d (rule Create) refl
all_told NewTable h d = plainly h d (rule NewTable) refl
all_told IfNotExists h d = plainly h d (rule IfNotExists) refl
all_told Element h d = plainly h d (rule Element) refl
all_told TableRule h d = plainly h d (rule TableRule) refl
all_told ForeignKey h d = plainly h d (rule ForeignKey) refl
all_told BracketedExpression h d = lawful x.Expression
all_told Column h d = (tt, (lawful x.TypeName, tt))
all_told ColumnRules h d = plainly h d (rule ColumnRules) refl
all_told ColumnRule h d = plainly h d (rule ColumnRule) refl
all_told ColumnRuleKind h d = (tt, (tt, (lawful x.Concatenation, (tt, (tt, (tt, tt))))))
all_told Referenced h d = plainly h d (rule Referenced) refl
all_told NewRoutine h d = plainly h d (rule NewRoutine) refl
all_told OrReplace h d = plainly h d (rule OrReplace) refl
all_told Signature h d = plainly h d (rule Signature) refl
all_told Params h d = plainly h d (rule Params) refl
all_told Param h d = (tt, (tt, tt, has_way_steady, way_passes h, way_alone h))
all_told WayParam h d = plainly h d (rule WayParam) refl
all_told NamedType h d = ((tt, lawful x.TypeName), lawful x.TypeName, named_passes (Within rule h), named_alone)
all_told Returned h d = plainly h d (rule Returned) refl
all_told Result h d = ((tt, tt), ((lawful x.TypeName, tt), (lawful x.TypeName, tt), (λ front rest k. two_steady SETOF name front rest k), set_passes (Within rule h), set_alone (Within rule h)))
all_told ResultColumns h d = plainly h d (rule ResultColumns) refl
all_told ResultColumn h d = (tt, lawful x.TypeName)
all_told Clauses h d = plainly h d (rule Clauses) refl
all_told Clause h d = plainly h d (rule Clause) refl
all_told LanguageName h d = plainly h d (rule LanguageName) refl
all_told NewTrigger h d = plainly h d (rule NewTrigger) refl
all_told Timing h d = plainly h d (rule Timing) refl
all_told Events h d = plainly h d (rule Events) refl
all_told Event h d = plainly h d (rule Event) refl
all_told Executed h d = plainly h d (rule Executed) refl
all_told Drop h d = plainly h d (rule Drop) refl
all_told DropRoutine h d = plainly h d (rule DropRoutine) refl
all_told Dropped h d = plainly h d (rule Dropped) refl
all_told IfExists h d = plainly h d (rule IfExists) refl
all_told Types h d = ((tt, (lawful x.TypeName, lawful x.TypeName)), tt)

pub fit : (p : Part) → Fit rule first_follow p
fit p = record { fits = all_fit p; guarded = all_guarded p; begun = all_begun p; firsts = all_firsts p; stops = all_stops p; ranked = all_ranked p; told = λ h d. all_told p h d }
