-- Where a rule looks ahead, the test tells which of its rules it is, and the other grammars are as they are told.
use Rattle.std.proofs.Common.{◌≡◌, ◌∙◌, ℕ, zero, suc, Bool, true, false, not, ◌||◌, if◌then◌else◌, List, [], ◌∷◌, ◌++◌, Some, refl, sym, ap}
use Rattle.pl_lex.specs.declared.token.TokenKind.{TokenKind}
use Rattle.pl_lex.specs.declared.token.TokenKind.TheVariants as kind
use Rattle.pl_grammar.specs.Marks.{Tokens, Mark, name, text, a_name, carried, marked, among, sees, same_keyword, same_sign, a_text}
use Rattle.pl_grammar.specs.Relations.{both, behind_mark, before_mark, made, carries, with_mark, without, there, absent, empty}
use Rattle.pl_grammar.specs.Rule.{one, make, part, nothing, ◌before◌, ◌until◌, ◌then◌, Spelled, Within, nullable, starts, read_inside, read_part}
use Rattle.pl_grammar.specs.Fit.{Told, Ends, Fit, Begun, included}
use Rattle.pl_grammar.specs.Words.{DOT, OPEN, IS, EQUAL, SELECT}
use Rattle.pl_grammar.proofs.Begins.{begun}
use Rattle.pl_grammar.proofs.Sets.{among_here, among_more, among_left, included_among}
use Rattle.pl_grammar.proofs.Plain.{plain, plain_told}
use Rattle.pl_expr_parse.specs.Grammar as x
use Rattle.pl_expr_parse.specs.FirstFollow as xf
use Rattle.pl_expr_parse.proofs.Finished.{lawful}
use Rattle.pl_sql_parse.specs.Grammar as sql
use Rattle.pl_sql_parse.proofs.Finished.{lawful as lawful_sql}
use Rattle.pl_tree.specs.declared.tree.Query.{Query as QueryTree}
use Rattle.pl_bodies.specs.declared.declaration.CursorParameter.{CursorParameter as CursorParameter_}
use Rattle.pl_bodies.specs.declared.declaration.DeclarationKind.{DeclarationKind}
use Rattle.pl_bodies.specs.declared.declaration.DeclarationKind.TheVariants as d
use Rattle.pl_bodies.specs.declared.simple.Condition.{Condition as Condition_}
use Rattle.pl_bodies.specs.declared.simple.Condition.TheVariants as condition
use Rattle.pl_bodies.specs.declared.simple.Direction.{Direction as Direction_}
use Rattle.pl_bodies.specs.declared.simple.Direction.TheVariants as direction
use Rattle.pl_bodies.specs.declared.simple.Level.{Level as Level_}
use Rattle.pl_bodies.specs.declared.simple.Level.TheVariants as level
use Rattle.pl_bodies.specs.declared.simple.Motion.TheVariants as motion
use Rattle.pl_bodies.specs.declared.simple.Simple.{Simple as Simple_}
use Rattle.pl_bodies.specs.declared.simple.Simple.TheVariants as simple
use Rattle.pl_bodies.specs.declared.simple.Target.{Target as Target_}
use Rattle.pl_bodies.specs.declared.statement.Caught.{Caught as Caught_}
use Rattle.pl_bodies.specs.declared.statement.Caught.TheVariants as caught
use Rattle.pl_body_grammar.specs.declared.parts.ForSource.{ForSource as ForSource_}
use Rattle.pl_body_grammar.specs.declared.parts.Piece.{Piece as Piece_}
use Rattle.pl_body_grammar.specs.declared.parts.Piece.TheVariants as piece
use Rattle.pl_body_grammar.specs.Trees.{raise_of}
use Rattle.pl_body_grammar.specs.Ahead.{sees_pair}
use Rattle.pl_body_grammar.specs.Words.{USING, CONSTANT, CURSOR, DEBUG, EXCEPTION, INFO, LOG, NEXT, NO, NOTICE, OTHERS, QUERY, REVERSE, SCROLL, SQLSTATE, WARNING, ASSIGN, SEMICOLON}
use Rattle.pl_sql_parse.specs.Words.{EXECUTE, FOR, INTO}
use Rattle.pl_body_grammar.specs.Grammar.{Part, BlockPiece, CasePiece, DeclarationPiece, Piece, OtherPiece, Ended, OptionalName, Opening, Condition, FirstArm, Values, Handler, Conditions, Caught, ConditionName, For, ForSource, Counted, Downward, Upward, Upper, Last, Declared, CursorDeclared, Scroll, CursorParameters, CursorParameter, BoundQuery, ForOrIs, VariableDeclared, Typed, VariableType, TypeSuffix, NotNull, Default, DefaultSign, Becomes, Assignment, Target, Targets, Into, Dynamic, Using, Expressions, Statement, Action, Control, Jump, Return, ReturnNext, ReturnQuery, Raise, Level, Raised, Format, UsingOptions, Options, RaiseOption, OptionKind, Assert, Get, RowCounts, StackedTargets, RowCount, StackedTarget, StackedItem, Cursor, Opened, OpenedFor, Scrolled, NotScrolled, Fetch, FetchedFrom, Direction, Place, FromName, FromOrIn, Move, Motion, Forward, Backward, Command, Perform, Select, QueryEnd, Selected, IntoItems, Execute, Changed, Change, Transaction, OtherCommand, Tree, Name, R, rule, is_assignment, is_others, is_code, is_reverse, is_cursor, is_constant, returns_next, returns_query, levels, has_level, is_fetched, is_moved, before_semicolon, returned_value}
use Rattle.pl_body_grammar.specs.FirstFollow.{first_follow, firsts, empty as is_empty}
use Rattle.pl_body_grammar.proofs.Fits.{all_fit, all_guarded, all_begun, all_firsts, all_stops, all_ranked}
use Rattle.pl_body_grammar.proofs.Pairs.{Two, long, two as two_tokens, pair_steady, pair_excluded, pair_at, pair_alone, mark_passes}

-- ---- rules that spell at least two tokens

abbrev pub longs : Part → Bool
longs OtherPiece = true
longs Opening = true
longs Condition = true
longs FirstArm = true
longs Values = true
longs Handler = true
longs For = true
longs ForSource = true
longs Counted = true
longs Downward = true
longs Upward = true
longs Last = true
longs Declared = true
longs CursorDeclared = true
longs CursorParameter = true
longs BoundQuery = true
longs VariableDeclared = true
longs Typed = true
longs Assignment = true
longs Statement = true
longs Action = true
longs Control = true
longs ReturnQuery = true
longs Raised = true
longs Options = true
longs RaiseOption = true
longs Assert = true
longs Get = true
longs RowCounts = true
longs StackedTargets = true
longs RowCount = true
longs StackedTarget = true
longs Cursor = true
longs OpenedFor = true
longs Scrolled = true
longs NotScrolled = true
longs Fetch = true
longs FetchedFrom = true
longs FromName = true
longs Move = true
longs Motion = true
longs Forward = true
longs Backward = true
longs Command = true
longs Perform = true
longs Select = true
longs Execute = true
longs Changed = true
longs Change = true
longs Transaction = true
longs OtherCommand = true
longs _ = false

all_long : (p : Part) → (not (longs p) || long first_follow longs (rule p)) ≡ true
all_long BlockPiece = refl
all_long CasePiece = refl
all_long DeclarationPiece = refl
all_long Piece = refl
all_long OtherPiece = refl
all_long Ended = refl
all_long OptionalName = refl
all_long Opening = refl
all_long Condition = refl
all_long FirstArm = refl
all_long Values = refl
all_long Handler = refl
all_long Conditions = refl
all_long Caught = refl
all_long ConditionName = refl
all_long For = refl
all_long ForSource = refl
all_long Counted = refl
all_long Downward = refl
all_long Upward = refl
all_long Upper = refl
all_long Last = refl
all_long Declared = refl
all_long CursorDeclared = refl
all_long Scroll = refl
all_long CursorParameters = refl
all_long CursorParameter = refl
all_long BoundQuery = refl
all_long ForOrIs = refl
all_long VariableDeclared = refl
all_long Typed = refl
all_long VariableType = refl
all_long TypeSuffix = refl
all_long NotNull = refl
all_long Default = refl
all_long DefaultSign = refl
all_long Becomes = refl
all_long Assignment = refl
all_long Target = refl
all_long Targets = refl
all_long Into = refl
all_long Dynamic = refl
all_long Using = refl
all_long Expressions = refl
all_long Statement = refl
all_long Action = refl
all_long Control = refl
all_long Jump = refl
all_long Return = refl
all_long ReturnNext = refl
all_long ReturnQuery = refl
all_long Raise = refl
all_long Level = refl
all_long Raised = refl
all_long Format = refl
all_long UsingOptions = refl
all_long Options = refl
all_long RaiseOption = refl
all_long OptionKind = refl
all_long Assert = refl
all_long Get = refl
all_long RowCounts = refl
all_long StackedTargets = refl
all_long RowCount = refl
all_long StackedTarget = refl
all_long StackedItem = refl
all_long Cursor = refl
all_long Opened = refl
all_long OpenedFor = refl
all_long Scrolled = refl
all_long NotScrolled = refl
all_long Fetch = refl
all_long FetchedFrom = refl
all_long Direction = refl
all_long Place = refl
all_long FromName = refl
all_long FromOrIn = refl
all_long Move = refl
all_long Motion = refl
all_long Forward = refl
all_long Backward = refl
all_long Command = refl
all_long Perform = refl
all_long Select = refl
all_long QueryEnd = refl
all_long Selected = refl
all_long IntoItems = refl
all_long Execute = refl
all_long Changed = refl
all_long Change = refl
all_long Transaction = refl
all_long OtherCommand = refl

-- what is known of the parts by derivations of a bounded height
pub record Known (h : ℕ) : Type 0 where
  pub begin : (p : Part) (a : Tree p) (xs : Tokens) → Within rule h p a xs → Begun (firsts p) (is_empty p) xs
  pub two : (p : Part) → longs p ≡ true → (a : Tree p) (xs : Tokens) → Within rule h p a xs → Two xs

abbrev Tells : (h d : ℕ) {A : Type 0} → R A → Type 0
Tells h d r = Told first_follow (Within rule h) (read_inside rule first_follow d) (read_part rule first_follow d) r

abbrev plainly : (h d : ℕ) {A : Type 0} (r : R A) → plain r ≡ true → Tells h d r
plainly h d r p = plain_told first_follow (Within rule h) (read_inside rule first_follow d) (read_part rule first_follow d) r p

abbrev Spells : (h : ℕ) {A : Type 0} → R A → A → Tokens → Type 0
Spells h r = Spelled (Within rule h) r

long_two : (h d : ℕ) (k : Known h) {A : Type 0} (r : R A) → Tells h d r → long first_follow longs r ≡ true → (a : A) (xs : Tokens) → Spells h r a xs → Two xs
long_two h d k r l n a xs s = two_tokens first_follow longs (Within rule h) (read_inside rule first_follow d) (read_part rule first_follow d) k.begin k.two r l n a xs s

excluded : (h d : ℕ) (k : Known h) {A : Type 0} (ms ns : List Mark) (r : R A) → Tells h d r → long first_follow longs r ≡ true
    → (a : A) (front rest : Tokens) → Spells h r a front → sees_pair ms ns front ≡ false → sees_pair ms ns (front ++ rest) ≡ true → ⊥
excluded h d k ms ns r l n a front rest s f t = pair_excluded ms ns front rest (long_two h d k r l n a front s) f t

begins : (h d : ℕ) (k : Known h) {A : Type 0} (r : R A) → Tells h d r → (a : A) (xs : Tokens) → Spells h r a xs → Begun (starts first_follow r) (nullable first_follow r) xs
begins h d k r l a xs s = begun first_follow (Within rule h) (read_inside rule first_follow d) (read_part rule first_follow d) k.begin r l a xs s

passes : (h d : ℕ) (k : Known h) {A : Type 0} (m : Mark) (r : R A) → Tells h d r → (ns : List Mark) → included (starts first_follow r) ns ≡ true → nullable first_follow r ≡ false
    → (a : A) (front rest : Tokens) → Spells h (m before r) a front → sees_pair (m ∷ []) ns (front ++ rest) ≡ true
passes h d k m r l ns i n a front rest s = mark_passes first_follow (Within rule h) (read_inside rule first_follow d) (read_part rule first_follow d) k.begin m r l ns i n a front rest s

so_begun : (p : Part) (xs : Tokens) → Begun (starts first_follow (rule p)) (nullable first_follow (rule p)) xs → Begun (firsts p) (is_empty p) xs
so_begun p [] h = sym (all_begun p) ∙ h
so_begun p (t ∷ xs) h = included_among (starts first_follow (rule p)) (firsts p) t (all_firsts p) h

-- ---- one token

marked_among : (m : Mark) (t : TokenKind) → marked m t ≡ true → among (m ∷ []) t ≡ true
marked_among m t h = ap (λ (b : Bool). if b then true else false) h

name_marked : (t : TokenKind) (n : List ℕ) → carried a_name t ≡ Some n → marked name t ≡ true
name_marked (kind.Word m) n h = refl
name_marked (kind.Quoted m) n h = refl
name_marked t n h = absurd (cc)

-- ---- the tests

is_assignment_steady : (front rest : Tokens) → is_assignment front ≡ true → is_assignment (front ++ rest) ≡ true
is_assignment_steady front rest h = pair_steady (name ∷ []) (DOT ∷ ASSIGN ∷ EQUAL ∷ []) front rest h

-- a name, and what may be behind it of a target
target_shape : (h : ℕ) (a : Target_) (xs : Tokens) → Within rule h Target a xs → (t : TokenKind) × (ts : Tokens) × (xs ≡ t ∷ ts) × (marked name t ≡ true) × Begun (DOT ∷ []) true ts
target_shape zero a xs s = absurd s
target_shape (suc h) a xs (made (both {a = n} (carries {t = t} e) (with_mark {t = u} {xs = ys} m s))) = (t, u ∷ ys, refl, name_marked t n e, marked_among DOT u m)
target_shape (suc h) a xs (made (both {a = n} (carries {t = t} e) (without empty))) = (t, [], refl, name_marked t n e, refl)

behind_dot : (ys : Tokens) → Begun (ASSIGN ∷ EQUAL ∷ []) false ys → Begun (DOT ∷ ASSIGN ∷ EQUAL ∷ []) false ys
behind_dot [] h = h
behind_dot (t ∷ ys) h = among_more DOT (ASSIGN ∷ EQUAL ∷ []) t h

behind_target : (ts ys rest : Tokens) (t : TokenKind) → marked name t ≡ true → Begun (DOT ∷ []) true ts → Begun (ASSIGN ∷ EQUAL ∷ []) false ys → is_assignment (t ∷ ((ts ++ ys) ++ rest)) ≡ true
behind_target [] ys rest t h k j = pair_at (name ∷ []) (DOT ∷ ASSIGN ∷ EQUAL ∷ []) t ys rest (marked_among name t h) (behind_dot ys j)
behind_target (u ∷ ts) ys rest t h k j = pair_at (name ∷ []) (DOT ∷ ASSIGN ∷ EQUAL ∷ []) t ((u ∷ ts) ++ ys) rest (marked_among name t h) (among_left (DOT ∷ []) (ASSIGN ∷ EQUAL ∷ []) u k)

becomes_begun : (h : ℕ) (a : Unit {0}) (xs ys : Tokens) → Within rule h Becomes a xs → Begun (ASSIGN ∷ EQUAL ∷ []) false (xs ++ ys)
becomes_begun zero a xs ys s = absurd s
becomes_begun (suc h) a xs ys (with_mark {t = t} m empty) = among_here ASSIGN (EQUAL ∷ []) t m
becomes_begun (suc h) a xs ys (without (behind_mark {t = t} m empty)) = among_more ASSIGN (EQUAL ∷ []) t (marked_among EQUAL t m)

assignment_at : (h : ℕ) (a : Simple_) (front rest : Tokens) → Within rule h Assignment a front → is_assignment (front ++ rest) ≡ true
assignment_at zero a front rest s = absurd s
assignment_at (suc h) a front rest (made (both {a = target} {xs = xs} s (both {a = u} {xs = ys} {ys = zs} b j))) =
    let o = target_shape h target xs s in
    ap (λ (xs : Tokens). is_assignment ((xs ++ (ys ++ zs)) ++ rest)) o.2 ∙ behind_target o.1 (ys ++ zs) rest o.0 o.3 o.4 (becomes_begun h u ys zs b)

is_assignment_passes : (h d : ℕ) → Known h → (a : Piece_) (front rest : Tokens) → Spells h (make piece.Simple (part Assignment)) a front → is_assignment (front ++ rest) ≡ true
is_assignment_passes h d k a front rest (made {a = x} s) = assignment_at h x front rest s

is_assignment_alone : (h d : ℕ) → Known h → (a : Piece_) (front rest : Tokens) → Spells h (part OtherPiece) a front → is_assignment front ≡ false → is_assignment (front ++ rest) ≡ true → Ends [] rest → ⊥
is_assignment_alone h d k a front rest s f t end = excluded h d k (name ∷ []) (DOT ∷ ASSIGN ∷ EQUAL ∷ []) (part OtherPiece) tt refl a front rest s f t

is_others_steady : (front rest : Tokens) → is_others front ≡ true → is_others (front ++ rest) ≡ true
unfolding sees
is_others_steady [] rest h = absurd (cc)
is_others_steady (t ∷ ts) rest h = h

is_others_passes : (h d : ℕ) → Known h → (a : Caught_) (front rest : Tokens) → Spells h (OTHERS before nothing caught.Others) a front → is_others (front ++ rest) ≡ true
unfolding sees
is_others_passes h d k a front rest (behind_mark {t = t} m empty) = m

others_excluded : (ms : List Mark) (front rest : Tokens) → Begun ms false front → is_others front ≡ false → is_others (front ++ rest) ≡ true → ⊥
unfolding sees
others_excluded ms [] rest b f t = absurd (cc)
others_excluded ms (u ∷ us) rest b f t = absurd (cc)

is_others_alone : (h d : ℕ) → Known h → (a : Caught_) (front rest : Tokens) → Spells h (make caught.Condition (part ConditionName)) a front → is_others front ≡ false → is_others (front ++ rest) ≡ true → Ends [] rest → ⊥
is_others_alone h d k a front rest s f t end = others_excluded (firsts ConditionName) front rest (begins h d k (make caught.Condition (part ConditionName)) tt a front s) f t

is_code_steady : (front rest : Tokens) → is_code front ≡ true → is_code (front ++ rest) ≡ true
is_code_steady front rest h = pair_steady (SQLSTATE ∷ []) (text ∷ []) front rest h

is_code_passes : (h d : ℕ) → Known h → (a : Condition_) (front rest : Tokens) → Spells h (SQLSTATE before make condition.Code (one a_text)) a front → is_code (front ++ rest) ≡ true
is_code_passes h d k a front rest s = passes h d k SQLSTATE (make condition.Code (one a_text)) tt (text ∷ []) refl refl a front rest s

is_code_alone : (h d : ℕ) → Known h → (a : Condition_) (front rest : Tokens) → Spells h (make condition.Name (one a_name)) a front → is_code front ≡ false → is_code (front ++ rest) ≡ true → Ends (text ∷ []) rest → ⊥
is_code_alone h d k a front rest (made (carries {t = t} e)) f h' end = pair_alone (SQLSTATE ∷ []) (text ∷ []) t rest h' end

is_reverse_steady : (front rest : Tokens) → is_reverse front ≡ true → is_reverse (front ++ rest) ≡ true
is_reverse_steady front rest h = pair_steady (REVERSE ∷ []) xf.expression front rest h

is_reverse_passes : (h d : ℕ) → Known h → (a : ForSource_) (front rest : Tokens) → Spells h (REVERSE before part Downward) a front → is_reverse (front ++ rest) ≡ true
unfolding same_keyword same_sign
is_reverse_passes h d k a front rest s = passes h d k REVERSE (part Downward) tt xf.expression refl refl a front rest s

is_reverse_alone : (h d : ℕ) → Known h → (a : ForSource_) (front rest : Tokens) → Spells h (part Upward) a front → is_reverse front ≡ false → is_reverse (front ++ rest) ≡ true → Ends [] rest → ⊥
is_reverse_alone h d k a front rest s f t end = excluded h d k (REVERSE ∷ []) xf.expression (part Upward) tt refl a front rest s f t

-- ---- declarations

abbrev cursor_words : List Mark
cursor_words = NO ∷ SCROLL ∷ CURSOR ∷ []

abbrev behind_cursor_words : List Mark
behind_cursor_words = SCROLL ∷ CURSOR ∷ OPEN ∷ FOR ∷ IS ∷ []

is_cursor_steady : (front rest : Tokens) → is_cursor front ≡ true → is_cursor (front ++ rest) ≡ true
is_cursor_steady front rest h = pair_steady cursor_words behind_cursor_words front rest h

for_or_is : (h : ℕ) (a : Unit {0}) (xs ys : Tokens) → Within rule h ForOrIs a xs → Begun (FOR ∷ IS ∷ []) false (xs ++ ys)
for_or_is zero a xs ys s = absurd s
for_or_is (suc h) a xs ys (with_mark {t = t} m empty) = among_here FOR (IS ∷ []) t m
for_or_is (suc h) a xs ys (without (behind_mark {t = t} m empty)) = among_more FOR (IS ∷ []) t (marked_among IS t m)

bound_begun : (h : ℕ) (a : QueryTree) (xs : Tokens) → Within rule h BoundQuery a xs → Begun (FOR ∷ IS ∷ []) false xs
bound_begun zero a xs s = absurd s
bound_begun (suc h) a xs (made (both {a = u} {xs = ys} {ys = zs} s j)) = for_or_is h u ys zs s

later_words : (xs : Tokens) → Begun (FOR ∷ IS ∷ []) false xs → Begun behind_cursor_words false xs
later_words [] h = h
later_words (t ∷ xs) h = among_more SCROLL (CURSOR ∷ OPEN ∷ FOR ∷ IS ∷ []) t (among_more CURSOR (OPEN ∷ FOR ∷ IS ∷ []) t (among_more OPEN (FOR ∷ IS ∷ []) t h))

parameters_begun : (h : ℕ) (a : List CursorParameter_) (xs ys : Tokens) → Within rule h CursorParameters a xs → Begun (FOR ∷ IS ∷ []) false ys → Begun behind_cursor_words false (xs ++ ys)
parameters_begun zero a xs ys s b = absurd s
parameters_begun (suc h) a xs ys (with_mark {t = t} m s) b = among_more SCROLL (CURSOR ∷ OPEN ∷ FOR ∷ IS ∷ []) t (among_more CURSOR (OPEN ∷ FOR ∷ IS ∷ []) t (among_here OPEN (FOR ∷ IS ∷ []) t m))
parameters_begun (suc h) a xs ys (without empty) b = later_words ys b

-- what is behind [[NO] SCROLL]: CURSOR and more
cursor_at : (h : ℕ) (a : Bool) (xs zs rest : Tokens) (u : TokenKind) → Within rule h Scroll a xs → marked CURSOR u ≡ true → Begun behind_cursor_words false zs → is_cursor ((xs ++ (u ∷ zs)) ++ rest) ≡ true
cursor_at zero a xs zs rest u s m b = absurd s
cursor_at (suc h) a xs zs rest u (with_mark {t = t} n (behind_mark {t = v} o empty)) m b = pair_at cursor_words behind_cursor_words t (v ∷ u ∷ zs) rest (among_here NO (SCROLL ∷ CURSOR ∷ []) t n) (among_here SCROLL (CURSOR ∷ OPEN ∷ FOR ∷ IS ∷ []) v o)
cursor_at (suc h) a xs zs rest u (without (there {t = t} n)) m b = pair_at cursor_words behind_cursor_words t (u ∷ zs) rest (among_more NO (SCROLL ∷ CURSOR ∷ []) t (among_here SCROLL (CURSOR ∷ []) t n)) (among_more SCROLL (CURSOR ∷ OPEN ∷ FOR ∷ IS ∷ []) u (among_here CURSOR (OPEN ∷ FOR ∷ IS ∷ []) u m))
cursor_at (suc h) a xs zs rest u (without absent) m b = pair_at cursor_words behind_cursor_words u zs rest (among_more NO (SCROLL ∷ CURSOR ∷ []) u (among_more SCROLL (CURSOR ∷ []) u (marked_among CURSOR u m))) b

is_cursor_passes : (h d : ℕ) → Known h → (a : DeclarationKind) (front rest : Tokens) → Within rule h CursorDeclared a front → is_cursor (front ++ rest) ≡ true
is_cursor_passes zero d k a front rest s = absurd s
is_cursor_passes (suc h) d k a front rest (made (both {a = b} {xs = xs} s (both {a = ps} {b = q} {ys = zs} (behind_mark {t = u} {xs = ys} m p) j))) =
    cursor_at h b xs (ys ++ zs) rest u s m (parameters_begun h ps ys zs p (bound_begun h q zs j))

is_cursor_alone : (h d : ℕ) → Known h → (a : DeclarationKind) (front rest : Tokens) → Spells h (part VariableDeclared) a front → is_cursor front ≡ false → is_cursor (front ++ rest) ≡ true → Ends [] rest → ⊥
is_cursor_alone h d k a front rest s f t end = excluded h d k cursor_words behind_cursor_words (part VariableDeclared) tt refl a front rest s f t

abbrev constant : R DeclarationKind
constant = make (λ p. d.Variable true p.0 p.1.0 p.1.1) (part Typed)

abbrev not_constant : R DeclarationKind
not_constant = make (λ p. d.Variable false p.0 p.1.0 p.1.1) (part Typed)

is_constant_steady : (front rest : Tokens) → is_constant front ≡ true → is_constant (front ++ rest) ≡ true
is_constant_steady front rest h = pair_steady (CONSTANT ∷ []) (name ∷ []) front rest h

is_constant_passes : (h d : ℕ) → Known h → (a : DeclarationKind) (front rest : Tokens) → Spells h (CONSTANT before constant) a front → is_constant (front ++ rest) ≡ true
is_constant_passes h d k a front rest s = passes h d k CONSTANT constant tt (name ∷ []) refl refl a front rest s

is_constant_alone : (h d : ℕ) → Known h → (a : DeclarationKind) (front rest : Tokens) → Spells h not_constant a front → is_constant front ≡ false → is_constant (front ++ rest) ≡ true → Ends [] rest → ⊥
is_constant_alone h d k a front rest s f t end = excluded h d k (CONSTANT ∷ []) (name ∷ []) not_constant tt refl a front rest s f t

-- ---- RETURN

returns_next_steady : (front rest : Tokens) → returns_next front ≡ true → returns_next (front ++ rest) ≡ true
returns_next_steady front rest h = pair_steady (NEXT ∷ []) (SEMICOLON ∷ xf.expression) front rest h

returns_next_passes : (h d : ℕ) → Known h → (a : Simple_) (front rest : Tokens) → Spells h (NEXT before make simple.ReturnNext (part ReturnNext)) a front → returns_next (front ++ rest) ≡ true
unfolding same_keyword same_sign
returns_next_passes h d k a front rest s = passes h d k NEXT (make simple.ReturnNext (part ReturnNext)) tt (SEMICOLON ∷ xf.expression) refl refl a front rest s

returns_query_steady : (front rest : Tokens) → returns_query front ≡ true → returns_query (front ++ rest) ≡ true
returns_query_steady front rest h = pair_steady (QUERY ∷ []) (SELECT ∷ EXECUTE ∷ []) front rest h

returns_query_passes : (h d : ℕ) → Known h → (a : Simple_) (front rest : Tokens) → Spells h (QUERY before part ReturnQuery) a front → returns_query (front ++ rest) ≡ true
unfolding same_keyword same_sign
returns_query_passes h d k a front rest s = passes h d k QUERY (part ReturnQuery) tt (SELECT ∷ EXECUTE ∷ []) refl refl a front rest s

abbrev a_value : R Simple_
a_value = make (λ x. simple.Return (Some x)) before_semicolon

returns_query_alone : (h d : ℕ) → Known h → (a : Simple_) (front rest : Tokens) → Spells h a_value a front → returns_query front ≡ false → returns_query (front ++ rest) ≡ true → Ends [] rest → ⊥
returns_query_alone h d k a front rest s f t end = excluded h d k (QUERY ∷ []) (SELECT ∷ EXECUTE ∷ []) a_value (lawful x.Expression) refl a front rest s f t

returned_told : (h d : ℕ) → Known h → Tells h d returned_value
returned_told h d k = (tt, lawful x.Expression, returns_query_steady, returns_query_passes h d k, returns_query_alone h d k)

returns_next_alone : (h d : ℕ) → Known h → (a : Simple_) (front rest : Tokens) → Spells h returned_value a front → returns_next front ≡ false → returns_next (front ++ rest) ≡ true → Ends [] rest → ⊥
returns_next_alone h d k a front rest s f t end = excluded h d k (NEXT ∷ []) (SEMICOLON ∷ xf.expression) returned_value (returned_told h d k) refl a front rest s f t

-- ---- RAISE

abbrev raised : List Mark
raised = USING ∷ SQLSTATE ∷ name ∷ text ∷ []

level_shape : (h : ℕ) (a : Level_) (xs : Tokens) → Within rule h Level a xs → (t : TokenKind) × (xs ≡ t ∷ []) × (among levels t ≡ true)
level_shape zero a xs s = absurd s
level_shape (suc h) a xs (with_mark {t = t} m empty) = (t, refl, among_here DEBUG (LOG ∷ INFO ∷ NOTICE ∷ WARNING ∷ EXCEPTION ∷ []) t m)
level_shape (suc h) a xs (without (with_mark {t = t} m empty)) = (t, refl, among_more DEBUG (LOG ∷ INFO ∷ NOTICE ∷ WARNING ∷ EXCEPTION ∷ []) t (among_here LOG (INFO ∷ NOTICE ∷ WARNING ∷ EXCEPTION ∷ []) t m))
level_shape (suc h) a xs (without (without (with_mark {t = t} m empty))) = (t, refl, among_more DEBUG (LOG ∷ INFO ∷ NOTICE ∷ WARNING ∷ EXCEPTION ∷ []) t (among_more LOG (INFO ∷ NOTICE ∷ WARNING ∷ EXCEPTION ∷ []) t (among_here INFO (NOTICE ∷ WARNING ∷ EXCEPTION ∷ []) t m)))
level_shape (suc h) a xs (without (without (without (with_mark {t = t} m empty)))) = (t, refl, among_more DEBUG (LOG ∷ INFO ∷ NOTICE ∷ WARNING ∷ EXCEPTION ∷ []) t (among_more LOG (INFO ∷ NOTICE ∷ WARNING ∷ EXCEPTION ∷ []) t (among_more INFO (NOTICE ∷ WARNING ∷ EXCEPTION ∷ []) t (among_here NOTICE (WARNING ∷ EXCEPTION ∷ []) t m))))
level_shape (suc h) a xs (without (without (without (without (with_mark {t = t} m empty))))) = (t, refl, among_more DEBUG (LOG ∷ INFO ∷ NOTICE ∷ WARNING ∷ EXCEPTION ∷ []) t (among_more LOG (INFO ∷ NOTICE ∷ WARNING ∷ EXCEPTION ∷ []) t (among_more INFO (NOTICE ∷ WARNING ∷ EXCEPTION ∷ []) t (among_more NOTICE (WARNING ∷ EXCEPTION ∷ []) t (among_here WARNING (EXCEPTION ∷ []) t m)))))
level_shape (suc h) a xs (without (without (without (without (without (behind_mark {t = t} m empty)))))) = (t, refl, among_more DEBUG (LOG ∷ INFO ∷ NOTICE ∷ WARNING ∷ EXCEPTION ∷ []) t (among_more LOG (INFO ∷ NOTICE ∷ WARNING ∷ EXCEPTION ∷ []) t (among_more INFO (NOTICE ∷ WARNING ∷ EXCEPTION ∷ []) t (among_more NOTICE (WARNING ∷ EXCEPTION ∷ []) t (among_more WARNING (EXCEPTION ∷ []) t (marked_among EXCEPTION t m))))))

abbrev leveled : R Simple_
leveled = make (λ p. raise_of p.0 p.1.0 p.1.1) (part Level then part Raised)

abbrev unleveled : R Simple_
unleveled = make (λ p. raise_of level.Exception p.0 p.1) (part Raised)

has_level_steady : (front rest : Tokens) → has_level front ≡ true → has_level (front ++ rest) ≡ true
has_level_steady front rest h = pair_steady levels raised front rest h

has_level_passes : (h d : ℕ) → Known h → (a : Simple_) (front rest : Tokens) → Spells h leveled a front → has_level (front ++ rest) ≡ true
has_level_passes h d k a front rest (made (both {a = l} {b = r} {xs = xs} {ys = ys} s j)) =
    let o = level_shape h l xs s in
    ap (λ (xs : Tokens). has_level ((xs ++ ys) ++ rest)) o.1 ∙ pair_at levels raised o.0 ys rest o.2 (k.begin Raised r ys j)

has_level_alone : (h d : ℕ) → Known h → (a : Simple_) (front rest : Tokens) → Spells h unleveled a front → has_level front ≡ false → has_level (front ++ rest) ≡ true → Ends [] rest → ⊥
has_level_alone h d k a front rest s f t end = excluded h d k levels raised unleveled tt refl a front rest s f t

-- ---- FETCH and MOVE

-- a name and a mark
name_until : (h : ℕ) {A : Type 0} (f : Name → A) (m : Mark) (a : A) (front rest : Tokens) → Spells h (make f (one a_name until m)) a front → sees_pair (name ∷ []) (m ∷ []) (front ++ rest) ≡ true
name_until h f m a front rest (made {a = n} (before_mark u (carries {t = t} e) k)) = pair_at (name ∷ []) (m ∷ []) t (u ∷ []) rest (marked_among name t (name_marked t n e)) (marked_among m u k)

is_fetched_steady : (front rest : Tokens) → is_fetched front ≡ true → is_fetched (front ++ rest) ≡ true
is_fetched_steady front rest h = pair_steady (name ∷ []) (INTO ∷ []) front rest h

abbrev fetched : R (Direction_ × Name)
fetched = (part Direction then part FromName) until INTO

is_fetched_passes : (h d : ℕ) → Known h → (a : Direction_ × Name) (front rest : Tokens) → Spells h (make (λ n. (direction.Next, n)) (one a_name until INTO)) a front → is_fetched (front ++ rest) ≡ true
is_fetched_passes h d k a front rest s = name_until h (λ n. (direction.Next, n)) INTO a front rest s

is_fetched_alone : (h d : ℕ) → Known h → (a : Direction_ × Name) (front rest : Tokens) → Spells h fetched a front → is_fetched front ≡ false → is_fetched (front ++ rest) ≡ true → Ends [] rest → ⊥
is_fetched_alone h d k a front rest s f t end = excluded h d k (name ∷ []) (INTO ∷ []) fetched (tt, tt) refl a front rest s f t

is_moved_steady : (front rest : Tokens) → is_moved front ≡ true → is_moved (front ++ rest) ≡ true
is_moved_steady front rest h = pair_steady (name ∷ []) (SEMICOLON ∷ []) front rest h

abbrev moved : R Simple_
moved = make (λ p. simple.Move p.1 p.0) (part Motion until SEMICOLON)

is_moved_passes : (h d : ℕ) → Known h → (a : Simple_) (front rest : Tokens) → Spells h (make (λ n. simple.Move n (motion.To direction.Next)) (one a_name until SEMICOLON)) a front → is_moved (front ++ rest) ≡ true
is_moved_passes h d k a front rest s = name_until h (λ n. simple.Move n (motion.To direction.Next)) SEMICOLON a front rest s

is_moved_alone : (h d : ℕ) → Known h → (a : Simple_) (front rest : Tokens) → Spells h moved a front → is_moved front ≡ false → is_moved (front ++ rest) ≡ true → Ends [] rest → ⊥
is_moved_alone h d k a front rest s f t end = excluded h d k (name ∷ []) (SEMICOLON ∷ []) moved tt refl a front rest s f t

-- ---- the grammar

all_told : (p : Part) (h d : ℕ) → Known h → Tells h d (rule p)
all_told BlockPiece h d k = plainly h d (rule BlockPiece) refl
all_told CasePiece h d k = plainly h d (rule CasePiece) refl
all_told DeclarationPiece h d k = plainly h d (rule DeclarationPiece) refl
all_told Piece h d k = (tt, (tt, (tt, (tt, (tt, tt, is_assignment_steady, is_assignment_passes h d k, is_assignment_alone h d k)))))
all_told OtherPiece h d k = plainly h d (rule OtherPiece) refl
all_told Ended h d k = plainly h d (rule Ended) refl
all_told OptionalName h d k = plainly h d (rule OptionalName) refl
all_told Opening h d k = (tt, (tt, (tt, (tt, (lawful x.Expression, tt)))))
all_told Condition h d k = lawful x.Expression
all_told FirstArm h d k = (tt, (lawful x.Expression, tt))
all_told Values h d k = plainly h d (rule Values) refl
all_told Handler h d k = plainly h d (rule Handler) refl
all_told Conditions h d k = plainly h d (rule Conditions) refl
all_told Caught h d k = (tt, tt, is_others_steady, is_others_passes h d k, is_others_alone h d k)
all_told ConditionName h d k = (tt, tt, is_code_steady, is_code_passes h d k, is_code_alone h d k)
all_told For h d k = plainly h d (rule For) refl
all_told ForSource h d k = (tt, (lawful x.Query, (tt, tt)))
all_told Counted h d k = (tt, tt, is_reverse_steady, is_reverse_passes h d k, is_reverse_alone h d k)
all_told Downward h d k = (lawful x.Expression, tt)
all_told Upward h d k = (lawful x.Expression, tt)
all_told Upper h d k = plainly h d (rule Upper) refl
all_told Last h d k = (lawful x.Expression, (lawful x.Expression, tt))
all_told Declared h d k = (tt, tt, is_cursor_steady, is_cursor_passes h d k, is_cursor_alone h d k)
all_told CursorDeclared h d k = plainly h d (rule CursorDeclared) refl
all_told Scroll h d k = plainly h d (rule Scroll) refl
all_told CursorParameters h d k = plainly h d (rule CursorParameters) refl
all_told CursorParameter h d k = (tt, lawful x.TypeName)
all_told BoundQuery h d k = (tt, lawful x.Query)
all_told ForOrIs h d k = plainly h d (rule ForOrIs) refl
all_told VariableDeclared h d k = (tt, tt, is_constant_steady, is_constant_passes h d k, is_constant_alone h d k)
all_told Typed h d k = plainly h d (rule Typed) refl
all_told VariableType h d k = plainly h d (rule VariableType) refl
all_told TypeSuffix h d k = plainly h d (rule TypeSuffix) refl
all_told NotNull h d k = plainly h d (rule NotNull) refl
all_told Default h d k = (tt, (tt, lawful x.Expression))
all_told DefaultSign h d k = plainly h d (rule DefaultSign) refl
all_told Becomes h d k = plainly h d (rule Becomes) refl
all_told Assignment h d k = (tt, (tt, lawful x.Expression))
all_told Target h d k = plainly h d (rule Target) refl
all_told Targets h d k = plainly h d (rule Targets) refl
all_told Into h d k = plainly h d (rule Into) refl
all_told Dynamic h d k = (lawful x.Expression, tt)
all_told Using h d k = plainly h d (rule Using) refl
all_told Expressions h d k = (lawful x.Expression, lawful x.Expression)
all_told Statement h d k = (tt, (lawful_sql sql.Definition, tt))
all_told Action h d k = plainly h d (rule Action) refl
all_told Control h d k = plainly h d (rule Control) refl
all_told Jump h d k = (tt, (lawful x.Expression, tt))
all_told Return h d k = (tt, (tt, (tt, lawful x.Expression, returns_query_steady, returns_query_passes h d k, returns_query_alone h d k), returns_next_steady, returns_next_passes h d k, returns_next_alone h d k))
all_told ReturnNext h d k = (tt, lawful x.Expression)
all_told ReturnQuery h d k = (tt, lawful x.Query)
all_told Raise h d k = (tt, ((tt, tt), tt, has_level_steady, has_level_passes h d k, has_level_alone h d k))
all_told Level h d k = plainly h d (rule Level) refl
all_told Raised h d k = plainly h d (rule Raised) refl
all_told Format h d k = (tt, lawful x.Expression)
all_told UsingOptions h d k = plainly h d (rule UsingOptions) refl
all_told Options h d k = plainly h d (rule Options) refl
all_told RaiseOption h d k = (tt, (tt, lawful x.Expression))
all_told OptionKind h d k = plainly h d (rule OptionKind) refl
all_told Assert h d k = (lawful x.Expression, (lawful x.Expression, tt))
all_told Get h d k = plainly h d (rule Get) refl
all_told RowCounts h d k = plainly h d (rule RowCounts) refl
all_told StackedTargets h d k = plainly h d (rule StackedTargets) refl
all_told RowCount h d k = plainly h d (rule RowCount) refl
all_told StackedTarget h d k = plainly h d (rule StackedTarget) refl
all_told StackedItem h d k = plainly h d (rule StackedItem) refl
all_told Cursor h d k = plainly h d (rule Cursor) refl
all_told Opened h d k = plainly h d (rule Opened) refl
all_told OpenedFor h d k = plainly h d (rule OpenedFor) refl
all_told Scrolled h d k = (tt, lawful x.Query)
all_told NotScrolled h d k = (tt, lawful x.Query)
all_told Fetch h d k = plainly h d (rule Fetch) refl
all_told FetchedFrom h d k = (tt, (tt, tt), is_fetched_steady, is_fetched_passes h d k, is_fetched_alone h d k)
all_told Direction h d k = plainly h d (rule Direction) refl
all_told Place h d k = (tt, (tt, (tt, (tt, (lawful x.Concatenation, lawful x.Concatenation)))))
all_told FromName h d k = plainly h d (rule FromName) refl
all_told FromOrIn h d k = plainly h d (rule FromOrIn) refl
all_told Move h d k = (tt, tt, is_moved_steady, is_moved_passes h d k, is_moved_alone h d k)
all_told Motion h d k = plainly h d (rule Motion) refl
all_told Forward h d k = (tt, (tt, (lawful x.Concatenation, tt)))
all_told Backward h d k = (tt, (tt, (lawful x.Concatenation, tt)))
all_told Command h d k = plainly h d (rule Command) refl
all_told Perform h d k = (lawful x.Selected, tt)
all_told Select h d k = plainly h d (rule Select) refl
all_told QueryEnd h d k = (lawful x.Sources, (lawful x.Condition, (lawful x.Groups, (lawful x.Having, (lawful x.Order, lawful x.Paging)))))
all_told Selected h d k = plainly h d (rule Selected) refl
all_told IntoItems h d k = ((tt, lawful x.Items), (lawful x.Items, (tt, tt)))
all_told Execute h d k = (lawful x.Expression, ((tt, tt), tt))
all_told Changed h d k = plainly h d (rule Changed) refl
all_told Change h d k = (lawful_sql sql.Insert, (lawful_sql sql.Update, lawful_sql sql.Delete))
all_told Transaction h d k = plainly h d (rule Transaction) refl
all_told OtherCommand h d k = (lawful_sql sql.Do, (lawful_sql sql.Call, (tt, (tt, lawful_sql sql.SavepointName))))

not_or : (a b : Bool) → (not a || b) ≡ true → a ≡ true → b ≡ true
not_or true b h k = h
not_or false b h k = absurd (cc)

known : (h : ℕ) → Known h
known zero = record { begin = λ p a xs s. absurd s; two = λ p l a xs s. absurd s }
known (suc h) = record {
  begin = λ p a xs s. so_begun p xs (begins h 0 (known h) (rule p) (all_told p h 0 (known h)) a xs s);
  two = λ p l a xs s. long_two h 0 (known h) (rule p) (all_told p h 0 (known h)) (not_or (longs p) (long first_follow longs (rule p)) (all_long p) l) a xs s;
}

pub fit : (p : Part) → Fit rule first_follow p
fit p = record { fits = all_fit p; guarded = all_guarded p; begun = all_begun p; firsts = all_firsts p; stops = all_stops p; ranked = all_ranked p; told = λ h d. all_told p h d (known h) }
