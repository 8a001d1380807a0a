-- What is told once an evaluation has ended.
use Rattle.std.proofs.Common.{◌≡◌, ◌<◌, ◌≤◌, ◌+◌, ◌∙◌, ℕ, List, [], ◌∷◌, ◌++◌, Option, Some, None, Result, Ok, Err, add-one, append-nil, append_assoc, ap, arith, drop, drop-cons, get_or, length, refl, subst, sym, take}
use Rattle.std.proofs.lemmas.List.{take-append-drop, take_more}
use Rattle.pl_base.specs.declared.fail.Fail.{Fail}
use Rattle.pl_base.specs.declared.state.State.{State}
use Rattle.pl_base.specs.declared.value.Value.{Value}
use Rattle.pl_calling.proofs.Keeping.{all_said}
use Rattle.pl_calling.specs.Ends.{CutIn, EndsAs, Still, Tells, settles}
use Rattle.pl_calling.specs.Reading.{read_beside}
use Rattle.pl_calling.specs.Standing.{Standing, standing}
use Rattle.pl_engine.proofs.Joins.{Lawful, cut_behind, cut_more}
use Rattle.pl_engine.specs.Answers.{Blame, Cut, Done, Stopped, between}
use Rattle.pl_engine.specs.Answers.{at as tried_at}
use Rattle.pl_engine.specs.Asks.{returned}
use Rattle.pl_engine.specs.Engines.{world}
use Rattle.pl_engine.specs.Holding.{said}
use Rattle.pl_engine.specs.declared.engine.Engine.{Engine}
use Rattle.pl_engine.specs.declared.port.Port.{Ghosts}
use Rattle.pl_engine.specs.declared.stop.Stop.{Stop}
use Rattle.pl_engine.specs.declared.stop.Stop.TheVariants.{Memory}
use Rattle.pl_engine.specs.pl_world.Trace as trace
use Rattle.pl_engine.specs.pl_world.Trace.{last_commit}
use Rattle.pl_engine.specs.pl_scope.declared.resolve.ResolvedExpr.{ResolvedExpr}
use Rattle.pl_undo.specs.Database.{Database}
use Rattle.pl_value.specs.Frames.{Row}
use Rattle.pl_value.specs.Reading.{Reading, got, fails}
use Rattle.pl_engine.specs.pl_world.Calls.{Within, within}
use Rattle.pl_engine.specs.pl_world.Errors.{Spot}
use Rattle.pl_engine.specs.pl_world.Expressions.{evaluated, read, reads, value_over}
use Rattle.pl_engine.specs.pl_world.Laws.{events}
use Rattle.pl_engine.specs.pl_world.Running.{Runner}
use Rattle.pl_engine.specs.pl_world.Scripts.{outward}
use Rattle.pl_engine.specs.pl_world.Variables.{row_of}
use Rattle.pl_engine.specs.pl_world.World.{Began, Committed, Event, Raised, Ran, Said, Stepped, World, made}
use Rattle.pl_engine.specs.pl_world.declared.outcome.Outcome.{Outcome}
use Rattle.pl_engine.specs.pl_world.declared.outcome.Outcome.TheVariants as outcome

-- ---- where what was told ends

abbrev first_of : trace.Event → List trace.Event → trace.Event
first_of e [] = e
first_of d (e ∷ es) = e

abbrev rest_of : List trace.Event → List trace.Event
rest_of [] = []
rest_of (e ∷ es) = es

abbrev Split : List Event → List trace.Event → List trace.Event → Type 0
Split es taken left = (front : List Event) × (rest : List Event) × (es ≡ front ++ rest) × (outward front ≡ taken) × (outward rest ≡ left)

under : (e : Event) (es : List Event) (taken left : List trace.Event) → ((front : List Event) → outward (e ∷ front) ≡ outward front) → Split es taken left → Split (e ∷ es) taken left
under e es taken left quiet (front, rest, are, is, other) = (e ∷ front, rest, ap (λ (xs : List Event). e ∷ xs) are, quiet front ∙ is, other)

told_first : (e : Event) (d t : trace.Event) (es : List Event) (ts left : List trace.Event) → ((front : List Event) → outward (e ∷ front) ≡ d ∷ outward front) → d ≡ t → Split es ts left → Split (e ∷ es) (t ∷ ts) left
told_first e d t es ts left told same (front, rest, are, is, other) = (e ∷ front, rest, ap (λ (xs : List Event). e ∷ xs) are, told front ∙ (ap (λ (x : trace.Event). x ∷ outward front) same ∙ ap (λ (xs : List trace.Event). t ∷ xs) is), other)

split : (es : List Event) (taken left : List trace.Event) → outward es ≡ taken ++ left → Split es taken left
split es [] left is = ([], es, refl, refl, is)
split [] (t ∷ ts) left is = absurd cc
split (Stepped p ∷ es) (t ∷ ts) left is = under (Stepped p) es (t ∷ ts) left (λ front. refl) (split es (t ∷ ts) left is)
split (Raised f ∷ es) (t ∷ ts) left is = under (Raised f) es (t ∷ ts) left (λ front. refl) (split es (t ∷ ts) left is)
split (Began what ∷ es) (t ∷ ts) left is = under (Began what) es (t ∷ ts) left (λ front. refl) (split es (t ∷ ts) left is)
split (Said lines ∷ es) (t ∷ ts) left is = told_first (Said lines) (trace.Said lines) t es ts left (λ front. refl) (ap (first_of t) is) (split es ts left (ap rest_of is))
split (Committed db ∷ es) (t ∷ ts) left is = told_first (Committed db) (trace.Committed db) t es ts left (λ front. refl) (ap (first_of t) is) (split es ts left (ap rest_of is))

said_append : (a b : List (List ℕ)) → said (a ++ b) ≡ said a ++ said b
said_append [] b = refl
said_append (x ∷ a) b = ap (λ (xs : List trace.Event). trace.Said x ∷ xs) (said_append a b)

said_snoc : (a : List (List ℕ)) (x : List ℕ) → said (a ++ x ∷ []) ≡ said a ++ trace.Said x ∷ []
said_snoc a x = said_append a (x ∷ [])

module _ {P : Type 0} {port : Ghosts P} where
  -- what is kept was told
  pub done : {O : Type 0} {ran : Ran O} {o : O} (old new : Engine) {p q : P} (s : Standing) → EndsAs ran o s → s.world ≡ world new → port.took (world old).last s.said p q → (world new).last ≡ last_commit s.said (world old).last
      → port.fits (world new).last q → (world old).steps ≡ (world new).steps + s.spent → Done port ran o old new p q
  done {O} {ran} {o} old new {p} {q} s (es, gives, out, steps) same took last fits spent = record {
    events = es;
    gives = gives ∙ ap (λ (w : World). made w o es) same;
    told = record {
      took = subst (λ (xs : List trace.Event). port.took (world old).last xs p q) (sym out) took;
      last = last ∙ ap (λ (xs : List trace.Event). last_commit xs (world old).last) (sym out);
      fits = fits;
      spent = omega (arith, spent, steps);
    };
  }

  -- it was told in part
  pub stopped : {O : Type 0} {ran : Ran O} {o : O} (old : Engine) {p q : P} (s : Standing) (stop : Stop) → EndsAs ran o s → CutIn port (world old).last stop s.said p q → Stopped port ran stop old p q
  stopped {O} {ran} {o} old {p} {q} s stop (es, gives, out, steps) (taken, left, are, cut) =
      let parts : Split es taken left = split es taken left (out ∙ are) in
      record {
        front = parts.0;
        rest = parts.1;
        are = ap (λ (r : Ran O). events r) gives ∙ parts.2;
        cut = subst (λ (xs : List trace.Event). Cut port stop (world old).last xs (outward parts.1) p q) (sym parts.3) (subst (λ (ys : List trace.Event). Cut port stop (world old).last taken ys p q) (sym parts.4) cut);
      }

-- ---- an evaluation in which calls were made

last_is : (begin : World) (old : Engine) → world old ≡ begin → begin.last ≡ (world old).last
last_is begin old is = ap (λ (w : World). w.last) (sym is)

module _ {P : Type 0} {port : Ghosts P} (begin : World) {A : Type 0} (at : Spot) (reading : Reading Within A) (back old : Engine) (held : List (List ℕ)) (failure : Option Fail) (there : Spot) (room : ℕ) (is : world old ≡ begin) {p q : P} where
  pub finished : {o : Result A Fail} → (world back).last ≡ begin.last → (world back).steps ≤ begin.steps → EndsAs (settles reading at) o (standing begin (world back) held failure there room) → Tells port begin.last (Ok tt) (said held) p q → Done port (settles reading at) o old back p q
  finished {o} last less ends tells =
      let same : (world old).steps ≡ begin.steps = ap (λ (w : World). w.steps) is in
      done old back (standing begin (world back) held failure there room) ends refl (subst (λ (db : Database). port.took db (said held) p q) (last_is begin old is) tells.0) (last ∙ ((last_is begin old is) ∙ sym (all_said held (world old).last))) (subst (λ (db : Database). port.fits db q) (sym last) tells.1)
      (omega (arith, same, less))

  pub cut_short : {o : Result A Fail} (stop : Stop) → EndsAs (settles reading at) o (standing begin (world back) held failure there room) → Tells port begin.last (Err stop) (said held) p q → Stopped port (settles reading at) stop old p q
  cut_short {o} stop ends tells = stopped old (standing begin (world back) held failure there room) stop ends (subst (λ (db : Database). CutIn port db stop (said held) p q) (last_is begin old is) tells)

-- ---- one in which none was reached

module _ {P : Type 0} {port : Ghosts P} (law : Lawful port) (e : Engine) {p : P} (fits : port.fits (world e).last p) where
  pub told_nothing : {O : Type 0} {ran : Ran O} {o : O} (s : Standing) → Still (world e) s → EndsAs ran o s → Done port ran o e e p p
  told_nothing s quiet ends =
      let none : s.spent ≡ 0 = quiet.spent in
      done e e s ends quiet.world (subst (λ (xs : List trace.Event). port.took (world e).last xs p p) (sym quiet.said) (law.none (world e).last p)) (ap (λ (xs : List trace.Event). last_commit xs (world e).last) (sym quiet.said)) fits
      (omega (arith, none))

-- ---- pieces, one after another

parted : (xs : List (List ℕ)) (i : ℕ) (x : List ℕ) → i < length xs → x ≡ get_or xs i x → xs ≡ take i xs ++ x ∷ drop (i + 1) xs
parted xs i x lt is =
    let rest : drop i xs ≡ x ∷ drop (i + 1) xs = rw (add-one, drop-cons xs i x lt, ← is) refl in
    sym (take-append-drop i xs) ∙ ap (λ (ys : List (List ℕ)). take i xs ++ ys) rest

module _ {P : Type 0} {port : Ghosts P} (law : Lawful port) (db : Database) where
  abbrev Took : List (List ℕ) → P → P → Type 0
  Took pieces p q = port.took db (said pieces) p q × port.fits db q

  pub none_told : (p : P) → port.fits db p → Took [] p p
  none_told p fits = (law.none db p, fits)

  pub one_told : (pieces : List (List ℕ)) (piece : List ℕ) {p m q : P} → Took pieces p m → Tells port db (Ok tt) (trace.Said piece ∷ []) m q → Took (pieces ++ piece ∷ []) p q
  one_told pieces piece {p} {m} {q} t one = (
    subst (λ (xs : List trace.Event). port.took db xs p q) (sym (said_snoc pieces piece))
        (law.joins db (said pieces) (trace.Said piece ∷ []) p m q t.0 (subst (λ (d : Database). port.took d (trace.Said piece ∷ []) m q) (sym (all_said pieces db)) one.0)),
    one.1,
  )

  -- the next piece was cut
  pub one_cut : (pieces : List (List ℕ)) (piece : List ℕ) (more : List (List ℕ)) (stop : Stop) {p m q : P} → Took pieces p m → Tells port db (Err stop) (trace.Said piece ∷ []) m q → Tells port db (Err stop) (said (pieces ++ piece ∷ more)) p q
  one_cut pieces piece more stop {p} {m} {q} t (taken, left, are, cut) = (
    said pieces ++ taken,
    left ++ said more,
    said_append pieces (piece ∷ more) ∙ (ap (λ (xs : List trace.Event). said pieces ++ (xs ++ said more)) are ∙ (ap (λ (xs : List trace.Event). said pieces ++ xs) (append_assoc taken left (said more)) ∙ sym (append_assoc (said pieces) taken (left ++ said more)))),
    cut_behind law t.0 (subst (λ (d : Database). Cut port stop d taken (left ++ said more) m q) (sym (all_said pieces db)) (cut_more law (said more) cut)),
  )

  -- of pieces in turn, the next one
  pub tell_on : (pieces : List (List ℕ)) (i : ℕ) (piece bytes : List ℕ) {p m q : P} → i < length pieces → piece ≡ get_or pieces i piece → bytes ≡ piece → Took (take i pieces) p m → Tells port db (Ok tt) (trace.Said bytes ∷ []) m q
      → Took (take (i + 1) pieces) p q
  tell_on pieces i piece bytes {p} {m} {q} lt is same t one =
      subst (λ (ps : List (List ℕ)). Took ps p q) (ap (λ (x : List ℕ). take i pieces ++ x ∷ []) is ∙ sym (take_more pieces i piece lt))
      (one_told (take i pieces) piece t (subst (λ (x : List ℕ). Tells port db (Ok tt) (trace.Said x ∷ []) m q) same one))

  pub tell_cut : (pieces : List (List ℕ)) (i : ℕ) (piece bytes : List ℕ) (stop : Stop) {p m q : P} → i < length pieces → piece ≡ get_or pieces i piece → bytes ≡ piece → Took (take i pieces) p m → CutIn port db stop (trace.Said bytes ∷ []) m q
      → CutIn port db stop (said pieces) p q
  tell_cut pieces i piece bytes stop {p} {m} {q} lt is same t one =
      subst (λ (ps : List (List ℕ)). CutIn port db stop (said ps) p q) (sym (parted pieces i piece lt is))
      (one_cut (take i pieces) piece (drop (i + 1) pieces) stop t (subst (λ (x : List ℕ). CutIn port db stop (trace.Said x ∷ []) m q) same one))

  -- a line that wasn't taken
  pub line_cut : (lines : List ℕ) (stop : Stop) {p q : P} → port.tried db (trace.Said lines) p q → Blame port stop (trace.Said lines) p q → CutIn port db stop (trace.Said lines ∷ []) p q
  line_cut lines stop {p} {q} tried blame = ([], trace.Said lines ∷ [], refl, tried_at (trace.Said lines) [] p refl (law.none db p) tried blame)

-- ---- as an outcome

abbrev outcome_of : Result Value Fail → Outcome
outcome_of (Ok v) = outcome.Return v
outcome_of (Err f) = outcome.Fail f

abbrev mapped : Ran (Result Value Fail) → Ran Outcome
mapped (made w o es) = made w (outcome_of o) es

failing_as : (x : Within) (o : Option Fail) (state : State) (at : Spot) → read (fails state (within x.world x.told o)) at returned ≡ mapped (settles (fails state (within x.world x.told o)) at)
unfolding reads
failing_as x (Some f) state at = refl
failing_as x None state at = refl

read_as : (reading : Reading Within Value) (at : Spot) → read reading at returned ≡ mapped (settles reading at)
unfolding reads
read_as (got v x) at = refl
read_as (fails state x) at = failing_as x x.failure state at

events_as : (ran : Ran (Result Value Fail)) → events (mapped ran) ≡ events ran
events_as (made w o es) = refl

module _ {P : Type 0} {port : Ghosts P} (reading : Reading Within Value) (at : Spot) {old : Engine} {p q : P} where
  read_done : {new : Engine} (o : Result Value Fail) → Done port (settles reading at) o old new p q → Done port (read reading at returned) (outcome_of o) old new p q
  read_done {new} o d = record {
    events = d.events;
    gives = read_as reading at ∙ ap (λ (ran : Ran (Result Value Fail)). mapped ran) d.gives;
    told = d.told;
  }

  pub read_value : {new : Engine} (o : Result Value Fail) (v : Value) → o ≡ Ok v → Done port (settles reading at) o old new p q → Done port (read reading at returned) (outcome.Return v) old new p q
  read_value {new} o v is d = read_done (Ok v) (subst (λ (o : Result Value Fail). Done port (settles reading at) o old new p q) is d)

  pub read_error : {new : Engine} (o : Result Value Fail) (f : Fail) → o ≡ Err f → Done port (settles reading at) o old new p q → Done port (read reading at returned) (outcome.Fail f) old new p q
  read_error {new} o f is d = read_done (Err f) (subst (λ (o : Result Value Fail). Done port (settles reading at) o old new p q) is d)

  pub read_stopped : (stop : Stop) → Stopped port (settles reading at) stop old p q → Stopped port (read reading at returned) stop old p q
  read_stopped stop s = record {
    front = s.front;
    rest = s.rest;
    are = ap (λ (ran : Ran Outcome). events ran) (read_as reading at) ∙ (events_as (settles reading at) ∙ s.are);
    cut = s.cut;
  }

-- no further values stand behind the variables
pub evaluated_is : (r : Runner) (at : Spot) (e : ResolvedExpr) (w : World) → evaluated r at e w returned ≡ read_beside r at e [] w
unfolding evaluated
evaluated_is r at e w = ap (λ (row : Row). read (value_over r at e row w) at returned) (sym (append-nil (row_of w.frame)))

-- nothing was taken, for want of memory
pub untaken : {P : Type 0} {port : Ghosts P} (db : Database) (all : List trace.Event) {p q : P} → port.took db [] p q → CutIn port db Memory all p q
untaken db all took = ([], all, refl, between refl took)
