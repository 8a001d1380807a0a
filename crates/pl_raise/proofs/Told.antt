-- What RAISE and ASSERT read, one thing after another.
use Rattle.std.proofs.Common.{◌≡◌, ◌⊎◌, inl, inr, ◌<◌, ◌≤◌, ◌+◌, ◌∙◌, ℕ, List, [], ◌∷◌, ◌++◌, Option, Some, Ok, Err, Result, ap, drop, drop_of_length-le, get_or, length, refl, subst, sym}
use Rattle.pl_asking.proofs.Acts.{front}
use Rattle.pl_asking.proofs.Valued.{here, on_value, read_is}
use Rattle.pl_asking.specs.Values.{read_value, value_of}
use Rattle.pl_base.specs.declared.value.Value.{Value}
use Rattle.pl_bodies.specs.declared.simple.Level.{Level}
use Rattle.pl_bodies.specs.declared.simple.Level.TheVariants as level
use Rattle.pl_bodies.specs.declared.simple.Raise.{Raise}
use Rattle.pl_bodies.specs.declared.simple.RaiseOption.{RaiseOption}
use Rattle.pl_bodies.specs.declared.simple.Raised.TheVariants as raising
use Rattle.pl_asking.proofs.of_pl_engine.Joins.{Lawful, becomes, start}
use Rattle.pl_asking.specs.pl_engine.Answers.{Done, Partway, Stopped}
use Rattle.pl_asking.specs.pl_engine.Asks.{truth}
use Rattle.pl_asking.specs.pl_engine.Engines.{world}
use Rattle.pl_asking.specs.pl_engine.declared.engine.Engine.{Engine}
use Rattle.pl_asking.specs.pl_engine.declared.port.Port.{Ghosts}
use Rattle.pl_asking.specs.pl_engine.declared.stop.Stop.{Stop}
use Rattle.pl_asking.proofs.of_pl_flow.Asked.{asked_off, asked_on, asked_stopped, on_truth, tested_is}
use Rattle.pl_print.specs.Messages.{notice_bytes}
use Rattle.pl_print.specs.declared.reply.Level.{Level as Label}
use Rattle.pl_print.specs.declared.reply.Level.TheVariants as print
use Rattle.pl_raise.proofs.Found.{found_off, found_on, found_stopped}
use Rattle.pl_raise.specs.Finding.{Finds, Next, Part}
use Rattle.pl_tree.specs.declared.tree.Expr.{Expr}
use Rattle.pl_typing.specs.Resolved.{Resolved}
use Rattle.pl_world.specs.Control.{tested}
use Rattle.pl_world.specs.Conversions.{settled}
use Rattle.pl_world.specs.Errors.{Spot}
use Rattle.pl_world.specs.Raising.{Report, Text, argument_text, arguments_told, assert_fails, assert_message, asserted, assertion_text, formatted, heading_told, option_text, options_told, printed, raise, reported, text_of_report, texted, unless_true, with_option, with_text, within_limit}
use Rattle.pl_world.specs.Running.{Runner}
use Rattle.pl_world.specs.World.{Ran, World, and_then, ends}
use Rattle.pl_world.specs.declared.outcome.Outcome.{Outcome}
use Rattle.pl_world.specs.declared.outcome.Outcome.TheVariants as outcome

-- ---- the text of an expression's value

abbrev pub text_next : (Value → Resolved Text) → Spot → Next Text → Value → World → Ran Outcome
text_next of at k v w = settled (of v) at w k

module _ {P : Type 0} {port : Ghosts P} (law : Lawful port) (r : Runner) (at : Spot) (e : Engine) (p : P) (fits : port.fits (world e).last p) (of : Value → Resolved Text) (x : Expr) where
  text_way : (k : Next Text) → Partway port (texted r at of x (world e) k) (and_then (read_value r at x (world e)) (on_value (text_next of at k))) e e p p
  text_way k = here law r at e p fits (read_is r at x (world e) (text_next of at k))

  pub text_on : {new : Engine} {q : P} (answer : Outcome) (v : Value) → Done port (read_value r at x (world e)) answer e new p q → value_of answer ≡ Ok v → (k : Next Text) → Partway port (texted r at of x (world e) k) (settled (of v) at (world new) k) e new p q
  text_on answer v d is k = asked_on law value_of (text_next of at k) (text_way k) answer v d is

  pub text_off : {new : Engine} {q : P} (answer o : Outcome) → Done port (read_value r at x (world e)) answer e new p q → value_of answer ≡ Err o → (k : Next Text) → Done port (texted r at of x (world e) k) o e new p q
  text_off answer o d is k = asked_off law value_of (text_next of at k) (text_way k) answer o d is

  pub text_stopped : {q : P} (stop : Stop) → Stopped port (read_value r at x (world e)) stop e p q → (k : Next Text) → Stopped port (texted r at of x (world e) k) stop e p q
  text_stopped stop s k = asked_stopped law value_of (text_next of at k) (text_way k) s

-- ---- things of a list, each behind what was known before it

module _ {P : Type 0} {port : Ghosts P} (law : Lawful port) {X S : Type 0} (told : List X → S → World → Part S)
    (cons : (x : X) (xs : List X) (s : S) (w : World) (k : Next S) → told (x ∷ xs) s w k ≡ told (x ∷ []) s w (λ s w. told xs s w k))
    (nil : (s : S) (w : World) (k : Next S) → told [] s w k ≡ k s w)
    {whole : Part S} {old mid : Engine} {p m : P} (xs : List X) (i : ℕ) (s : S) (way : (k : Next S) → Partway port (whole k) (told (drop i xs) s (world mid) k) old mid p m) where
  abbrev rest : Next S → Next S
  rest k s w = told (drop (i + 1) xs) s w k

  module _ (x : X) (lt : i < length xs) (is : x ≡ get_or xs i x) where
    each_here : (k : Next S) → Partway port (whole k) (told (x ∷ []) s (world mid) (rest k)) old mid p m
    each_here k = becomes law (way k) (ap (λ (ys : List X). told ys s (world mid) k) (front xs i x lt is) ∙ cons x (drop (i + 1) xs) s (world mid) k)

    pub each_on : {new : Engine} {q : P} (found : Result S Outcome) (t : S) → Finds port (told (x ∷ []) s (world mid)) (Ok found) mid new m q → found ≡ Ok t → (k : Next S) → Partway port (whole k) (told (drop (i + 1) xs) t (world new) k) old new p q
    each_on found t f same = found_on law whole (told (x ∷ []) s (world mid)) rest each_here found t f same

    pub each_off : {new : Engine} {q : P} (found : Result S Outcome) (o : Outcome) → Finds port (told (x ∷ []) s (world mid)) (Ok found) mid new m q → found ≡ Err o → (k : Next S) → Done port (whole k) o old new p q
    each_off found o f same = found_off law whole (told (x ∷ []) s (world mid)) rest each_here found o f same

    pub each_stopped : {q : P} (new : Engine) (stop : Stop) → Finds port (told (x ∷ []) s (world mid)) (Err stop) mid new m q → (k : Next S) → Stopped port (whole k) stop old p q
    each_stopped new stop f = found_stopped law whole (told (x ∷ []) s (world mid)) rest each_here new stop f

  pub each_end : length xs ≤ i → (k : Next S) → Partway port (whole k) (k s (world mid)) old mid p m
  each_end le k = becomes law (way k) (ap (λ (ys : List X). told ys s (world mid) k) (drop_of_length-le xs le) ∙ nil s (world mid) k)

-- ---- arguments and options

module _ (r : Runner) (at : Spot) where
  pub argument_is : (e : Expr) (done : List Text) (w : World) (k : Next (List Text)) → arguments_told r at (e ∷ []) done w k ≡ texted r at argument_text e w (λ t w. k (done ++ t ∷ []) w)
  unfolding arguments_told
  argument_is e done w k = refl

  pub arguments_cons : (e : Expr) (es : List Expr) (done : List Text) (w : World) (k : Next (List Text)) → arguments_told r at (e ∷ es) done w k ≡ arguments_told r at (e ∷ []) done w (λ ts w. arguments_told r at es ts w k)
  unfolding arguments_told
  arguments_cons e es done w k = refl

  pub arguments_nil : (done : List Text) (w : World) (k : Next (List Text)) → arguments_told r at [] done w k ≡ k done w
  unfolding arguments_told
  arguments_nil done w k = refl

  pub option_is : (o : RaiseOption) (rep : Report) (w : World) (k : Next Report) → options_told r at (o ∷ []) rep w k ≡ texted r at option_text o.value w (λ t w. settled (with_option o.kind t rep) at w k)
  unfolding options_told
  option_is o rep w k = refl

  pub options_cons : (o : RaiseOption) (os : List RaiseOption) (rep : Report) (w : World) (k : Next Report) → options_told r at (o ∷ os) rep w k ≡ options_told r at (o ∷ []) rep w (λ rep w. options_told r at os rep w k)
  unfolding options_told
  options_cons o os rep w k = refl

  pub options_nil : (rep : Report) (w : World) (k : Next Report) → options_told r at [] rep w k ≡ k rep w
  unfolding options_told
  options_nil rep w k = refl

-- ---- what goes on behind each

abbrev pub argument_next : List Text → Next (List Text) → Next Text
argument_next done k t w = k (done ++ t ∷ []) w

abbrev pub option_next : Spot → RaiseOption → Report → Next Report → Next Text
option_next at o rep k t w = settled (with_option o.kind t rep) at w k

abbrev pub message_next : Next Report → Next Text
message_next k t w = k (with_text t) w

abbrev pub format_next : Spot → Text → Next Report → Next (List Text)
format_next at written k ts w = settled (within_limit (formatted written ts)) at w (message_next k)

abbrev pub report_next : Spot → Level → Next Report
report_next at l rep w = reported l rep at w

abbrev pub options_next : Runner → Spot → Level → List RaiseOption → Next Report
options_next r at l os rep w = options_told r at os rep w (report_next at l)

abbrev pub fail_next : Spot → Next Text
fail_next at t w = assert_fails t at w

raise_is : (r : Runner) (at : Spot) (x : Raise) (w : World) → raise r at x w ≡ heading_told r at x.raised w (options_next r at x.level x.options)
unfolding raise
raise_is r at x w = refl

asserted_is : (r : Runner) (at : Spot) (x : Expr) (message : Option Expr) (w : World) → asserted r at x message w ≡ tested r at x w (λ is w. unless_true is r at message w)
unfolding asserted tested
asserted_is r at x message w = refl

-- ---- the forms, as they begin

module _ {P : Type 0} {port : Ghosts P} (law : Lawful port) (r : Runner) (at : Spot) (e : Engine) (p : P) (fits : port.fits (world e).last p) where
  pub argument_way : (x : Expr) (done : List Text) (k : Next (List Text)) → Partway port (arguments_told r at (x ∷ []) done (world e) k) (texted r at argument_text x (world e) (argument_next done k)) e e p p
  argument_way x done k = here law r at e p fits (argument_is r at x done (world e) k)

  pub option_way : (o : RaiseOption) (rep : Report) (k : Next Report) → Partway port (options_told r at (o ∷ []) rep (world e) k) (texted r at option_text o.value (world e) (option_next at o rep k)) e e p p
  option_way o rep k = here law r at e p fits (option_is r at o rep (world e) k)

  pub message_way : (written : Text) (es : List Expr) (k : Next Report) → Partway port (heading_told r at (raising.Text written es) (world e) k) (arguments_told r at es [] (world e) (format_next at written k)) e e p p
  message_way written es k = start law (heading_told r at (raising.Text written es) (world e) k) e p fits

  pub raise_way : (x : Raise) (u : Unit {0}) → Partway port (raise r at x (world e)) (heading_told r at x.raised (world e) (options_next r at x.level x.options)) e e p p
  raise_way x u = here law r at e p fits (raise_is r at x (world e))

  pub fail_way : (message : Option Expr) (x : Expr) → message ≡ Some x → (u : Unit {0}) → Partway port (assert_message r at message (world e)) (texted r at assertion_text x (world e) (fail_next at)) e e p p
  fail_way message x is u = here law r at e p fits (ap (λ (m : Option Expr). assert_message r at m (world e)) is)

  pub assert_way : (x : Expr) (message : Option Expr) → Partway port (asserted r at x message (world e)) (and_then (tested r at x (world e) truth) (on_truth (λ is w. unless_true is r at message w))) e e p p
  assert_way x message = here law r at e p fits (asserted_is r at x message (world e) ∙ tested_is r at x (world e) (λ is w. unless_true is r at message w))

-- ---- levels

module _ (rep : Report) (at : Spot) (w : World) where
  abbrev pub lines_told : Label → Level → Ran Outcome
  lines_told label l = printed (notice_bytes label (text_of_report l rep) rep.detail rep.hint) w

  pub at_level : (of : Level → Ran Outcome) (l m : Level) → l ≡ m → reported m rep at w ≡ of m → reported l rep at w ≡ of l
  at_level of l m is same = subst (λ (x : Level). reported x rep at w ≡ of x) (sym is) same

  pub at_info : reported level.Info rep at w ≡ lines_told print.Info level.Info
  unfolding reported
  at_info = refl

  pub at_notice : reported level.Notice rep at w ≡ lines_told print.Notice level.Notice
  unfolding reported
  at_notice = refl

  pub at_warning : reported level.Warning rep at w ≡ lines_told print.Warning level.Warning
  unfolding reported
  at_warning = refl

  -- nothing is told
  pub at_none : (l : Level) → (l ≡ level.Debug) ⊎ (l ≡ level.Log) → reported l rep at w ≡ ends outcome.Next w
  unfolding reported
  at_none l (inl is) = ap (λ (x : Level). reported x rep at w) is
  at_none l (inr is) = ap (λ (x : Level). reported x rep at w) is
