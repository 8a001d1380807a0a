-- RAISE and ASSERT: PostgreSQL manual, "PL/pgSQL", "Errors and Messages".
use Rattle.std.specs.Prelude.{ℕ, Bool, ◌==◌, if◌then◌else◌, List, [], ◌∷◌, ◌++◌, Option, Some, None}
use Rattle.std.specs.Prelude.{Ok, Err, codes, drop, length, nat_le, unwrap_or}
use Rattle.std.specs.Option.{option_map, option_or}
use Rattle.pl_base.specs.States.{ASSERT_FAILURE, NULL_VALUE_NOT_ALLOWED, PROGRAM_LIMIT_EXCEEDED}
use Rattle.pl_base.specs.States.{RAISE_EXCEPTION, UNDEFINED_OBJECT}
use Rattle.pl_base.specs.States.{STACKED_DIAGNOSTICS_ACCESSED_WITHOUT_ACTIVE_HANDLER}
use Rattle.pl_base.specs.declared.fail.Fail.{Fail}
use Rattle.pl_base.specs.declared.fail.Message.TheVariants as says
use Rattle.pl_base.specs.declared.fail.Origin.TheVariants.{Raise as ByRaise}
use Rattle.pl_base.specs.declared.state.State.{State}
use Rattle.pl_base.specs.declared.value.Value.{Value}
use Rattle.pl_bodies.specs.declared.simple.Condition.{Condition}
use Rattle.pl_bodies.specs.declared.simple.Condition.TheVariants as condition
use Rattle.pl_bodies.specs.declared.simple.Level.{Level}
use Rattle.pl_bodies.specs.declared.simple.Level.TheVariants as level
use Rattle.pl_bodies.specs.declared.simple.Raise.{Raise}
use Rattle.pl_bodies.specs.declared.simple.RaiseOption.{RaiseOption}
use Rattle.pl_bodies.specs.declared.simple.RaiseOptionKind.{RaiseOptionKind}
use Rattle.pl_bodies.specs.declared.simple.RaiseOptionKind.TheVariants as option
use Rattle.pl_bodies.specs.declared.simple.Raised.{Raised}
use Rattle.pl_bodies.specs.declared.simple.Raised.TheVariants as raising
use Rattle.pl_calc.specs.Casts.{text_limit}
use Rattle.pl_calc.specs.Logic.{is_null}
use Rattle.pl_print.specs.Messages.{notice_bytes}
use Rattle.pl_print.specs.TextForm.{output}
use Rattle.pl_print.specs.declared.reply.Level.TheVariants as print
use Rattle.pl_tree.specs.declared.tree.Expr.{Expr}
use Rattle.pl_meaning.specs.pl_typing.Resolved.{Resolved}
use Rattle.pl_world.specs.Conditions.{code_of, code_or_name}
use Rattle.pl_world.specs.Conversions.{as_truth, settled}
use Rattle.pl_world.specs.Errors.{Spot, place, raised, raises, resolved}
use Rattle.pl_world.specs.Expressions.{evaluated}
use Rattle.pl_world.specs.Resolving.{reading}
use Rattle.pl_world.specs.Running.{Runner}
use Rattle.pl_world.specs.World.{Said, World, Ran, made, ends}
use Rattle.pl_world.specs.declared.outcome.Outcome.{Outcome}
use Rattle.pl_world.specs.declared.outcome.Outcome.TheVariants as outcome

abbrev pub Text : Type 0
Text = List ℕ

-- ---- texts of values

abbrev pub within_limit : Text → Resolved Text
within_limit t = if nat_le (length t) text_limit then Ok t else Err PROGRAM_LIMIT_EXCEEDED

-- a value as it is printed, and something else for null
abbrev pub text_or : Resolved Text → Value → Resolved Text
text_or other v = if is_null v then other else within_limit (output v)

-- an argument; null is printed too
abbrev pub argument_text : Value → Resolved Text
argument_text = text_or (Ok (codes "<NULL>"))

-- an option is not null
abbrev pub option_text : Value → Resolved Text
option_text = text_or (Err NULL_VALUE_NOT_ALLOWED)

-- `%`
abbrev pub percent : ℕ
percent = 37

abbrev pub first_text : List Text → Text
first_text [] = []
first_text (t ∷ ts) = t

-- each `%` is the next argument, and `%%` is a percent sign
abbrev pub formatted : Text → List Text → Text
formatted [] ts = []
formatted (c ∷ []) ts = if c == percent then first_text ts else c ∷ []
formatted (c ∷ d ∷ cs) ts =
    if c == percent
    then (if d == percent then percent ∷ formatted cs ts
    else first_text ts ++ formatted (d ∷ cs) (drop 1 ts))
    else c ∷ formatted (d ∷ cs) ts

-- ---- what is raised

-- what is known of it so far: the SQLSTATE, the condition as it was written, and the texts
pub record Report : Type 0 where
  pub state : Option State
  pub written : Option Text
  pub message : Option Text
  pub detail : Option Text
  pub hint : Option Text

abbrev pub nothing_said : Report
nothing_said = record { state = None; written = None; message = None; detail = None; hint = None }

-- a condition, by its name or code as it was written
abbrev pub with_condition : Option State → Text → Report → Resolved Report
with_condition None t rep = Err UNDEFINED_OBJECT
with_condition (Some s) t rep = Ok (record rep { state = Some s; written = Some t })

abbrev pub as_written : Condition → Text
as_written (condition.Name name) = name
as_written (condition.Code text) = text

abbrev pub with_option : RaiseOptionKind → Text → Report → Resolved Report
with_option option.Message t rep = Ok (record rep { message = Some t })
with_option option.Detail t rep = Ok (record rep { detail = Some t })
with_option option.Hint t rep = Ok (record rep { hint = Some t })
with_option option.Errcode t rep = with_condition (code_or_name t) t rep

-- the code in force, where none was given
abbrev pub default_code : Level → Text
default_code level.Exception = RAISE_EXCEPTION.code
default_code l = codes "00000"

abbrev pub code_of_report : Level → Report → Text
code_of_report l rep = unwrap_or (option_map (λ (s : State). s.code) rep.state) (default_code l)

-- a text, else the condition as it was written, else the code in force
abbrev pub text_of_report : Level → Report → Text
text_of_report l rep = unwrap_or (option_or rep.message rep.written) (code_of_report l rep)

-- an error that RAISE or ASSERT raises here
abbrev pub raised_fail : State → Text → Option Text → Option Text → Spot → World → Fail
raised_fail state text detail hint at w = record {
  state = state;
  message = says.Text text;
  detail = detail;
  hint = hint;
  origin = ByRaise;
  place = place at w;
}

abbrev pub printed : Text → World → Ran Outcome
printed lines w = made w outcome.Next (Said lines ∷ [])

-- an error at level EXCEPTION, and lines or nothing below it
unfoldable pub reported : Level → Report → Spot → World → Ran Outcome
reported level.Debug rep at w = ends outcome.Next w
reported level.Log rep at w = ends outcome.Next w
reported level.Info rep at w =
    printed (notice_bytes print.Info (text_of_report level.Info rep) rep.detail rep.hint) w
reported level.Notice rep at w =
    printed (notice_bytes print.Notice (text_of_report level.Notice rep) rep.detail rep.hint) w
reported level.Warning rep at w =
    printed (notice_bytes print.Warning (text_of_report level.Warning rep) rep.detail rep.hint) w
reported level.Exception rep at w =
    raises outcome.Fail (raised_fail (unwrap_or rep.state RAISE_EXCEPTION)
    (text_of_report level.Exception rep) rep.detail rep.hint at w) w

-- ---- RAISE

-- the text of an expression's value
abbrev pub texted : Runner → Spot → (Value → Resolved Text) → Expr → World
    → (Text → World → Ran Outcome) → Ran Outcome
texted r at text_of e w k =
    resolved (reading e w.database.objects w.frame.static) at w (λ x.
    evaluated r at x w (λ v w. settled (text_of v) at w k))

-- the arguments, one after another
unfoldable pub arguments_told : Runner → Spot → List Expr → List Text → World
    → (List Text → World → Ran Outcome) → Ran Outcome
arguments_told r at [] done w k = k done w
arguments_told r at (e ∷ es) done w k =
    texted r at argument_text e w (λ t w. arguments_told r at es (done ++ t ∷ []) w k)

-- the options, one after another
unfoldable pub options_told : Runner → Spot → List RaiseOption → Report → World
    → (Report → World → Ran Outcome) → Ran Outcome
options_told r at [] rep w k = k rep w
options_told r at (o ∷ os) rep w k =
    texted r at option_text o.value w (λ t w.
    settled (with_option o.kind t rep) at w (λ rep w. options_told r at os rep w k))

abbrev pub with_text : Text → Report
with_text t = record nothing_said { message = Some t }

-- what stands before USING
abbrev pub heading_told : Runner → Spot → Raised → World → (Report → World → Ran Outcome)
    → Ran Outcome
heading_told r at (raising.Text format arguments) w k =
    arguments_told r at arguments [] w (λ ts w.
    settled (within_limit (formatted format ts)) at w (λ t w. k (with_text t) w))
heading_told r at (raising.Condition c) w k =
    settled (with_condition (code_of c) (as_written c) nothing_said) at w k
heading_told r at raising.Nothing w k = k nothing_said w

unfoldable pub raise : Runner → Spot → Raise → World → Ran Outcome
raise r at x w =
    heading_told r at x.raised w (λ rep w.
    options_told r at x.options rep w (λ rep w. reported x.level rep at w))

-- ---- RAISE alone

abbrev pub again_by : List Fail → Spot → World → Ran Outcome
again_by [] at w = raised STACKED_DIAGNOSTICS_ACCESSED_WITHOUT_ACTIVE_HANDLER at w
again_by (f ∷ fs) at w = raises outcome.Fail f w

-- the error that this call handles arises once more, as it was
unfoldable pub again : Spot → World → Ran Outcome
again at w = again_by w.frame.handled at w

-- ---- ASSERT

abbrev pub assertion_failed : Text
assertion_failed = codes "assertion failed"

abbrev pub assert_fails : Text → Spot → World → Ran Outcome
assert_fails text at w = raises outcome.Fail (raised_fail ASSERT_FAILURE text None None at w) w

abbrev pub assertion_text : Value → Resolved Text
assertion_text = text_or (Ok assertion_failed)

abbrev pub assert_message : Runner → Spot → Option Expr → World → Ran Outcome
assert_message r at None w = assert_fails assertion_failed at w
assert_message r at (Some e) w =
    texted r at assertion_text e w (λ t w. assert_fails t at w)

abbrev pub unless_true : Bool → Runner → Spot → Option Expr → World → Ran Outcome
unless_true is r at text w = if is then ends outcome.Next w else assert_message r at text w

-- the message is read where the condition isn't true
unfoldable pub asserted : Runner → Spot → Expr → Option Expr → World → Ran Outcome
asserted r at test text w =
    resolved (reading test w.database.objects w.frame.static) at w (λ x.
    evaluated r at x w (λ v w. as_truth v at w (λ is w. unless_true is r at text w)))
