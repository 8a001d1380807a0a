-- What RAISE may say: PostgreSQL manual, PL/pgSQL, "Reporting Errors and Messages".
use Rattle.std.specs.Prelude.{ℕ, ◌+◌, ◌==◌, ◌&&◌, ◌||◌, not, Bool, true, false, if◌then◌else◌, length}
use Rattle.std.specs.Prelude.{List, [], ◌∷◌, Option, Some, None}
use Rattle.pl_base.specs.States.{SYNTAX_ERROR, UNDEFINED_OBJECT}
use Rattle.pl_base.specs.declared.state.State.{State}
use Rattle.pl_bodies.specs.declared.simple.Raise.{Raise}
use Rattle.pl_bodies.specs.declared.simple.RaiseOption.{RaiseOption}
use Rattle.pl_bodies.specs.declared.simple.RaiseOptionKind.TheVariants.{Message, Detail, Hint, Errcode}
use Rattle.pl_bodies.specs.declared.simple.RaiseOptionKind.{RaiseOptionKind}
use Rattle.pl_bodies.specs.declared.simple.Raised.TheVariants as raised
use Rattle.pl_bodies.specs.declared.simple.Raised.{Raised}
use Rattle.pl_body_rules.specs.Conditions.{is_known}

-- ---- options

abbrev pub is_same : RaiseOptionKind → RaiseOptionKind → Bool
is_same Message Message = true
is_same Detail Detail = true
is_same Hint Hint = true
is_same Errcode Errcode = true
is_same k other = false

abbrev pub has : RaiseOptionKind → List RaiseOption → Bool
has k [] = false
has k (o ∷ os) = is_same k o.kind || has k os

abbrev pub has_twice : List RaiseOption → Bool
has_twice [] = false
has_twice (o ∷ os) = has o.kind os || has_twice os

-- ---- the text

abbrev pub percent : ℕ
percent = 37

-- The places for arguments in a text, behind an open percent sign or behind none. A percent sign is
-- a place, and two are a percent sign.
abbrev pub places : Bool → List ℕ → ℕ
places true [] = 1
places false [] = 0
places true (c ∷ cs) = if c == percent then places false cs else places false cs + 1
places false (c ∷ cs) = places (c == percent) cs

-- ---- RAISE

abbrev pub fits : Raised → List RaiseOption → Bool
fits (raised.Text format arguments) options =
    (places false format == length arguments) && not (has Message options)
fits (raised.Condition c) options = not (has Errcode options)
fits raised.Nothing options = true

-- the arguments and the options are right
abbrev pub is_well_formed : Raise → Bool
is_well_formed r = not (has_twice r.options) && fits r.raised r.options

abbrev pub raised_state : Raised → Option State
raised_state (raised.Condition c) = if is_known c then None else Some UNDEFINED_OBJECT
raised_state r = None

abbrev pub raise_state : Raise → Option State
raise_state r = if is_well_formed r then raised_state r.raised else Some SYNTAX_ERROR
