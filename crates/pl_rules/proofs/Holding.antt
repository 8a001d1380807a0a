-- Every rule holds exactly where nothing is found that fails.
use Rattle.std.proofs.Common.{◌≡◌, refl, sym, ◌∙◌, ℕ, Bool, true, false, not, ◌&&◌, cond, List, [], ◌∷◌, Option, Some, None, option_map}
use Rattle.std.specs.Option.{is_none, option_or}
use Rattle.pl_catalog.specs.declared.object.Column.{Column}
use Rattle.pl_catalog.specs.declared.object.Rule.{Rule}
use Rattle.pl_catalog.specs.declared.object.TableDef.{TableDef}
use Rattle.pl_rules.specs.Rules.{all_pass, check_failure, failing, first_failure, fits, holds, is_before, kind_failure, lacks, least_failing, lesser, named, none_lacks, null_failure, rule_failure}
use Rattle.pl_rules.specs.declared.rules.Failure.{Failure}
use Rattle.pl_rules.specs.declared.rules.RuleFail.{RuleFail}
use Rattle.pl_rules.specs.declared.rules.RuleFail.TheVariants.{Unfit}
use Rattle.pl_value.specs.Frames.{Row}

lacking : (b : Bool) (x : RuleFail) (o : Option RuleFail) (rest : Bool) → rest ≡ is_none o → (not b && rest) ≡ is_none (cond b (Some x) o)
lacking true x o rest h = refl
lacking false x o rest h = h

none_null : (cs : List Column) (vs : Row) → none_lacks cs vs ≡ is_none (null_failure cs vs)
none_null [] vs = refl
none_null (c ∷ cs) [] = refl
none_null (c ∷ cs) (v ∷ vs) = lacking (lacks c v) _ _ _ (none_null cs vs)

none_fail : (o : Option Failure) → is_none (option_map (λ (f : Failure). f.fail) o) ≡ is_none o
none_fail None = refl
none_fail (Some f) = refl

none_named : (name : List ℕ) (o : Option RuleFail) → is_none (named name o) ≡ is_none o
none_named name None = refl
none_named name (Some f) = refl

none_of_two : (b : Bool) (f g : Failure) → is_none (cond b (Some g) (Some f)) ≡ false
none_of_two true f g = refl
none_of_two false f g = refl

none_lesser : (f g : Option Failure) → is_none (lesser f g) ≡ (is_none f && is_none g)
none_lesser None g = refl
none_lesser (Some f) None = refl
none_lesser (Some f) (Some g) = none_of_two (is_before g.rule f.rule) f g

none_least : (rs : List Rule) (row : Row) → all_pass rs row ≡ is_none (least_failing rs row)
none_least [] row = refl
none_least (r ∷ rs) row =
    (λ i. sym (none_named r.name (kind_failure r.name r.kind row)) i && none_least rs row i)
    ∙ sym (none_lesser (failing r row) (least_failing rs row))

none_check : (rs : List Rule) (row : Row) → all_pass rs row ≡ is_none (check_failure rs row)
none_check rs row = none_least rs row ∙ sym (none_fail (least_failing rs row))

none_or : (f g : Option RuleFail) → (is_none f && is_none g) ≡ is_none (option_or f g)
none_or None g = refl
none_or (Some f) g = refl

-- what doesn't fit is a failure too
none_unfit : (fit whole passes : Bool) (o : Option RuleFail) → (whole && passes) ≡ is_none o → (fit && whole && passes) ≡ is_none (cond fit o (Some Unfit))
none_unfit true whole passes o is = is
none_unfit false whole passes o is = refl

pub all_hold : (table : TableDef) (row : Row) → holds table row ≡ is_none (first_failure table row)
all_hold table row =
    none_unfit (fits table.columns row) (none_lacks table.columns row) (all_pass table.rules row) (rule_failure table row)
    ((λ i. none_null table.columns row i && none_check table.rules row i)
    ∙ none_or (null_failure table.columns row) (check_failure table.rules row))
