use Rattle.std.proofs.Common.{Bool, drop, map}
use Rattle.std.specs.Prelude.{not}
use Rattle.pl_direct.specs.Runs.{Joins, Leads}
use Rattle.pl_direct.specs.declared.known.Known.{Known}
use Rattle.pl_names.specs.Names.{around}
use Rattle.pl_scope.specs.Resolution.{factor_view, part, term_view}
use Rattle.pl_direct.proofs.direct.+direct.Given as goal

abbrev pub invariant-terms_from-loop-term : goal.invariant-terms_from-loop-term
invariant-terms_from-loop-term g l =
    (last : Known) → Leads g.row.C.Denot (map term_view (drop l.term-index l.terms)) (around l.names) l.variables l.so_far last
    → Leads g.row.C.Denot (map term_view l.terms) (around l.names) l.variables l.fn.first last

abbrev pub invariant-factors_from-loop-factor : goal.invariant-factors_from-loop-factor
invariant-factors_from-loop-factor g l =
    (last : Known) → Leads g.row.C.Denot (map factor_view (drop l.factor-index l.factors)) (around l.names) l.variables l.so_far last
    → Leads g.row.C.Denot (map factor_view l.factors) (around l.names) l.variables l.fn.first last

abbrev pub invariant-joined-loop-e : goal.invariant-joined-loop-e
invariant-joined-loop-e g l =
    (last : Bool) → Joins g.row.C.Denot l.fixed (map part (drop l.e-index l.list)) (around l.names) l.variables l.so_far last
    → Joins g.row.C.Denot l.fixed (map part l.list) (around l.names) l.variables (not l.fixed) last
