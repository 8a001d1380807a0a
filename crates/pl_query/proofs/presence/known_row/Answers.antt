use Rattle.std.proofs.Common.{arith, sym, Bool}
use Rattle.pl_query.proofs.Before.{asked_found}
use Rattle.pl_query.proofs.Single.{known_then}
use Rattle.pl_query.specs.Presence.{HasRow, IsBare}
use Rattle.pl_query.specs.Query.{rows_before}
use Rattle.pl_query.specs.Sources.{Tables}
use Rattle.pl_resolved.specs.declared.query.RQuery.{RQuery}
use Rattle.pl_value.specs.Frames.{rows_of}
use Rattle.pl_value.specs.Meaning.{is_some}
use Rattle.pl_value.specs.Reading.{got}
use Rattle.pl_query.proofs.presence.known_row.Goals as goal

pub returns-in-Some-bare_in : goal.returns-in-Some-bare_in
returns-in-Some-bare_in g c =
    let qs = c.args.queries.now in
    let tables = g.T.Lender.table c.args.tables.now in
    let outer = rows_of c.args.outer.now in
    let q = c.in-Some.query.now in
    known_then c.known_of.result (λ (b : Bool). (tables : Tables) (q : RQuery) → IsBare tables q c.in-Some-bare_in.bare → HasRow g.row.C.Denot tables q outer b) _
    (λ b has calls w.
    asked_found calls qs tables c.args.limit c.args.at outer w q (λ rows w. got (is_some rows) w) (got b w) (omega (arith, c.if-at-limit.false)) (sym c.in-Some.ensures)
    (has tables q c.in-Some-bare_in.ensures calls (rows_before calls qs tables c.args.at) w))
    c.known_of.ensures
