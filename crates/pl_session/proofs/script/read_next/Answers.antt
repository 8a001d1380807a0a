use Rattle.std.proofs.Common.{rules, ◌≡◌, ◌+◌, length, min, Option, subst}
use Rattle.pl_lex.specs.Lexemes.{IsNext, IsPlaced}
use Rattle.pl_lex.specs.declared.token.Piece.{Piece}
use Rattle.pl_session.specs.declared.script.Next.{Next}
use Rattle.pl_session.proofs.Scripts.{none_left, one_left, before_end, behind, reading_is}
use Rattle.pl_session.proofs.script.read_next.Goals as goal

pub returns-in_default-clause-next : goal.returns-in_default-clause-next
returns-in_default-clause-next c readings left =
    let text = c.args.script.now in
    none_left text c.args.at readings (subst (λ (o : Option Piece). IsNext text c.args.at o) c.in_default.is c.in_ok-piece.ensures.next) left

pub returns-clause-next : goal.returns-clause-next
returns-clause-next c readings left =
    let text = c.args.script.now in
    let next : Next = record { reading = c.in_ok-reading.reading; after = c.min-after.result } in
    let after : c.min-after.result ≡ min (c.in-Some.piece.end + 1) (length c.args.script.now) = search rules in
    one_left text c.args.at c.in-Some.piece next (subst (λ (o : Option Piece). IsNext text c.args.at o) c.in-Some.is c.in_ok-piece.ensures.next)
    (reading_is text c.in-Some.piece c.in_ok-reading.reading c.in_ok-reading.ensures.read) after readings left

pub returns-clause-on : goal.returns-clause-on
returns-clause-on c =
    let text = c.args.script.now in
    let after : c.min-after.result ≡ min (c.in-Some.piece.end + 1) (length c.args.script.now) = search rules in
    let placed : IsPlaced c.args.script.now c.args.at c.in-Some.piece = search rules in
    behind text c.args.at c.in-Some.piece c.min-after.result (before_end text c.args.at c.in-Some.piece (subst (λ (o : Option Piece). IsNext text c.args.at o) c.in-Some.is c.in_ok-piece.ensures.next)) placed.begins after
