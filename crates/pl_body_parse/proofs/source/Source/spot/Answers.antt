use Rattle.std.proofs.Common.{rules, ◌≡◌, ◌∙◌, ap, ℕ, List, get_or, map}
use Rattle.pl_lex.specs.declared.token.Token.{Token}
use Rattle.pl_body_items.specs.declared.items.Spot.{Spot}
use Rattle.pl_body_parse.specs.Spells.{line_at}
use Rattle.pl_body_parse.proofs.Places.{lines_at}
use Rattle.pl_body_parse.proofs.source.Source.spot.Goals as goal

pub returns : goal.returns
returns c =
    let s = c.args.self.now in
    let lined : s.lines.now ≡ map (λ (t : Token). line_at s.text.now t.start) s.tokens.now = search rules in
    ap (λ (line : ℕ). let spot : Spot = record { line = line; ordinal = c.args.ordinal } in spot)
    (ap (λ (lines : List ℕ). get_or lines c.args.at 0) lined ∙ lines_at s.text.now s.tokens.now c.args.at 0 c.requires)
