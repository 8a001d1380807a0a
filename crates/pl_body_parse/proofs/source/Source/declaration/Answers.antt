use Rattle.std.proofs.Common.{rules, ◌≡◌, ◌∙◌, ap, None, drop}
use Rattle.std.proofs.lemmas.List.{take_rest}
use Rattle.pl_grammar.specs.Marks.{kinds}
use Rattle.pl_grammar.specs.declared.fail.Fail.TheVariants.{Syntax}
use Rattle.pl_body_parse.specs.Computed.{declared_at}
use Rattle.pl_body_parse.proofs.Found.{declared_read, declared_unread}
use Rattle.pl_body_parse.proofs.source.Source.declaration.Goals as goal

pub returns-in_err-piece-clause-is : goal.returns-in_err-piece-clause-is
returns-in_err-piece-clause-is c =
    let ts = drop c.args.at c.args.self.now.tokens.now in
    let is : c.new-rest.result ≡ kinds ts = c.new-rest.ensures ∙ ap kinds (take_rest c.args.self.now.tokens.now c.args.at) in
    let none : c.in_err-piece.field-0.0 ≡ Syntax → declared_at ts ≡ None = λ e. declared_unread ts c.new-rest.result is (c.in_err-piece.ensures e) in
    search rules

pub overflow_sub-result : goal.overflow_sub-result
overflow_sub-result c =
    let ts = drop c.args.at c.args.self.now.tokens.now in
    let is : c.new-rest.result ≡ kinds ts = c.new-rest.ensures ∙ ap kinds (take_rest c.args.self.now.tokens.now c.args.at) in
    (declared_read ts c.new-rest.result c.declaration_piece.new.tokens c.in_ok-piece.piece c.new.result c.left-all.result c.left.result is c.left-all.ensures c.in_ok-piece.ensures c.left.ensures c.new.ensures).2

pub returns-clause-is : goal.returns-clause-is
returns-clause-is c =
    let ts = drop c.args.at c.args.self.now.tokens.now in
    let is : c.new-rest.result ≡ kinds ts = c.new-rest.ensures ∙ ap kinds (take_rest c.args.self.now.tokens.now c.args.at) in
    (declared_read ts c.new-rest.result c.declaration_piece.new.tokens c.in_ok-piece.piece c.new.result c.left-all.result c.left.result is c.left-all.ensures c.in_ok-piece.ensures c.left.ensures c.new.ensures).0

pub returns-clause-some : goal.returns-clause-some
returns-clause-some c =
    let ts = drop c.args.at c.args.self.now.tokens.now in
    let is : c.new-rest.result ≡ kinds ts = c.new-rest.ensures ∙ ap kinds (take_rest c.args.self.now.tokens.now c.args.at) in
    (declared_read ts c.new-rest.result c.declaration_piece.new.tokens c.in_ok-piece.piece c.new.result c.left-all.result c.left.result is c.left-all.ensures c.in_ok-piece.ensures c.left.ensures c.new.ensures).1
