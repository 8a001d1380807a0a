use Rattle.std.proofs.Common.{◌≡◌, ◌∙◌, Err, Ok, ap, subst, sym}
use Rattle.pl_asking.proofs.Aimed.{found, found_not_in, found_not_listed, listed_here, operand_first}
use Rattle.pl_asking.proofs.resolving.find.Goals as goal
use Rattle.pl_calling.specs.pl_engine.Engines.{world}
use Rattle.pl_calling.specs.pl_names.Names.{around}
use Rattle.pl_direct.specs.pl_scope.declared.resolve.ResolvedExpr.{ResolvedExpr}
use Rattle.pl_typing.specs.Resolved.{Gives}
use Rattle.pl_typing.specs.Unions.{listed_none, listed_with}
use Rattle.pl_typing.specs.declared.typed.Typed.{Typed}
use Rattle.pl_typing.specs.declared.unions.Listed.{Listed}
use Rattle.pl_world.specs.Resolving.{matching}

pub returns-in_err-all : goal.returns-in_err-all
returns-in_err-all c =
    let w = world c.args.engine.now in
    let objects = w.database.objects in
    let st = w.frame.static in
    let first : c.in_ok-first.first ≡ operand_first c.args.ty st = c.in_ok-first.ensures ∙ (ap (λ (l : Listed). listed_with l c.in_ok-operand.operand) c.new.ensures ∙ ap (λ (x : Typed). listed_with listed_none x) c.in_ok-operand.ensures) in
    found_not_listed c.args.ty c.args.values.now objects st c.from_residual-in_err-all.result c.in_err-all.field-0.0 c.listed_on.new.made c.from_residual-in_err-all.ensures.1
    (listed_here c.args.ty c.args.values.now objects st c.in_ok-first.first (around c.names_in-names.result) c.new-made.result (Err c.in_err-all.field-0.0) c.listed_on.new.made first c.names_in-names.ensures c.new-made.ensures c.in_err-all.ensures)

pub returns-in_err-typed : goal.returns-in_err-typed
returns-in_err-typed c =
    let w = world c.args.engine.now in
    let objects = w.database.objects in
    let st = w.frame.static in
    let first : c.in_ok-first.first ≡ operand_first c.args.ty st = c.in_ok-first.ensures ∙ (ap (λ (l : Listed). listed_with l c.in_ok-operand.operand) c.new.ensures ∙ ap (λ (x : Typed). listed_with listed_none x) c.in_ok-operand.ensures) in
    found_not_in c.args.ty c.args.values.now objects st c.in_ok-all.all c.listed_on.new.made
    (listed_here c.args.ty c.args.values.now objects st c.in_ok-first.first (around c.names_in-names.result) c.new-made.result (Ok c.in_ok-all.all) c.listed_on.new.made first c.names_in-names.ensures c.new-made.ensures c.in_ok-all.ensures)
    c.from_residual-in_err-typed.result c.in_err-typed.field-0.0 c.from_residual-in_err-typed.ensures.1 c.in_err-typed.ensures

pub returns : goal.returns
returns c =
    let w = world c.args.engine.now in
    let objects = w.database.objects in
    let st = w.frame.static in
    let first : c.in_ok-first.first ≡ operand_first c.args.ty st = c.in_ok-first.ensures ∙ (ap (λ (l : Listed). listed_with l c.in_ok-operand.operand) c.new.ensures ∙ ap (λ (x : Typed). listed_with listed_none x) c.in_ok-operand.ensures) in
    subst (λ (x : ResolvedExpr). Gives {A = ResolvedExpr} (Ok x) (matching c.args.ty c.args.values.now objects st)) (sym c.new-2.ensures)
    (found c.args.ty c.args.values.now objects st c.in_ok-all.all c.listed_on.new.made
    (listed_here c.args.ty c.args.values.now objects st c.in_ok-first.first (around c.names_in-names.result) c.new-made.result (Ok c.in_ok-all.all) c.listed_on.new.made first c.names_in-names.ensures c.new-made.ensures c.in_ok-all.ensures)
    c.in_ok-typed.typed c.in_ok-typed.ensures)
