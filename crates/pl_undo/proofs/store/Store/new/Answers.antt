use Rattle.std.proofs.Common.{◌≡◌, ◌∙◌, [], List, refl, sym, ap, subst}
use Rattle.pl_catalog.specs.declared.object.Object.{Object}
use Rattle.pl_undo.specs.Database.{database, IsWhole}
use Rattle.pl_undo.proofs.Marks.{rest_last, rest_sound}
use Rattle.pl_undo.proofs.store.Store.new.Goals as goal

pub invariant_of-result : goal.invariant_of-result
invariant_of-result c =
    let now : database c.new.result.objects c.new-2.result.current ≡ database [] [] =
    ap (λ (os : List Object). database os c.new-2.result.current) c.new.ensures.objects ∙ ap (database []) c.new-2.ensures.current in
    rest_sound c.new.result c.new-2.result c.new.ensures.past c.new-2.ensures.past c.new-3.result.items c.new-3.ensures.items (subst IsWhole (sym now) refl)

pub returns-clause-now : goal.returns-clause-now
returns-clause-now c =
    ap (λ (os : List Object). database os c.new-2.result.current) c.new.ensures.objects ∙ ap (database []) c.new-2.ensures.current

pub returns-clause-last : goal.returns-clause-last
returns-clause-last c =
    let now : database c.new.result.objects c.new-2.result.current ≡ database [] [] =
    ap (λ (os : List Object). database os c.new-2.result.current) c.new.ensures.objects ∙ ap (database []) c.new-2.ensures.current in
    rest_last c.new.result c.new-2.result c.new.ensures.past c.new-2.ensures.past ∙ now
