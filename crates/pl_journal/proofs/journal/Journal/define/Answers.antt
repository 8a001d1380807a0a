use Rattle.std.proofs.Common.{◌≡◌, OnErr, ap, subst, ◌∙◌}
use Rattle.pl_journal.specs.Definitions.{redefined}
use Rattle.pl_journal.specs.Journal.{Redefines}
use Rattle.pl_journal.proofs.Fronts.{still}
use Rattle.pl_undo.specs.Store.{Stored}
use Rattle.pl_journal.proofs.journal.Journal.define.Goals as goal

pub returns-clause-redefines : goal.returns-clause-redefines
returns-clause-redefines c =
    subst (λ (s : Stored). Redefines (redefined c.args.definition.now c.args.text s.now) c.define_object.result c.define_object.new.store.now) c.self.view_is c.define_object.ensures.redefines

pub returns-clause-err : goal.returns-clause-err
returns-clause-err c = subst (λ (s : Stored). OnErr c.define_object.result (c.define_object.new.store.now ≡ s.now)) c.self.view_is c.define_object.ensures.err

pub returns-clause-last : goal.returns-clause-last
returns-clause-last c = c.define_object.ensures.last ∙ ap (λ (s : Stored). s.last) c.self.view_is

pub returns-clause-marks : goal.returns-clause-marks
returns-clause-marks c = c.define_object.ensures.marks ∙ ap (λ (s : Stored). s.marks) c.self.view_is

pub invariant_of-self : goal.invariant_of-self
invariant_of-self c = still c.self.inside.payload.items c.self.inside.sizes.items c.self.inside.store c.self.invariant c.define_object.new.payload.items c.define_object.new.store c.define_object.ensures.kept
