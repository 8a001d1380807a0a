use Rattle.std.proofs.Common.{◌≡◌, ◌∙◌, [], List, sym, ap, subst, map}
use Rattle.pl_catalog.specs.declared.object.Object.{Object}
use Rattle.pl_history.specs.History.{History}
use Rattle.pl_tables.specs.Named.{Named}
use Rattle.pl_undo.specs.Database.{database, IsWhole}
use Rattle.pl_undo.specs.Store.{database_at, Stored}
use Rattle.pl_undo.proofs.Marks.{rest_last, rest_sound}
use Rattle.pl_undo.proofs.store.Store.seal.Goals as goal

pub invariant_of-self : goal.invariant_of-self
invariant_of-self c =
    let past : c.forget-2.new.self.past ≡ [] = ap (λ (h : History (List Named)). h.past) c.forget-2.ensures.settled in
    let now : database c.forget.new.self.objects c.forget-2.new.self.current ≡ database c.self.inside.catalog.objects c.self.inside.tables.current =
    ap (λ (os : List Object). database os c.forget-2.new.self.current) c.forget.ensures.objects ∙ ap (λ (h : History (List Named)). database c.self.inside.catalog.objects h.current) c.forget-2.ensures.settled in
    rest_sound c.forget.new.self c.forget-2.new.self c.forget.ensures.past past c.clear.new.self.items c.clear.ensures.items (subst IsWhole (sym now) c.self.invariant.now)

pub returns-clause-now : goal.returns-clause-now
returns-clause-now c =
    let now : database c.forget.new.self.objects c.forget-2.new.self.current ≡ database c.self.inside.catalog.objects c.self.inside.tables.current =
    ap (λ (os : List Object). database os c.forget-2.new.self.current) c.forget.ensures.objects ∙ ap (λ (h : History (List Named)). database c.self.inside.catalog.objects h.current) c.forget-2.ensures.settled in
    now ∙ ap (λ (s : Stored). s.now) c.self.view_is

pub returns-clause-last : goal.returns-clause-last
returns-clause-last c =
    let past : c.forget-2.new.self.past ≡ [] = ap (λ (h : History (List Named)). h.past) c.forget-2.ensures.settled in
    let now : database c.forget.new.self.objects c.forget-2.new.self.current ≡ database c.self.inside.catalog.objects c.self.inside.tables.current =
    ap (λ (os : List Object). database os c.forget-2.new.self.current) c.forget.ensures.objects ∙ ap (λ (h : History (List Named)). database c.self.inside.catalog.objects h.current) c.forget-2.ensures.settled in
    rest_last c.forget.new.self c.forget-2.new.self c.forget.ensures.past past ∙ (now ∙ ap (λ (s : Stored). s.now) c.self.view_is)

pub returns-clause-marks : goal.returns-clause-marks
returns-clause-marks c = ap (map (database_at c.forget.new.self c.forget-2.new.self)) c.clear.ensures.items
