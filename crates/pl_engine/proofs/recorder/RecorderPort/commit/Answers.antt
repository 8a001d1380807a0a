use Rattle.std.proofs.Common.{◌≡◌, ℕ, List, [], ◌∷◌, ◌++◌, ap, subst, sym}
use Rattle.pl_engine.proofs.recorder.RecorderPort.commit.Goals as goal
use Rattle.pl_engine.specs.Recorded.{Lead, Taken}
use Rattle.pl_engine.specs.RecordedLaws.{leads_on}
use Rattle.pl_world.specs.pl_journal.Journal.{LeadsTo}
use Rattle.pl_world.specs.pl_journal.Operation.{empty}

pub returns-clause-stored : goal.returns-clause-stored
returns-clause-stored c =
    let kept : c.works.new.self.payloads.items ≡ c.args.self.now.payloads.items = ap (λ (t : Taken). t.payloads) c.works.ensures.taken in
    let fits : Lead c.works.new.self.payloads.items empty c.args.journal.now.last = subst (λ (ps : List (List ℕ)). Lead ps empty c.args.journal.now.last) (sym kept) c.requires.fits in
    let leads : LeadsTo c.in-Ok.payload c.args.journal.now.last c.args.journal.now.now =
    subst (λ (p : List ℕ). LeadsTo p c.args.journal.now.last c.args.journal.now.now) (sym c.in-Ok.ensures) c.payload.ensures in
    let items : c.push.new.self.items ≡ c.works.new.self.payloads.items ++ c.in-Ok.payload ∷ [] = c.in-Ok-push.ensures.items in
    subst (λ (ps : List (List ℕ)). Lead ps empty c.args.journal.now.now) (sym items) (leads_on _ _ _ _ _ fits leads)
