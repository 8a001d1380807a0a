use Rattle.std.proofs.Common.{◌≡◌, ◌⊎◌, ◌∙◌, ◌∷◌, ◌++◌, [], Ok, Err, List, ℕ, inl, inr, ⊎_elim, map, ap, refl, sym, subst, string_bytes}
use Rattle.pl_undo.specs.Database.{Database}
use Rattle.pl_session.specs.pl_world.Opening.{opens}
use Rattle.pl_session.specs.pl_world.Trace.{Event, Said}
use Rattle.pl_keeper.specs.Batches.{Damage, batches, spare_area}
use Rattle.pl_session.specs.Spare.{KeepsArea}
use Rattle.pl_session.specs.Starts.{HasStartCause}
use Rattle.pl_session.specs.declared.halt.StartFail.{StartFail}
use Rattle.pl_session.specs.Endings.{Done}
use Rattle.pl_session.specs.Lent.{area_on}
use Rattle.pl_session.specs.State.{database_in, session_in}
use Rattle.pl_cli.specs.Covers.{CoveredRun}
use Rattle.pl_cli.specs.Line.{asked}
use Rattle.pl_cli.specs.Lines.{asked_in}
use Rattle.pl_cli.specs.Parts.{SaysLast, ScriptEnd}
use Rattle.pl_cli.specs.Printed.{damage_line, refusal_line}
use Rattle.pl_cli.specs.declared.ending.Ending.TheVariants.{Whole, AtError, Memory, Refused, Source}
use Rattle.pl_cli.specs.declared.ending.Ending.{Ending}
use Rattle.pl_disk.specs.Disk.{Runs}
use Rattle.pl_session.specs.pl_world.Covered.{AlongFrom}
use Rattle.pl_session.specs.Traces.{IsTrace}
use Rattle.pl_session.specs.pl_world.Sessions.{new_session}
use Rattle.pl_base.specs.Image.{Image}
use Rattle.pl_cli.specs.Runs.{AttachesScript, HasCause, IsEarly, OnlySays, Over}
use Rattle.pl_cli.specs.Script.{IsRefusedAt, script_text}
use Rattle.pl_cli.proofs.Covering.{done_since, idle_covers, not_begun, only_started, same_database, start_covers, then_covers}
use Rattle.pl_cli.proofs.Runs.{area_said, begun, cause_of, done_by, ended_not_memory, ended_not_say, front_since, leads_over, none_printed, not_disk, not_memory, not_read, not_run, not_usage, one_asked, prints_since, prints_whole, refused_due, same_damage, says_along, says_done, says_nothing, tells_at, tells_cause, tells_early, tells_only, tells_place, trace_of, was_run}
use Rattle.pl_cli.proofs.Traces.{none_yet}
use Rattle.pl_cli.proofs.program.run.Goals as goal

pub returns-in-Err-Memory-clause-covered : goal.returns-in-Err-Memory-clause-covered
returns-in-Err-Memory-clause-covered g c db events over = idle_covers (g.H.Disk.view c.args.host.now) events db (g.met.H.Disk.lawful c.args.host.now over.told)

pub returns-in-Err-Disk-clause-covered : goal.returns-in-Err-Disk-clause-covered
returns-in-Err-Disk-clause-covered g c db events over =
    start_covers _ _ _ (g.met.H.Disk.lawful c.args.host.now over.told) over.told c.start.ensures.moments (c.start.ensures.settled over.told) events db over.opened

pub returns-in-Err-Memory-start-clause-covered : goal.returns-in-Err-Memory-start-clause-covered
returns-in-Err-Memory-start-clause-covered g c db events over =
    start_covers _ _ _ (g.met.H.Disk.lawful c.args.host.now over.told) over.told c.start.ensures.moments (c.start.ensures.settled over.told) events db over.opened

pub returns-in-Err-Fault-clause-covered : goal.returns-in-Err-Fault-clause-covered
returns-in-Err-Fault-clause-covered g c db events over =
    start_covers _ _ _ (g.met.H.Disk.lawful c.args.host.now over.told) over.told c.start.ensures.moments (c.start.ensures.settled over.told) events db over.opened

pub returns-in-Err-Memory-read_script-clause-covered : goal.returns-in-Err-Memory-read_script-clause-covered
returns-in-Err-Memory-read_script-clause-covered g c db events over =
    start_covers _ _ _ (g.met.H.Disk.lawful c.args.host.now over.told) over.told c.start.ensures.moments (c.start.ensures.settled over.told) events db over.opened

pub returns-in-Err-Disk-clause-damaged_store : goal.returns-in-Err-Disk-clause-damaged_store
returns-in-Err-Disk-clause-damaged_store g c is_line told damage is =
    says_nothing _ _ _ _ (g.met.H.Disk.lawful c.args.host.now told) told c.start.ensures.moments (c.start.ensures.untouched told damage is)

pub returns-in-Err-Memory-start-clause-damaged_store : goal.returns-in-Err-Memory-start-clause-damaged_store
returns-in-Err-Memory-start-clause-damaged_store g c is_line told damage is =
    says_nothing _ _ _ _ (g.met.H.Disk.lawful c.args.host.now told) told c.start.ensures.moments (c.start.ensures.untouched told damage is)

pub returns-in-Err-Damaged-clause-damaged_store : goal.returns-in-Err-Damaged-clause-damaged_store
returns-in-Err-Damaged-clause-damaged_store g c is_line told damage is =
    let a = g.H.Disk.view c.args.host.now in
    let d = g.H.Disk.view c.say_damage.new.host in
    let line = damage_line c.in-Err-Damaged.area c.in-Err-Damaged.at in
    let tells = tells_at g.H.Disk.view _ c.in-Err-Damaged.area _ c.in-Err-Damaged.at c.start.new.host c.say_damage.new.host c.say_damage.result c.in-Err-Damaged.area-is c.in-Err-Damaged.at-is c.say_damage.ensures in
    let cause : (g.H.Disk.view c.args.host.now).told → opens (g.H.Disk.view c.args.host.now).seen ≡ Err (record { area = c.in-Err-Damaged.area; at = c.in-Err-Damaged.at }) =
    subst (λ (f : StartFail). HasStartCause (g.H.Disk.view c.args.host.now) (g.H.Disk.view c.start.new.host) f) c.in-Err-Damaged.field-0-is c.in-Err-Damaged.ensures.cause in
    subst (λ (x : Damage). OnlySays (damage_line x.area x.at) a d) (same_damage (opens a.seen) _ damage (cause told) is)
    (tells_only g.H.Disk.view line a c.start.new.host c.say_damage.new.host c.say_damage.result tells _ (g.met.H.Disk.lawful c.args.host.now told) told (c.start.ensures.moments.continues.told told)
    c.start.ensures.moments (c.start.ensures.untouched told damage is) (c.start.ensures.printed told))

pub returns-in-Err-Damaged-clause-damaged : goal.returns-in-Err-Damaged-clause-damaged
returns-in-Err-Damaged-clause-damaged g c ended told damage is =
    let a = g.H.Disk.view c.args.host.now in
    let d = g.H.Disk.view c.say_damage.new.host in
    let line = damage_line c.in-Err-Damaged.area c.in-Err-Damaged.at in
    let tells = tells_at g.H.Disk.view _ c.in-Err-Damaged.area _ c.in-Err-Damaged.at c.start.new.host c.say_damage.new.host c.say_damage.result c.in-Err-Damaged.area-is c.in-Err-Damaged.at-is c.say_damage.ensures in
    let cause : (g.H.Disk.view c.args.host.now).told → opens (g.H.Disk.view c.args.host.now).seen ≡ Err (record { area = c.in-Err-Damaged.area; at = c.in-Err-Damaged.at }) =
    subst (λ (f : StartFail). HasStartCause (g.H.Disk.view c.args.host.now) (g.H.Disk.view c.start.new.host) f) c.in-Err-Damaged.field-0-is c.in-Err-Damaged.ensures.cause in
    subst (λ (x : Damage). d.printed ≡ a.printed ++ damage_line x.area x.at) (same_damage (opens a.seen) _ damage (cause told) is)
    (tells_place g.H.Disk.view line a c.start.new.host c.say_damage.new.host c.say_damage.result tells (sym c.of-in-Err-Damaged.ensures.ending ∙ ended) (c.start.ensures.moments.continues.told told) (c.start.ensures.printed told))

pub returns-in-Err-Damaged-clause-cause : goal.returns-in-Err-Damaged-clause-cause
returns-in-Err-Damaged-clause-cause g c =
    let words = map string_bytes c.args.words.now in
    let a = g.H.Disk.view c.args.host.now in
    let d = g.H.Disk.view c.say_damage.new.host in
    let left = g.S.Source.left c.args.source.now in
    let faults = g.S.Source.faults c.args.source.now in
    let line = damage_line c.in-Err-Damaged.area c.in-Err-Damaged.at in
    let tells = tells_at g.H.Disk.view _ c.in-Err-Damaged.area _ c.in-Err-Damaged.at c.start.new.host c.say_damage.new.host c.say_damage.result c.in-Err-Damaged.area-is c.in-Err-Damaged.at-is c.say_damage.ensures in
    let cause : (g.H.Disk.view c.args.host.now).told → opens (g.H.Disk.view c.args.host.now).seen ≡ Err (record { area = c.in-Err-Damaged.area; at = c.in-Err-Damaged.at }) =
    subst (λ (f : StartFail). HasStartCause (g.H.Disk.view c.args.host.now) (g.H.Disk.view c.start.new.host) f) c.in-Err-Damaged.field-0-is c.in-Err-Damaged.ensures.cause in
    subst (λ (e : Ending). HasCause e words a d left faults faults) (sym c.of-in-Err-Damaged.ensures.ending)
    (tells_cause g.H.Disk.view line a c.start.new.host c.say_damage.new.host c.say_damage.result tells words left faults faults _ (asked_in c.in-Ok.line, c.in-Ok.ensures.line) cause c.start.ensures.moments.continues.say_faults)

pub returns-in-Err-Damaged-clause-read : goal.returns-in-Err-Damaged-clause-read
returns-in-Err-Damaged-clause-read g c ended script left =
    let line = damage_line c.in-Err-Damaged.area c.in-Err-Damaged.at in
    let tells = tells_at g.H.Disk.view _ c.in-Err-Damaged.area _ c.in-Err-Damaged.at c.start.new.host c.say_damage.new.host c.say_damage.result c.in-Err-Damaged.area-is c.in-Err-Damaged.at-is c.say_damage.ensures in
    absurd (not_read _ (tells_early g.H.Disk.view line (g.H.Disk.view c.args.host.now) c.start.new.host c.say_damage.new.host c.say_damage.result tells)
    (subst (λ (e : Ending). (e ≡ Whole) ⊎ (e ≡ AtError)) c.of-in-Err-Damaged.ensures.ending ended))

pub returns-in-Err-Damaged-clause-usage : goal.returns-in-Err-Damaged-clause-usage
returns-in-Err-Damaged-clause-usage g c ended told =
    let line = damage_line c.in-Err-Damaged.area c.in-Err-Damaged.at in
    let tells = tells_at g.H.Disk.view _ c.in-Err-Damaged.area _ c.in-Err-Damaged.at c.start.new.host c.say_damage.new.host c.say_damage.result c.in-Err-Damaged.area-is c.in-Err-Damaged.at-is c.say_damage.ensures in
    absurd (not_usage _ (tells_early g.H.Disk.view line (g.H.Disk.view c.args.host.now) c.start.new.host c.say_damage.new.host c.say_damage.result tells) (sym c.of-in-Err-Damaged.ensures.ending ∙ ended))

pub returns-in-Err-Damaged-clause-script : goal.returns-in-Err-Damaged-clause-script
returns-in-Err-Damaged-clause-script g c =
    let attached = g.S.Source.attached c.args.source.now in
    let line = damage_line c.in-Err-Damaged.area c.in-Err-Damaged.at in
    let tells = tells_at g.H.Disk.view _ c.in-Err-Damaged.area _ c.in-Err-Damaged.at c.start.new.host c.say_damage.new.host c.say_damage.result c.in-Err-Damaged.area-is c.in-Err-Damaged.at-is c.say_damage.ensures in
    let early = tells_early g.H.Disk.view line (g.H.Disk.view c.args.host.now) c.start.new.host c.say_damage.new.host c.say_damage.result tells in
    subst (λ o. AttachesScript o c.of-in-Err-Damaged.result.ending attached attached) (sym c.in-Ok.ensures.line)
    (inr (subst (λ (e : Ending). IsEarly e) (sym c.of-in-Err-Damaged.ensures.ending) early, λ names is. is))

pub returns-in-Err-Damaged-clause-spare : goal.returns-in-Err-Damaged-clause-spare
returns-in-Err-Damaged-clause-spare g c is told =
    let a = g.H.Disk.view c.args.host.now in
    let now = c.start.ensures.moments.continues.told told in
    let first = c.start.ensures.spare told in
    let line = damage_line c.in-Err-Damaged.area c.in-Err-Damaged.at in
    let tells = tells_at g.H.Disk.view _ c.in-Err-Damaged.area _ c.in-Err-Damaged.at c.start.new.host c.say_damage.new.host c.say_damage.result c.in-Err-Damaged.area-is c.in-Err-Damaged.at-is c.say_damage.ensures in
    ⊎_elim (λ says. area_on (spare_area a.seen) _ _ _ (g.met.H.Disk.lawful c.args.host.now told) (g.met.H.Disk.lawful c.start.new.host now) first (area_said (spare_area a.seen) _ _ _ _ _ now says))
    (λ none. subst (λ h. KeepsArea (spare_area a.seen) a (g.H.Disk.view h)) (sym none.1) first) tells

pub returns-in-Err-Memory-start-clause-memory : goal.returns-in-Err-Memory-start-clause-memory
returns-in-Err-Memory-start-clause-memory g c is db events over =
    let now = c.start.ensures.moments.continues.told over.told in
    ⊎_elim (λ none. inl none) (λ done. inr ([], none_yet _ _ _ _, done))
    (not_begun _ _ _ (g.met.H.Disk.lawful c.args.host.now over.told) over.told c.start.ensures.moments (c.start.ensures.settled over.told) db (g.met.H.Disk.lawful c.start.new.host now) over.opened
    (c.start.ensures.printed over.told))

pub returns-in-Err-Memory-read_script-clause-memory : goal.returns-in-Err-Memory-read_script-clause-memory
returns-in-Err-Memory-read_script-clause-memory g c is db events over =
    inr ([], none_yet _ _ _ _, only_started _ _ _ db c.in-Ok-start.ensures.started over.told (c.start.ensures.moments.continues.told over.told) over.opened (c.start.ensures.printed over.told))

pub returns-in-Err-Disk-clause-disk : goal.returns-in-Err-Disk-clause-disk
returns-in-Err-Disk-clause-disk g c is db events over = none_printed (g.H.Disk.view c.args.host.now) (g.H.Disk.view c.start.new.host) _ _ _ (new_session db) c.start.ensures.printed

pub returns-in-Err-Refused-clause-disk : goal.returns-in-Err-Refused-clause-disk
returns-in-Err-Refused-clause-disk g c is db events over =
    let none = sym c.of-in-Err-Refused.ensures.ending ∙ is in
    ⊎_elim (λ says. absurd (not_disk _ _ none says.known)) (λ memory. absurd (let one = none in let other = memory.0 in cc)) c.say_refusal.ensures

pub returns-in-Err-Refused-clause-covered : goal.returns-in-Err-Refused-clause-covered
returns-in-Err-Refused-clause-covered g c db events over =
    let at = c.in-Err-Refused.at in
    let a = g.H.Disk.view c.args.host.now in
    let b = g.H.Disk.view c.start.new.host in
    let d = g.H.Disk.view c.say_refusal.new.host in
    let lawful = g.met.H.Disk.lawful c.args.host.now over.told in
    let read : IsRefusedAt over.script at = rw c.in-Err-Refused.field-0-is at (c.in-Err-Refused.ensures.read over.script over.reads) in
    let started = c.in-Ok-start.ensures.started in
    let opened : (i : Image) → b.told → b.may_leave i → opens i ≡ Ok db = λ i now left. started.ready.opens_to now i left ∙ sym (started.opened over.told) ∙ over.opened in
    ⊎_elim
    (λ (says : SaysLast (refusal_line at) Refused b d c.say_refusal.result).
    subst (λ (l : List Event). CoveredRun a d l db) (refused_due over.script over.line.steps over.line.stops_on_error db events at read over.due)
    (then_covers a b c.in-Ok.line.store.now lawful over.told c.start.ensures.moments (c.start.ensures.settled over.told) d (Said (refusal_line at) ∷ []) db over.opened (c.start.ensures.printed over.told) (started.synced over.told)
    (says_along b d (refusal_line at) Refused c.say_refusal.result db says (λ now i left. opened i now left))))
    (λ (none : (c.say_refusal.result ≡ Memory) × (c.say_refusal.new.host ≡ c.start.new.host)).
    subst (λ h. CoveredRun a (g.H.Disk.view h) events db) (sym none.1) (start_covers a b c.in-Ok.line.store.now lawful over.told c.start.ensures.moments (c.start.ensures.settled over.told) events db over.opened))
    (subst (λ (k : ℕ). SaysLast (refusal_line k) Refused b d c.say_refusal.result ⊎ ((c.say_refusal.result ≡ Memory) × (c.say_refusal.new.host ≡ c.start.new.host))) c.in-Err-Refused.at-is c.say_refusal.ensures)

pub returns-in-Err-Usage-clause-spare : goal.returns-in-Err-Usage-clause-spare
returns-in-Err-Usage-clause-spare g c is told = area_said _ _ _ _ _ _ told c.refuse_words.ensures.says

pub returns-in-Err-Refused-clause-spare : goal.returns-in-Err-Refused-clause-spare
returns-in-Err-Refused-clause-spare g c is told =
    let a = g.H.Disk.view c.args.host.now in
    let now = c.start.ensures.moments.continues.told told in
    let first = c.start.ensures.spare told in
    ⊎_elim (λ says. area_on (spare_area a.seen) _ _ _ (g.met.H.Disk.lawful c.args.host.now told) (g.met.H.Disk.lawful c.start.new.host now) first (area_said (spare_area a.seen) _ _ _ _ _ now says))
    (λ none. subst (λ h. KeepsArea (spare_area a.seen) a (g.H.Disk.view h)) (sym none.1) first)
    c.say_refusal.ensures

pub returns-clause-spare : goal.returns-clause-spare
returns-clause-spare g c is told =
    absurd (was_run c.run_commands.result _ _ _ _ _ _ c.run_commands.ensures.ended (subst (λ (e : Ending). (e ≡ Source) ⊎ (e ≡ Refused)) c.of-2.ensures.ending is))

pub returns-in-Err-Damaged-clause-short : goal.returns-in-Err-Damaged-clause-short
returns-in-Err-Damaged-clause-short g c ended db events over idle i left =
    let line = damage_line c.in-Err-Damaged.area c.in-Err-Damaged.at in
    let tells = tells_at g.H.Disk.view _ c.in-Err-Damaged.area _ c.in-Err-Damaged.at c.start.new.host c.say_damage.new.host c.say_damage.result c.in-Err-Damaged.area-is c.in-Err-Damaged.at-is c.say_damage.ensures in
    absurd (not_read _ (tells_early g.H.Disk.view line (g.H.Disk.view c.args.host.now) c.start.new.host c.say_damage.new.host c.say_damage.result tells)
    (subst (λ (e : Ending). (e ≡ Whole) ⊎ (e ≡ AtError)) c.of-in-Err-Damaged.ensures.ending ended))

pub returns-in-Err-Refused-clause-short : goal.returns-in-Err-Refused-clause-short
returns-in-Err-Refused-clause-short g c ended db events over idle i left =
    let is = subst (λ (e : Ending). (e ≡ Whole) ⊎ (e ≡ AtError)) c.of-in-Err-Refused.ensures.ending ended in
    absurd (⊎_elim (λ says. ⊎_elim (λ refused. not_run _ is (inl refused)) (λ say. not_run _ is (inr (inl say.0))) says.known) (λ none. not_run _ is (inr (inr none.0))) c.say_refusal.ensures)

pub returns-clause-short : goal.returns-clause-short
returns-clause-short g c ended db events over idle i left =
    let a = g.H.Disk.view c.args.host.now in
    let b = g.H.Disk.view c.start.new.host in
    let now = c.start.ensures.moments.continues.told over.told in
    let started = c.in-Ok-start.ensures.started in
    let line = asked_in c.in-Ok.line in
    let text = c.without_mark-text.result.now in
    let same_db : database_in c.in-Ok-start.state ≡ db = same_database (opens a.seen) (database_in c.in-Ok-start.state) db (started.opened over.told) over.opened in
    let read = c.in-Ok-read_script.ensures.read over.script over.reads in
    let is_text : text ≡ script_text over.script = c.without_mark-text.ensures ∙ ap script_text (c.deref.ensures ∙ read.0) in
    let one : line ≡ over.line = one_asked (asked (map string_bytes c.args.words.now)) line over.line c.in-Ok.ensures.line over.asks in
    let is = subst (λ (e : Ending). (e ≡ Whole) ⊎ (e ≡ AtError)) c.of-2.ensures.ending ended in
    let leads = leads_over text (script_text over.script) line over.line (session_in c.in-Ok-start.state) (new_session db) (session_in c.run_commands.new.state) is_text one (begun a b c.in-Ok-start.state db started same_db) (c.run_commands.ensures.session is) in
    ⊎_elim (λ short. inl short)
    (λ same.
    let was : b.may_leave i = subst (λ h. (g.H.Disk.view h).may_leave i) same left in
    inr (ap batches ((started.ready.store now).store.settled i was) ∙ started.same over.told))
    (c.run_commands.ensures.short is (idle (session_in c.run_commands.new.state) leads) now i left)

pub returns-in-Err-Refused-clause-done : goal.returns-in-Err-Refused-clause-done
returns-in-Err-Refused-clause-done g c ended db events over =
    let at = c.in-Err-Refused.at in
    let a = g.H.Disk.view c.args.host.now in
    let b = g.H.Disk.view c.start.new.host in
    let d = g.H.Disk.view c.say_refusal.new.host in
    let read : IsRefusedAt over.script at = rw c.in-Err-Refused.field-0-is at (c.in-Err-Refused.ensures.read over.script over.reads) in
    let started = c.in-Ok-start.ensures.started in
    let now = c.start.ensures.moments.continues.told over.told in
    let opened : (i : Image) → b.may_leave i → opens i ≡ Ok db = λ i left. started.ready.opens_to now i left ∙ sym (started.opened over.told) ∙ over.opened in
    let end = subst (λ (e : Ending). (e ≡ Whole) ⊎ ((e ≡ AtError) ⊎ (e ≡ Refused))) c.of-in-Err-Refused.ensures.ending ended in
    ⊎_elim
    (λ (says : SaysLast (refusal_line at) Refused b d c.say_refusal.result).
    subst (λ (l : List Event). Done a d l db) (refused_due over.script over.line.steps over.line.stops_on_error db events at read over.due)
    (done_since a b d (Said (refusal_line at) ∷ []) db db refl (c.start.ensures.printed over.told)
    (says_done b d (refusal_line at) Refused c.say_refusal.result db says now (ended_not_say c.say_refusal.result end) opened)))
    (λ (none : (c.say_refusal.result ≡ Memory) × (c.say_refusal.new.host ≡ c.start.new.host)). absurd (ended_not_memory c.say_refusal.result end none.0))
    (subst (λ (k : ℕ). SaysLast (refusal_line k) Refused b d c.say_refusal.result ⊎ ((c.say_refusal.result ≡ Memory) × (c.say_refusal.new.host ≡ c.start.new.host))) c.in-Err-Refused.at-is c.say_refusal.ensures)

pub returns-in-Err-Refused-clause-memory : goal.returns-in-Err-Refused-clause-memory
returns-in-Err-Refused-clause-memory g c is db events over =
    let done = only_started _ _ _ db c.in-Ok-start.ensures.started over.told (c.start.ensures.moments.continues.told over.told) over.opened (c.start.ensures.printed over.told) in
    ⊎_elim (λ says. absurd (not_memory _ _ (sym c.of-in-Err-Refused.ensures.ending ∙ is) says.known))
    (λ none. inr ([], none_yet _ _ _ _, subst (λ h. Done (g.H.Disk.view c.args.host.now) (g.H.Disk.view h) [] db) (sym none.1) done))
    c.say_refusal.ensures

pub returns-clause-cause : goal.returns-clause-cause
returns-clause-cause g c =
    let words = map string_bytes c.args.words.now in
    let a = g.H.Disk.view c.args.host.now in
    let b = g.H.Disk.view c.start.new.host in
    let d = g.H.Disk.view c.run_commands.new.host in
    let left = g.S.Source.left c.args.source.now in
    let line = asked_in c.in-Ok.line in
    let text = c.without_mark-text.result.now in
    let s = session_in c.in-Ok-start.state in
    let found = database_in c.in-Ok-start.state in
    let started = c.in-Ok-start.ensures.started in
    let first = c.start.ensures.moments.continues in
    let later = c.run_commands.ensures.continues in
    let traced : (db : Database) (events : List Event) (over : Over words a left db events) → IsTrace text line.steps line.stops_on_error s events = λ db events over.
    let same : found ≡ db = same_database (opens a.seen) found db (started.opened over.told) over.opened in
    let read = c.in-Ok-read_script.ensures.read over.script over.reads in
    let is_text : text ≡ script_text over.script = c.without_mark-text.ensures ∙ ap script_text (c.deref.ensures ∙ read.0) in
    trace_of words a left db s events over line text c.in-Ok.ensures.line (begun a b c.in-Ok-start.state db started same) read.2 is_text in
    subst (λ (e : Ending). HasCause e words a d left (g.S.Source.faults c.args.source.now) (g.S.Source.faults c.read_script.new.source)) (sym c.of-2.ensures.ending)
    (cause_of c.run_commands.result words a b d left _ _ text line s c.run_commands.ensures.ended c.in-Ok.ensures.line
    (λ told. (found, started.opened told)) (λ script is. (c.in-Ok-read_script.ensures.read script is).2) traced
    first.disk_faults later.disk_faults first.say_faults later.say_faults)

pub returns-clause-covered : goal.returns-clause-covered
returns-clause-covered g c db events over =
    let words = map string_bytes c.args.words.now in
    let a = g.H.Disk.view c.args.host.now in
    let b = g.H.Disk.view c.start.new.host in
    let d = g.H.Disk.view c.run_commands.new.host in
    let left = g.S.Source.left c.args.source.now in
    let line = asked_in c.in-Ok.line in
    let text = c.without_mark-text.result.now in
    let s = session_in c.in-Ok-start.state in
    let found = database_in c.in-Ok-start.state in
    let started = c.in-Ok-start.ensures.started in
    let same : found ≡ db = same_database (opens a.seen) found db (started.opened over.told) over.opened in
    let read = c.in-Ok-read_script.ensures.read over.script over.reads in
    let is_text : text ≡ script_text over.script = c.without_mark-text.ensures ∙ ap script_text (c.deref.ensures ∙ read.0) in
    let traced = trace_of words a left db s events over line text c.in-Ok.ensures.line (begun a b c.in-Ok-start.state db started same) read.2 is_text in
    then_covers a b c.in-Ok.line.store.now (g.met.H.Disk.lawful c.args.host.now over.told) over.told c.start.ensures.moments (c.start.ensures.settled over.told) d events db over.opened (c.start.ensures.printed over.told) (started.synced over.told)
    (subst (λ (e : Database). Runs b d (AlongFrom b.printed events e)) same (c.run_commands.ensures.moments events traced))

pub returns-clause-done : goal.returns-clause-done
returns-clause-done g c ended db events over =
    let words = map string_bytes c.args.words.now in
    let a = g.H.Disk.view c.args.host.now in
    let b = g.H.Disk.view c.start.new.host in
    let d = g.H.Disk.view c.run_commands.new.host in
    let left = g.S.Source.left c.args.source.now in
    let line = asked_in c.in-Ok.line in
    let text = c.without_mark-text.result.now in
    let s = session_in c.in-Ok-start.state in
    let found = database_in c.in-Ok-start.state in
    let started = c.in-Ok-start.ensures.started in
    let same : found ≡ db = same_database (opens a.seen) found db (started.opened over.told) over.opened in
    let read = c.in-Ok-read_script.ensures.read over.script over.reads in
    let is_text : text ≡ script_text over.script = c.without_mark-text.ensures ∙ ap script_text (c.deref.ensures ∙ read.0) in
    let traced = trace_of words a left db s events over line text c.in-Ok.ensures.line (begun a b c.in-Ok-start.state db started same) read.2 is_text in
    done_since a b d events found db same (c.start.ensures.printed over.told)
    (done_by c.run_commands.result b d text line.steps line.stops_on_error s events c.run_commands.ensures.ended (c.start.ensures.moments.continues.told over.told)
    (subst (λ (e : Ending). (e ≡ Whole) ⊎ ((e ≡ AtError) ⊎ (e ≡ Refused))) c.of-2.ensures.ending ended) traced)

pub returns-clause-disk : goal.returns-clause-disk
returns-clause-disk g c is db events over =
    let a = g.H.Disk.view c.args.host.now in
    let b = g.H.Disk.view c.start.new.host in
    let d = g.H.Disk.view c.run_commands.new.host in
    let line = asked_in c.in-Ok.line in
    let text = c.without_mark-text.result.now in
    let s = session_in c.in-Ok-start.state in
    let found = database_in c.in-Ok-start.state in
    let started = c.in-Ok-start.ensures.started in
    let same : found ≡ db = same_database (opens a.seen) found db (started.opened over.told) over.opened in
    let read = c.in-Ok-read_script.ensures.read over.script over.reads in
    let is_text : text ≡ script_text over.script = c.without_mark-text.ensures ∙ ap script_text (c.deref.ensures ∙ read.0) in
    let one : line ≡ over.line = one_asked (asked (map string_bytes c.args.words.now)) line over.line c.in-Ok.ensures.line over.asks in
    prints_since a b d text (script_text over.script) line over.line s (new_session db) is_text one (begun a b c.in-Ok-start.state db started same)
    c.start.ensures.printed (λ told. c.start.ensures.moments.continues.told told)
    (prints_whole c.run_commands.result b d text line.steps line.stops_on_error s c.run_commands.ensures.ended (sym c.of-2.ensures.ending ∙ is))

pub returns-in-Err-Fault-clause-source : goal.returns-in-Err-Fault-clause-source
returns-in-Err-Fault-clause-source g c is db told opened =
    only_started _ _ _ db c.in-Ok-start.ensures.started told (c.start.ensures.moments.continues.told told) opened (c.start.ensures.printed told)

pub returns-clause-memory : goal.returns-clause-memory
returns-clause-memory g c is db events over =
    let a = g.H.Disk.view c.args.host.now in
    let b = g.H.Disk.view c.start.new.host in
    let d = g.H.Disk.view c.run_commands.new.host in
    let line = asked_in c.in-Ok.line in
    let text = c.without_mark-text.result.now in
    let s = session_in c.in-Ok-start.state in
    let found = database_in c.in-Ok-start.state in
    let started = c.in-Ok-start.ensures.started in
    let same : found ≡ db = same_database (opens a.seen) found db (started.opened over.told) over.opened in
    let read = c.in-Ok-read_script.ensures.read over.script over.reads in
    let is_text : text ≡ script_text over.script = c.without_mark-text.ensures ∙ ap script_text (c.deref.ensures ∙ read.0) in
    let one : line ≡ over.line = one_asked (asked (map string_bytes c.args.words.now)) line over.line c.in-Ok.ensures.line over.asks in
    let ends = subst (λ (e : Ending). ScriptEnd e b d text line.steps line.stops_on_error s) (sym c.of-2.ensures.ending ∙ is) c.run_commands.ensures.ended in
    inr (
      ends.0,
      front_since text (script_text over.script) line over.line s (new_session db) ends.0 is_text one (begun a b c.in-Ok-start.state db started same) ends.1,
      done_since a b d ends.0 found db same (c.start.ensures.printed over.told) (ends.2 (c.start.ensures.moments.continues.told over.told)),
    )
