-- The steps of a run put together.
use Rattle.std.proofs.Common.{◌≡◌, ◌≢◌, ◌⊎◌, ◌<◌, ◌≤◌, ◌-◌, ◌^◌, ◌&&◌, Bool, arith, inl, inr, ⊎_elim, ℕ, List, [], ◌∷◌, ◌++◌, Result, Ok, Err, Option, Some, refl, sym, ◌∙◌, ap, subst}
use Rattle.std.proofs.lemmas.List.{append-nil}
use Rattle.std.proofs.Math.Nat.{eq-or-lt_of_le}
use Rattle.pl_base.specs.Image.{Image, file}
use Rattle.pl_base.specs.declared.area.Area.{Area}
use Rattle.pl_disk.specs.Disk.{View, IsLawful, Calls, IsPrefix, Keeps, Rises, Runs, Untouched, with_attached}
use Rattle.pl_disk.specs.Lent.{each, from_call, goes_on, runs_on, since_attach, weaker}
use Rattle.pl_disk.specs.declared.device.Failed.{Failed}
use Rattle.pl_keeper.specs.Batches.{Damage}
use Rattle.pl_keeper.specs.Store.{Has, KeepsFile}
use Rattle.pl_session.specs.pl_world.Covered.{AlongFrom}
use Rattle.pl_undo.specs.Database.{Database}
use Rattle.pl_session.specs.pl_world.Opening.{opens}
use Rattle.pl_session.specs.pl_world.Trace.{Event, Said, is_failed, text as text_of}
use Rattle.pl_session.specs.Starts.{IsStarted, StartPair}
use Rattle.pl_session.specs.Traces.{AreFront, IsTrace, LeadsTo}
use Rattle.pl_session.specs.pl_world.Sessions.{Session, new_session}
use Rattle.pl_session.specs.pl_world.declared.session.Mode.TheVariants as mode
use Rattle.pl_session.specs.Short.{IsShort, StaysShort}
use Rattle.pl_session.specs.Spare.{KeepsArea}
use Rattle.pl_session.specs.State.{IsReady, database_in, session_in}
use Rattle.pl_session.specs.declared.state.SessionState.{SessionState}
use Rattle.pl_session.specs.Endings.{Done, PrintsWhole}
use Rattle.pl_session.specs.Lent.{area_kept, area_still}
use Rattle.pl_cli.specs.Line.{Asked, Word, asked}
use Rattle.pl_cli.specs.Parts.{SaysLast, ScriptEnd}
use Rattle.pl_cli.specs.Printed.{damage_line, refusal_line}
use Rattle.pl_cli.specs.Runs.{HasCause, IsDue, IsEarly, IsLine, IsStored, IsWhole, OnlySays, Over}
use Rattle.pl_cli.specs.Script.{IsFirst, IsRefusedAt, IsScript, Spoils, script_text}
use Rattle.pl_cli.specs.declared.ending.Ending.{Ending}
use Rattle.pl_cli.proofs.Traces.{none_yet}
use Rattle.pl_cli.specs.declared.ending.Ending.TheVariants.{Whole, Usage, AtError, Disk, Source, Say, Damaged, Refused, Memory}

-- ---- what is due

-- a script that is refused at one offset is refused at no other, and is none
pub one_first : (P : ℕ → Type 0) (a b : ℕ) → IsFirst P a → IsFirst P b → a ≡ b
one_first P a b one two = ⊎_elim (λ below. absurd (two.1 a below one.0)) (λ rest. ⊎_elim (λ above. absurd (one.1 b above two.0)) (λ same. same) rest) (order a b)
  where
    order : (m n : ℕ) → (m < n) ⊎ ((n < m) ⊎ (m ≡ n))
    order m n = grind arith

pub refused_due : (script : List ℕ) (steps : ℕ) (stops : Bool) (db : Database) (events : List Event) (at : ℕ) → IsRefusedAt script at → IsDue script steps stops db events → Said (refusal_line at) ∷ [] ≡ events
refused_due script steps stops db events at refused (inl due) = ap (λ (k : ℕ). Said (refusal_line k) ∷ []) (one_first (Spoils script) at due.0 refused due.1) ∙ sym due.2
refused_due script steps stops db events at refused (inr due) = absurd (due.0 at refused.0)

pub script_due : (script : List ℕ) (steps : ℕ) (stops : Bool) (db : Database) (events : List Event) → IsScript script → IsDue script steps stops db events → IsTrace (script_text script) steps stops (new_session db) events
script_due script steps stops db events is (inl due) = absurd (is due.0 due.1.0)
script_due script steps stops db events is (inr due) = due.1

-- the session that was begun with the database that the files opened to
pub begun : (a b : View) (state : SessionState) (db : Database) → IsStarted a b state → database_in state ≡ db → session_in state ≡ new_session db
begun a b state db started same = started.begins ∙ ap (λ (d : Database). new_session d) same

pub one_asked : (o : Option Asked) (a b : Asked) → o ≡ Some a → o ≡ Some b → a ≡ b
one_asked o a b one two = cc

-- the trace of what the run begins with, of the line and the script that were read
pub trace_of : (words : List Word) (view : View) (left : Option (List ℕ)) (db : Database) (s : Session) (events : List Event) (over : Over words view left db events)
    (line : Asked) (text : List ℕ) → asked words ≡ Some line → s ≡ new_session db → IsScript over.script → text ≡ script_text over.script → IsTrace text line.steps line.stops_on_error s events
trace_of words view left db s events over line text asks same is_script is_text =
    let one : over.line ≡ line = one_asked (asked words) over.line line over.asks asks in
    subst (λ (t : List ℕ). IsTrace t line.steps line.stops_on_error s events) (sym is_text)
    (subst (λ (t : Session). IsTrace (script_text over.script) line.steps line.stops_on_error t events) (sym same)
    (subst (λ (l : Asked). IsTrace (script_text over.script) l.steps l.stops_on_error (new_session db) events) one
    (script_due over.script over.line.steps over.line.stops_on_error db events is_script over.due)))

-- ---- counts

-- a count that rose later rose since an earlier time
pub rises_on : (a b d : ℕ) → a ≤ b → b ≤ d → Rises b d → Rises a d
rises_on a b d h k rises below =
    ⊎_elim (λ same. let low : b < 2 ^ 64 - 1 = omega (arith, same, below) in let rose = rises low in omega (arith, same, rose)) (λ less. omega (arith, less, k)) (eq-or-lt_of_le h)

-- ---- a store that is left alone

pub attached_untouched : {T : Type 0} (a b d : View) (name : List ℕ) (result : Result T Failed) → a.told → Calls (with_attached name a) b result → Keeps a b → Untouched b d → Untouched a d
attached_untouched a b d name result told call keeps rest = record {
  seen = rest.seen ∙ keeps.seen;
  now = λ c left. keeps.crash c (rest.now c left);
  time = let first = call.time told in
      goes_on a b d (λ p c. (p ≡ a.printed) × b.may_leave c) (λ p c. b.may_leave c) (λ p c. a.may_leave c)
      (record { later = first.later; nothing_else = first.nothing_else; keeps = first.keeps }) rest.time (λ p c is. keeps.crash c is.1) (λ p c is. keeps.crash c is);
}

pub says_nothing : (line : List ℕ) (a b : View) (name : List ℕ) → IsLawful a → a.told → Runs (with_attached name a) b (StartPair a) → Untouched a b → OnlySays line a b
says_nothing line a b name lawful told first untouched = record {
  untouched = untouched;
  front = λ p c left.
      let it = each a b (StartPair a) lawful (since_attach name a b (StartPair a) first told) (λ i now. record { printed = refl; opened = inl now }) p c left in
      ([], (line, refl), it.printed ∙ sym (append-nil a.printed));
}

-- ---- a last line

-- a line that is said over files that open to a database goes along that event
pub says_along : (a d : View) (line : List ℕ) (ending result : Ending) (db : Database) → SaysLast line ending a d result → (a.told → (c : Image) → a.may_leave c → opens c ≡ Ok db)
    → Runs a d (AlongFrom a.printed (Said line ∷ []) db)
says_along a d line ending result db says all_open = record {
  continues = says.continues;
  synced = λ told. ([], (says.images told).synced ∙ sym (append-nil a.synced));
  time = λ told. weaker a d _ (AlongFrom a.printed (Said line ∷ []) db) (says.time told) (λ p c is. (is.0.0, is.0.2, inl (is.0.1, all_open told c is.1)));
}

pub says_done : (a d : View) (line : List ℕ) (ending result : Ending) (db : Database) → SaysLast line ending a d result → a.told → result ≢ Say → ((c : Image) → a.may_leave c → opens c ≡ Ok db)
    → Done a d (Said line ∷ []) db
says_done a d line ending result db says told other all_open = record {
  printed = says.whole told other ∙ ap (λ (l : List ℕ). a.printed ++ l) (sym (append-nil line));
  opens_to = λ c left. all_open c ((says.images told).crash c left);
}

pub ended_not_say : (e : Ending) → (e ≡ Whole) ⊎ ((e ≡ AtError) ⊎ (e ≡ Refused)) → e ≡ Say → ⊥
ended_not_say e (inl is) say = cc
ended_not_say e (inr (inl is)) say = cc
ended_not_say e (inr (inr is)) say = cc

pub ended_not_memory : (e : Ending) → (e ≡ Whole) ⊎ ((e ≡ AtError) ⊎ (e ≡ Refused)) → e ≡ Memory → ⊥
ended_not_memory e (inl is) none = cc
ended_not_memory e (inr (inl is)) none = cc
ended_not_memory e (inr (inr is)) none = cc

pub not_memory : (e : Ending) (X : Type 0) → e ≡ Memory → (e ≡ Refused) ⊎ ((e ≡ Say) × X) → ⊥
not_memory e X is (inl refused) = cc
not_memory e X is (inr say) = let other = say.0 in cc

-- ---- the area that doesn't count

pub area_said : (area : Area) (a d : View) (line : List ℕ) (ending result : Ending) → a.told → SaysLast line ending a d result → KeepsArea area a d
area_said area a d line ending result told says =
    area_kept area a d (λ p. (said : List ℕ) × IsPrefix said line × (p ≡ a.printed ++ said)) (says.images told) (says.time told)

pub area_attached : {T : Type 0} (area : Area) (a b d : View) (name : List ℕ) (result : Result T Failed) → a.told → Calls (with_attached name a) b result → Keeps a b → KeepsArea area b d → KeepsArea area a d
area_attached area a b d name result told call keeps rest = record {
  reads = rest.reads ∙ ap (λ (i : Image). file area i) keeps.seen;
  time = let first = call.time told in
      goes_on a b d (λ p c. (p ≡ a.printed) × b.may_leave c) (λ p c. KeepsFile area b c) (λ p c. KeepsFile area a c)
      (record { later = first.later; nothing_else = first.nothing_else; keeps = first.keeps }) rest.time (λ p c is. (c, keeps.crash c is.1, refl)) (λ p c is. (is.0, keeps.crash is.0 is.1, is.2));
}

pub area_not_attached : {T : Type 0} (area : Area) (a b : View) (name : List ℕ) (result : Result T Failed) → a.told → Calls (with_attached name a) b result → Keeps a b → KeepsArea area a b
area_not_attached area a b name result told call keeps = area_attached area a b b name result told call keeps (area_still area b)

-- ---- a damaged store

not_early : (e : Ending) → (e ≡ Disk → ⊥) → (e ≡ Damaged → ⊥) → (e ≡ Say → ⊥) → (e ≡ Memory → ⊥) → IsEarly e → ⊥
not_early e disk damaged say memory (inl is) = disk is
not_early e disk damaged say memory (inr (inl is)) = damaged is
not_early e disk damaged say memory (inr (inr (inl is))) = say is
not_early e disk damaged say memory (inr (inr (inr is))) = memory is

pub not_opened : (o : Result Database Damage) (damage : Damage) (db : Database) → o ≡ Err damage → o ≡ Ok db → ⊥
not_opened o damage db damaged opened = cc

pub same_damage : (o : Result Database Damage) (x y : Damage) → o ≡ Err x → o ≡ Err y → x ≡ y
same_damage o x y one two = cc

-- where a store is damaged was said, or for want of memory it wasn't
abbrev pub Tells : {H : Type 0} → (H → View) → List ℕ → (old new : H) → Ending → Type 0
Tells view line old new e = SaysLast line Damaged (view old) (view new) e ⊎ ((e ≡ Memory) × (new ≡ old))

pub tells_at : {H : Type 0} (view : H → View) (area area' : Area) (at at' : ℕ) (old new : H) (e : Ending) → area ≡ area' → at ≡ at' → Tells view (damage_line area at) old new e → Tells view (damage_line area' at') old new e
tells_at view area area' at at' old new e is_area is_at tells = subst (λ (line : List ℕ). Tells view line old new e) (λ i. damage_line (is_area i) (is_at i)) tells

module _ {H : Type 0} (view : H → View) (line : List ℕ) (a : View) (old new : H) (e : Ending) (tells : Tells view line old new e) where
  pub tells_early : IsEarly e
  tells_early = ⊎_elim (λ says. ⊎_elim (λ is. inr (inl is)) (λ say. inr (inr (inl say.0))) says.known) (λ none. inr (inr (inr none.0))) tells

  pub tells_cause : (words : List Word) (left : Option (List ℕ)) (before after : ℕ) (damage : Damage) → IsLine words → (a.told → opens a.seen ≡ Err damage) → a.say_faults ≤ (view old).say_faults
      → HasCause e words a (view new) left before after
  tells_cause words left before after damage is_line cause below = ⊎_elim
      (λ says. ⊎_elim (λ is. subst (λ (x : Ending). HasCause x words a (view new) left before after) (sym is) (is_line, λ told. (damage, cause told)))
      (λ say. subst (λ (x : Ending). HasCause x words a (view new) left before after) (sym say.0) (rises_on a.say_faults (view old).say_faults (view new).say_faults below says.continues.say_faults say.1)) says.known)
      (λ none. subst (λ (x : Ending). HasCause x words a (view new) left before after) (sym none.0) (inl is_line)) tells

  pub tells_place : e ≡ Damaged → (view old).told → (view old).printed ≡ a.printed → (view new).printed ≡ a.printed ++ line
  tells_place is told printed = ⊎_elim (λ says. says.whole told (λ say. other (sym is ∙ say)) ∙ ap (λ (l : List ℕ). l ++ line) printed) (λ none. absurd (no_memory (sym is ∙ none.0))) tells
    where
      other : Damaged ≡ Say → ⊥
      other h = cc

      no_memory : Damaged ≡ Memory → ⊥
      no_memory h = cc

  abbrev is_front : List ℕ → Type 0
  is_front p = (said : List ℕ) × IsPrefix said line × (p ≡ a.printed ++ said)

  pub tells_only : (name : List ℕ) → IsLawful a → a.told → (view old).told → Runs (with_attached name a) (view old) (StartPair a) → Untouched a (view old) → (view old).printed ≡ a.printed → OnlySays line a (view new)
  tells_only name lawful told now first untouched printed = ⊎_elim (λ says. by_line says) (λ none. subst (λ (h : H). OnlySays line a (view h)) (sym none.1) (says_nothing line a (view old) name lawful told first untouched)) tells
    where
      by_line : SaysLast line Damaged (view old) (view new) e → OnlySays line a (view new)
      by_line says =
          let keeps = says.images now in
          let fronts = goes_on a (view old) (view new) (StartPair a) (λ p c. ((said : List ℕ) × IsPrefix said line × (p ≡ (view old).printed ++ said)) × (view old).may_leave c) (λ p c. is_front p) (since_attach name a (view old) (StartPair a) first told) (says.time now)
          (λ p c is. ([], (line, refl), is.printed ∙ sym (append-nil a.printed))) (λ p c is. (is.0.0, is.0.1, is.0.2 ∙ ap (λ (l : List ℕ). l ++ is.0.0) printed)) in
          record {
            untouched = record {
              seen = keeps.seen ∙ untouched.seen;
              now = λ c left. untouched.now c (keeps.crash c left);
              time = goes_on a (view old) (view new) (λ p c. a.may_leave c) (λ p c. ((said : List ℕ) × IsPrefix said line × (p ≡ (view old).printed ++ said)) × (view old).may_leave c) (λ p c. a.may_leave c) untouched.time (says.time now) (λ p c is. is) (λ p c is. untouched.now c is.1);
            };
            front = λ p c left. each a (view new) (λ p c. is_front p) lawful fronts (λ i still. ([], (line, refl), sym (append-nil a.printed))) p c left;
          }

pub not_read : (e : Ending) → IsEarly e → (e ≡ Whole) ⊎ (e ≡ AtError) → ⊥
not_read e early (inl whole) = not_early e (λ h. cc) (λ h. cc) (λ h. cc) (λ h. cc) early
not_read e early (inr error) = not_early e (λ h. cc) (λ h. cc) (λ h. cc) (λ h. cc) early

pub not_usage : (e : Ending) → IsEarly e → e ≡ Usage → ⊥
not_usage e early is = not_early e (λ h. cc) (λ h. cc) (λ h. cc) (λ h. cc) early

-- ---- the store is attached, and then opened

pub attached_start : {T : Type 0} (a b d : View) (name : List ℕ) (result : Result T Failed) → Calls (with_attached name a) b result → (a.told → Keeps a b) → Runs b d (StartPair b) → Runs (with_attached name a) d (StartPair a)
attached_start a b d name result call keeps run = runs_on (with_attached name a) b d (λ p c. (p ≡ a.printed) × b.may_leave c) (StartPair b) (StartPair a) (from_call (with_attached name a) b result call) run
    (λ told p c is. let k = keeps told in record { printed = is.0; opened = inl (k.crash c is.1) })
    (λ told p c is. let k = keeps told in record {
      printed = is.printed ∙ call.printed told;
      opened = ⊎_elim (λ was. inl (k.crash c was)) (λ same. inr (same ∙ ap opens k.seen)) is.opened;
    })

-- ---- why a run ends, by why its script does

pub cause_of : (e : Ending) (words : List Word) (a b d : View) (left : Option (List ℕ)) (before after : ℕ) (text : List ℕ) (line : Asked) (s : Session)
    → ScriptEnd e b d text line.steps line.stops_on_error s → asked words ≡ Some line → IsStored a → IsWhole left
    → ((db : Database) (events : List Event) (over : Over words a left db events) → IsTrace text line.steps line.stops_on_error s events)
    → a.disk_faults ≤ b.disk_faults → b.disk_faults ≤ d.disk_faults → a.say_faults ≤ b.say_faults → b.say_faults ≤ d.say_faults
    → HasCause e words a d left before after
cause_of Whole words a b d left before after text line s ends asks stored whole due d1 d2 s1 s2 =
    ((line, asks), stored, whole, λ db events over. ap (λ (l : Asked). l.stops_on_error && is_failed events) (one_asked (asked words) over.line line over.asks asks) ∙ (ends events (due db events over)).1)
cause_of AtError words a b d left before after text line s ends asks stored whole due d1 d2 s1 s2 =
    ((line, asks), stored, whole, λ db events over. ap (λ (l : Asked). l.stops_on_error && is_failed events) (one_asked (asked words) over.line line over.asks asks) ∙ (ends events (due db events over)).1)
cause_of Disk words a b d left before after text line s ends asks stored whole due d1 d2 s1 s2 = ((line, asks), rises_on _ _ _ d1 d2 ends.0)
cause_of Say words a b d left before after text line s ends asks stored whole due d1 d2 s1 s2 = rises_on _ _ _ s1 s2 ends
cause_of Memory words a b d left before after text line s ends asks stored whole due d1 d2 s1 s2 = inl (line, asks)
cause_of Usage words a b d left before after text line s ends asks stored whole due d1 d2 s1 s2 = absurd ends
cause_of Source words a b d left before after text line s ends asks stored whole due d1 d2 s1 s2 = absurd ends
cause_of Damaged words a b d left before after text line s ends asks stored whole due d1 d2 s1 s2 = absurd ends
cause_of Refused words a b d left before after text line s ends asks stored whole due d1 d2 s1 s2 = absurd ends

-- what the script's end says is done, where the run ends with 0 or 3
pub done_by : (e : Ending) (b d : View) (text : List ℕ) (steps : ℕ) (stops : Bool) (s : Session) (events : List Event) → ScriptEnd e b d text steps stops s → b.told
    → (e ≡ Whole) ⊎ ((e ≡ AtError) ⊎ (e ≡ Refused)) → IsTrace text steps stops s events → Done b d events s.world.last
done_by Whole b d text steps stops s events ends told is traced = (ends events traced).0 told
done_by AtError b d text steps stops s events ends told is traced = (ends events traced).0 told
done_by Disk b d text steps stops s events ends told is traced = absurd (⊎_elim (λ one. cc) (λ more. ⊎_elim (λ two. cc) (λ three. cc) more) is)
done_by Say b d text steps stops s events ends told is traced = absurd (⊎_elim (λ one. cc) (λ more. ⊎_elim (λ two. cc) (λ three. cc) more) is)
done_by Memory b d text steps stops s events ends told is traced = absurd (⊎_elim (λ one. cc) (λ more. ⊎_elim (λ two. cc) (λ three. cc) more) is)
done_by Usage b d text steps stops s events ends told is traced = absurd ends
done_by Source b d text steps stops s events ends told is traced = absurd ends
done_by Damaged b d text steps stops s events ends told is traced = absurd ends
done_by Refused b d text steps stops s events ends told is traced = absurd ends

-- ---- a store that is kept short

-- where the script of the line leads from a session that was begun
pub leads_over : (text script : List ℕ) (line over : Asked) (s t u : Session) → text ≡ script → line ≡ over → s ≡ t → LeadsTo text line.steps line.stops_on_error s u → LeadsTo script over.steps over.stops_on_error t u
leads_over text script line over s t u is_text one same leads =
    subst (λ (x : List ℕ). LeadsTo x over.steps over.stops_on_error t u) is_text
    (subst (λ (l : Asked). LeadsTo text l.steps l.stops_on_error t u) one (subst (λ (x : Session). LeadsTo text line.steps line.stops_on_error x u) same leads))

pub short_image : {H : Type 0} (v : View) (state : SessionState) (old new : H) → IsReady v state → v.told → (session_in state).mode ≡ mode.Idle → StaysShort (session_in state).mode state.keeper old new → (i : Image) → v.may_leave i → IsShort i ⊎ (new ≡ old)
short_image v state old new ready told idle stays i left =
    let s = ready.store told in
    ⊎_elim (λ short. inl (s.list, state.keeper, subst (λ (c : Image). Has s.list state.keeper c) (sym (s.store.settled i left)) s.store.has, short idle)) (λ same. inr same) stays

-- endings at which no script was run, and those at which one was run to its end
pub not_run : (e : Ending) → (e ≡ Whole) ⊎ (e ≡ AtError) → (e ≡ Refused) ⊎ ((e ≡ Say) ⊎ (e ≡ Memory)) → ⊥
not_run e (inl is) (inl other) = cc
not_run e (inl is) (inr (inl other)) = cc
not_run e (inl is) (inr (inr other)) = cc
not_run e (inr is) (inl other) = cc
not_run e (inr is) (inr (inl other)) = cc
not_run e (inr is) (inr (inr other)) = cc

pub was_run : (e : Ending) (b d : View) (text : List ℕ) (steps : ℕ) (stops : Bool) (s : Session) → ScriptEnd e b d text steps stops s → (e ≡ Source) ⊎ (e ≡ Refused) → ⊥
was_run Whole b d text steps stops s ends is = ⊎_elim (λ h. cc) (λ h. cc) is
was_run AtError b d text steps stops s ends is = ⊎_elim (λ h. cc) (λ h. cc) is
was_run Disk b d text steps stops s ends is = ⊎_elim (λ h. cc) (λ h. cc) is
was_run Say b d text steps stops s ends is = ⊎_elim (λ h. cc) (λ h. cc) is
was_run Memory b d text steps stops s ends is = ⊎_elim (λ h. cc) (λ h. cc) is
was_run Usage b d text steps stops s ends is = ends
was_run Source b d text steps stops s ends is = ends
was_run Damaged b d text steps stops s ends is = ends
was_run Refused b d text steps stops s ends is = ends

-- ---- what is printed where the disk failed

pub prints_whole : (e : Ending) (b d : View) (script : List ℕ) (steps : ℕ) (stops : Bool) (s : Session) → ScriptEnd e b d script steps stops s → e ≡ Disk → PrintsWhole b d script steps stops s
prints_whole Disk b d script steps stops s ends is = ends.1
prints_whole Whole b d script steps stops s ends is = absurd (cc)
prints_whole AtError b d script steps stops s ends is = absurd (cc)
prints_whole Say b d script steps stops s ends is = absurd (cc)
prints_whole Memory b d script steps stops s ends is = absurd (cc)
prints_whole Usage b d script steps stops s ends is = absurd ends
prints_whole Source b d script steps stops s ends is = absurd ends
prints_whole Damaged b d script steps stops s ends is = absurd ends
prints_whole Refused b d script steps stops s ends is = absurd ends

-- the first of a script's pieces, of the script, the line and the session as they are named above
pub front_since : (script script' : List ℕ) (line line' : Asked) (s t : Session) (events : List Event) → script ≡ script' → line ≡ line' → s ≡ t → AreFront script line.steps line.stops_on_error s events → AreFront script' line'.steps line'.stops_on_error t events
front_since script script' line line' s t events same_script same_line same is =
    subst (λ (x : List ℕ). AreFront x line'.steps line'.stops_on_error t events) same_script
    (subst (λ (l : Asked). AreFront script l.steps l.stops_on_error t events) same_line (subst (λ (x : Session). AreFront script line.steps line.stops_on_error x events) same is))

-- what is printed behind the opening is all that is
pub prints_since : (a b d : View) (script script' : List ℕ) (line line' : Asked) (s t : Session) → script ≡ script' → line ≡ line' → s ≡ t → (a.told → b.printed ≡ a.printed) → (a.told → b.told)
    → PrintsWhole b d script line.steps line.stops_on_error s → PrintsWhole a d script' line'.steps line'.stops_on_error t
prints_since a b d script script' line line' s t same_script same_line same printed told whole =
    (whole.0, front_since script script' line line' s t whole.0 same_script same_line same whole.1, λ now. whole.2 (told now) ∙ ap (λ (l : List ℕ). l ++ text_of whole.0) (printed now))

pub none_printed : (a d : View) (script : List ℕ) (steps : ℕ) (stops : Bool) (s : Session) → (a.told → d.printed ≡ a.printed) → PrintsWhole a d script steps stops s
none_printed a d script steps stops s printed = ([], none_yet script steps stops s, λ told. printed told ∙ sym (append-nil a.printed))

pub not_disk : (e : Ending) (X : Type 0) → e ≡ Disk → (e ≡ Refused) ⊎ ((e ≡ Say) × X) → ⊥
not_disk e X is (inl refused) = cc
not_disk e X is (inr say) = let other = say.0 in cc
