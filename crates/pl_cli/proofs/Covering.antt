-- Each pair of a run of the program is covered.
use Rattle.std.proofs.Common.{◌≡◌, ◌⊎◌, inl, inr, ⊎_elim, ℕ, List, [], ◌∷◌, ◌++◌, Result, Ok, get_or, refl, sym, ◌∙◌, ap, subst, append_assoc}
use Rattle.std.proofs.lemmas.List.{append-nil, append_cancel_left}
use Rattle.pl_base.specs.Image.{Image}
use Rattle.pl_disk.specs.Disk.{View, IsLawful, Elapses, Runs, Settled, with_attached}
use Rattle.pl_disk.specs.Lent.{each, since_attach}
use Rattle.pl_keeper.specs.Batches.{Damage}
use Rattle.pl_session.specs.pl_world.Covered.{AlongFrom}
use Rattle.pl_undo.specs.Database.{Database}
use Rattle.pl_session.proofs.of_pl_world.Lent.{covered, start}
use Rattle.pl_session.specs.pl_world.Opening.{opens}
use Rattle.pl_session.specs.pl_world.Trace.{Event, last_commit, text}
use Rattle.pl_session.specs.Endings.{Done}
use Rattle.pl_session.specs.Starts.{IsStarted, OpensSame, StartPair}
use Rattle.pl_session.specs.declared.state.SessionState.{SessionState}
use Rattle.pl_cli.specs.Covers.{CoveredPair, CoveredRun, LeftBy}
use Rattle.pl_cli.specs.Runs.{NotBegun}

-- no sync succeeded
pub not_settled : (a b : View) (P : List ℕ → Image → Type 0) → b.synced ≡ a.synced → Settled a b P
not_settled a b P same = record { each = λ t later is. absurd (none a.synced t later (sym same ∙ is)) }
  where
    none : (xs : List ℕ) (t : ℕ) (later : List ℕ) → xs ≡ xs ++ t ∷ later → ⊥
    none xs t later is = cc (append_cancel_left xs [] (t ∷ later) (append-nil xs ∙ is))

-- before the first event
at_first : (a : View) (events : List Event) (db : Database) (p : List ℕ) (c : Image) → p ≡ a.printed → opens c ≡ Ok db → CoveredPair a events db p c
at_first a events db p c same is = ([], same ∙ sym (append-nil a.printed), covered events [] c db (start events c db is))

head_same : (x y : ℕ) (xs ys : List ℕ) → x ∷ xs ≡ y ∷ ys → x ≡ y
head_same x y xs ys is = ap (λ (l : List ℕ). get_or l 0 0) is

pub same_database : (o : Result Database Damage) (x y : Database) → o ≡ Ok x → o ≡ Ok y → x ≡ y
same_database o x y one two = cc

-- where nothing was done
pub idle_covers : (a : View) (events : List Event) (db : Database) → IsLawful a → CoveredRun a a events db
idle_covers a events db lawful = record {
  each = λ p c left. let now = lawful.only_now p c left in inl now;
  settled = λ t later is p c left. absurd (((not_settled a a (λ p c. ⊥) refl).each t later is).1 p c left);
}

-- the store was opened, or not
module _ (a b : View) (name : List ℕ) (lawful : IsLawful a) (told : a.told)
    (first : Runs (with_attached name a) b (StartPair a)) (settled : Settled a b (OpensSame a)) where
  elapsed : Elapses a b (StartPair a)
  elapsed = since_attach name a b (StartPair a) first told

  pair : (p : List ℕ) (c : Image) → b.since a.moment p c → StartPair a p c
  pair p c left = each a b (StartPair a) lawful elapsed (λ i now. record { printed = refl; opened = inl now }) p c left

  start_left : (events : List Event) (db : Database) → opens a.seen ≡ Ok db → (p : List ℕ) (c : Image) → b.since a.moment p c → LeftBy a.may_leave a events db p c
  start_left events db is p c left =
      let it = pair p c left in
      ⊎_elim (λ was. inl (it.printed, was)) (λ same. inr (at_first a events db p c it.printed (same ∙ is))) it.opened

  pub start_covers : (events : List Event) (db : Database) → opens a.seen ≡ Ok db → CoveredRun a b events db
  start_covers events db is = record {
    each = start_left events db is;
    settled = λ t later now p c left. let it = (settled.each t later now).1 p c left in at_first a events db p c it.0 (it.1 ∙ is);
  }

  -- and then events followed
  pub then_covers : (d : View) (events : List Event) (db : Database) → opens a.seen ≡ Ok db → b.printed ≡ a.printed
      → ((t : ℕ) × (later : List ℕ) × (b.synced ≡ a.synced ++ t ∷ later)) → Runs b d (AlongFrom b.printed events db) → CoveredRun a d events db
  then_covers d events db is printed was second =
      let mid = first.continues.told told in
      let time = second.time mid in
      let now_covered : (p : List ℕ) (c : Image) → AlongFrom b.printed events db p c → CoveredPair a events db p c = λ p c so. (so.0, so.1 ∙ ap (λ (l : List ℕ). l ++ so.0) printed, covered events so.0 c db so.2) in
      record {
        each = λ p c left. ⊎_elim (λ before. start_left events db is p c before) (λ now. inr (now_covered p c now)) (time.nothing_else a.moment p c elapsed.later left);
        settled = λ t later so p c left.
            let rest = second.synced mid in
            let same : a.synced ++ was.0 ∷ (was.1 ++ rest.0) ≡ a.synced ++ t ∷ later = sym (append_assoc a.synced (was.0 ∷ was.1) rest.0) ∙ ap (λ (l : List ℕ). l ++ rest.0) (sym was.2) ∙ sym rest.1 ∙ so in
            let at : was.0 ≡ t = head_same was.0 t (was.1 ++ rest.0) later (append_cancel_left a.synced (was.0 ∷ (was.1 ++ rest.0)) (t ∷ later) same) in
            let here = settled.each was.0 was.1 was.2 in
            ⊎_elim (λ before. let it = here.1 p c before in at_first a events db p c it.0 (it.1 ∙ is)) (λ now. now_covered p c now)
            (time.nothing_else was.0 p c here.0 (subst (λ k. d.since k p c) (sym at) left));
      }

  -- no command was run
  pub not_begun : (db : Database) → IsLawful b → opens a.seen ≡ Ok db → b.printed ≡ a.printed → NotBegun a b db ⊎ Done a b [] db
  not_begun db after is printed = go (first.synced told).0 (first.synced told).1
    where
      go : (more : List ℕ) → b.synced ≡ a.synced ++ more → NotBegun a b db ⊎ Done a b [] db
      go [] so = inl (record {
        synced = so ∙ append-nil a.synced;
        printed = printed;
        images = λ c left. ⊎_elim (λ was. inl was) (λ same. inr (same ∙ is)) (pair b.printed c (after.counts_now a.moment c elapsed.later left)).opened;
      })
      go (t ∷ later) so = inr (record {
        printed = printed ∙ sym (append-nil a.printed);
        opens_to = λ c left. let here = settled.each t later so in (here.1 b.printed c (after.counts_now t c here.0 left)).1 ∙ is;
      })

-- it was opened, and no command was run
pub only_started : (a b : View) (state : SessionState) (db : Database) → IsStarted a b state → a.told → b.told → opens a.seen ≡ Ok db → b.printed ≡ a.printed → Done a b [] db
only_started a b state db started told now is printed = record {
  printed = printed ∙ sym (append-nil a.printed);
  opens_to = λ c left. started.ready.opens_to now c left ∙ sym (started.opened told) ∙ is;
}

-- what is done behind the opening is done from the run's start on
pub done_since : (a b d : View) (events : List Event) (found db : Database) → found ≡ db → b.printed ≡ a.printed → Done b d events found → Done a d events db
done_since a b d events found db same printed done = record {
  printed = done.printed ∙ ap (λ (l : List ℕ). l ++ text events) printed;
  opens_to = λ c left. done.opens_to c left ∙ ap (λ (e : Database). let r : Result Database Damage = Ok (last_commit events e) in r) same;
}
