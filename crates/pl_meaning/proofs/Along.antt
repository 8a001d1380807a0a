-- How a trace goes on, and that its steps keep the two bounds.
use Rattle.std.proofs.Common.{◌≡◌, ◌-◌, inl, inr, ⊎_elim, ℕ, suc, ◌+◌, List, [], ◌∷◌, ◌++◌, length, Some, Ok, refl, sym, ◌∙◌, ap, subst, arith, append_assoc, length-append}
use Rattle.std.specs.Prelude.{slice_get}
use Rattle.std.proofs.lemmas.List.{append-nil}
use Rattle.std.proofs.lemmas.Bool.Decides.{nat_tests}
use Rattle.pl_base.specs.Image.{Image}
use Rattle.pl_change.specs.pl_undo.Database.{Database}
use Rattle.pl_meaning.specs.Opening.{opens}
use Rattle.pl_meaning.specs.Trace.{Event, Committed, Said, Failed, text, last_commit, commits}
use Rattle.pl_meaning.specs.Covered.{at_least, at_most, Covered, InLine, Along}

-- before the first event
pub start : (trace : List Event) (image : Image) (db : Database) → opens image ≡ Ok db → Along trace [] image db
start [] image db is = (refl, is)
start (Committed new ∷ events) image db is = inl (refl, is)
start (Said bytes ∷ events) image db is = inl ((bytes, refl), is)
start (Failed bytes ∷ events) image db is = inl ((bytes, refl), is)

-- more events behind
pub longer : (trace more : List Event) (printed : List ℕ) (image : Image) (db : Database) → Along trace printed image db → Along (trace ++ more) printed image db
longer [] more printed image db along = subst (λ p. Along more p image db) (sym along.0) (start more image db along.1)
longer (Committed new ∷ events) more printed image db along = ⊎_elim (λ here. inl here) (λ later. inr (longer events more printed image new later)) along
longer (Said bytes ∷ events) more printed image db along = ⊎_elim (λ here. inl here) (λ later. inr (later.0, later.1, longer events more later.0 image db later.2)) along
longer (Failed bytes ∷ events) more printed image db along = ⊎_elim (λ here. inl here) (λ later. inr (later.0, later.1, longer events more later.0 image db later.2)) along

-- events before, all of which are printed
pub after : (trace more : List Event) (printed : List ℕ) (image : Image) (db : Database) → Along more printed image (last_commit trace db) → Along (trace ++ more) (text trace ++ printed) image db
after [] more printed image db along = along
after (Committed new ∷ events) more printed image db along = inr (after events more printed image new along)
after (Said bytes ∷ events) more printed image db along = inr (text events ++ printed, append_assoc bytes (text events) printed, after events more printed image db along)
after (Failed bytes ∷ events) more printed image db along = inr (text events ++ printed, append_assoc bytes (text events) printed, after events more printed image db along)

pub text-append : (trace more : List Event) → text (trace ++ more) ≡ text trace ++ text more
text-append [] more = refl
text-append (Committed new ∷ events) more = text-append events more
text-append (Said bytes ∷ events) more = ap (λ (l : List ℕ). bytes ++ l) (text-append events more) ∙ sym (append_assoc bytes (text events) (text more))
text-append (Failed bytes ∷ events) more = ap (λ (l : List ℕ). bytes ++ l) (text-append events more) ∙ sym (append_assoc bytes (text events) (text more))

pub last_commit-append : (trace more : List Event) (db : Database) → last_commit (trace ++ more) db ≡ last_commit more (last_commit trace db)
last_commit-append [] more db = refl
last_commit-append (Committed new ∷ events) more db = last_commit-append events more new
last_commit-append (Said bytes ∷ events) more db = last_commit-append events more db
last_commit-append (Failed bytes ∷ events) more db = last_commit-append events more db

none_printed : (trace : List Event) → at_least trace 0 ≡ 0
none_printed [] = refl
none_printed (Committed new ∷ events) = refl
none_printed (Said bytes ∷ events) = let none : 0 - length bytes ≡ 0 = omega arith in ap (λ (n : ℕ). at_least events n) none ∙ none_printed events
none_printed (Failed bytes ∷ events) = let none : 0 - length bytes ≡ 0 = omega arith in ap (λ (n : ℕ). at_least events n) none ∙ none_printed events

first_member : (trace : List Event) (db : Database) → slice_get (commits trace db) 0 ≡ Some db
first_member [] db = refl
first_member (Committed new ∷ events) db = refl
first_member (Said bytes ∷ events) db = first_member events db
first_member (Failed bytes ∷ events) db = first_member events db

-- a line that is being printed, before events of which the same is known
line_covered : (bytes : List ℕ) (events : List Event) (printed : List ℕ) (image : Image) (db : Database)
    → ((more : List ℕ) → Along events more image db → Covered events more image db) → InLine bytes printed image db (λ more. Along events more image db) → Covered (Said bytes ∷ events) printed image db
line_covered bytes events printed image db rest_covered (inl here) =
    let short : length printed + length here.0.0 ≡ length bytes = sym (length-append printed here.0.0) ∙ ap length here.0.1 in
    let none : length printed - length bytes ≡ 0 = omega (arith, short) in
    record {
      front = (here.0.0 ++ text events, sym (append_assoc printed here.0.0 (text events)) ∙ ap (λ (l : List ℕ). l ++ text events) here.0.1);
      count = 0;
      now = db;
      member = first_member events db;
      opened = here.1;
      holds_each = omega (arith, ap (λ (n : ℕ). at_least events n) none, none_printed events);
      no_more = omega arith;
    }
line_covered bytes events printed image db rest_covered (inr later) =
    let rest = rest_covered later.0 later.2 in
    let long : length printed ≡ length bytes + length later.0 = ap length later.1 ∙ length-append bytes later.0 in
    let left : length printed - length bytes ≡ length later.0 = omega (arith, long) in
    record {
      front = (rest.front.0, ap (λ (l : List ℕ). l ++ rest.front.0) later.1 ∙ append_assoc bytes later.0 rest.front.0 ∙ ap (λ (l : List ℕ). bytes ++ l) rest.front.1);
      count = rest.count;
      now = rest.now;
      member = rest.member;
      opened = rest.opened;
      holds_each = omega (arith, ap (λ (n : ℕ). at_least events n) left, rest.holds_each);
      no_more = let is = ap (λ (n : ℕ). at_most events n) left in let was = rest.no_more in grind (arith, nat_tests, is, was, long);
    }

-- an error's line is covered as any other
failed_covered : (bytes : List ℕ) (events : List Event) (printed : List ℕ) (image : Image) (db : Database) → Covered (Said bytes ∷ events) printed image db → Covered (Failed bytes ∷ events) printed image db
failed_covered bytes events printed image db said = record {
  front = said.front;
  count = said.count;
  now = said.now;
  member = said.member;
  opened = said.opened;
  holds_each = said.holds_each;
  no_more = said.no_more;
}

-- what goes along a trace is covered by it
pub covered : (trace : List Event) (printed : List ℕ) (image : Image) (db : Database) → Along trace printed image db → Covered trace printed image db
covered [] printed image db along = record {
  front = ([], append-nil printed ∙ along.0);
  count = 0;
  now = db;
  member = refl;
  opened = along.1;
  holds_each = omega arith;
  no_more = omega arith;
}
covered (Committed new ∷ events) printed image db (inl here) = record {
  front = (text events, ap (λ (l : List ℕ). l ++ text events) here.0);
  count = 0;
  now = db;
  member = refl;
  opened = here.1;
  holds_each = let none : length printed ≡ 0 = ap length here.0 in grind (arith, nat_tests, none);
  no_more = omega arith;
}
covered (Committed new ∷ events) printed image db (inr later) = let rest = covered events printed image new later in record {
  front = rest.front;
  count = suc rest.count;
  now = rest.now;
  member = rest.member;
  opened = rest.opened;
  holds_each = let was = rest.holds_each in grind (arith, nat_tests, was);
  no_more = omega (arith, rest.no_more);
}
covered (Said bytes ∷ events) printed image db along = line_covered bytes events printed image db (λ more. covered events more image db) along
covered (Failed bytes ∷ events) printed image db along = failed_covered bytes events printed image db (line_covered bytes events printed image db (λ more. covered events more image db) along)
