-- Proofs that other crates' proofs may cite; no definition. How a run of calls goes on.
use Rattle.std.proofs.Common.{◌≡◌, ◌++◌, inl, inr, ⊎_elim, ℕ, List, arith, refl, sym, subst, Result, [], ◌∷◌, ap, ◌∙◌, append_assoc, get_or, length, length-append}
use Rattle.std.proofs.lemmas.List.{append-nil, append_cancel_left}
use Rattle.pl_base.specs.Image.{Image}
use Rattle.pl_disk.specs.Disk.{View, IsLawful, Elapses, Calls, Says, Runs, Looks, Settled, Keeps, IsPrefix, Continues, Untouched, Writes, with_attached}
use Rattle.pl_disk.specs.declared.device.Failed.{Failed}

pub stay : (v : View) (P : List ℕ → Image → Type 0) → Elapses v v P
stay v P = record { later = omega arith; nothing_else = λ t p c le left. inl left; keeps = λ t p c le left. left }

pub goes_on : (a b d : View) (P Q R : List ℕ → Image → Type 0) → Elapses a b P → Elapses b d Q → ((p : List ℕ) (c : Image) → P p c → R p c) → ((p : List ℕ) (c : Image) → Q p c → R p c) → Elapses a d R
goes_on a b d P Q R first second from_first from_second = record {
  later = omega (arith, first.later, second.later);
  nothing_else = λ t p c le left. ⊎_elim (λ before. ⊎_elim inl (λ now. inr (from_first p c now)) (first.nothing_else t p c le before)) (λ now. inr (from_second p c now)) (second.nothing_else t p c (omega (arith, le, first.later)) left);
  keeps = λ t p c le left. second.keeps t p c (omega (arith, le, first.later)) (first.keeps t p c le left);
}

pub weaker : (a b : View) (P R : List ℕ → Image → Type 0) → Elapses a b P → ((p : List ℕ) (c : Image) → P p c → R p c) → Elapses a b R
weaker a b P R first from_first = record {
  later = first.later;
  nothing_else = λ t p c le left. ⊎_elim inl (λ now. inr (from_first p c now)) (first.nothing_else t p c le left);
  keeps = first.keeps;
}

-- each pair of a run, its first moment among them
pub each : (a b : View) (P : List ℕ → Image → Type 0) → IsLawful a → Elapses a b P → ((c : Image) → a.may_leave c → P a.printed c) → (p : List ℕ) (c : Image) → b.since a.moment p c → P p c
each a b P lawful time here p c left = ⊎_elim (λ before. let now = lawful.only_now p c before in subst (λ q. P q c) (sym now.0) (here c now.1)) (λ is. is) (time.nothing_else a.moment p c (omega arith) left)

-- what no call changes, over none and over more than one
pub no_call : (v : View) → Continues v v
no_call v = record { attached = λ names is. is; is_attached = λ is. is; told = λ t. t; told_before = λ t. t; disk_faults = omega arith; say_faults = omega arith }

pub continues_on : (a b d : View) → Continues a b → Continues b d → Continues a d
continues_on a b d first second = record {
  attached = λ names is. second.attached names (first.attached names is);
  is_attached = λ is. second.is_attached (first.is_attached is);
  told = λ t. second.told (first.told t);
  told_before = λ t. first.told_before (second.told_before t);
  disk_faults = omega (arith, first.disk_faults, second.disk_faults);
  say_faults = omega (arith, first.say_faults, second.say_faults);
}

-- a run that has taken no call yet, one that takes one more run, and one whose pairs are known better
pub no_run : (v : View) (P : List ℕ → Image → Type 0) → Runs v v P
no_run v P = record { continues = no_call v; synced = λ t. ([], sym (append-nil v.synced)); time = λ t. stay v P }

pub runs_on : (a b d : View) (P Q R : List ℕ → Image → Type 0) → Runs a b P → Runs b d Q → (a.told → (p : List ℕ) (c : Image) → P p c → R p c) → (a.told → (p : List ℕ) (c : Image) → Q p c → R p c) → Runs a d R
runs_on a b d P Q R first second from_first from_second = record {
  continues = continues_on a b d first.continues second.continues;
  synced = λ t. let one = first.synced t in let two = second.synced (first.continues.told t) in (one.0 ++ two.0, two.1 ∙ ap (λ (l : List ℕ). l ++ two.0) one.1 ∙ append_assoc a.synced one.0 two.0);
  time = λ t. goes_on a b d P Q R (first.time t) (second.time (first.continues.told t)) (from_first t) (from_second t);
}

pub run_weaker : (a b : View) (P R : List ℕ → Image → Type 0) → Runs a b P → (a.told → (p : List ℕ) (c : Image) → P p c → R p c) → Runs a b R
run_weaker a b P R first from_first = record {
  continues = first.continues;
  synced = first.synced;
  time = λ t. weaker a b P R (first.time t) (from_first t);
}

-- one call of a disk, and one of printing
pub from_call : {T : Type 0} (a b : View) (result : Result T Failed) → Calls a b result → Runs a b (λ p c. (p ≡ a.printed) × b.may_leave c)
from_call a b result call = record {
  continues = call.continues;
  synced = call.synced;
  time = call.time;
}

pub from_say : {T : Type 0} (text : List ℕ) (a b : View) (result : Result T Failed) → Says text a b result → Runs a b (λ p c. ((said : List ℕ) × IsPrefix said text × (p ≡ a.printed ++ said)) × a.may_leave c)
from_say text a b result says = record {
  continues = says.continues;
  synced = λ t. ([], (says.images t).synced ∙ sym (append-nil a.synced));
  time = says.time;
}

head_same : (x y : ℕ) (xs ys : List ℕ) → x ∷ xs ≡ y ∷ ys → x ≡ y
head_same x y xs ys is = ap (λ (l : List ℕ). get_or l 0 0) is

-- each pair since the first sync of a run that succeeded; and a run in which none did
pub settled_since : (a b d : View) (P : List ℕ → Image → Type 0) → IsLawful b → b.told → b.synced ≡ a.synced ++ b.moment ∷ [] → Runs b d P → ((c : Image) → b.may_leave c → P b.printed c) → Settled a d P
settled_since a b d P lawful told first run here = record {
  each = λ t later is.
      let rest = run.synced told in
      let same : a.synced ++ b.moment ∷ rest.0 ≡ a.synced ++ t ∷ later = sym (append_assoc a.synced (b.moment ∷ []) rest.0) ∙ ap (λ (l : List ℕ). l ++ rest.0) (sym first) ∙ sym rest.1 ∙ is in
      let at : b.moment ≡ t = head_same b.moment t rest.0 later (append_cancel_left a.synced (b.moment ∷ rest.0) (t ∷ later) same) in
      (omega (arith, at, (run.time told).later), λ p c left. each b d P lawful (run.time told) here p c (subst (λ k. d.since k p c) (sym at) left));
}

pub never_settled : (a b : View) (P : List ℕ → Image → Type 0) → b.synced ≡ a.synced → Settled a b P
never_settled a b P same = record { each = λ t later is. absurd (let long = length-append a.synced (t ∷ later) in omega (arith, ap length (sym same ∙ is), long)) }

pub look : {T : Type 0} (a b : View) (result : Result T Failed) → Calls a b result → (a.told → Keeps a b) → Looks a b
look a b result call keeps = record {
  continues = call.continues;
  say_faults = call.say_faults;
  printed = call.printed;
  images = keeps;
  time = λ t. weaker a b _ _ (call.time t) (λ p c is. (is.0, (keeps t).crash c is.1));
}

pub looks_on : (a b d : View) → Looks a b → Looks b d → Looks a d
looks_on a b d first second = record {
  continues = continues_on a b d first.continues second.continues;
  say_faults = first.say_faults ∙ second.say_faults;
  printed = λ t. second.printed (first.continues.told t) ∙ first.printed t;
  images = λ t. let one = first.images t in let two = second.images (first.continues.told t) in record {
    seen = two.seen ∙ one.seen;
    crash = λ c left. one.crash c (two.crash c left);
    stays = λ c left. two.stays c (one.stays c left);
    synced = two.synced ∙ one.synced;
  };
  time = λ t. goes_on a b d _ _ _ (first.time t) (second.time (first.continues.told t)) (λ p c is. is) (λ p c is. (is.0 ∙ first.printed t, (first.images t).crash c is.1));
}

-- a look that has taken no call yet, and a look as a run
pub no_look : (v : View) → Looks v v
no_look v = record { continues = no_call v; say_faults = refl; printed = λ t. refl; images = λ t. record { seen = refl; crash = λ c l. l; stays = λ c l. l; synced = refl }; time = λ t. stay v _ }

pub looked : (a b : View) → Looks a b → Runs a b (λ p c. (p ≡ a.printed) × a.may_leave c)
looked a b looks = record { continues = looks.continues; synced = λ t. ([], (looks.images t).synced ∙ sym (append-nil a.synced)); time = looks.time }

-- the same of runs that write
pub writes_weaker : (a b : View) (P Q : Image → Type 0) → Writes a b P → (a.told → (c : Image) → P c → Q c) → Writes a b Q
writes_weaker a b P Q first from_first = record {
  moments = run_weaker a b _ _ first.moments (λ told p c is. (is.0, from_first told c is.1));
  printed = first.printed;
  say_faults = first.say_faults;
}

pub writes_on : (a b d : View) (P Q R : Image → Type 0) → Writes a b P → Writes b d Q
    → (a.told → (c : Image) → P c → R c) → (a.told → (c : Image) → Q c → R c) → Writes a d R
writes_on a b d P Q R first second from_first from_second = record {
  moments = runs_on a b d _ _ _ first.moments second.moments (λ told p c is. (is.0, from_first told c is.1))
      (λ told p c is. (is.0 ∙ first.printed told, from_second told c is.1));
  printed = λ t. second.printed (first.moments.continues.told t) ∙ first.printed t;
  say_faults = first.say_faults ∙ second.say_faults;
}

pub looked_writes : (a b : View) → Looks a b → Writes a b a.may_leave
looked_writes a b looks = record { moments = looked a b looks; printed = looks.printed; say_faults = looks.say_faults }

-- a look leaves the files alone
pub untouched : (a b : View) → IsLawful a → a.told → Looks a b → Untouched a b
untouched a b lawful told looks = record {
  seen = (looks.images told).seen;
  now = (looks.images told).crash;
  time = weaker a b _ _ (looks.time told) (λ q i is. is.1);
}

-- the files that are left after a run have what each of its moments has
pub after_writes : (a b : View) (P : Image → Type 0) → IsLawful a → IsLawful b → a.told → Writes a b P → ((c : Image) → a.may_leave c → P c) → (c : Image) → b.may_leave c → P c
after_writes a b P lawful lawful' told run here c left =
    let time = run.moments.time told in
    each a b (λ p i. P i) lawful (weaker a b _ _ time (λ p i is. is.1)) here b.printed c (lawful'.counts_now a.moment c time.later left)

-- the moments of a run that began with `attach`
pub since_attach : (name : List ℕ) (a b : View) (P : List ℕ → Image → Type 0) → Runs (with_attached name a) b P → a.told → Elapses a b P
since_attach name a b P run told = let time = run.time told in record { later = time.later; nothing_else = time.nothing_else; keeps = time.keeps }
