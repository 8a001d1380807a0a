-- Proofs that other crates' proofs may cite; no definition. What a port over a store takes joins.
use Rattle.std.proofs.Common.{◌≡◌, ◌≤◌, ◌∙◌, List, [], ◌++◌, ap, append_assoc, subst, sym}
use Rattle.std.proofs.lemmas.List.{append-nil}
use Rattle.pl_disk.specs.Disk.{View}
use Rattle.pl_disk.specs.Lent.{no_run, run_weaker, runs_on}
use Rattle.pl_keeper.specs.declared.head.Head.{Head}
use Rattle.pl_meaning.proofs.Along.{after, last_commit-append, longer, text-append}
use Rattle.pl_meaning.specs.Covered.{AlongFrom}
use Rattle.pl_meaning.specs.Trace.{Event, last_commit, text}
use Rattle.pl_port.specs.Ports.{Fits, Takes}
use Rattle.pl_port.specs.Stores.{RunsAlong}
use Rattle.pl_undo.specs.Database.{Database}

-- ---- runs along events

-- nothing is done
pub nothing_along : (v : View) (es : List Event) (db : Database) → RunsAlong v v es db
nothing_along v es db = no_run v (AlongFrom v.printed es db)

-- one run after another
pub along_on : (a b d : View) (es more : List Event) (db : Database) → (a.told → b.printed ≡ a.printed ++ text es) → RunsAlong a b es db → RunsAlong b d more (last_commit es db) → RunsAlong a d (es ++ more) db
along_on a b d es more db printed first second =
    runs_on a b d _ _ (AlongFrom a.printed (es ++ more) db) first second (λ told p c is. (is.0, is.1, longer es more is.0 c db is.2))
    (λ told p c is. (text es ++ is.0, is.1 ∙ ap (λ l. l ++ is.0) (printed told) ∙ append_assoc a.printed (text es) is.0, after es more is.0 c db is.2))

-- a run along some events goes along more
pub along_more : (a b : View) (es more : List Event) (db : Database) → RunsAlong a b es db → RunsAlong a b (es ++ more) db
along_more a b es more db run = run_weaker a b _ (AlongFrom a.printed (es ++ more) db) run (λ told p c is. (is.0, is.1, longer es more is.0 c db is.2))

-- ---- what is taken

pub takes_none : (db : Database) (v : View) (keeper : Head) → Takes [] db v v keeper keeper
takes_none db v keeper = record { moments = nothing_along v [] db; printed = λ told. sym (append-nil v.printed); store = λ fits. fits }

pub takes_join : (db : Database) (es fs : List Event) (a b d : View) (k l m : Head) → Takes es db a b k l → Takes fs (last_commit es db) b d l m → Takes (es ++ fs) db a d k m
takes_join db es fs a b d k l m one two = record {
  moments = along_on a b d es fs db one.printed one.moments two.moments;
  printed = λ told. two.printed (one.moments.continues.told told) ∙ (ap (λ xs. xs ++ text fs) (one.printed told)
      ∙ (append_assoc a.printed (text es) (text fs) ∙ ap (λ xs. a.printed ++ xs) (sym (text-append es fs))));
  store = λ fits. subst (λ (now : Database). Fits d m now) (sym (last_commit-append es fs db)) (two.store (one.store fits));
}

pub counts_rise : {es : List Event} {db : Database} {a b : View} {k l : Head} → Takes es db a b k l → (a.disk_faults ≤ b.disk_faults) × (a.say_faults ≤ b.say_faults)
counts_rise t = (t.moments.continues.disk_faults, t.moments.continues.say_faults)
