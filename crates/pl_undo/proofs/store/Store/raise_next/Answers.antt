use Rattle.std.proofs.Common.{◌≤◌, ◌∙◌, ℕ, Result, Ok, sym, ap, subst, map, IsSome}
use Rattle.std.specs.Option.{ForSome}
use Rattle.pl_tables.specs.Named.{content_named, next_named}
use Rattle.pl_tables.specs.Rows.{raised}
use Rattle.pl_undo.specs.Store.{database_at, Stored}
use Rattle.pl_undo.proofs.Marks.{no_starts, put_ok, put_whole, rest_last, rest_sound}
use Rattle.pl_undo.proofs.store.Store.raise_next.Goals as goal

pub raise_next-requires : goal.raise_next-requires
raise_next-requires c = record {
  there = subst (λ (s : Stored). IsSome (content_named c.args.name s.now.tables)) (sym c.self.view_is) c.requires.there;
  next = subst (λ (s : Stored). ForSome (next_named c.args.name s.now.tables) (λ (n : ℕ). n ≤ c.args.next)) (sym c.self.view_is) c.requires.next;
}

pub invariant_of-self : goal.invariant_of-self
invariant_of-self c =
    let none = no_starts (database_at c.self.inside.catalog c.self.inside.tables) c.self.inside.starts.items (ap (λ (s : Stored). s.marks) c.self.view_is ∙ c.requires.unmarked) in
    let done : Result (Unit {0}) (Unit {0}) = Ok tt in
    rest_sound c.settle_objects.new.catalog c.raise_next.new.self c.settle_objects.ensures.past c.raise_next.ensures.past c.self.inside.starts.items none
    (put_whole done c.self.inside.catalog c.settle_objects.new.catalog c.self.inside.tables c.raise_next.new.self c.args.name (raised c.args.next) c.settle_objects.ensures.objects c.raise_next.ensures.current tt c.self.invariant.now)

pub returns-clause-now : goal.returns-clause-now
returns-clause-now c =
    let done : Result (Unit {0}) (Unit {0}) = Ok tt in
    put_ok done c.self.inside.catalog c.settle_objects.new.catalog c.self.inside.tables c.raise_next.new.self c.args.name (raised c.args.next) c.settle_objects.ensures.objects c.args.self.now.now (ap (λ (s : Stored). s.now) c.self.view_is) c.raise_next.ensures.current

pub returns-clause-last : goal.returns-clause-last
returns-clause-last c = rest_last c.settle_objects.new.catalog c.raise_next.new.self c.settle_objects.ensures.past c.raise_next.ensures.past

pub returns-clause-marks : goal.returns-clause-marks
returns-clause-marks c =
    let none = no_starts (database_at c.self.inside.catalog c.self.inside.tables) c.self.inside.starts.items (ap (λ (s : Stored). s.marks) c.self.view_is ∙ c.requires.unmarked) in
    ap (map (database_at c.settle_objects.new.catalog c.raise_next.new.self)) none
