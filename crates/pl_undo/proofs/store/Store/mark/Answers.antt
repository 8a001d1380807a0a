use Rattle.std.proofs.Common.{◌≡◌, ◌++◌, ◌∷◌, [], ◌∙◌, ℕ, sym, ap, subst, map, length}
use Rattle.pl_undo.specs.declared.store.Start.{Start}
use Rattle.pl_undo.specs.Store.{at_last, database_at, IsSound, Stored}
use Rattle.pl_undo.proofs.Marks.{marked, marked_sound}
use Rattle.pl_undo.proofs.store.Store.mark.Goals as goal

pub invariant_of-self : goal.invariant_of-self
invariant_of-self c =
    let top : (let s : Start = record { objects = c.changes.result; tables = c.changes-2.result } in s) ≡ at_last c.self.inside.catalog c.self.inside.tables =
    ap (λ (n : ℕ). let s : Start = record { objects = n; tables = c.changes-2.result } in s) c.changes.ensures ∙ ap (λ (n : ℕ). let s : Start = record { objects = length c.self.inside.catalog.past; tables = n } in s) c.changes-2.ensures in
    let is = c.push_reserved.ensures.items ∙ ap (λ (s : Start). c.self.inside.starts.items ++ s ∷ []) top in
    subst (IsSound c.self.inside.catalog c.self.inside.tables) (sym is) (marked_sound c.self.inside.catalog c.self.inside.tables c.self.inside.starts.items c.self.invariant)

pub returns-clause-marks : goal.returns-clause-marks
returns-clause-marks c =
    let top : (let s : Start = record { objects = c.changes.result; tables = c.changes-2.result } in s) ≡ at_last c.self.inside.catalog c.self.inside.tables =
    ap (λ (n : ℕ). let s : Start = record { objects = n; tables = c.changes-2.result } in s) c.changes.ensures ∙ ap (λ (n : ℕ). let s : Start = record { objects = length c.self.inside.catalog.past; tables = n } in s) c.changes-2.ensures in
    let is = c.push_reserved.ensures.items ∙ ap (λ (s : Start). c.self.inside.starts.items ++ s ∷ []) top in
    ap (map (database_at c.self.inside.catalog c.self.inside.tables)) is
    ∙ (marked c.self.inside.catalog c.self.inside.tables c.self.inside.starts.items c.self.invariant ∙ ap (λ (s : Stored). s.marks ++ s.now ∷ []) c.self.view_is)
