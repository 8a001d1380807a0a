-- A change of one table among others.
use Rattle.std.proofs.Common.{◌≡◌, ℕ, List, [], ◌∷◌, Bool, true, false, cond, nat_eq, Option, Some, None, refl, sym, ap, subst, ◌∙◌}
use Rattle.std.proofs.lemmas.Bool.Decides.{Decides-eqb}
use Rattle.std.proofs.lemmas.Slice.Eq.{slice_eq-Decides}
use Rattle.std.specs.Cmp.Lexicographic.{pointwise}
use Rattle.std.specs.Prelude.{IsSome, option_map}
use Rattle.pl_journal.specs.Journal.{ChangesOnly, with_room}
use Rattle.pl_journal.proofs.Truths.{some_is}
use Rattle.pl_tables.specs.Named.{Named, named, content_named, on_table}
use Rattle.pl_tables.specs.Rows.{Content}
use Rattle.pl_undo.specs.Database.{on_rows, Database}
use Rattle.pl_undo.specs.Store.{Stored}

pub same_text : (a b : List ℕ) → pointwise nat_eq a b ≡ true → a ≡ b
same_text a b is = (slice_eq-Decides Decides-eqb a b (pointwise nat_eq a b) refl).0 is

some_mapped : (f : Content → Content) (o : Option Content) → IsSome o → IsSome (option_map f o)
some_mapped f None some = some
some_mapped f (Some c) some = refl

module _ (name : List ℕ) (f : Content → Content) where
  -- the table itself
  pub content_changed : (ts : List Named) → content_named name (on_table name f ts) ≡ option_map f (content_named name ts)
  content_changed [] = refl
  content_changed (t ∷ ts) =
      (elim (pointwise nat_eq t.name name) as (λ (b : Bool). pointwise nat_eq t.name name ≡ b
      → content_named name (cond b (named t.name (f t.content) ∷ ts) (t ∷ on_table name f ts)) ≡ option_map f (cond b (Some t.content) (content_named name ts))) [
        | true ↦ λ e. ap (λ (b : Bool). cond b (Some (f t.content)) (content_named name ts)) e
        | false ↦ λ e. ap (λ (b : Bool). cond b (Some t.content) (content_named name (on_table name f ts))) e ∙ content_changed ts
      ]) refl

  -- the others
  pub others_stay : (other : List ℕ) → pointwise nat_eq name other ≡ false → (ts : List Named) → content_named other (on_table name f ts) ≡ content_named other ts
  others_stay other differs [] = refl
  others_stay other differs (t ∷ ts) =
      (elim (pointwise nat_eq t.name name) as (λ (b : Bool). pointwise nat_eq t.name name ≡ b
      → content_named other (cond b (named t.name (f t.content) ∷ ts) (t ∷ on_table name f ts)) ≡ cond (pointwise nat_eq t.name other) (Some t.content) (content_named other ts)) [
        | true ↦ λ e.
            let away : pointwise nat_eq t.name other ≡ false = ap (λ (n : List ℕ). pointwise nat_eq n other) (same_text t.name name e) ∙ differs in
            ap (λ (b : Bool). cond b (Some (f t.content)) (content_named other ts)) away ∙ sym (ap (λ (b : Bool). cond b (Some t.content) (content_named other ts)) away)
        | false ↦ λ e. ap (λ (o : Option Content). cond (pointwise nat_eq t.name other) (Some t.content) o) (others_stay other differs ts)
      ]) refl

  -- where they would change alike, another change does the same
  pub changed_alike : (g : Content → Content) (c : Content) → f c ≡ g c → (ts : List Named) → content_named name ts ≡ Some c → on_table name f ts ≡ on_table name g ts
  changed_alike g c alike [] is = refl
  changed_alike g c alike (t ∷ ts) is =
      (elim (pointwise nat_eq t.name name) as (λ (b : Bool). cond b (Some t.content) (content_named name ts) ≡ Some c
      → cond b (named t.name (f t.content) ∷ ts) (t ∷ on_table name f ts) ≡ cond b (named t.name (g t.content) ∷ ts) (t ∷ on_table name g ts)) [
        | true ↦ λ e.
            let own : t.content ≡ c = some_is t.content c e in
            ap (λ (d : Content). named t.name d ∷ ts) (ap f own ∙ (alike ∙ ap g (sym own)))
        | false ↦ λ e. ap (λ (l : List Named). t ∷ l) (changed_alike g c alike ts e)
      ]) is

  pub changed_only : (old new : Stored) → new.now ≡ on_rows name f old.now → new.last ≡ old.last → new.marks ≡ old.marks → ChangesOnly name old new
  changed_only old new is last marks =
      record {
        there = λ some. subst (λ (o : Option Content). IsSome o) (sym (ap (λ (d : Database). content_named name d.tables) is ∙ content_changed old.now.tables)) (some_mapped f (content_named name old.now.tables) some);
        others = λ other differs. ap (λ (d : Database). content_named other d.tables) is ∙ others_stay other differs old.now.tables;
        objects = ap (λ (d : Database). d.objects) is;
        last = last;
        marks = marks;
      }

pub unchanged : (name : List ℕ) (old new : Stored) → new.now ≡ old.now → new.last ≡ old.last → new.marks ≡ old.marks → ChangesOnly name old new
unchanged name old new is last marks =
    record {
      there = λ some. subst (λ (d : Database). IsSome (content_named name d.tables)) (sym is) some;
      others = λ other differs. ap (λ (d : Database). content_named other d.tables) is;
      objects = ap (λ (d : Database). d.objects) is;
      last = last;
      marks = marks;
    }

pub only_same : (name : List ℕ) (s : Stored) → ChangesOnly name s s
only_same name s = unchanged name s s refl refl refl

pub only_then : (name : List ℕ) (a b c : Stored) → ChangesOnly name a b → ChangesOnly name b c → ChangesOnly name a c
only_then name a b c first second =
    record {
      there = λ some. second.there (first.there some);
      others = λ other differs. second.others other differs ∙ first.others other differs;
      objects = second.objects ∙ first.objects;
      last = second.last ∙ first.last;
      marks = second.marks ∙ first.marks;
    }

-- the same, whatever room for marks there is
pub only_with_room : (room : ℕ) (name : List ℕ) (old new : Stored) → ChangesOnly name old new → ChangesOnly name (with_room room old) (with_room room new)
only_with_room room name old new only = record { there = only.there; others = only.others; objects = only.objects; last = only.last; marks = only.marks }
