-- Proofs that other crates' proofs may cite; no definition. How a file stays over the calls of a session.
use Rattle.std.proofs.Common.{◌≡◌, ◌∙◌, ◌++◌, ⊎_elim, ℕ, List, Result, arith, refl, ap}
use Rattle.pl_base.specs.Image.{Image, file}
use Rattle.pl_base.specs.declared.area.Area.{Area}
use Rattle.pl_disk.specs.Disk.{View, Elapses, IsLawful, IsPrefix, Keeps, Says, Untouched, Writes}
use Rattle.pl_disk.specs.Lent.{goes_on, stay, weaker}
use Rattle.pl_disk.specs.declared.device.Failed.{Failed}
use Rattle.pl_keeper.specs.Store.{KeepsFile}
use Rattle.pl_session.specs.Spare.{KeepsArea}

pub area_still : (area : Area) (v : View) → KeepsArea area v v
area_still area v = record { reads = refl; time = stay v (λ p c. KeepsFile area v c) }

-- the files stay at each moment
pub area_kept : (area : Area) (a b : View) (P : List ℕ → Type 0) → Keeps a b → Elapses a b (λ p c. P p × a.may_leave c) → KeepsArea area a b
area_kept area a b P keeps time = record {
  reads = ap (λ (i : Image). file area i) keeps.seen;
  time = weaker a b _ (λ p c. KeepsFile area a c) time (λ p c is. (c, is.1, refl));
}

pub area_untouched : (area : Area) (a b : View) → Untouched a b → KeepsArea area a b
area_untouched area a b untouched = record {
  reads = ap (λ (i : Image). file area i) untouched.seen;
  time = weaker a b (λ p c. a.may_leave c) (λ p c. KeepsFile area a c) untouched.time (λ p c is. (c, is, refl));
}

pub area_on : (area : Area) (a b d : View) → IsLawful a → IsLawful b → KeepsArea area a b → KeepsArea area b d → KeepsArea area a d
area_on area a b d lawful after first second = record {
  reads = second.reads ∙ first.reads;
  time = goes_on a b d (λ p c. KeepsFile area a c) (λ p c. KeepsFile area b c) (λ p c. KeepsFile area a c) first.time second.time (λ p c is. is) (λ p c is. back c is);
}
  where
    back : (c : Image) → KeepsFile area b c → KeepsFile area a c
    back c is =
        let was : KeepsFile area a is.0 = ⊎_elim (λ before. (is.0, (lawful.only_now b.printed is.0 before).1, refl)) (λ now. now)
        (first.time.nothing_else a.moment b.printed is.0 (omega arith) (after.counts_now a.moment is.0 first.time.later is.1)) in
        (was.0, was.1, is.2 ∙ was.2)

-- a line was said
pub area_said : {T : Type 0} (area : Area) (a b : View) (line : List ℕ) (result : Result T Failed) → a.told → Says line a b result → KeepsArea area a b
area_said area a b line result told says =
    area_kept area a b (λ p. (said : List ℕ) × IsPrefix said line × (p ≡ a.printed ++ said)) (says.images told) (says.time told)

-- files were written, but for this one
pub area_wrote : (area : Area) (a b : View) (P : Image → Type 0) → a.told → Writes a b P → ((c : Image) → P c → KeepsFile area a c) → file area b.seen ≡ file area a.seen → KeepsArea area a b
area_wrote area a b P told writes same reads = record {
  reads = reads;
  time = weaker a b _ (λ p c. KeepsFile area a c) (writes.moments.time told) (λ p c is. same c is.1);
}
