-- Why a call fails, where it hands on the failure of one that it made.
use Rattle.std.proofs.Common.{◌≡◌, ◌<◌, ◌≤◌, ◌-◌, ◌^◌, ◌⊎◌, ⊎_elim, ℕ, arith, Result, Ok, Err, refl, sym, subst}
use Rattle.std.specs.Prelude.{IfErr}
use Rattle.std.specs.Result.{IsErrAnd}
use Rattle.pl_base.specs.declared.area.Area.{Area}
use Rattle.pl_disk.specs.Disk.{View, Rises}
use Rattle.pl_frames.specs.Cause.{HasCause}
use Rattle.pl_frames.specs.declared.fail.FrameFail.{FrameFail}
use Rattle.pl_frames.specs.declared.fail.FrameFail.TheVariants.{Fault, Damaged, Memory}

-- the same failure, of a longer run that knows more of the damage
because : (D E : Area → ℕ → Type 0) (a b a' b' : View) → ((area : Area) (at : ℕ) → D area at → E area at) → (Rises a.disk_faults b.disk_faults → Rises a'.disk_faults b'.disk_faults)
    → (e : FrameFail) → HasCause D a b e → HasCause E a' b' e
because D E a b a' b' damage fault Fault is = fault is
because D E a b a' b' damage fault (Damaged area at) is = damage area at is
because D E a b a' b' damage fault Memory is = tt

passed : {T : Type 0} (P : FrameFail → Type 0) (r : Result T FrameFail) (e : FrameFail) → IsErrAnd r (λ x. x ≡ e) → P e → IfErr r P
passed P (Ok x) e is was = absurd is
passed P (Err x) e is was = subst P (sym is) was

pub handed_on : {T : Type 0} (D E : Area → ℕ → Type 0) (a b a' b' : View) (r : Result T FrameFail) (e : FrameFail) → IsErrAnd r (λ x. x ≡ e)
    → ((area : Area) (at : ℕ) → D area at → E area at) → a'.disk_faults ≤ a.disk_faults → a.disk_faults ≤ b.disk_faults → b.disk_faults ≤ b'.disk_faults → HasCause D a b e → IfErr r (HasCause E a' b')
handed_on D E a b a' b' r e is damage before during after was =
    passed (HasCause E a' b') r e is (because D E a b a' b' damage (λ rises below. rises_more a.disk_faults b.disk_faults a'.disk_faults b'.disk_faults before during after rises below) e was)
  where
    rises_more : (m n m' n' : ℕ) → m' ≤ m → m ≤ n → n ≤ n' → Rises m n → m' < 2 ^ 64 - 1 → m' < n'
    rises_more m n m' n' before during after rises below =
        let far : (m < 2 ^ 64 - 1) ⊎ (2 ^ 64 - 1 ≤ m) = grind arith in
        ⊎_elim (λ near. let more : m < n = rises near in omega arith) (λ full. omega arith) far

-- the same of an answer that is given on
pub kept : {T : Type 0} (D E : Area → ℕ → Type 0) (a b a' b' : View) (r : Result T FrameFail) → ((area : Area) (at : ℕ) → D area at → E area at)
    → a'.disk_faults ≤ a.disk_faults → a.disk_faults ≤ b.disk_faults → b.disk_faults ≤ b'.disk_faults → IfErr r (HasCause D a b) → IfErr r (HasCause E a' b')
kept D E a b a' b' (Ok x) damage before during after was = tt
kept {T} D E a b a' b' (Err e) damage before during after was =
    let fails : FrameFail → Result T FrameFail = λ x. Err x in
    handed_on D E a b a' b' (fails e) e refl damage before during after was
