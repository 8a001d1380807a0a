-- Proofs of how a reading that goes on stands to the code's answers.
use Rattle.std.proofs.Common.{◌≡◌, refl, sym, ap, ◌∙◌, subst, Result, Err}
use Rattle.pl_value.specs.declared.operand.Unsettled.{Unsettled}
use Rattle.pl_value.specs.declared.operand.Unsettled.TheVariants.{Fails, Memory}
use Rattle.pl_value.specs.Reading.{Reading, got, fails, then_read}
use Rattle.pl_value.specs.Answers.{Reads}

-- what failed first fails the whole
pub stops : {W A B : Type 0} (whole : Reading W B) (q : Reading W A) (k : A → W → Reading W B) (why : Unsettled) (new : W)
    → whole ≡ then_read q k → Reads q (Err why) new → Reads whole (Err why) new
stops whole q k (Fails code) new is reads = is ∙ ap (λ q. then_read q k) reads
stops whole q k Memory new is reads = tt

-- what was got first goes on
pub goes : {W A B : Type 0} (whole : Reading W B) (q : Reading W A) (k : A → W → Reading W B) (x : A) (mid : W) (r : Result B Unsettled) (new : W)
    → whole ≡ then_read q k → q ≡ got x mid → Reads (k x mid) r new → Reads whole r new
goes whole q k x mid r new is gives reads = subst (λ q. Reads q r new) (sym (is ∙ ap (λ q. then_read q k) gives)) reads

-- what goes on alike is read alike
pub then_same : {W A B : Type 0} (q : Reading W A) (k k' : A → W → Reading W B) → ((x : A) (w : W) → k x w ≡ k' x w) → then_read q k ≡ then_read q k'
then_same (got x w) k k' same = same x w
then_same (fails state w) k k' same = refl
