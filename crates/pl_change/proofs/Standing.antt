-- A row that comes to stand behind others, and leaves again.
use Rattle.std.proofs.Common.{◌≡◌, ◌++◌, ◌∷◌, ◌-◌, ◌∙◌, [], List, ap, arith, length, take}
use Rattle.std.proofs.Math.Seq.{take-append_seam}
use Rattle.std.proofs.lemmas.List.{length-append, map-append}
use Rattle.pl_value.specs.Frames.{rows_of}
use Rattle.pl_value.specs.declared.operand.Lent.{Lent}

without_last : (frame : List Lent) (lent : Lent) → take (length (frame ++ lent ∷ []) - 1) (frame ++ lent ∷ []) ≡ frame
without_last frame lent =
    let fewer : length (frame ++ lent ∷ []) - 1 ≡ length frame = omega (arith, length-append frame (lent ∷ [])) in
    ap (λ n. take n (frame ++ lent ∷ [])) fewer ∙ take-append_seam frame (lent ∷ [])

module _ (around frame pushed : List Lent) (lent : Lent) (same : frame ≡ around) (is : pushed ≡ frame ++ lent ∷ []) where
  -- it stands behind them
  pub stands : rows_of pushed ≡ rows_of around ++ lent.cells.now ∷ []
  stands = ap rows_of is ∙ (ap (λ (f : List Lent). rows_of (f ++ lent ∷ [])) same ∙ map-append (λ (l : Lent). l.cells.now) around (lent ∷ []))

  -- they alone stand again
  pub leaves : take (length pushed - 1) pushed ≡ around
  leaves = ap (λ (f : List Lent). take (length f - 1) f) is ∙ (without_last frame lent ∙ same)
