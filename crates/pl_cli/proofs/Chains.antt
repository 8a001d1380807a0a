-- Runs in a row.
use Rattle.std.proofs.Common.{◌≡◌, inl, inr, ⊎_elim, ℕ, List, [], ◌∷◌, Ok, sym, subst}
use Rattle.pl_base.specs.Image.{Image}
use Rattle.pl_disk.specs.Disk.{View}
use Rattle.pl_undo.specs.Database.{Database}
use Rattle.pl_session.specs.pl_world.Opening.{opens}
use Rattle.pl_cli.specs.Covers.{CoveredRun, IsChain, Known, Ran}

module _ {H : Type 0} (view : H → View) (first : H) where
  abbrev Begins : List (Ran H) → H → Type 0
  Begins runs later = (image : Image) → (view later).may_leave image → Known view first runs (view later).printed image

  step : (run : Ran H) (earlier : List (Ran H)) → Begins earlier run.old → CoveredRun (view run.old) (view run.new) run.events run.db
      → (printed : List ℕ) (image : Image) → (view run.new).since (view run.old).moment printed image → Known view first (run ∷ earlier) printed image
  step run earlier known covers printed image left =
      ⊎_elim (λ was. inl (was.0, subst (λ (p : List ℕ). Known view first earlier p image) (sym was.0) (known image was.1))) (λ now. inr now)
      (covers.each printed image left)

  pub begins : (runs : List (Ran H)) (later : H) → IsChain view first runs later → Begins runs later
  begins [] later chain image left = chain image left
  begins (run ∷ earlier) later chain image left = step run earlier (begins earlier run.old chain.0) chain.1 (view later).printed image (chain.2 image left)

  pub joins : (run : Ran H) (earlier : List (Ran H)) → IsChain view first earlier run.old → CoveredRun (view run.old) (view run.new) run.events run.db
      → (printed : List ℕ) (image : Image) → (view run.new).since (view run.old).moment printed image → Known view first (run ∷ earlier) printed image
  joins run earlier chain covers printed image left = step run earlier (begins earlier run.old chain) covers printed image left

  pub always_opens : (runs : List (Ran H)) → ((image : Image) → (view first).may_leave image → (db : Database) × (opens image ≡ Ok db))
      → (printed : List ℕ) (image : Image) → Known view first runs printed image → (db : Database) × (opens image ≡ Ok db)
  always_opens [] all printed image known = all image known.1
  always_opens (run ∷ earlier) all printed image known =
      ⊎_elim (λ was. always_opens earlier all printed image was.1) (λ now. let is = now.2 in (is.now, is.opened)) known
