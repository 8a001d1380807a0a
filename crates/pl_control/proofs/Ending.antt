-- COMMIT and ROLLBACK, where they may be done and where they may not.
use Rattle.std.proofs.Common.{◌≡◌, ◌∙◌, ◌&&◌, ◌==◌, Bool, true, false, [], ◌∷◌, ap, eqb-true, if◌then◌else◌, not, refl, subst, sym}
use Rattle.std.proofs.lemmas.List.{nil_from_length}
use Rattle.pl_base.specs.States.{INVALID_TRANSACTION_TERMINATION}
use Rattle.pl_engine.specs.Engines.{Quiet, kept, world}
use Rattle.pl_engine.specs.declared.engine.Engine.{Engine}
use Rattle.pl_engine.specs.pl_world.Errors.{Spot, raised}
use Rattle.pl_engine.specs.pl_world.Transactions.{are_commands, commits, committed, may_commit, reset, rolls_back}
use Rattle.pl_engine.specs.pl_world.World.{Began, Ran, World, a_rollback, behind, made}
use Rattle.pl_engine.specs.pl_world.declared.outcome.Outcome.{Outcome}
use Rattle.pl_engine.specs.pl_world.declared.outcome.Outcome.TheVariants as outcome

commits_if : (at : Spot) (w : World) (b : Bool) → may_commit w ≡ b → commits at w ≡ (if b then committed w else raised INVALID_TRANSACTION_TERMINATION at w)
unfolding commits
commits_if at w b is = ap (λ (b : Bool). if b then committed w else raised INVALID_TRANSACTION_TERMINATION at w) is

rolls_if : (at : Spot) (w : World) (b : Bool) → may_commit w ≡ b → rolls_back at w ≡ behind (Began a_rollback ∷ []) (if b then reset w else raised INVALID_TRANSACTION_TERMINATION at w)
unfolding rolls_back
rolls_if at w b is = ap (λ (b : Bool). behind (Began a_rollback ∷ []) (if b then reset w else raised INVALID_TRANSACTION_TERMINATION at w)) is

pub may : (at : Spot) (w : World) → may_commit w ≡ true → commits at w ≡ committed w
may at w is = commits_if at w true is

pub may_not : (at : Spot) (w : World) → may_commit w ≡ false → commits at w ≡ raised INVALID_TRANSACTION_TERMINATION at w
may_not at w is = commits_if at w false is

second : (a b c : Bool) → (a && b && c) ≡ true → b ≡ true
second true true c is = refl
second true false c is = is
second false b c is = absurd cc

-- no mark is live then
pub free : (w : World) → may_commit w ≡ true → w.depth ≡ 0
free w is = eqb-true w.depth 0 (second (not w.in_block) (w.depth == 0) (are_commands (w.frame ∷ w.below)) is)

-- ---- ROLLBACK

module _ (at : Spot) (old new : Engine) where
  pub rolled : may_commit (world old) ≡ true → world new ≡ record (world old) { database = (world old).last; depth = 0 } → Quiet (rolls_back at (world old)) outcome.Next old new
  rolled is reset =
      let depth = free (world old) is in
      let same : record (world old) { database = (world old).last } ≡ world new = sym (reset ∙ (λ i. record (world old) { database = (world old).last; depth = sym depth i })) in
      subst (λ (ran : Ran Outcome). Quiet ran outcome.Next old new) (sym (rolls_if at (world old) true is))
      (same, refl, refl, refl, ap (λ (w : World). w.steps) reset, ap (λ (w : World). w.last) reset)

  pub rolled_kept : may_commit (world old) ≡ true → kept new ≡ record (kept old) { marks = [] } → kept new ≡ kept old
  rolled_kept is reset =
      let none : (kept old).marks ≡ [] = nil_from_length (kept old).marks (free (world old) is) in
      reset ∙ (λ i. record (kept old) { marks = sym none i })

under : (ran : Ran Outcome) (o : Outcome) (e : Engine) → Quiet ran o e e → Quiet (behind (Began a_rollback ∷ []) ran) o e e
under (made w x es) o e quiet = quiet

pub not_rolled : (at : Spot) (e : Engine) (o : Outcome) → may_commit (world e) ≡ false → Quiet (raised INVALID_TRANSACTION_TERMINATION at (world e)) o e e → Quiet (rolls_back at (world e)) o e e
not_rolled at e o is quiet =
    subst (λ (ran : Ran Outcome). Quiet ran o e e) (sym (rolls_if at (world e) false is)) (under (raised INVALID_TRANSACTION_TERMINATION at (world e)) o e quiet)
