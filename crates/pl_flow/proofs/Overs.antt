-- The variables of a block.
use Rattle.std.proofs.Common.{◌≡◌, ◌∙◌, List, Option, ap, refl, sym}
use Rattle.pl_bodies.specs.declared.declaration.Declaration.{Declaration}
use Rattle.pl_bodies.specs.declared.statement.Block.{Block, out-Block}
use Rattle.pl_engine.proofs.Joins.{Lawful, acted, becomes, on, quietly, start, stopped, within}
use Rattle.pl_engine.specs.Answers.{Done, Partway, Stopped}
use Rattle.pl_engine.specs.Engines.{world}
use Rattle.pl_engine.specs.declared.engine.Engine.{Engine}
use Rattle.pl_engine.specs.declared.port.Port.{Ghosts}
use Rattle.pl_engine.specs.declared.stop.Stop.{Stop}
use Rattle.pl_names.specs.Names.{Name}
use Rattle.pl_engine.specs.pl_world.Blocks.{all_declared, block, block_end, block_left, protected, within_block}
use Rattle.pl_engine.specs.pl_world.Errors.{Spot}
use Rattle.pl_engine.specs.pl_world.Running.{Runner, on_next}
use Rattle.pl_engine.specs.pl_world.Variables.{closed, opened}
use Rattle.pl_engine.specs.pl_world.World.{Ran, World, and_then, ends}
use Rattle.pl_engine.specs.pl_world.declared.outcome.Outcome.{Outcome}

-- ---- what a block of variables leaves

pub opened_steps : (label : Option Name) (w : World) → (opened label w).steps ≡ w.steps
unfolding opened
opened_steps label w = refl

pub opened_last : (label : Option Name) (w : World) → (opened label w).last ≡ w.last
unfolding opened
opened_last label w = refl

pub closed_steps : (w : World) → (closed w).steps ≡ w.steps
unfolding closed
closed_steps w = refl

pub closed_last : (w : World) → (closed w).last ≡ w.last
unfolding closed
closed_last w = refl

-- ---- what runs behind it

module _ {P : Type 0} {port : Ghosts P} (law : Lawful port) {whole first : Ran Outcome} {old mid : Engine} {p m : P} (k : Outcome → World → Ran Outcome) (way : Partway port whole (and_then first k) old mid p m) where
  pub ran_on : {new : Engine} {q : P} (o : Outcome) → Done port first o mid new m q → Partway port whole (k o (world new)) old new p q
  ran_on o d = on law k way d

  pub ran_stopped : {q : P} {stop : Stop} → Stopped port first stop mid m q → Stopped port whole stop old p q
  ran_stopped s = stopped law way (within law k s)

-- ---- blocks

block_is : (r : Runner) (at : Spot) (b : Block) (w : World) → block r at b w ≡ and_then (within_block r at b (opened (out-Block b).label w)) (block_left (out-Block b).label)
unfolding block
block_is r at b w = refl

left_is : (label : Option Name) (o : Outcome) (w : World) → block_left label o w ≡ ends (block_end label o) (closed w)
unfolding block_left
left_is label o w = refl

within_is : (r : Runner) (at : Spot) (b : Block) (w : World)
    → within_block r at b w ≡ and_then (all_declared r at (out-Block b).declarations w) (on_next (protected r (out-Block b).label (out-Block b).statements (out-Block b).handlers))
unfolding within_block
within_is r at b w = refl

abbrev pub statements_next : Runner → Block → World → Ran Outcome
statements_next r b w = protected r (out-Block b).label (out-Block b).statements (out-Block b).handlers w

module _ {P : Type 0} {port : Ghosts P} (law : Lawful port) (r : Runner) (at : Spot) (b : Block) where
  pub block_here : (e0 e1 : Engine) (p : P) → port.fits (world e0).last p → world e1 ≡ opened (out-Block b).label (world e0)
      → Partway port (block r at b (world e0)) (and_then (within_block r at b (world e1)) (block_left (out-Block b).label)) e0 e1 p p
  block_here e0 e1 p fits one = quietly law (becomes law (start law (block r at b (world e0)) e0 p fits)
      (block_is r at b (world e0) ∙ ap (λ (w : World). and_then (within_block r at b w) (block_left (out-Block b).label)) (sym one)))
      (ap (λ (w : World). w.steps) one ∙ opened_steps (out-Block b).label (world e0)) (ap (λ (w : World). w.last) one ∙ opened_last (out-Block b).label (world e0))

  pub block_done : {whole : Ran Outcome} {old mid : Engine} {p q : P} (new : Engine) (o o' : Outcome) → Partway port whole (block_left (out-Block b).label o (world mid)) old mid p q
      → world new ≡ closed (world mid) → o' ≡ block_end (out-Block b).label o → Done port whole o' old new p q
  block_done {whole} {old} {mid} new o o' way shut is = acted law (becomes law way (left_is (out-Block b).label o (world mid)))
      (sym shut, sym is, refl, refl, ap (λ (w : World). w.steps) shut ∙ closed_steps (world mid), ap (λ (w : World). w.last) shut ∙ closed_last (world mid))

  pub within_here : (e : Engine) (p : P) (ds : List Declaration) → port.fits (world e).last p → ds ≡ (out-Block b).declarations
      → Partway port (within_block r at b (world e)) (and_then (all_declared r at ds (world e)) (on_next (statements_next r b))) e e p p
  within_here e p ds fits is = becomes law (start law (within_block r at b (world e)) e p fits)
      (within_is r at b (world e) ∙ ap (λ (ds : List Declaration). and_then (all_declared r at ds (world e)) (on_next (statements_next r b))) (sym is))
