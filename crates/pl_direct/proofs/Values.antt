-- The values of trees, node by node.
use Rattle.std.proofs.Common.{◌≡◌, rules, arith, List, map, false, true, ℕ}
use Rattle.pl_base.specs.declared.operator.Operator.{Operator}
use Rattle.pl_base.specs.declared.value.Value.{Value}
use Rattle.pl_calc.specs.Operators.{binary_value}
use Rattle.pl_resolved.specs.declared.expression.RChain.{roll-RChain}
use Rattle.pl_resolved.specs.declared.expression.RExpr.{RExpr, the_lemmas}
use Rattle.pl_resolved.specs.declared.expression.RExpr.TheVariants as e
use Rattle.pl_resolved.specs.declared.expression.RPair.{roll-RPair}
use Rattle.pl_resolved.specs.declared.expression.RStep.{RStep, roll-RStep}
use Rattle.pl_value.specs.Combined.{repeated}
use Rattle.pl_value.specs.Frames.{Frame, cell, or_null}
use Rattle.pl_value.specs.Meaning.{Calls, Sub, junction, one, step, step_read, steps_read, two, value}
use Rattle.pl_value.specs.Reading.{got, settled, then_read}

module _ {W : Type 0} (calls : Calls W) (sub : Sub W) where
  pub value_constant : (v : Value) (frame : Frame) (w : W) → value calls sub (e.Constant v) frame w ≡ got v w
  value_constant v frame w = first_of (search (rules, the_lemmas), grind (arith, the_lemmas))

  pub value_place : (row column : ℕ) (frame : Frame) (w : W) → value calls sub (e.Place row column) frame w ≡ got (or_null (cell frame row column)) w
  value_place row column frame w = first_of (search (rules, the_lemmas), grind (arith, the_lemmas))

  pub value_unary : (op : Operator) (n : ℕ) (x : RExpr) (frame : Frame) (w : W) → value calls sub (e.Unary op n x) frame w ≡ one (repeated op n) (value calls sub x) frame w
  value_unary op n x frame w = first_of (search (rules, the_lemmas), grind (arith, the_lemmas))

  pub value_binary : (op : Operator) (x y : RExpr) (frame : Frame) (w : W)
      → value calls sub (e.Binary op (roll-RPair (record { first = x; second = y }))) frame w ≡ two op (value calls sub x, value calls sub y) frame w
  value_binary op x y frame w = first_of (search (rules, the_lemmas), grind (arith, the_lemmas))

  pub value_chain : (x : RExpr) (ss : List RStep) (frame : Frame) (w : W)
      → value calls sub (e.Chain (roll-RChain (record { first = x; steps = ss }))) frame w
      ≡ then_read (value calls sub x frame w) (λ v w. steps_read (map (step calls sub) ss) v frame w)
  value_chain x ss frame w = first_of (search (rules, the_lemmas), grind (arith, the_lemmas))

  pub step_with : (op : Operator) (y : RExpr) (x : Value) (frame : Frame) (w : W)
      → step_read (step calls sub (roll-RStep (record { operator = op; operand = y }))) x frame w
      ≡ then_read (value calls sub y frame w) (λ y w. settled (binary_value op x y) w)
  step_with op y x frame w = first_of (search (rules, the_lemmas), grind (arith, the_lemmas))

  pub value_and : (xs : List RExpr) (frame : Frame) (w : W) → value calls sub (e.And xs) frame w ≡ junction false (map (value calls sub) xs) frame w
  value_and xs frame w = first_of (search (rules, the_lemmas), grind (arith, the_lemmas))

  pub value_or : (xs : List RExpr) (frame : Frame) (w : W) → value calls sub (e.Or xs) frame w ≡ junction true (map (value calls sub) xs) frame w
  value_or xs frame w = first_of (search (rules, the_lemmas), grind (arith, the_lemmas))
