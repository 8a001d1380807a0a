-- One equation for each kind of node: its value, from what its parts mean.
use Rattle.std.proofs.Common.{◌≡◌, ℕ, false, true, List, map, rules, arith}
use Rattle.std.specs.Option.{option_map}
use Rattle.pl_base.specs.declared.operator.Operator.{Operator}
use Rattle.pl_base.specs.declared.types.Ty.{Ty}
use Rattle.pl_base.specs.declared.value.Value.{Value}
use Rattle.pl_resolved.specs.declared.expression.Combination.{Combination}
use Rattle.pl_resolved.specs.declared.expression.RArm.{RArm, out-RArm}
use Rattle.pl_resolved.specs.declared.expression.RCase.{RCase, out-RCase}
use Rattle.pl_resolved.specs.declared.expression.RChain.{RChain, out-RChain}
use Rattle.pl_resolved.specs.declared.expression.RExpr.{RExpr, the_lemmas}
use Rattle.pl_resolved.specs.declared.expression.RExpr.TheVariants as e
use Rattle.pl_resolved.specs.declared.expression.RPair.{RPair, out-RPair}
use Rattle.pl_resolved.specs.declared.expression.RStep.{RStep, out-RStep}
use Rattle.pl_value.specs.Combined.{cast_through, combined, repeated, row_value}
use Rattle.pl_value.specs.Frames.{Frame, cell, or_null}
use Rattle.pl_value.specs.Meaning.{Calls, Sub, all_of, arm, case, cased, chain, chained, coalesced, junction, one, pair, step, two, value}
use Rattle.pl_value.specs.Reading.{got, settled}

module _ {W : Type 0} (calls : Calls W) (sub : Sub W) where
  pub of_constant : (v : Value) (frame : Frame) (w : W) → value calls sub (e.Constant v) frame w ≡ got v w
  of_constant v frame w = first_of (search (rules, the_lemmas), grind (arith, the_lemmas))

  pub of_place : (row column : ℕ) (frame : Frame) (w : W) → value calls sub (e.Place row column) frame w ≡ got (or_null (cell frame row column)) w
  of_place row column frame w = first_of (search (rules, the_lemmas), grind (arith, the_lemmas))

  pub of_cast : (types : List Ty) (x : RExpr) (frame : Frame) (w : W) → value calls sub (e.Cast x types) frame w ≡ one (cast_through types) (value calls sub x) frame w
  of_cast types x frame w = first_of (search (rules, the_lemmas), grind (arith, the_lemmas))

  pub of_unary : (op : Operator) (n : ℕ) (x : RExpr) (frame : Frame) (w : W) → value calls sub (e.Unary op n x) frame w ≡ one (repeated op n) (value calls sub x) frame w
  of_unary op n x frame w = first_of (search (rules, the_lemmas), grind (arith, the_lemmas))

  pub of_binary : (op : Operator) (x : RPair) (frame : Frame) (w : W) → value calls sub (e.Binary op x) frame w ≡ two op (pair calls sub x) frame w
  of_binary op x frame w = first_of (search (rules, the_lemmas), grind (arith, the_lemmas))

  pub of_chain : (x : RChain) (frame : Frame) (w : W) → value calls sub (e.Chain x) frame w ≡ chain calls sub x frame w
  of_chain x frame w = first_of (search (rules, the_lemmas), grind (arith, the_lemmas))

  pub of_and : (xs : List RExpr) (frame : Frame) (w : W) → value calls sub (e.And xs) frame w ≡ junction false (map (value calls sub) xs) frame w
  of_and xs frame w = first_of (search (rules, the_lemmas), grind (arith, the_lemmas))

  pub of_or : (xs : List RExpr) (frame : Frame) (w : W) → value calls sub (e.Or xs) frame w ≡ junction true (map (value calls sub) xs) frame w
  of_or xs frame w = first_of (search (rules, the_lemmas), grind (arith, the_lemmas))

  pub of_case : (x : RCase) (frame : Frame) (w : W) → value calls sub (e.Case x) frame w ≡ case calls sub x frame w
  of_case x frame w = first_of (search (rules, the_lemmas), grind (arith, the_lemmas))

  pub of_coalesce : (to : Ty) (xs : List RExpr) (frame : Frame) (w : W) → value calls sub (e.Coalesce xs to) frame w ≡ coalesced to (map (value calls sub) xs) frame w
  of_coalesce to xs frame w = first_of (search (rules, the_lemmas), grind (arith, the_lemmas))

  pub of_combined : (c : Combination) (xs : List RExpr) (frame : Frame) (w : W) → value calls sub (e.Combined c xs) frame w ≡ all_of (λ vs w. settled (combined c vs) w) (map (value calls sub) xs) frame w
  of_combined c xs frame w = first_of (search (rules, the_lemmas), grind (arith, the_lemmas))

  pub of_row : (types : List Ty) (xs : List RExpr) (frame : Frame) (w : W) → value calls sub (e.Row xs types) frame w ≡ all_of (λ vs w. got (row_value types vs) w) (map (value calls sub) xs) frame w
  of_row types xs frame w = first_of (search (rules, the_lemmas), grind (arith, the_lemmas))

  pub of_call : (routine : List ℕ) (xs : List RExpr) (frame : Frame) (w : W) → value calls sub (e.Call routine xs) frame w ≡ all_of (calls routine) (map (value calls sub) xs) frame w
  of_call routine xs frame w = first_of (search (rules, the_lemmas), grind (arith, the_lemmas))

  pub chain_parts : (x : RChain) (frame : Frame) (w : W) → chain calls sub x frame w ≡ chained (value calls sub (out-RChain x).first) (map (step calls sub) (out-RChain x).steps) frame w
  chain_parts x frame w = first_of (search (rules, the_lemmas), grind (arith, the_lemmas))

  pub case_parts : (x : RCase) (frame : Frame) (w : W) → case calls sub x frame w
      ≡ cased (option_map (value calls sub) (out-RCase x).operand) (map (arm calls sub) (out-RCase x).arms) (option_map (value calls sub) (out-RCase x).otherwise) (out-RCase x).to frame w
  case_parts x frame w = first_of (search (rules, the_lemmas), grind (arith, the_lemmas))

  pub pair_parts : (x : RPair) → pair calls sub x ≡ (value calls sub (out-RPair x).first, value calls sub (out-RPair x).second)
  pair_parts x = first_of (search (rules, the_lemmas), grind (arith, the_lemmas))

  pub step_parts : (x : RStep) → step calls sub x ≡ ((out-RStep x).operator, value calls sub (out-RStep x).operand)
  step_parts x = first_of (search (rules, the_lemmas), grind (arith, the_lemmas))

  pub arm_parts : (x : RArm) → arm calls sub x ≡ (value calls sub (out-RArm x).when, value calls sub (out-RArm x).then)
  arm_parts x = first_of (search (rules, the_lemmas), grind (arith, the_lemmas))
