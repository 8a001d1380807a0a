-- Nodes whose parts have the same value, whatever runs the queries inside.
use Rattle.std.proofs.Common.{◌≡◌, sym, ap, ◌∙◌, subst, ℕ, false, true, List, map, Option, Some}
use Rattle.std.proofs.Math.Path.{fun_ext}
use Rattle.std.specs.Option.{option_map}
use Rattle.pl_base.specs.declared.operator.Operator.{Operator}
use Rattle.pl_base.specs.declared.types.Ty.{Ty}
use Rattle.pl_base.specs.declared.value.Value.{Value}
use Rattle.pl_inside.proofs.Parts as parts
use Rattle.pl_resolved.specs.declared.expression.Combination.{Combination}
use Rattle.pl_resolved.specs.declared.expression.RArm.{RArm, out-RArm}
use Rattle.pl_resolved.specs.declared.expression.RCase.{RCase, out-RCase}
use Rattle.pl_resolved.specs.declared.expression.RChain.{RChain, out-RChain}
use Rattle.pl_resolved.specs.declared.expression.RExpr.{RExpr}
use Rattle.pl_resolved.specs.declared.expression.RExpr.TheVariants as e
use Rattle.pl_resolved.specs.declared.expression.RPair.{RPair, out-RPair}
use Rattle.pl_resolved.specs.declared.expression.RStep.{RStep, out-RStep}
use Rattle.pl_value.specs.Combined.{cast_through, combined, repeated, row_value}
use Rattle.pl_value.specs.Frames.{Frame}
use Rattle.pl_value.specs.Meaning.{Calls, Pair, Part, Step, Sub, all_of, arm, case, cased, chain, chained, coalesced, junction, one, pair, step, two, value}
use Rattle.pl_value.specs.Reading.{got, settled}

module _ {W : Type 0} (calls : Calls W) (these those : Sub W) where
  -- a node that is made in the same way of parts that mean the same
  by_parts : {A : Type 0} (make : A → Part W) (x node : RExpr) (mine theirs : A) → x ≡ node
      → ((frame : Frame) (w : W) → value calls these node frame w ≡ make mine frame w)
      → ((frame : Frame) (w : W) → value calls those node frame w ≡ make theirs frame w)
      → mine ≡ theirs → value calls these x ≡ value calls those x
  by_parts {A} make x node mine theirs is here there same =
      subst (λ (y : RExpr). value calls these y ≡ value calls those y) (sym is)
      (fun_ext (λ frame. fun_ext (λ w. here frame w ∙ (ap (λ (a : A). make a frame w) same ∙ sym (there frame w)))))

  -- the parts of a list, as the code has them
  listed : (xs xs' : List RExpr) → xs' ≡ xs → map (value calls these) xs' ≡ map (value calls those) xs' → map (value calls these) xs ≡ map (value calls those) xs
  listed xs xs' is same = subst (λ (ys : List RExpr). map (value calls these) ys ≡ map (value calls those) ys) is same

  pub constant_alike : (x : RExpr) (v : Value) → x ≡ e.Constant v → value calls these x ≡ value calls those x
  constant_alike x v is =
      subst (λ (y : RExpr). value calls these y ≡ value calls those y) (sym is)
      (fun_ext (λ frame. fun_ext (λ w. parts.of_constant calls these v frame w ∙ sym (parts.of_constant calls those v frame w))))

  pub place_alike : (x : RExpr) (row column : ℕ) → x ≡ e.Place row column → value calls these x ≡ value calls those x
  place_alike x row column is =
      subst (λ (y : RExpr). value calls these y ≡ value calls those y) (sym is)
      (fun_ext (λ frame. fun_ext (λ w. parts.of_place calls these row column frame w ∙ sym (parts.of_place calls those row column frame w))))

  pub cast_alike : (x y y' : RExpr) (types : List Ty) → x ≡ e.Cast y types → y' ≡ y → value calls these y' ≡ value calls those y' → value calls these x ≡ value calls those x
  cast_alike x y y' types is is-part same =
      by_parts (one (cast_through types)) x (e.Cast y types) (value calls these y) (value calls those y) is (parts.of_cast calls these types y) (parts.of_cast calls those types y)
      (subst (λ (z : RExpr). value calls these z ≡ value calls those z) is-part same)

  pub unary_alike : (x y y' : RExpr) (op : Operator) (n : ℕ) → x ≡ e.Unary op n y → y' ≡ y → value calls these y' ≡ value calls those y' → value calls these x ≡ value calls those x
  unary_alike x y y' op n is is-part same =
      by_parts (one (repeated op n)) x (e.Unary op n y) (value calls these y) (value calls those y) is (parts.of_unary calls these op n y) (parts.of_unary calls those op n y)
      (subst (λ (z : RExpr). value calls these z ≡ value calls those z) is-part same)

  pub binary_alike : (x : RExpr) (y y' : RPair) (op : Operator) → x ≡ e.Binary op y → y' ≡ y → pair calls these y' ≡ pair calls those y' → value calls these x ≡ value calls those x
  binary_alike x y y' op is is-part same =
      by_parts (two op) x (e.Binary op y) (pair calls these y) (pair calls those y) is (parts.of_binary calls these op y) (parts.of_binary calls those op y)
      (subst (λ (z : RPair). pair calls these z ≡ pair calls those z) is-part same)

  pub chain_alike : (x : RExpr) (y y' : RChain) → x ≡ e.Chain y → y' ≡ y → chain calls these y' ≡ chain calls those y' → value calls these x ≡ value calls those x
  chain_alike x y y' is is-part same =
      by_parts (λ (p : Part W). p) x (e.Chain y) (chain calls these y) (chain calls those y) is (parts.of_chain calls these y) (parts.of_chain calls those y)
      (subst (λ (z : RChain). chain calls these z ≡ chain calls those z) is-part same)

  pub case_alike : (x : RExpr) (y y' : RCase) → x ≡ e.Case y → y' ≡ y → case calls these y' ≡ case calls those y' → value calls these x ≡ value calls those x
  case_alike x y y' is is-part same =
      by_parts (λ (p : Part W). p) x (e.Case y) (case calls these y) (case calls those y) is (parts.of_case calls these y) (parts.of_case calls those y)
      (subst (λ (z : RCase). case calls these z ≡ case calls those z) is-part same)

  pub and_alike : (x : RExpr) (xs xs' : List RExpr) → x ≡ e.And xs → xs' ≡ xs → map (value calls these) xs' ≡ map (value calls those) xs' → value calls these x ≡ value calls those x
  and_alike x xs xs' is is-list same =
      by_parts (junction false) x (e.And xs) (map (value calls these) xs) (map (value calls those) xs) is (parts.of_and calls these xs) (parts.of_and calls those xs) (listed xs xs' is-list same)

  pub or_alike : (x : RExpr) (xs xs' : List RExpr) → x ≡ e.Or xs → xs' ≡ xs → map (value calls these) xs' ≡ map (value calls those) xs' → value calls these x ≡ value calls those x
  or_alike x xs xs' is is-list same =
      by_parts (junction true) x (e.Or xs) (map (value calls these) xs) (map (value calls those) xs) is (parts.of_or calls these xs) (parts.of_or calls those xs) (listed xs xs' is-list same)

  pub coalesce_alike : (x : RExpr) (xs xs' : List RExpr) (to : Ty) → x ≡ e.Coalesce xs to → xs' ≡ xs → map (value calls these) xs' ≡ map (value calls those) xs' → value calls these x ≡ value calls those x
  coalesce_alike x xs xs' to is is-list same =
      by_parts (coalesced to) x (e.Coalesce xs to) (map (value calls these) xs) (map (value calls those) xs) is (parts.of_coalesce calls these to xs) (parts.of_coalesce calls those to xs) (listed xs xs' is-list same)

  pub combined_alike : (x : RExpr) (c : Combination) (xs xs' : List RExpr) → x ≡ e.Combined c xs → xs' ≡ xs → map (value calls these) xs' ≡ map (value calls those) xs' → value calls these x ≡ value calls those x
  combined_alike x c xs xs' is is-list same =
      by_parts (all_of (λ vs w. settled (combined c vs) w)) x (e.Combined c xs) (map (value calls these) xs) (map (value calls those) xs) is (parts.of_combined calls these c xs) (parts.of_combined calls those c xs) (listed xs xs' is-list same)

  pub row_alike : (x : RExpr) (xs xs' : List RExpr) (types : List Ty) → x ≡ e.Row xs types → xs' ≡ xs → map (value calls these) xs' ≡ map (value calls those) xs' → value calls these x ≡ value calls those x
  row_alike x xs xs' types is is-list same =
      by_parts (all_of (λ vs w. got (row_value types vs) w)) x (e.Row xs types) (map (value calls these) xs) (map (value calls those) xs) is (parts.of_row calls these types xs) (parts.of_row calls those types xs) (listed xs xs' is-list same)

  pub call_alike : (x : RExpr) (routine : List ℕ) (xs xs' : List RExpr) → x ≡ e.Call routine xs → xs' ≡ xs → map (value calls these) xs' ≡ map (value calls those) xs' → value calls these x ≡ value calls those x
  call_alike x routine xs xs' is is-list same =
      by_parts (all_of (calls routine)) x (e.Call routine xs) (map (value calls these) xs) (map (value calls those) xs) is (parts.of_call calls these routine xs) (parts.of_call calls those routine xs) (listed xs xs' is-list same)

  pub present_alike : (o : Option RExpr) (y y' : RExpr) → o ≡ Some y → y' ≡ y → value calls these y' ≡ value calls those y' → option_map (value calls these) o ≡ option_map (value calls those) o
  present_alike o y y' is is-part same =
      ap (λ (p : Option RExpr). option_map (value calls these) p) is
      ∙ (ap (λ (p : Part W). let q : Option (Part W) = Some p in q) (subst (λ (z : RExpr). value calls these z ≡ value calls those z) is-part same)
      ∙ sym (ap (λ (p : Option RExpr). option_map (value calls those) p) is))

  pub pair_alike : (x : RPair) → value calls these (out-RPair x).first ≡ value calls those (out-RPair x).first → value calls these (out-RPair x).second ≡ value calls those (out-RPair x).second
      → pair calls these x ≡ pair calls those x
  pair_alike x first second =
      parts.pair_parts calls these x
      ∙ (ap (λ (p : Part W). let both : Pair W = (p, value calls these (out-RPair x).second) in both) first
      ∙ (ap (λ (p : Part W). let both : Pair W = (value calls those (out-RPair x).first, p) in both) second ∙ sym (parts.pair_parts calls those x)))

  pub step_alike : (x : RStep) → value calls these (out-RStep x).operand ≡ value calls those (out-RStep x).operand → step calls these x ≡ step calls those x
  step_alike x same =
      parts.step_parts calls these x ∙ (ap (λ (p : Part W). let s : Step W = ((out-RStep x).operator, p) in s) same ∙ sym (parts.step_parts calls those x))

  pub arm_alike : (x : RArm) → value calls these (out-RArm x).when ≡ value calls those (out-RArm x).when → value calls these (out-RArm x).then ≡ value calls those (out-RArm x).then
      → arm calls these x ≡ arm calls those x
  arm_alike x first second =
      parts.arm_parts calls these x
      ∙ (ap (λ (p : Part W). let both : Pair W = (p, value calls these (out-RArm x).then) in both) first
      ∙ (ap (λ (p : Part W). let both : Pair W = (value calls those (out-RArm x).when, p) in both) second ∙ sym (parts.arm_parts calls those x)))

  pub links_alike : (x : RChain) (xs : List RStep) → value calls these (out-RChain x).first ≡ value calls those (out-RChain x).first → xs ≡ (out-RChain x).steps → map (step calls these) xs ≡ map (step calls those) xs
      → chain calls these x ≡ chain calls those x
  links_alike x xs first is steps =
      let rest : map (step calls these) (out-RChain x).steps ≡ map (step calls those) (out-RChain x).steps = subst (λ (ys : List RStep). map (step calls these) ys ≡ map (step calls those) ys) is steps in
      fun_ext (λ frame. fun_ext (λ w. parts.chain_parts calls these x frame w
      ∙ (ap (λ (p : Part W). chained p (map (step calls these) (out-RChain x).steps) frame w) first
      ∙ (ap (λ (ss : List (Step W)). chained (value calls those (out-RChain x).first) ss frame w) rest ∙ sym (parts.chain_parts calls those x frame w)))))

  pub branches_alike : (x : RCase) (xs : List RArm) → option_map (value calls these) (out-RCase x).operand ≡ option_map (value calls those) (out-RCase x).operand
      → xs ≡ (out-RCase x).arms → map (arm calls these) xs ≡ map (arm calls those) xs
      → option_map (value calls these) (out-RCase x).otherwise ≡ option_map (value calls those) (out-RCase x).otherwise
      → case calls these x ≡ case calls those x
  branches_alike x xs operand is arms otherwise =
      let all : map (arm calls these) (out-RCase x).arms ≡ map (arm calls those) (out-RCase x).arms = subst (λ (ys : List RArm). map (arm calls these) ys ≡ map (arm calls those) ys) is arms in
      let to : Ty = (out-RCase x).to in
      fun_ext (λ frame. fun_ext (λ w. parts.case_parts calls these x frame w
      ∙ (ap (λ (o : Option (Part W)). cased o (map (arm calls these) (out-RCase x).arms) (option_map (value calls these) (out-RCase x).otherwise) to frame w) operand
      ∙ (ap (λ (ps : List (Pair W)). cased (option_map (value calls those) (out-RCase x).operand) ps (option_map (value calls these) (out-RCase x).otherwise) to frame w) all
      ∙ (ap (λ (o : Option (Part W)). cased (option_map (value calls those) (out-RCase x).operand) (map (arm calls those) (out-RCase x).arms) o to frame w) otherwise
      ∙ sym (parts.case_parts calls those x frame w))))))
