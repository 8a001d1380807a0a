-- A cursor's name, or a call of it, among expressions.
use Rattle.std.proofs.Common.{◌≡◌, ◌∙◌, sym, ap, refl, ℕ, List, [], Some, None, rules, arith}
use Rattle.pl_tree.specs.declared.tree.Argument.{Argument}
use Rattle.pl_tree.specs.declared.tree.Argument.TheOpen as l
use Rattle.pl_tree.specs.declared.tree.Expr.{Expr, out-Expr, roll-Expr, the_lemmas}
use Rattle.pl_tree.specs.declared.tree.Expr.TheVariants as e
use Rattle.pl_body_grammar.specs.Trees.{Layer, called_cursor, cursor_in, cursor_of}
use Rattle.pl_body_grammar.specs.declared.parts.ForSource.TheVariants as source

abbrev name_layer : List ℕ → Layer
name_layer n = l.Name n

abbrev call_layer : List ℕ → List Argument → Layer
call_layer n xs = l.Call n xs

name_out : (n : List ℕ) → out-Expr (e.Name n) ≡ name_layer n
name_out n = first_of (search (rules, the_lemmas), grind (arith, the_lemmas))

call_out : (n : List ℕ) (xs : List Argument) → out-Expr (e.Call n xs) ≡ call_layer n xs
call_out n xs = first_of (search (rules, the_lemmas), grind (arith, the_lemmas))

made_of : (x : Expr) → roll-Expr (out-Expr x) ≡ x
made_of x = first_of (search (rules, the_lemmas), grind (arith, the_lemmas))

pub name_is : (n : List ℕ) → cursor_of (e.Name n) ≡ Some (source.Cursor n [])
name_is n = ap cursor_in (name_out n)

pub call_is : (n : List ℕ) (xs : List Argument) → cursor_of (e.Call n xs) ≡ called_cursor n xs
call_is n xs = ap cursor_in (call_out n xs)

other_layer : (y : Layer) → ((n : List ℕ) → roll-Expr y ≡ e.Name n → ⊥) → ((n : List ℕ) (xs : List Argument) → roll-Expr y ≡ e.Call n xs → ⊥) → cursor_in y ≡ None
other_layer (l.Name n) h k = absurd (h n (ap roll-Expr (sym (name_out n)) ∙ made_of (e.Name n)))
other_layer (l.Call n xs) h k = absurd (k n xs (ap roll-Expr (sym (call_out n xs)) ∙ made_of (e.Call n xs)))
other_layer _ h k = refl

pub other_is : (x : Expr) → ((n : List ℕ) → x ≡ e.Name n → ⊥) → ((n : List ℕ) (xs : List Argument) → x ≡ e.Call n xs → ⊥) → cursor_of x ≡ None
other_is x h k = other_layer (out-Expr x) (λ n j. h n (sym (made_of x) ∙ j)) (λ n xs j. k n xs (sym (made_of x) ∙ j))
