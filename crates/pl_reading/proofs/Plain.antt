-- No command but a definition is read as one.
use Rattle.std.proofs.Common.{◌≡◌, ℕ, zero, suc, List, Bool, true, false, Option, Some, None, refl, sym, ap, cond}
use Rattle.pl_grammar.specs.Marks.{Tokens}
use Rattle.pl_grammar.specs.Relations.{made, checked, with_mark, without, first, second, behind_mark}
use Rattle.pl_grammar.specs.Rule.{Within}
use Rattle.pl_tree.specs.declared.tree.Argument.{Argument}
use Rattle.pl_tree.specs.declared.command.Command.{Command}
use Rattle.pl_tree.specs.declared.command.Command.TheVariants as c
use Rattle.pl_sql_parse.specs.Grammar as part
use Rattle.pl_sql_parse.specs.Grammar.{rule}
use Rattle.pl_sql_parse.specs.Trees.{call_of, rollback_of}

abbrev pub defines : Command → Bool
defines (c.Define x source) = true
defines other = false

insert : (h : ℕ) (x : Command) (ts : Tokens) → Within rule h part.Insert x ts → defines x ≡ false
insert zero x ts d = absurd d
insert (suc h) _ ts (made d) = refl

update : (h : ℕ) (x : Command) (ts : Tokens) → Within rule h part.Update x ts → defines x ≡ false
update zero x ts d = absurd d
update (suc h) _ ts (made d) = refl

delete : (h : ℕ) (x : Command) (ts : Tokens) → Within rule h part.Delete x ts → defines x ≡ false
delete zero x ts d = absurd d
delete (suc h) _ ts (made d) = refl

do_ : (h : ℕ) (x : Command) (ts : Tokens) → Within rule h part.Do x ts → defines x ≡ false
do_ zero x ts d = absurd d
do_ (suc h) _ _ (with_mark m (made d)) = refl
do_ (suc h) _ ts (without (made d)) = refl

called : (name : List ℕ) (arguments : List Argument) (x : Command) → call_of name arguments ≡ Some x → defines x ≡ false
unfolding call_of
called name arguments x is = by_test _ is
  where
    by_test : (b : Bool) → (let o : Option Command = cond b (Some (c.Call name arguments)) None in o) ≡ Some x → defines x ≡ false
    by_test true e = let same : c.Call name arguments ≡ x = cc e in ap (λ (y : Command). defines y) (sym same)
    by_test false e = absurd (cc e)

call : (h : ℕ) (x : Command) (ts : Tokens) → Within rule h part.Call x ts → defines x ≡ false
call zero x ts d = absurd d
call (suc h) x ts (checked {a = p} d is) = called p.0 p.1 x is

undone : (to : Option (List ℕ)) → defines (rollback_of to) ≡ false
undone None = refl
undone (Some name) = refl

rollback : (h : ℕ) (x : Command) (ts : Tokens) → Within rule h part.Rollback x ts → defines x ≡ false
rollback zero x ts d = absurd d
rollback (suc h) _ ts (made {a = p} d) = undone p.1

transaction : (h : ℕ) (x : Command) (ts : Tokens) → Within rule h part.Transaction x ts → defines x ≡ false
transaction zero x ts d = absurd d
transaction (suc h) _ _ (with_mark m (made d)) = refl
transaction (suc h) _ _ (without (with_mark m (behind_mark n d))) = started d
  where
    started : {x : Command} {ts : Tokens} → Rattle.pl_grammar.specs.Relations.Empty c.StartTransaction x ts → defines x ≡ false
    started Rattle.pl_grammar.specs.Relations.empty = refl
transaction (suc h) _ _ (without (without (with_mark m (made d)))) = refl
transaction (suc h) _ _ (without (without (without (with_mark m (made d))))) = refl
transaction (suc h) x _ (without (without (without (without (with_mark m d))))) = rollback h x _ d
transaction (suc h) _ _ (without (without (without (without (without (with_mark m (made d))))))) = refl
transaction (suc h) _ _ (without (without (without (without (without (without (with_mark m (made d)))))))) = refl
transaction (suc h) _ _ (without (without (without (without (without (without (without (behind_mark m (made d))))))))) = refl

pub defines_nothing : (h : ℕ) (x : Command) (ts : Tokens) → Within rule h part.Command x ts → defines x ≡ false
defines_nothing zero x ts d = absurd d
defines_nothing (suc h) x _ (with_mark m d) = insert h x _ d
defines_nothing (suc h) x _ (without (with_mark m d)) = update h x _ d
defines_nothing (suc h) x _ (without (without (with_mark m d))) = delete h x _ d
defines_nothing (suc h) x _ (without (without (without (with_mark m d)))) = do_ h x _ d
defines_nothing (suc h) x _ (without (without (without (without (with_mark m d))))) = call h x _ d
defines_nothing (suc h) _ _ (without (without (without (without (without (first (made d))))))) = refl
defines_nothing (suc h) x _ (without (without (without (without (without (second d)))))) = transaction h x _ d
