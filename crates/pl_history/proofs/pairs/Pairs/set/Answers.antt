use Rattle.std.proofs.Common.{◌≡◌, ◌<◌, ◌++◌, ◌∷◌, [], ◌∙◌, refl, Option, Some, List, sym, ap, subst, ℕ, length}
use Rattle.std.specs.List.{slice_get, slice_set}
use Rattle.std.proofs.lemmas.Option.{slice_get_read}
use Rattle.pl_history.specs.History.{changed, history}
use Rattle.pl_history.specs.Pairs.{Paired}
use Rattle.pl_history.specs.Undo.{undo_one}
use Rattle.pl_history.specs.declared.pairs.Change.{Change}
use Rattle.pl_history.specs.declared.pairs.Change.TheVariants.{Set}
use Rattle.pl_history.proofs.Past.{gone_on, fits_on, fits_now, back_set}
use Rattle.pl_history.proofs.pairs.Pairs.set.Goals as goal

pub invariant_of-self-2 : goal.invariant_of-self-2
invariant_of-self-2 c =
    let ns = c.self.inside.numbers.items in
    let cs = c.self.inside.changes.items in
    let there : c.args.at < length ns = subst (λ (q : Paired). c.args.at < length q.numbers.current) (sym c.self.view_is) c.requires.there in
    let old : Option ℕ = c.get-old.result in
    let has : slice_get ns c.args.at ≡ Some old = slice_get_read ns (length ns) c.args.at c.index.result.now refl there c.index.ensures ∙ ap (λ (o : Option ℕ). let r : Option (Option ℕ) = Some o in r) (sym c.get-old.ensures) in
    let is : c.push_reserved.new.self.items ≡ cs ++ (Set c.args.at old) ∷ [] = c.push_reserved.ensures.items ∙ ap (λ (ds : List Change). ds ++ (Set c.args.at old) ∷ []) c.reserve.ensures.items in
    let undone : undo_one (Set c.args.at old) c.put.new.numbers.items ≡ ns = ap (undo_one (Set c.args.at old)) c.put.ensures.numbers ∙ back_set ns c.args.at c.args.number old has in
    (c.put.ensures.inverse, fits_on cs c.push_reserved.new.self.items (Set c.args.at old) ns c.put.new.numbers.items is undone (length c.self.inside.places.items) (length c.put.new.places.items) c.put.ensures.len c.self.invariant.1 (fits_now ns c.self.inside.places.items c.self.invariant.0))

pub returns-clause-ok : goal.returns-clause-ok
returns-clause-ok c =
    let ns = c.self.inside.numbers.items in
    let cs = c.self.inside.changes.items in
    let there : c.args.at < length ns = subst (λ (q : Paired). c.args.at < length q.numbers.current) (sym c.self.view_is) c.requires.there in
    let old : Option ℕ = c.get-old.result in
    let has : slice_get ns c.args.at ≡ Some old = slice_get_read ns (length ns) c.args.at c.index.result.now refl there c.index.ensures ∙ ap (λ (o : Option ℕ). let r : Option (Option ℕ) = Some o in r) (sym c.get-old.ensures) in
    let is : c.push_reserved.new.self.items ≡ cs ++ (Set c.args.at old) ∷ [] = c.push_reserved.ensures.items ∙ ap (λ (ds : List Change). ds ++ (Set c.args.at old) ∷ []) c.reserve.ensures.items in
    let undone : undo_one (Set c.args.at old) c.put.new.numbers.items ≡ ns = ap (undo_one (Set c.args.at old)) c.put.ensures.numbers ∙ back_set ns c.args.at c.args.number old has in
    gone_on cs c.push_reserved.new.self.items (Set c.args.at old) ns c.put.new.numbers.items is undone
    ∙ (ap (λ (ms : List (Option ℕ)). changed ms (history undo_one cs ns)) c.put.ensures.numbers ∙ ap (λ (q : Paired). changed (slice_set q.numbers.current c.args.at c.args.number) q.numbers) c.self.view_is)
