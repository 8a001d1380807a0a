use Rattle.std.proofs.Common.{◌≡◌, ◌++◌, ◌∷◌, [], ◌∙◌, List, ap, sym, cond, Bool, false}
use Rattle.std.specs.List.{slice_get, list_any}
use Rattle.pl_unique.specs.declared.key.Part.{Part}
use Rattle.pl_unique.specs.Numbered.{same_key}
use Rattle.pl_unique.specs.Parts.{told, holds}
use Rattle.pl_unique.proofs.Same.{none_is}
use Rattle.pl_unique.proofs.known.Keys.add.Goals as goal

pub returns-clause-ok : goal.returns-clause-ok
returns-clause-ok c =
    let key = c.args.key in
    let ks = c.self.inside.set.keys in
    let none : list_any (same_key key) ks ≡ false =
    none_is (same_key key) key (told key) (holds key) ks
    (λ n is. c.requires.absent n (ap (λ (l : List (List Part)). slice_get l n) (sym c.self.view_is) ∙ is)) in
    c.in_ok-insert.ensures.keys ∙ ap (λ (b : Bool). cond b ks (ks ++ key ∷ [])) none
    ∙ ap (λ (l : List (List Part)). l ++ key ∷ []) c.self.view_is
