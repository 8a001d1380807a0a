-- What is printed and held, with the laws by which it joins, since a port may not name proofs.
use Rattle.std.specs.Prelude.{◌≡◌, ℕ, List, [], ◌++◌, map}
use Rattle.std.proofs.Common.{append_assoc, append-nil, ap, sym, ◌∙◌}
use Rattle.pl_world.specs.Trace.{Event, Said}

-- each piece is an event
abbrev pub said : List (List ℕ) → List Event
said pieces = map Said pieces

-- these events, all of which are printed, stand behind those that were held
abbrev pub HoldsMore : List Event → (old new : List (List ℕ)) → Type 0
HoldsMore es old new = said new ≡ said old ++ es

pub holds_none : (old : List (List ℕ)) → HoldsMore [] old old
holds_none old = sym (append-nil (said old))

pub holds_join : (es fs : List Event) (a b c : List (List ℕ)) → HoldsMore es a b → HoldsMore fs b c → HoldsMore (es ++ fs) a c
holds_join es fs a b c one two = two ∙ (ap (λ (xs : List Event). xs ++ fs) one ∙ append_assoc (said a) es fs)
