-- What is asked, from what was given so far and what the other words give.
use Rattle.std.proofs.Common.{◌≡◌, ◌∙◌, ◌+◌, ℕ, Bool, true, false, suc, refl, sym, ap, arith, List, [], ◌∷◌, ◌++◌, Option, Some, None, append_assoc}
use Rattle.std.specs.Prelude.{if◌then◌else◌, option_map, option_and_then}
use Rattle.pl_cli.specs.Lines.{option_items}
use Rattle.pl_cli.specs.Line.{Word, Given, asked_by, asked_of, with_name, with_steps, with_stop, steps_of, steps_read, stops_of}

-- what is asked, from what was given so far and what the other words give
abbrev pub so_far : List Word → Option Word → Bool → Given
so_far names steps stop = record { names = names; steps = option_items steps; stops = if stop then 1 else 0 }

abbrev join : Given → Given → Given
join g h = record { names = g.names ++ h.names; steps = g.steps ++ h.steps; stops = g.stops + h.stops }

abbrev pub joined : Given → Option Given → Option Given
joined g = option_map (join g)

pub joined_name : (g : Given) (name : Word) (o : Option Given) → joined g (option_map (with_name name) o) ≡ joined (record g { names = g.names ++ name ∷ [] }) o
joined_name g name None = refl
joined_name g name (Some h) = ap (λ (l : List Word). Some (record { names = l; steps = g.steps ++ h.steps; stops = g.stops + h.stops })) (sym (append_assoc g.names (name ∷ []) h.names))

pub joined_steps : (names : List Word) (stop : Bool) (value : Word) (o : Option Given) → joined (so_far names None stop) (option_map (with_steps value) o) ≡ joined (so_far names (Some value) stop) o
joined_steps names stop value None = refl
joined_steps names stop value (Some h) = refl

pub joined_stop : (names : List Word) (steps : Option Word) (o : Option Given) → joined (so_far names steps false) (option_map with_stop o) ≡ joined (so_far names steps true) o
joined_stop names steps None = refl
joined_stop names steps (Some h) = let is : 0 + suc h.stops ≡ 1 + h.stops = omega arith in ap (λ (k : ℕ). Some (record { names = names ++ h.names; steps = option_items steps ++ h.steps; stops = k })) is

-- what is no valid line whatever the other words give
pub no_steps : (names : List Word) (stops : Option Bool) → asked_by names None stops ≡ None
no_steps [] stops = refl
no_steps (a ∷ []) stops = refl
no_steps (a ∷ b ∷ []) stops = refl
no_steps (a ∷ b ∷ c ∷ names) stops = refl

no_stops : (names : List Word) (steps : Option ℕ) → asked_by names steps None ≡ None
no_stops [] steps = refl
no_stops (a ∷ []) steps = refl
no_stops (a ∷ b ∷ []) None = refl
no_stops (a ∷ b ∷ []) (Some n) = refl
no_stops (a ∷ b ∷ c ∷ names) steps = refl

pub third_name : (a b c : Word) (steps : Option Word) (stop : Bool) (o : Option Given) → option_and_then asked_of (joined (so_far (a ∷ b ∷ []) steps stop) (option_map (with_name c) o)) ≡ None
third_name a b c steps stop None = refl
third_name a b c steps stop (Some h) = refl

pub second_steps : (names : List Word) (v w : Word) (stop : Bool) (o : Option Given) → option_and_then asked_of (joined (so_far names (Some v) stop) (option_map (with_steps w) o)) ≡ None
second_steps names v w stop None = refl
second_steps names v w stop (Some h) = no_steps (names ++ h.names) _

pub second_stop : (names : List Word) (steps : Option Word) (o : Option Given) → option_and_then asked_of (joined (so_far names steps true) (option_map with_stop o)) ≡ None
second_stop names steps None = refl
second_stop names steps (Some h) =
    let is : 1 + suc h.stops ≡ suc (suc h.stops) = omega arith in
    ap (λ (k : ℕ). asked_by (names ++ h.names) (steps_of (option_items steps ++ h.steps)) (stops_of k)) is ∙ no_stops (names ++ h.names) (steps_of (option_items steps ++ h.steps))

pub dash_steps : (names : List Word) (steps : Option Word) (v : Word) (stop : Bool) (o : Option Given) → steps_read v ≡ None → option_and_then asked_of (joined (so_far names steps stop) (option_map (with_steps v) o)) ≡ None
dash_steps names steps v stop None bad = refl
dash_steps names (Some w) v stop (Some h) bad = no_steps (names ++ h.names) _
dash_steps names None v stop (Some h) bad = go h.steps
  where
    go : (more : List Word) → asked_by (names ++ h.names) (steps_of (v ∷ more)) (stops_of ((if stop then 1 else 0) + h.stops)) ≡ None
    go [] = ap (λ (o : Option ℕ). asked_by (names ++ h.names) o (stops_of ((if stop then 1 else 0) + h.stops))) bad ∙ no_steps (names ++ h.names) _
    go (w ∷ more) = no_steps (names ++ h.names) _
