use Rattle.std.proofs.Common.{◌≡◌, ◌<◌, ◌↔◌, ◌∙◌, refl, sym, Option, None, Some, List, ℕ, ap, subst, vec_len, length, rules, arith}
use Rattle.std.specs.Prelude.{option_and_then, slice_get}
use Rattle.std.proofs.lemmas.Option.{slice_get_read}
use Rattle.pl_history.specs.History.{History}
use Rattle.pl_tables.specs.Rows.{key_at, Content}
use Rattle.pl_tables.specs.Slots.{id_at}
use Rattle.pl_tables.proofs.Living.{id_read}
use Rattle.pl_tables.proofs.Steps.{found_key, found_within, key_within}
use Rattle.pl_tables.proofs.table.Table.find_key.Goals as goal

pub index-requires : goal.index-requires
index-requires c =
    let ks = c.self.inside.keys.items in
    let lt : c.args.key < length ks = key_within ks c.args.key (subst (λ (t : History Content). c.args.key < length t.current.keys) (sym c.self.view_is) c.requires.there) in
    let l : vec_len c.self.inside.keys ≡ length ks = search rules in
    omega (arith, l, lt)

pub slot-requires : goal.slot-requires
slot-requires c =
    let h = c.self.inside.heap in
    let ks = c.self.inside.keys.items in
    let lt : c.args.key < length ks = key_within ks c.args.key (subst (λ (t : History Content). c.args.key < length t.current.keys) (sym c.self.view_is) c.requires.there) in
    let k = c.index.result.now in
    let has : slice_get ks c.args.key ≡ Some k = slice_get_read ks (length ks) c.args.key k refl lt c.index.ensures in
    let at = c.in-Some.at in
    found_within h ks c.args.key at k (Some c.args.parts.now) c.self.invariant has ((c.place_of.ensures at).0 c.in-Some.is)

pub returns-in-Some : goal.returns-in-Some
returns-in-Some c id =
    let h = c.self.inside.heap in
    let ks = c.self.inside.keys.items in
    let lt : c.args.key < length ks = key_within ks c.args.key (subst (λ (t : History Content). c.args.key < length t.current.keys) (sym c.self.view_is) c.requires.there) in
    let k = c.index.result.now in
    let has : slice_get ks c.args.key ≡ Some k = slice_get_read ks (length ks) c.args.key k refl lt c.index.ensures in
    let at = c.in-Some.at in
    let slot = c.slot.result.now in
    let is : id_at h.current.slots at ≡ Some slot.id = id_read h.current.slots at slot c.slot.ensures.slot in
    let answers : (let o : Option ℕ = Some slot.id in o ≡ option_and_then (id_at h.current.slots) c.place_of.result) = sym (ap (option_and_then (id_at h.current.slots)) c.in-Some.is ∙ is) in
    subst (λ (t : History Content). (let o : Option ℕ = Some slot.id in o ≡ Some id) ↔ (option_and_then (λ (columns : List ℕ). key_at columns id t.current.rows) (slice_get t.current.keys c.args.key) ≡ Some c.args.parts.now)) c.self.view_is
    (found_key h ks c.self.invariant c.args.key k has c.args.parts.now c.place_of.result (Some slot.id) c.place_of.ensures answers (λ p e. c.slot.ensures.order) id)

pub returns-in-None : goal.returns-in-None
returns-in-None c id =
    let h = c.self.inside.heap in
    let ks = c.self.inside.keys.items in
    let lt : c.args.key < length ks = key_within ks c.args.key (subst (λ (t : History Content). c.args.key < length t.current.keys) (sym c.self.view_is) c.requires.there) in
    let k = c.index.result.now in
    let has : slice_get ks c.args.key ≡ Some k = slice_get_read ks (length ks) c.args.key k refl lt c.index.ensures in
    let answers : (let o : Option ℕ = None in o ≡ option_and_then (id_at h.current.slots) c.place_of.result) = sym (ap (option_and_then (id_at h.current.slots)) c.in-None.is) in
    subst (λ (t : History Content). (let o : Option ℕ = None in o ≡ Some id) ↔ (option_and_then (λ (columns : List ℕ). key_at columns id t.current.rows) (slice_get t.current.keys c.args.key) ≡ Some c.args.parts.now)) c.self.view_is
    (found_key h ks c.self.invariant c.args.key k has c.args.parts.now c.place_of.result None c.place_of.ensures answers (λ p e. absurd (let n : (let o : Option ℕ = None in o ≡ Some p) = sym c.in-None.is ∙ e in cc)) id)
