-- Things in turn, over what is kept of a state.
use Rattle.std.proofs.Common.{◌≡◌, ◌<◌, ◌+◌, ◌∙◌, ℕ, List, [], ◌∷◌, Ok, Err, add-one, ap, arith, drop, drop-cons, get_or, length, refl, suc, sym}
use Rattle.pl_altering.specs.Entries.{entries, entry_of}
use Rattle.pl_altering.specs.Settings.{ReadsOver}
use Rattle.pl_altering.specs.declared.command.Command.{Command}
use Rattle.pl_altering.specs.declared.keeping.Entry.{Entry}
use Rattle.pl_base.specs.declared.state.State.{State}
use Rattle.pl_querying.specs.pl_calling.Standing.{Standing, keep}
use Rattle.pl_natural.specs.Kept.{ReadsKept}
use Rattle.pl_query.specs.Rows.{in_turn}
use Rattle.pl_value.specs.Frames.{Row}
use Rattle.pl_value.specs.Reading.{Reading, then_read}
use Rattle.pl_value.specs.declared.operand.Unsettled.{Unsettled}
use Rattle.pl_value.specs.declared.operand.Unsettled.TheVariants.{Fails, Memory}
use Rattle.pl_world.specs.Calls.{Within}

-- a thing that is there stands in front of those behind it
pub front : {A : Type 0} (xs : List A) (i : ℕ) (x : A) → i < length xs → x ≡ get_or xs i x → drop i xs ≡ x ∷ drop (i + 1) xs
front xs i x lt is = rw (add-one, drop-cons xs i x lt, ← is) refl

pub front_entry : (kept : List Entry) (i : ℕ) (e : Entry) → i < length kept → e ≡ get_or kept i e → entries (drop i kept) ≡ entry_of e ∷ entries (drop (i + 1) kept)
front_entry kept i e lt is = ap (λ (es : List Entry). entries es) (front kept i e lt is)

-- nothing is left where none is counted
pub none_left : (kept : List Entry) → length kept ≡ 0 → entries kept ≡ []
none_left [] none = refl
none_left (e ∷ kept) none = absurd (let counts : suc (length kept) ≡ 0 = none in omega (arith, counts))

module _ (command : Command) {A : Type 0} (adds : A → List Row → Within → Reading Within (List Row)) (all : List A) where
  abbrev keeps : Within → Standing
  keeps x = keep command.at command.room x

  abbrev LeftFrom : (left : List A) (rows : List Row) (now : Standing) → Within → Type 0
  LeftFrom left rows now x = (y : Within) × (in_turn adds all [] x ≡ in_turn adds left rows y) × (now ≡ keeps y)

  -- these are left, behind those that gave the rows so far
  abbrev pub Left : (left : List A) (rows : List Row) (begin now : Standing) → Type 0
  Left left rows begin now = (x : Within) → begin ≡ keeps x → LeftFrom left rows now x

  pub all_left : (rows : List Row) (s : Standing) → rows ≡ [] → Left all rows s s
  all_left rows s none x is = (x, ap (λ (rs : List Row). in_turn adds all rs x) (sym none), is)

  module _ (left more : List A) (a : A) (next : left ≡ a ∷ more) (rows : List Row) where
    gone : (rows' : List Row) (new : Standing) (x y : Within) → in_turn adds all [] x ≡ in_turn adds left rows y → ReadsKept {A = List Row} keeps (adds a rows y) (Ok rows') new → LeftFrom more rows' new x
    gone rows' new x y so_far (z, gives, there) =
        (z, so_far ∙ (ap (λ (ys : List A). in_turn adds ys rows y) next ∙ ap (λ (q : Reading Within (List Row)). then_read q (λ done x. in_turn adds more done x)) gives), there)

    went : (rows' : List Row) (mid new : Standing) (x : Within) → LeftFrom left rows mid x → ReadsOver command (λ (x : Within). adds a rows x) (Ok rows') mid new → LeftFrom more rows' new x
    went rows' mid new x (y, so_far, here) turn = gone rows' new x y so_far (turn y here)

    -- one more was done
    pub turn_goes : (rows' : List Row) (begin mid new : Standing) → Left left rows begin mid → ReadsOver command (λ (x : Within). adds a rows x) (Ok rows') mid new → Left more rows' begin new
    turn_goes rows' begin mid new before turn x is = went rows' mid new x (before x is) turn

    failed_so : (state : State) (new : Standing) (x y : Within) → in_turn adds all [] x ≡ in_turn adds left rows y → ReadsKept {A = List Row} keeps (adds a rows y) (Err (Fails state)) new → ReadsKept {A = List Row} keeps (in_turn adds all [] x) (Err (Fails state)) new
    failed_so state new x y so_far (z, gives, there) =
        (z, so_far ∙ (ap (λ (ys : List A). in_turn adds ys rows y) next ∙ ap (λ (q : Reading Within (List Row)). then_read q (λ done x. in_turn adds more done x)) gives), there)

    failed : (state : State) (mid new : Standing) (x : Within) → LeftFrom left rows mid x → ReadsOver {A = List Row} command (λ (x : Within). adds a rows x) (Err (Fails state)) mid new → ReadsKept {A = List Row} keeps (in_turn adds all [] x) (Err (Fails state)) new
    failed state mid new x (y, so_far, here) turn = failed_so state new x y so_far (turn y here)

    -- one failed
    pub turn_stops : (why : Unsettled) (begin mid new : Standing) → Left left rows begin mid → ReadsOver {A = List Row} command (λ (x : Within). adds a rows x) (Err why) mid new → ReadsOver {A = List Row} command (λ (x : Within). in_turn adds all [] x) (Err why) begin new
    turn_stops (Fails state) begin mid new before turn x is = failed state mid new x (before x is) turn
    turn_stops Memory begin mid new before turn x is = tt

  ended : (left : List A) (rows : List Row) (now : Standing) (x : Within) → left ≡ [] → LeftFrom left rows now x → ReadsKept {A = List Row} keeps (in_turn adds all [] x) (Ok rows) now
  ended left rows now x none (y, so_far, here) = (y, so_far ∙ ap (λ (ys : List A). in_turn adds ys rows y) none, here)

  -- all were done
  pub turn_ends : (left : List A) (rows : List Row) (begin now : Standing) → left ≡ [] → Left left rows begin now → ReadsOver command (λ (x : Within). in_turn adds all [] x) (Ok rows) begin now
  turn_ends left rows begin now none before x is = ended left rows now x none (before x is)
