-- The two steps of an `append`, on whole images.
use Rattle.std.proofs.Common.{inl, ℕ, ◌+◌, List, [], ◌∷◌, length, ◌∙◌, subst}
use Rattle.pl_base.specs.Image.{Image, file}
use Rattle.pl_base.specs.declared.area.Area.{Area}
use Rattle.pl_frames.specs.Format.{body_bytes}
use Rattle.pl_disk.specs.Disk.{View, TornAt, Written, After, Only, IsLawful, Writes}
use Rattle.pl_disk.specs.Lent.{writes_weaker, writes_on}
use Rattle.pl_frames.specs.Frame.{MayAppend, Joined}
use Rattle.pl_frames.proofs.Crash.{torn_body, written_body, torn_gate, written_gate}

module _ (area : Area) (at : ℕ) (payload : List ℕ) where
  pub first_step : (old : Image → Type 0) (n : ℕ) (c : Image) → After (TornAt area (at + 1) n) old c → After (MayAppend area at payload) old c
  first_step old n c after = (
    after.0,
    after.1,
    record {
      rest = after.2.rest;
      frames = λ head list was. inl (torn_body (file area after.0) (file area c) head list at n was after.2.torn);
    },
  )

  pub second_step : (first mid c : Image) (left : Image → Type 0) → Written area (at + 1) (body_bytes payload) first mid → Only mid left → After (TornAt area at 1) left c → MayAppend area at payload first c
  second_step first mid c left written only after =
      let torn = subst (λ d. TornAt area at 1 d c) (only after.0 after.1) after.2 in
      record {
        rest = torn.rest ∙ written.rest;
        frames = λ head list was. torn_gate (file area mid) (file area c) head list at payload (written_body (file area first) (file area mid) head list at payload was written.holds) torn.torn;
      }

  pub done : (first mid last : Image) → Written area (at + 1) (body_bytes payload) first mid → Written area at (1 ∷ []) mid last → Joined area at payload (at + 9 + length payload) first last
  done first mid last body gate = record {
    rest = gate.rest ∙ body.rest;
    frames = λ head list was. written_gate (file area mid) (file area last) head list at payload (written_body (file area first) (file area mid) head list at payload was body.holds) gate.holds;
  }

  abbrev pub Step : View → Image → Type 0
  Step v = After (MayAppend area at payload) v.may_leave

  pub first_run : (a b : View) (n : ℕ) → Writes a b (After (TornAt area (at + 1) n) a.may_leave) → Writes a b (Step a)
  first_run a b n run = writes_weaker a b _ (Step a) run (λ told c is. first_step a.may_leave n c is)

  pub both_runs : (a b d : View) (n : ℕ) → (a.told → IsLawful a) → Writes a b (After (TornAt area (at + 1) n) a.may_leave) → Writes b d (After (TornAt area at 1) b.may_leave)
      → (a.told → Written area (at + 1) (body_bytes payload) a.seen b.seen) → (a.told → Only b.seen b.may_leave) → Writes a d (Step a)
  both_runs a b d n lawful first second written only =
      writes_on a b d _ _ (Step a) first second (λ told c is. first_step a.may_leave n c is)
      (λ told c is. (a.seen, (lawful told).reads, second_step a.seen b.seen c b.may_leave (written told) (only told) is))
