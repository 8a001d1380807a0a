-- Operations behind the others.
use Rattle.std.proofs.Common.{◌≡◌, ◌⊎◌, ◌<◌, ◌^◌, inl, inr, ⊎_elim, ℕ, ◌+◌, List, [], ◌∷◌, ◌++◌, length, Some, Ok, ◌∙◌, sym, subst, arith, append_assoc, length-append}
use Rattle.std.specs.List.{flat_map}
use Rattle.pl_base.specs.Image.{Image, file, other}
use Rattle.pl_base.specs.declared.operation.Op.{Op}
use Rattle.pl_codec.specs.Reading.{operations_of}
use Rattle.pl_disk.specs.Disk.{View, After, Writes}
use Rattle.pl_disk.specs.Lent.{writes_weaker}
use Rattle.pl_frames.specs.Format.{Frames, frame_bytes, read_all}
use Rattle.pl_frames.specs.Frame.{MayAppend, Appended, EndsAt}
use Rattle.pl_frames.specs.Lent.{frames_read, read_all-push}
use Rattle.pl_keeper.specs.Batches.{Stored, batches, counting, generation_in}
use Rattle.pl_keeper.specs.Store.{Has, IsStore, IsSomeStore, Committing, CommittingPayload, Committed, CommittedPayload, behind}
use Rattle.pl_keeper.specs.declared.head.Head.{Head}
use Rattle.pl_keeper.proofs.Along.{base_behind}
use Rattle.pl_keeper.proofs.Opens.{framed, of_batches, same_generation, same_counting}

module _ (head : Head) where
  -- the same header before other frames, beside the same other area
  record Beside (end : ℕ) (list : List Stored) (c : Image) : Type 0 where
    counts : counting c ≡ Ok (Some head.area)
    generation : generation_in (file head.area c) ≡ Ok (Some head.generation)
    batches : batches c ≡ Ok (record { area = head.area; list = list })

  other_frames : (d c : Image) (end : ℕ) (list list' : List Stored) (is : Has list head d) (payloads : List (List ℕ)) → Frames (file head.area c) is.bytes payloads end → end < 2 ^ 64 + 17 → read_all operations_of 17 payloads ≡ Ok list'
      → file (other head.area) c ≡ file (other head.area) d → Beside end list' c
  other_frames d c end list list' is payloads frames small read same_rest =
      let area = head.area in
      let rest = flat_map frame_bytes payloads ++ frames.gate ∷ frames.rest in
      let old = flat_map frame_bytes is.payloads ++ is.frames.gate ∷ is.frames.rest in
      let some : 0 < length rest = omega (arith, length-append (flat_map frame_bytes payloads) (frames.gate ∷ frames.rest)) in
      let was : 0 < length old = omega (arith, length-append (flat_map frame_bytes is.payloads) (is.frames.gate ∷ is.frames.rest)) in
      let same = same_generation (file area d) (file area c) is.bytes old rest is.frames.header (is.frames.split ∙ append_assoc is.bytes (flat_map frame_bytes is.payloads) (is.frames.gate ∷ is.frames.rest))
      (frames.split ∙ append_assoc is.bytes (flat_map frame_bytes payloads) (frames.gate ∷ frames.rest)) was some in
      let counts = same_counting area d c same same_rest ∙ is.counts in
      record {
        counts = counts;
        generation = same ∙ is.generation;
        batches = framed c area (Ok list') counts (frames_read operations_of (file area c) is.bytes payloads end frames small ∙ read);
      }

  read_so_far : (d : Image) (list : List Stored) (is : Has list head d) → head.end < 2 ^ 63 → read_all operations_of 17 is.payloads ≡ Ok list
  read_so_far d list is small = sym (frames_read operations_of (file head.area d) is.bytes is.payloads head.end is.frames (omega (arith, small))) ∙ of_batches d head.area list is.counts is.batches

  module _ (ops : List Op) (payload : List ℕ) (spelled : operations_of payload ≡ Some ops) (place : head.end < 2 ^ 63) where
    one_more : (d : Image) (list : List Stored) (is : Has list head d) → read_all operations_of 17 (is.payloads ++ payload ∷ []) ≡ Ok (list ++ (head.end, ops) ∷ [])
    one_more d list is = read_all-push operations_of is.payloads payload 17 head.end ops list is.frames.place spelled (read_so_far d list is place)

    more_has : (d c : Image) (end : ℕ) (list : List Stored) (is : Has list head d) → end ≡ head.end + 9 + length payload → end < 2 ^ 64 + 17 → Frames (file head.area c) is.bytes (is.payloads ++ payload ∷ []) end
        → file (other head.area) c ≡ file (other head.area) d → Has (list ++ (head.end, ops) ∷ []) (behind head end) c
    more_has d c end list is is_end fits frames same_rest =
        let beside = other_frames d c end list (list ++ (head.end, ops) ∷ []) is (is.payloads ++ payload ∷ []) frames fits (one_more d list is) same_rest in
        record {
          counts = beside.counts;
          generation = beside.generation;
          batches = beside.batches;
          bytes = is.bytes;
          payloads = is.payloads ++ payload ∷ [];
          frames = frames;
          base = base_behind head is.payloads payload end is.frames.place is.base is_end;
        }

    either : (a : View) (c : Image) (list : List Stored) → length payload < 2 ^ 63 → After (MayAppend head.area head.end payload) a.may_leave c → IsStore a head list
        → (batches c ≡ Ok (record { area = head.area; list = list })) ⊎ (batches c ≡ Ok (record { area = head.area; list = list ++ (head.end, ops) ∷ [] }))
    either a c list fits after store =
        let was = subst (λ (i : Image). Has list head i) (sym (store.settled after.0 after.1)) store.has in
        ⊎_elim
        (λ same. inl (other_frames after.0 c head.end list list was was.payloads same (omega (arith, place)) (read_so_far after.0 list was place) after.2.rest).batches)
        (λ more. inr (other_frames after.0 c (head.end + 9 + length payload) list (list ++ (head.end, ops) ∷ []) was (was.payloads ++ payload ∷ []) more (omega (arith, place, fits)) (one_more after.0 list was) after.2.rest).batches)
        (after.2.frames was.bytes was.payloads was.frames)

    committing : (a : View) → length payload < 2 ^ 63 → (c : Image) → After (MayAppend head.area head.end payload) a.may_leave c → Committing a head ops c
    committing a fits c is = record {
      batches = λ list store. either a c list fits is store;
      rest = (is.0, is.1, is.2.rest);
    }

    all_committed : (old new : View) (end : ℕ) → end ≡ head.end + 9 + length payload → end < 2 ^ 63 → Appended head.area head.end payload end old new → Committed old new head (behind head end) ops
    all_committed old new end is_end fits appended list store =
        let was = store.has in
        record {
          settled = appended.durable;
          has = more_has old.seen new.seen end list was is_end (omega (arith, fits)) (appended.joined.frames was.bytes was.payloads was.frames) appended.joined.rest;
        }

  -- an append, whatever operations its payload spells
  pub commit_run : (payload : List ℕ) (a b : View) → head.end < 2 ^ 63 → length payload < 2 ^ 63 → Writes a b (After (MayAppend head.area head.end payload) a.may_leave) → Writes a b (CommittingPayload a head payload)
  commit_run payload a b place fits run =
      writes_weaker a b _ (CommittingPayload a head payload) run (λ told c is ops spelled. committing ops payload spelled place a fits c is)

  pub all_done : (payload : List ℕ) (old new : View) (end : ℕ) → head.end < 2 ^ 63 → end ≡ head.end + 9 + length payload → end < 2 ^ 63 → Appended head.area head.end payload end old new → CommittedPayload old new head (behind head end) payload
  all_done payload old new end place is_end fits appended ops spelled = all_committed ops payload spelled place old new end is_end fits appended

pub ends : (v : View) (head : Head) → IsSomeStore v head → EndsAt head.area head.end v.may_leave
ends v head store c left =
    let it = store.1.has in
    (it.bytes, it.payloads, subst (λ (i : Image). Frames (file head.area i) it.bytes it.payloads head.end) (sym (store.1.settled c left)) it.frames)
