use Rattle.std.proofs.Common.{rules, ◌≡◌, ◌≢◌, ◌+◌, ◌++◌, List, ℕ, length, take, drop, get_or, refl, sym, ◌∙◌, ap, arith}
use Rattle.std.specs.Int.{from_be_bytes, to_be_bytes, w64}
use Rattle.pl_base.specs.Image.{file, Image}
use Rattle.pl_frames.specs.Format.{frame_bytes}
use Rattle.pl_frames.proofs.Gate.{closed_read, number, long_read, whole_read}
use Rattle.pl_frames.proofs.frame.next_frame.Goals as goal

pub returns-then-index-ne-OPEN-clause-read : goal.returns-then-index-ne-OPEN-clause-read
returns-then-index-ne-OPEN-clause-read g c told =
    let F = file c.args.area (g.D.Disk.view c.args.disk.now).seen in
    let is = c.in_ok-head.ensures.bytes (c.len.ensures.call.continues.told told) ∙ ap (λ (i : Image). take c.head_size.result (drop c.args.at (file c.args.area i))) (c.len.ensures.images told).seen in
    let shut : get_or c.in_ok-head.head.items 0 0 ≢ 1 = search rules in
    closed_read F c.args.at (c.requires.there told) c.in_ok-head.head.items c.head_size.result c.head_size.ensures.gate is shut

pub returns-then-size-len-clause-cause : goal.returns-then-size-len-clause-cause
returns-then-size-len-clause-cause g c told =
    let F = file c.args.area (g.D.Disk.view c.args.disk.now).seen in
    let is = c.in_ok-head.ensures.bytes (c.len.ensures.call.continues.told told) ∙ ap (λ (i : Image). take c.head_size.result (drop c.args.at (file c.args.area i))) (c.len.ensures.images told).seen in
    let one : get_or c.in_ok-head.head.items 0 0 ≡ 1 = search rules in
    let nine : c.head_size.result ≡ 9 = c.head_size.ensures.whole (omega (arith, c.if-len-at.false)) in
    let tail = number F c.args.at (c.requires.there told) c.in_ok-head.head.items c.head_size.result c.head_size.ensures.gate is c.deref.result.now c.deref.ensures.value nine in (
      refl,
      refl,
      long_read F c.args.at (c.requires.there told) c.in_ok-head.head.items c.head_size.result c.head_size.ensures.gate is c.number_of-size.result one
          (c.number_of-size.ensures.value ∙ ap (λ (l : List ℕ). from_be_bytes w64 l) tail) (omega (arith, c.if-size-len.true, c.in_ok-len.ensures.is told)),
    )

pub returns-clause-read : goal.returns-clause-read
returns-clause-read g c told =
    let F = file c.args.area (g.D.Disk.view c.args.disk.now).seen in
    let mid = c.len.ensures.call.continues.told told in
    let seen2 = (c.read_exact.ensures.looks.images mid).seen ∙ (c.len.ensures.images told).seen in
    let is = c.in_ok-head.ensures.bytes mid ∙ ap (λ (i : Image). take c.head_size.result (drop c.args.at (file c.args.area i))) (c.len.ensures.images told).seen in
    let one : get_or c.in_ok-head.head.items 0 0 ≡ 1 = search rules in
    let nine : c.head_size.result ≡ 9 = c.head_size.ensures.whole (omega (arith, c.if-len-at.false)) in
    let tail = number F c.args.at (c.requires.there told) c.in_ok-head.head.items c.head_size.result c.head_size.ensures.gate is c.deref.result.now c.deref.ensures.value nine in
    let same : c.from_vec.result ≡ c.in_ok-payload.payload.items = c.from_vec.ensures in
    let size : length c.from_vec.result ≡ c.number_of-size.result = ap length same ∙ c.in_ok-payload.ensures.size in
    let payload = same ∙ c.in_ok-payload.ensures.bytes (c.read_exact.ensures.looks.continues.told mid) ∙ ap (λ (i : Image). take c.number_of-size.result (drop (c.args.at + 9) (file c.args.area i))) seen2 ∙ ap (λ (k : ℕ). take k (drop (c.args.at + 9) F)) (sym size) in
    let value : to_be_bytes w64 (length c.from_vec.result) ≡ take 8 (drop (c.args.at + 1) F) = ap (λ (k : ℕ). to_be_bytes w64 k) size ∙ c.number_of-size.ensures.bytes ∙ tail in
    let whole = whole_read F c.args.at (c.requires.there told) c.in_ok-head.head.items c.head_size.result c.head_size.ensures.gate is c.from_vec.result one value payload in
    (whole ∙ ap (λ (k : ℕ). frame_bytes c.from_vec.result ++ drop (c.args.at + 9 + k) F) size, omega (arith, size), omega (arith, c.if-size-len.false, c.if-len-at.false, c.in_ok-len.ensures.is told))
