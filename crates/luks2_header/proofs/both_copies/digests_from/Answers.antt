use Rattle.std.proofs.Common.{◌≡◌, ℕ, ◌+◌, ◌%◌, ◌≤◌, List, ◌++◌, length, take, arith, length-take-le, lit≤, refl, ap, ◌∙◌}
use Rattle.luks_area.specs.Device.{unchanged-same, unchanged-then}
use Rattle.luks_area.specs.Ranges.{part}
use Rattle.luks2_header.specs.Header2.{with_zero_checksum}
use Rattle.sha2.specs.Sha256.{sha256}
use Rattle.luks2_header.proofs.BothCopiesFacts.{held_as, listed_in_blocks}
use Rattle.luks2_header.proofs.CopyFacts.{all_fed, later_fed, listed_at_least}
use Rattle.luks2_header.proofs.both_copies.digests_from.Goals as goal

pub loop-done-init : goal.loop-done-init
loop-done-init g c = record {
  past = lit≤ tt;
  below = listed_at_least c.args.size c.requires.listed;
  whole = refl;
  unchanged = unchanged-same _;
  count = refl;
  fed = c.requires.fed;
}

pub loop-done-preserved : goal.loop-done-preserved
loop-done-preserved g c =
    let blocks : c.args.size % 64 ≡ 0 = listed_in_blocks c.args.size c.requires.listed in
    let until = unchanged-then c.loop-done.invariant.unchanged c.in_ok-read_at.ensures.unchanged in record {
      past = omega (arith, c.loop-done.invariant.past);
      below = omega arith;
      whole = omega (arith, c.loop-done.invariant.whole, blocks);
      unchanged = unchanged-then until c.in_ok-read_at-2.ensures.unchanged;
      count = c.in_ok-read_at-2.ensures.count ∙ c.in_ok-read_at.ensures.count ∙ c.loop-done.invariant.count;
      fed = λ t.
          let v : List ℕ = g.D.Device.bytes c.args.device.now in
          let size = c.args.size in
          let done = c.loop-done.done in
          let len = c.min-len.result in
          let whole : size + size ≤ length v = rw (g.met.D.Device.sized c.args.device.now t) c.requires.within in
          let past : 512 ≤ done = omega (arith, c.loop-done.invariant.past) in
          let first : c.read_at.new.into ≡ part v (0 + done) len =
          c.in_ok-read_at.ensures.read t
          ∙ ap (λ w. part w done (length (take len c.loop-done.first_window))) (c.loop-done.invariant.unchanged.same t)
          ∙ ap (part v done) (length-take-le len c.loop-done.first_window (omega arith))
          ∙ ap (λ n. part v n len) (omega arith) in
          let second : c.read_at-in-loop-done.new.into ≡ part v (size + done) len =
          c.in_ok-read_at-2.ensures.read t
          ∙ ap (λ w. part w (size + done) (length (take len c.loop-done.second_window))) (until.same t)
          ∙ ap (part v (size + done)) (length-take-le len c.loop-done.second_window (omega arith)) in
          held_as _ _ _ _ _
          (ap (λ w. take done (with_zero_checksum (part v 0 size)) ++ w) first ∙ later_fed v 0 size done len past (omega arith) (omega (arith, whole)))
          (ap (λ w. take done (with_zero_checksum (part v size size)) ++ w) second ∙ later_fed v size size done len past (omega arith) whole)
          (c.update.ensures _ _ (c.loop-done.invariant.fed t));
    }

pub returns-clause-first : goal.returns-clause-first
returns-clause-first g c = λ t.
    let v : List ℕ = g.D.Device.bytes c.args.device.now in
    let size = c.args.size in
    let long : 16384 ≤ size = listed_at_least size c.requires.listed in
    let inside : size + size ≤ length v = rw (g.met.D.Device.sized c.args.device.now t) c.requires.within in
    let whole : c.loop-done.done ≡ size = omega arith in
    c.finalize.ensures.first _ _ (c.loop-done.invariant.fed t)
    ∙ ap sha256 {x = take c.loop-done.done (with_zero_checksum (part v 0 size))} (all_fed v 0 size c.loop-done.done (omega arith) whole (omega (arith, inside)))

pub returns-clause-second : goal.returns-clause-second
returns-clause-second g c = λ t.
    let v : List ℕ = g.D.Device.bytes c.args.device.now in
    let size = c.args.size in
    let long : 16384 ≤ size = listed_at_least size c.requires.listed in
    let inside : size + size ≤ length v = rw (g.met.D.Device.sized c.args.device.now t) c.requires.within in
    let whole : c.loop-done.done ≡ size = omega arith in
    c.finalize.ensures.second _ _ (c.loop-done.invariant.fed t)
    ∙ ap sha256 {x = take c.loop-done.done (with_zero_checksum (part v size size))} (all_fed v size size c.loop-done.done (omega arith) whole inside)
