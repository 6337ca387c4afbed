use Rattle.std.proofs.Common.{◌≡◌, ℕ, ◌+◌, ◌≤◌, List, ◌++◌, length, take, arith, length-take-le, lit≤, refl, ap, ◌∙◌, subst}
use Rattle.luks_area.specs.Device.{unchanged-same, unchanged-then}
use Rattle.luks_area.specs.Ranges.{part}
use Rattle.luks2_header.specs.Header2.{header_at, with_zero_checksum}
use Rattle.sha2.specs.Hashers.{Holds256}
use Rattle.sha2.specs.Sha256.{sha256}
use Rattle.luks2_header.proofs.CopyFacts.{all_fed, first_fed, later_fed, listed_at_least}
use Rattle.luks_finding.proofs.second_copies.digest_of_copy.Goals as goal

pub loop-done-init : goal.loop-done-init
loop-done-init g c =
    let long : 16384 ≤ c.args.size = listed_at_least c.args.size c.requires.listed in
    record {
      past = lit≤ tt;
      below = omega (arith, long);
      unchanged = unchanged-same _;
      count = refl;
      fed = λ t.
          let P : List ℕ → Type 0 = λ m. Holds256 c.digest_of_header-hasher.result m in
          let v : List ℕ = g.D.Device.bytes c.args.device.now in
          subst P (ap with_zero_checksum {x = c.args.head.now} {y = header_at v c.args.at} (c.requires.head t)
          ∙ first_fed v c.args.at c.args.size (omega (arith, long)) (rw (g.met.D.Device.sized c.args.device.now t) c.requires.within))
          c.digest_of_header-hasher.ensures;
    }

pub loop-done-preserved : goal.loop-done-preserved
loop-done-preserved g c = record {
  past = omega (arith, c.loop-done.invariant.past);
  below = omega arith;
  unchanged = unchanged-then c.loop-done.invariant.unchanged c.in_ok-read_at.ensures.unchanged;
  count = c.in_ok-read_at.ensures.count ∙ c.loop-done.invariant.count;
  fed = λ t.
      let P : List ℕ → Type 0 = λ m. Holds256 c.update.new.self m in
      let v : List ℕ = g.D.Device.bytes c.args.device.now in
      let read : c.read_at.new.into ≡ part v (c.args.at + c.loop-done.done) c.min-len.result =
      c.in_ok-read_at.ensures.read t
      ∙ ap (λ w. part w (c.args.at + c.loop-done.done) (length (take c.min-len.result c.loop-done.window))) (c.loop-done.invariant.unchanged.same t)
      ∙ ap (part v (c.args.at + c.loop-done.done)) (length-take-le c.min-len.result c.loop-done.window (omega arith)) in
      let held : List ℕ = take c.loop-done.done (with_zero_checksum (part v c.args.at c.args.size)) in
      subst P (ap (λ w. held ++ w) read
      ∙ later_fed v c.args.at c.args.size c.loop-done.done c.min-len.result (omega (arith, c.loop-done.invariant.past)) (omega arith)
      (rw (g.met.D.Device.sized c.args.device.now t) c.requires.within))
      (c.update.ensures held (c.loop-done.invariant.fed t));
}

pub returns-clause-digest : goal.returns-clause-digest
returns-clause-digest g c = λ t.
    let long : 16384 ≤ c.args.size = listed_at_least c.args.size c.requires.listed in
    let whole : c.loop-done.done ≡ c.args.size = omega arith in
    let held : List ℕ = take c.loop-done.done (with_zero_checksum (part (g.D.Device.bytes c.args.device.now) c.args.at c.args.size)) in
    c.finalize.ensures held (c.loop-done.invariant.fed t)
    ∙ ap sha256 {x = held} (all_fed (g.D.Device.bytes c.args.device.now) c.args.at c.args.size c.loop-done.done (omega arith) whole (rw (g.met.D.Device.sized c.args.device.now t) c.requires.within))
