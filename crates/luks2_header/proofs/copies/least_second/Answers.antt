use Rattle.std.proofs.Common.{List, ℕ, arith, ◌∙◌, subst, get_or}
use Rattle.luks_area.specs.Device.{unchanged-then}
use Rattle.luks2_header.specs.Header2.{IsSound}
use Rattle.luks2_header.specs.SoundCopies.{IsSoundCopy}
use Rattle.luks2_header.proofs.SecondCopyFacts.{among_all, least_copy, none_left, rising_later, sound_later}
use Rattle.luks2_header.proofs.copies.least_second.Goals as goal

pub returns-in-Some-clause-found : goal.returns-in-Some-clause-found
returns-in-Some-clause-found g c = λ t.
    let J : List ℕ → Type 0 = λ v. IsSoundCopy v (get_or c.loop-left.left.now 0 0) c.in-Some.header in
    let copy = rw c.in-Some.is at c.in_ok-header.ensures.judged t in
    least_copy _ c.loop-left.left.now c.in-Some.header c.in-len1-up.len_at_least c.loop-left.invariant.rising
    c.loop-left.invariant.listed (c.loop-left.invariant.left t) (subst J (c.loop-left.invariant.unchanged.same t) copy)

pub returns-clause-found : goal.returns-clause-found
returns-clause-found g c = λ t p listed sound. none_left c.loop-left.left.now p (omega arith) (c.loop-left.invariant.left t p listed sound)

pub loop-left-preserved : goal.loop-left-preserved
loop-left-preserved g c = record {
  unchanged = unchanged-then c.loop-left.invariant.unchanged c.in_ok-header.ensures.unchanged;
  count = c.in_ok-header.ensures.count ∙ c.loop-left.invariant.count;
  rising = rising_later c.loop-left.left.now c.loop-left.invariant.rising;
  listed = λ p among. c.loop-left.invariant.listed p (among_all c.loop-left.left.now p among);
  left = λ t p listed sound.
      let S : List ℕ → Type 0 = λ v. IsSound v (get_or c.loop-left.left.now 0 0) → ⊥ in
      let unsound = rw c.in-None.is at c.in_ok-header.ensures.judged t in
      sound_later _ c.loop-left.left.now p (subst S (c.loop-left.invariant.unchanged.same t) unsound) sound (c.loop-left.invariant.left t p listed sound);
}
