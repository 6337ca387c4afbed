use Rattle.std.proofs.Common.{ℕ, List, get_or, sym, arith, ◌∙◌, subst}
use Rattle.std.proofs.lemmas.Bool.{false≢true}
use Rattle.luks_area.specs.Device.{unchanged-then}
use Rattle.luks2_header.specs.Header2.{IsSound}
use Rattle.luks2_header.proofs.SecondCopyFacts.{among_all, none_left, rising_later, sound_later}
use Rattle.luks_finding.specs.Starts.{volume_at}
use Rattle.luks_finding.proofs.CopyFacts.{none-nearer}
use Rattle.luks_finding.proofs.second_copies.has_nearer_copy.Goals as goal

pub returns-then-nearer-size-clause-nearer : goal.returns-then-nearer-size-clause-nearer
returns-then-nearer-size-clause-nearer g c = λ t. (
  λ f. absurd (false≢true f),
  λ has. absurd (none-nearer _ c.loop-left.left.now c.args.size c.loop-left.invariant.rising (c.loop-left.invariant.left t) (omega arith) has),
)

pub returns-clause-nearer : goal.returns-clause-nearer
returns-clause-nearer g c = λ t. (
  λ f. absurd (false≢true f),
  λ has. absurd (none_left c.loop-left.left.now has.nearer (omega arith) (c.loop-left.invariant.left t has.nearer has.listed has.sound)),
)

pub loop-left-preserved : goal.loop-left-preserved
loop-left-preserved g c = record {
  unchanged = unchanged-then c.loop-left.invariant.unchanged c.in_ok-is_sound.ensures.unchanged;
  count = c.in_ok-is_sound.ensures.count ∙ c.loop-left.invariant.count;
  rising = rising_later c.loop-left.left.now c.loop-left.invariant.rising;
  listed = λ p among. c.loop-left.invariant.listed p (among_all c.loop-left.left.now p among);
  left = λ t p listed sound.
      let S : List ℕ → Type 0 = λ v. IsSound (volume_at v c.args.start) (get_or c.loop-left.left.now 0 0) → ⊥ in
      let judged = c.in_ok-is_sound.ensures.sound t in
      sound_later _ c.loop-left.left.now p (subst S (c.loop-left.invariant.unchanged.same t) (λ is. false≢true (sym c.if-branch.false ∙ judged.1 is)))
      sound (c.loop-left.invariant.left t p listed sound);
}
