use Rattle.std.proofs.Common.{ℕ, ◌*◌, List, get_or, sym, ◌∙◌, subst}
use Rattle.std.proofs.lemmas.Bool.{false≢true}
use Rattle.luks_area.specs.Device.{unchanged-then}
use Rattle.luks2_header.proofs.SecondCopyFacts.{among_all}
use Rattle.luks_finding.specs.Starts.{volume_at, IsWholeCopy}
use Rattle.luks_finding.specs.Telling.{first_copy, IsWholeAt}
use Rattle.luks_finding.proofs.SizeFacts.{among-later}
use Rattle.luks_finding.proofs.metadata_signs.whole_size.Goals as goal

pub returns-then-branch-clause-found : goal.returns-then-branch-clause-found
returns-then-branch-clause-found g c = λ t.
    let W : List ℕ → Type 0 = λ w. IsWholeCopy (volume_at w (512 * c.args.header)) (first_copy (get_or c.loop-left.left.now 0 0)) in
    let whole = c.in_ok-is_whole.ensures.whole t in
    record { whole = subst W (c.loop-left.invariant.unchanged.same t) (whole.0 c.if-branch.true) }

pub loop-left-preserved : goal.loop-left-preserved
loop-left-preserved g c = record {
  unchanged = unchanged-then c.loop-left.invariant.unchanged c.in_ok-is_whole.ensures.unchanged;
  count = c.in_ok-is_whole.ensures.count ∙ c.loop-left.invariant.count;
  listed = λ p among. c.loop-left.invariant.listed p (among_all c.loop-left.left.now p among);
  left = λ t p is.
      let v : List ℕ = g.D.Device.bytes c.args.device.now in
      let W : List ℕ → Type 0 = λ w. IsWholeCopy (volume_at w (512 * c.args.header)) (first_copy (get_or c.loop-left.left.now 0 0)) in
      let whole = c.in_ok-is_whole.ensures.whole t in
      among-later (IsWholeAt v (512 * c.args.header)) c.loop-left.left.now p
      (λ first. false≢true (sym c.if-branch.false ∙ whole.1 (subst W (sym (c.loop-left.invariant.unchanged.same t)) first.whole)))
      is (c.loop-left.invariant.left t p is);
}
