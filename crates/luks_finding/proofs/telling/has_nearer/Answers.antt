use Rattle.std.proofs.Common.{◌≡◌, ℕ, ◌*◌, List, inl, inr, sym, ◌∙◌, subst}
use Rattle.std.proofs.lemmas.Bool.{false≢true}
use Rattle.std.proofs.lemmas.Result.{IfOk-weaker}
use Rattle.luks_finding.specs.Starts.{volume_at}
use Rattle.luks_finding.specs.Telling.{HasNearerCopy, HasNearerMetadata}
use Rattle.luks_finding.proofs.telling.has_nearer.Goals as goal

pub returns-clause-nearer : goal.returns-clause-nearer
returns-clause-nearer g c = λ t.
    let s : ℕ = 512 * c.args.start in
    let before : g.D.Device.bytes c.begins_volume.new.device ≡ g.D.Device.bytes c.args.device.now = c.in_ok-begins_volume.ensures.unchanged.same t in
    let same : g.D.Device.bytes c.has_nearer_copy.new.device ≡ g.D.Device.bytes c.args.device.now = c.in_ok-has_nearer_copy.ensures.unchanged.same t ∙ before in
    let M : List ℕ → Type 0 = λ w. HasNearerMetadata w s c.args.size in
    let C : List ℕ → Type 0 = λ w. HasNearerCopy (volume_at w s) c.args.size in
    let header = c.in_ok-begins_volume.ensures.begins t in
    let copy = c.in_ok-has_nearer_copy.ensures.nearer t in
    IfOk-weaker c.has_nearer_metadata.result _ _ (λ has so. (
      λ yes. inr (inr (subst M same (so.0 yes))),
      λ nearer. elim nearer [
        | inl begins ↦ absurd (false≢true (sym c.if-branch.false ∙ header.1 begins))
        | inr other ↦ elim other [
          | inl is ↦ absurd (false≢true (sym c.if-branch-2.false ∙ copy.1 (subst C (sym before) is)))
          | inr metadata ↦ so.1 (subst M (sym same) metadata)
        ]
      ],
    )) (c.has_nearer_metadata.ensures.has t)
