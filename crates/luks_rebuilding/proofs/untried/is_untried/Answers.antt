use Rattle.std.proofs.Common.{ℕ, List, subst}
use Rattle.luks_vouching.specs.Vouched.{IsCutShortAt}
use Rattle.luks_rebuilding.proofs.ShareFacts.{one_share}
use Rattle.luks_rebuilding.proofs.untried.is_untried.Goals as goal

pub returns-in-Ok-clause-told : goal.returns-in-Ok-clause-told
returns-in-Ok-clause-told g c = λ t.
    let v : List ℕ = g.D.Device.bytes c.args.source.now in
    let told = c.in-Ok.ensures.told t in (
      λ is. record { asked = c.is_asked.ensures.0 c.if-not-is_asked.false; most = c.args.most; share = c.requires.share t; cut_short = told.0 is },
      λ x. told.1 (subst (λ (m : ℕ). IsCutShortAt m v c.args.place.size c.args.place.at)
          (one_share v c.args.which.effort x.most c.args.most x.share (c.requires.share t)) x.cut_short),
    )
