use Rattle.std.proofs.Common.{ℕ, List, IfOk, IsTrue, ◌↔◌, subst}
use Rattle.luks_area.specs.Ranges.{part}
use Rattle.luks_commands.specs.Reencrypting.{FindsMetadata, IsReencryptingArea}
use Rattle.luks_commands.proofs.ReencryptionFacts.{at_by, no_area, untold_by}
use Rattle.luks_commands.proofs.reencrypting.is_reencrypting_luks2.Goals as goal

pub returns-in-Some-clause-is : goal.returns-in-Some-clause-is
returns-in-Some-clause-is g c = λ tells.
    let v : List ℕ = g.D.Device.bytes c.args.device.now in
    at_by v (part v c.in-Some.place.start c.in-Some.place.len) (subst (FindsMetadata v) c.in-Some.is (c.in_ok-place.ensures.place tells))
    c.is_reencrypting_at.result
    (subst (λ (w : List ℕ). IfOk c.is_reencrypting_at.result (λ b. IsTrue b ↔ IsReencryptingArea (part w c.in-Some.place.start c.in-Some.place.len)))
    (c.in_ok-place.ensures.unchanged.same tells) (c.is_reencrypting_at.ensures.is tells))

pub returns-in-Some-clause-fault : goal.returns-in-Some-clause-fault
returns-in-Some-clause-fault g c =
    let v : List ℕ = g.D.Device.bytes c.args.device.now in
    untold_by g.D.Device.tells v (part v c.in-Some.place.start c.in-Some.place.len) (λ tells. subst (FindsMetadata v) c.in-Some.is (c.in_ok-place.ensures.place tells))
    c.is_reencrypting_at.result c.is_reencrypting_at.ensures.kinds

pub returns-in-None-clause-is : goal.returns-in-None-clause-is
returns-in-None-clause-is g c = λ tells.
    let v : List ℕ = g.D.Device.bytes c.args.device.now in
    no_area v (subst (FindsMetadata v) c.in-None.is (c.in_ok-place.ensures.place tells))
