use Rattle.std.proofs.Common.{◌+◌, length, subst}
use Rattle.luks_given.specs.Parts.{IsPlaced}
use Rattle.luks_given.proofs.planned_writes.PlannedWritesDevice.read_at.Goals as goal

pub read_held-requires : goal.read_held-requires
read_held-requires g c =
    let self = c.args.self.now in
    subst (λ rs. IsPlaced rs 0 c.args.at (c.args.at + length c.args.into.now) c.in-Ok.k) self.same c.in-Ok.ensures.there
