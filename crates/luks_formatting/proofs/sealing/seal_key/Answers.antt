use Rattle.std.proofs.Common.{ℕ, List, sym, subst}
use Rattle.luks_slot.specs.Sealing.{IsReadyToSeal}
use Rattle.luks_formatting.proofs.AheadFacts.{ready_by}
use Rattle.luks_formatting.proofs.sealing.seal_key.Goals as goal

pub seal_area_within-requires-clause-ready : goal.seal_area_within-requires-clause-ready
seal_area_within-requires-clause-ready g c =
    let within = c.requires.sealable.within in
    subst (λ (k : List ℕ). IsReadyToSeal c.args.plan.now k c.args.random.now (g.D.Device.size c.args.device.now)) (sym c.new.ensures)
    (ready_by c.args.plan.now c.args.key.now c.args.random.now (g.D.Device.size c.args.device.now) within.iterations within.key_bytes within.stripes c.requires.random_length c.requires.large c.requires.within)
