use Rattle.std.proofs.Common.{◌∙◌, ap}
use Rattle.luks_slot.specs.Distance.{digest_of}
use Rattle.luks_slot.specs.Opening.{area_bytes}
use Rattle.luks_slot.proofs.OpeningFacts.{digest_read}
use Rattle.luks_slot.proofs.opening.digest_within.Goals as goal

pub returns-clause-value : goal.returns-clause-value
returns-clause-value g c tells =
    let plan = c.args.plan.now in
    let v = g.D.Device.bytes c.args.device.now in
    c.made_digest.ensures.value
    ∙ digest_read plan (area_bytes v plan.area) c.args.passphrase.now c.candidate_within.new.out (c.in_ok-hash.ensures.value tells)
