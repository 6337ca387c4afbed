use Rattle.std.proofs.Common.{refl}
use Rattle.luks_keeping.proofs.SameFacts.{any_selected}
use Rattle.luks_keeping.proofs.same_volume.has_header.Goals as goal

pub returns-in-Ok-clause-has : goal.returns-in-Ok-clause-has
returns-in-Ok-clause-has g c = λ tells. (λ q. any_selected (g.T.Device.bytes c.args.device.now) c.in-Ok.field-0 (c.in-Ok.ensures.found tells), λ x. refl)
