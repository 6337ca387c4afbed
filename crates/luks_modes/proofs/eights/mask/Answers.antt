use Rattle.std.proofs.Common.{refl}
use Rattle.luks_modes.proofs.MaskFacts.{mask_is}
use Rattle.luks_modes.proofs.eights.mask.Goals as goal

pub returns : goal.returns
returns c = mask_is c.args.tweak _ _ refl refl
