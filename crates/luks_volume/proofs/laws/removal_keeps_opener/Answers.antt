use Rattle.luks_volume.proofs.EditFacts.{opener_kept}
use Rattle.luks_volume.proofs.laws.removal_keeps_opener.Goals as goal

pub returns : goal.returns
returns c = λ payload v w e removed by_ random done is named well replies. opener_kept v payload e removed by_ is named w random done well replies
