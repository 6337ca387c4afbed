use Rattle.luks_keeping.proofs.VolumeFacts.{gives_back}
use Rattle.luks_keeping.proofs.laws.restored_backup_gives_back.Goals as goal

pub returns : goal.returns
returns c v before b old w payload other d x well made put = gives_back v before b old w payload other d x well made put
