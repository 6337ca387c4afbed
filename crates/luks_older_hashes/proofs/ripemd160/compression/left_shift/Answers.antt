use Rattle.luks_older_hashes.proofs.Ripemd160LineFacts.{left_shift_at}
use Rattle.luks_older_hashes.proofs.ripemd160.compression.left_shift.Goals as goal

pub returns : goal.returns
returns c = left_shift_at c.args.j c.requires
