use Rattle.luks_older_hashes.proofs.Ripemd160LineFacts.{right_shift_at}
use Rattle.luks_older_hashes.proofs.ripemd160.compression.right_shift.Goals as goal

pub returns : goal.returns
returns c = right_shift_at c.args.j c.requires
