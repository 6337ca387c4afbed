use Rattle.std.proofs.Common.{rules}
use Rattle.luks_commands.proofs.Fronts.{long_of}
use Rattle.luks_commands.proofs.passphrase_file.passphrase.Goals as goal

pub returns-then-as_slice-gt-MOST_BYTES-clause-long : goal.returns-then-as_slice-gt-MOST_BYTES-clause-long
returns-then-as_slice-gt-MOST_BYTES-clause-long g c = λ _. rw c.in-Ok.is (long_of _ _ c.in_ok-bytes.ensures.bytes (search rules))
