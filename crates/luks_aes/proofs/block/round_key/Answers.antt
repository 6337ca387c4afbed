use Rattle.std.proofs.Common.{◌+◌, ◌-◌, ◌*◌, drop, arith}
use Rattle.std.proofs.lemmas.List.{take-take}
use Rattle.luks_aes.specs.Aes as aes
use Rattle.luks_aes.proofs.block.round_key.Goals as goal

pub returns : goal.returns
unfolding aes.round_key
returns c = take-take 16 (16 * c.args.i + 16 - 16 * c.args.i) (drop (16 * c.args.i) c.args.words.now) (omega arith)
