use Rattle.std.proofs.lemmas.List.{length-replicate, take-replicate}
use Rattle.std.proofs.Common.{◌∙◌, ap, length}
use Rattle.luks_kdf.specs.Splitter.{mixed}
use Rattle.luks_kdf.proofs.running_block.RunningBlock.new.Goals as goal

pub returns : goal.returns
unfolding mixed
returns g c =
    let zeros = take-replicate c.args.len 128 0 c.requires in
    record { zeros = zeros; len = ap length zeros ∙ length-replicate c.args.len 0; first = λ stripes. zeros }
