use Rattle.std.proofs.Common.{ap, ◌∙◌}
use Rattle.std.specs.Int.{w128, to_le_bytes}
use Rattle.luks_aes.specs.Aes.{Aes}
use Rattle.luks_modes.proofs.VectorFacts.{essiv_iv}
use Rattle.luks_modes.proofs.vectors.Ivs.of_sector.Goals as goal

pub returns-in-Essiv : goal.returns-in-Essiv
returns-in-Essiv c = λ key made.
    c.encrypt.ensures.value
    ∙ ap (Aes c.in-Essiv.key) (c.to_le_bytes-in-Essiv.ensures ∙ ap (to_le_bytes w128) c.from-in-Essiv.ensures)
    ∙ essiv_iv c.args.self.now c.in-Essiv.key key c.args.sector c.ranges.sector.fits c.in-Essiv.is made
