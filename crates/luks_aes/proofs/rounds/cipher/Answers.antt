use Rattle.std.proofs.Common.{◌∙◌, ap}
use Rattle.luks_aes.specs.Aes as aes
use Rattle.luks_aes.proofs.rounds.cipher.Goals as goal

pub returns : goal.returns
returns c = λ words are b low.
    c.blocks_of.ensures.each b low ∙ c.cipher_planes-sealed.ensures words are b low ∙ ap (aes.cipher words c.args.rounds) (c.planes_of-planes.ensures.each b low)
