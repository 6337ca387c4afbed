use Rattle.std.proofs.Common.{◌∙◌, ap}
use Rattle.luks_aes.specs.Aes as aes
use Rattle.luks_aes.proofs.rounds.inverse_cipher.Goals as goal

pub returns : goal.returns
returns c = λ words are b low.
    c.blocks_of.ensures.each b low ∙ c.inverse_cipher_planes-opened.ensures words are b low ∙ ap (aes.inverse_cipher words c.args.rounds) (c.planes_of-planes.ensures.each b low)
