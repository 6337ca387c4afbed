use Rattle.luks_aes.proofs.LinearFacts.{sum_block}
use Rattle.luks_aes.proofs.rounds.key_added.Goals as goal

pub returns : goal.returns
returns c = λ b low. sum_block c.args.s c.args.key c.added.result b (λ k h. c.added.ensures.bytes k b h)
