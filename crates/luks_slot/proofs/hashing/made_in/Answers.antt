use Rattle.std.proofs.Common.{◌∙◌}
use Rattle.luks_slot.specs.Distance.{digest_of}
use Rattle.luks_slot.proofs.hashing.made_in.Goals as goal

pub returns-clause-value : goal.returns-clause-value
unfolding digest_of
returns-clause-value c =
    let made = rw c.requires.room_length at c.pbkdf2.ensures in
    rw c.requires.hash (c.held.ensures ∙ made)
