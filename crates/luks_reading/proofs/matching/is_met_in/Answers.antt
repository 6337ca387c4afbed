-- What PBKDF2 gives is compared whole.
use Rattle.std.proofs.Common.{◌∙◌, ap, bytes_eq}
use Rattle.luks_slot.specs.Opening.{meets_digest}
use Rattle.luks_reading.proofs.matching.is_met_in.Goals as goal

pub returns : goal.returns
unfolding meets_digest
returns c =
    let made = rw c.requires.room_length at c.pbkdf2.ensures in
    rw c.requires.hash (c.eq.ensures ∙ ap (λ b. bytes_eq b c.args.digest.now.stored.now) made)
