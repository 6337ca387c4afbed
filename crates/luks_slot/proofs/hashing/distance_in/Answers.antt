use Rattle.std.proofs.Common.{◌≡◌, ◌∙◌, ap, sym, length, bytes_eq, count_ones, sum_by}
use Rattle.luks_slot.specs.Distance.{differing_bits, digest_distance}
use Rattle.luks_slot.specs.Opening.{meets_digest}
use Rattle.luks_slot.proofs.DistanceFacts.{met_bits, unmet_bits}
use Rattle.luks_slot.proofs.hashing.distance_in.Goals as goal

pub returns-clause-value : goal.returns-clause-value
unfolding digest_distance differing_bits
returns-clause-value c =
    let digest = c.args.digest.now in
    let made = rw c.requires.room_length at c.pbkdf2.ensures in
    let bits = c.bits_set.ensures ∙ ap (sum_by count_ones) c.xor_into.ensures in
    rw c.requires.hash (bits ∙ ap (λ b. differing_bits b digest.stored.now) made)

pub returns-clause-met : goal.returns-clause-met
unfolding meets_digest differing_bits
returns-clause-met c none =
    let digest = c.args.digest.now in
    let made = rw c.requires.room_length at c.pbkdf2.ensures in
    let long : length c.pbkdf2.new.out ≡ length digest.stored.now = c.pbkdf2.auto.out ∙ c.requires.room_length in
    let bits : c.bits_set.result ≡ differing_bits c.pbkdf2.new.out digest.stored.now =
    c.bits_set.ensures ∙ ap (sum_by count_ones) c.xor_into.ensures in
    rw c.requires.hash (ap (λ b. bytes_eq b digest.stored.now) (sym made) ∙ met_bits c.pbkdf2.new.out digest.stored.now long (sym bits ∙ none))

pub returns-clause-unmet : goal.returns-clause-unmet
unfolding meets_digest differing_bits
returns-clause-unmet c some =
    let digest = c.args.digest.now in
    let made = rw c.requires.room_length at c.pbkdf2.ensures in
    let bits : c.bits_set.result ≡ differing_bits c.pbkdf2.new.out digest.stored.now =
    c.bits_set.ensures ∙ ap (sum_by count_ones) c.xor_into.ensures in
    rw c.requires.hash
    (ap (λ b. bytes_eq b digest.stored.now) (sym made) ∙ unmet_bits c.pbkdf2.new.out digest.stored.now (λ none. some (bits ∙ none)))
