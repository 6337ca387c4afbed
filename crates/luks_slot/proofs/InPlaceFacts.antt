-- A keyslot opens with the digest that its stripes give in the place of the stored one.
use Rattle.std.proofs.Common.{◌≡◌, ◌∙◌, ℕ, List, length, refl, ap, sym, true, None, Some}
use Rattle.std.specs.Prelude.{if◌then◌else◌}
use Rattle.std.proofs.lemmas.Slice.Eq.{bytes_eq-Decides}
use Rattle.luks_slot.specs.declared.plan.SlotPlan.{SlotPlan}
use Rattle.luks_slot.specs.Distance.{digest_distance, digest_of, differing_bits, slot_digest, slot_distance, IsButDigest}
use Rattle.luks_slot.specs.Opening.{area_key, candidate, derived, meets_digest, slot_key, stripes_in}

-- two plans that say the same except for the digest have one candidate
candidate_alike : (plan other : SlotPlan) (area passphrase : List ℕ) → IsButDigest plan other → candidate other area passphrase ≡ candidate plan area passphrase
unfolding candidate area_key stripes_in
candidate_alike plan other area passphrase b =
    rw (b.splitter_hash, b.key_bytes, b.stripes, b.cipher, b.derivation, b.area_key_bytes) refl

-- which meets the digest that it gives
candidate_meets : (plan other : SlotPlan) (area passphrase : List ℕ) → IsButDigest plan other → other.digest.stored.now ≡ slot_digest plan area passphrase
    → meets_digest other.digest (candidate plan area passphrase) ≡ true
unfolding meets_digest slot_digest digest_of
candidate_meets plan other area passphrase b is = (bytes_eq-Decides (derived other.digest.hash.now (candidate plan area passphrase) other.digest.salt.now other.digest.iterations (length other.digest.stored.now)) other.digest.stored.now).1 (rw (b.hash, b.salt, b.iterations, b.long) (sym is))

-- so the keyslot opens to it
pub opens_in_place : (plan other : SlotPlan) (area passphrase : List ℕ) → IsButDigest plan other → other.digest.stored.now ≡ slot_digest plan area passphrase
    → slot_key other area passphrase ≡ Some (candidate plan area passphrase)
unfolding slot_key
opens_in_place plan other area passphrase b is =
    ap (λ (k : List ℕ). if meets_digest other.digest k then Some k else None) (candidate_alike plan other area passphrase b)
    ∙ ap (λ t. if t then Some (candidate plan area passphrase) else None) (candidate_meets plan other area passphrase b is)

-- the distance is that of the digest
pub distance_is : (plan : SlotPlan) (area passphrase : List ℕ)
    → slot_distance plan area passphrase ≡ differing_bits (slot_digest plan area passphrase) plan.digest.stored.now
unfolding slot_distance digest_distance slot_digest digest_of
distance_is plan area passphrase = refl
