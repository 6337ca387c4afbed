-- What was merged, where it meets the digest, is what the keyslot opens to.
use Rattle.std.proofs.Common.{◌≡◌, ◌≤◌, ◌∙◌, List, ℕ, arith, ap, refl, sym, Bool, true, false, Some, None}
use Rattle.std.specs.Prelude.{if◌then◌else◌}
use Rattle.luks_area.specs.declared.area.Area.{Area}
use Rattle.luks_area.specs.Ranges.{part}
use Rattle.luks_area.specs.Sectors.{rounded_to_sectors}
use Rattle.luks_kdf.specs.declared.keyslot_hash.KeyslotHash.{KeyslotHash}
use Rattle.luks_kdf.specs.KeyslotNames.{keyslot_digest, keyslot_digest_size}
use Rattle.luks_kdf.specs.Splitter.{merge}
use Rattle.luks_slot.specs.declared.cipher.AreaKey.{AreaKey}
use Rattle.luks_slot.specs.declared.plan.SlotPlan.{SlotPlan}
use Rattle.luks_slot.specs.Distance.{digest_distance, digest_of, slot_digest, slot_distance}
use Rattle.luks_slot.specs.Opening.{slot_key, candidate, area_bytes, area_key, stripe_bytes, stripes_from, stripes_in, hash_by_name, meets_digest}
use Rattle.luks_slot.proofs.AreaFacts.{stripes_from-shorter}

-- what the stripes hold, by the hash and the key that the plan names, is the candidate
candidate_is : (plan : SlotPlan) (area passphrase : List ℕ) (key : AreaKey) (merged : List ℕ) (hash : KeyslotHash)
    → merged ≡ merge (keyslot_digest hash) (keyslot_digest_size hash) plan.key_bytes plan.stripes (stripes_in plan key area)
    → key ≡ area_key plan passphrase → hash_by_name plan.splitter_hash.now ≡ hash
    → merged ≡ candidate plan area passphrase
unfolding candidate
candidate_is plan area passphrase key merged hash is_merged is_key is_hash =
    let with_key = ap (λ (k : AreaKey). merge (keyslot_digest hash) (keyslot_digest_size hash) plan.key_bytes plan.stripes (stripes_in plan k area)) is_key in
    let with_hash =
    ap (λ (h : KeyslotHash). merge (keyslot_digest h) (keyslot_digest_size h) plan.key_bytes plan.stripes (stripes_in plan (area_key plan passphrase) area))
    (sym is_hash) in
    is_merged ∙ with_key ∙ with_hash

-- the keyslot opens to it where it meets the digest
pub opens_to : (plan : SlotPlan) (area passphrase : List ℕ) (key : AreaKey) (merged : List ℕ) (hash : KeyslotHash)
    → merged ≡ merge (keyslot_digest hash) (keyslot_digest_size hash) plan.key_bytes plan.stripes (stripes_in plan key area)
    → key ≡ area_key plan passphrase → hash_by_name plan.splitter_hash.now ≡ hash
    → (if meets_digest plan.digest merged then Some merged else None) ≡ slot_key plan area passphrase
unfolding slot_key
opens_to plan area passphrase key merged hash is_merged is_key is_hash =
    ap (λ (k : List ℕ). if meets_digest plan.digest k then Some k else None)
    (candidate_is plan area passphrase key merged hash is_merged is_key is_hash)

-- what was read: so many bytes, from the sectors of the stripes in a volume
pub candidate_read : (plan : SlotPlan) (volume passphrase : List ℕ) (key : AreaKey) (merged : List ℕ) (area : Area) (k : ℕ) (hash : KeyslotHash)
    → merged ≡ merge (keyslot_digest hash) (keyslot_digest_size hash) k plan.stripes (stripes_from key (area_bytes volume area) k plan.stripes)
    → k ≡ plan.key_bytes → area.start ≡ plan.area.start → area.len ≡ rounded_to_sectors (stripe_bytes plan) → rounded_to_sectors (stripe_bytes plan) ≤ plan.area.len
    → key ≡ area_key plan passphrase → hash_by_name plan.splitter_hash.now ≡ hash
    → merged ≡ candidate plan (area_bytes volume plan.area) passphrase
unfolding stripes_in
candidate_read plan volume passphrase key merged area k hash is_merged is_size is_start is_len fits =
    let Merged : ℕ → List ℕ → List ℕ =
    λ n bytes. merge (keyslot_digest hash) (keyslot_digest_size hash) n plan.stripes (stripes_from key bytes n plan.stripes) in
    let size = plan.key_bytes in
    candidate_is plan (area_bytes volume plan.area) passphrase key merged hash
    (is_merged
    ∙ ap (λ n. Merged n (area_bytes volume area)) is_size
    ∙ ap (λ start. Merged size (part volume start area.len)) is_start
    ∙ ap (merge (keyslot_digest hash) (keyslot_digest_size hash) size plan.stripes)
    (stripes_from-shorter key volume plan.area.start area.len plan.area.len size plan.stripes (omega (arith, is_len)) (omega (arith, is_len, fits))))

-- the keyslot opens to the candidate where that meets the digest
pub opens_read : (plan : SlotPlan) (area passphrase merged : List ℕ) → merged ≡ candidate plan area passphrase
    → (if meets_digest plan.digest merged then Some merged else None) ≡ slot_key plan area passphrase
unfolding slot_key
opens_read plan area passphrase merged is = ap (λ (k : List ℕ). if meets_digest plan.digest k then Some k else None) is

-- the distance is that of the candidate
pub distance_read : (plan : SlotPlan) (area passphrase merged : List ℕ) → merged ≡ candidate plan area passphrase
    → digest_distance plan.digest merged ≡ slot_distance plan area passphrase
unfolding slot_distance
distance_read plan area passphrase merged is = ap (digest_distance plan.digest) is

-- and the digest is
pub digest_read : (plan : SlotPlan) (area passphrase merged : List ℕ) → merged ≡ candidate plan area passphrase
    → digest_of plan.digest merged ≡ slot_digest plan area passphrase
unfolding slot_digest
digest_read plan area passphrase merged is = ap (digest_of plan.digest) is

-- what is found where a test says so is what was tested
found_if : (test : Bool) (k key : List ℕ) → (if test then Some k else None) ≡ Some key → (test ≡ true) × (k ≡ key)
found_if true k key e = (refl, cc)
found_if false k key e = absurd (cc)

-- a key that is found meets the digest
pub found_meets : (plan : SlotPlan) (area passphrase key : List ℕ) → slot_key plan area passphrase ≡ Some key
    → meets_digest plan.digest key ≡ true
unfolding slot_key
found_meets plan area passphrase key found =
    let key' = candidate plan area passphrase in
    let is = found_if (meets_digest plan.digest key') key' key found in
    ap (meets_digest plan.digest) (sym is.1) ∙ is.0
