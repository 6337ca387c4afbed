-- What a keyslot's area holds after it was sealed (LUKS1 On-Disk Format 1.2.3, 4.1; LUKS2 On-Disk
-- Format 1.1, 4.3).
use Rattle.std.specs.Prelude.{◌≡◌, ◌≤◌, ℕ, ◌-◌, ◌*◌, List, drop, length, replicate}
use Rattle.luks_area.specs.Area.{IsInside}
use Rattle.luks_area.specs.Sectors.{rounded_to_sectors, sector_count}
use Rattle.luks_kdf.specs.KeyslotNames.{keyslot_digest, keyslot_digest_size}
use Rattle.luks_kdf.specs.Splitter.{split}
use Rattle.luks_slot.specs.declared.plan.SlotPlan.{SlotPlan}
use Rattle.luks_slot.specs.Opening.{hash_by_name, area_key, opened_sectors, stripe_bytes, stripes_in, HasIterations}

-- the stripes that hold the key, all but the last of them random
abbrev pub stripes_of : SlotPlan → List ℕ → List ℕ → List ℕ
stripes_of plan key random =
    split (keyslot_digest (hash_by_name plan.splitter_hash.now))
    (keyslot_digest_size (hash_by_name plan.splitter_hash.now)) key plan.stripes random

-- what sealing demands of its caller: key and random bytes have the lengths that the plan wants, and the area, which lies in a
-- volume of `total` bytes, has room for the sectors of the stripes
pub record IsReadyToSeal (plan : SlotPlan) (key random : List ℕ) (total : ℕ) : Type 0 where
  pub iterations : HasIterations plan.derivation
  pub key_length : length key ≡ plan.key_bytes
  pub some_stripes : 1 ≤ plan.stripes
  pub random_length : length random ≡ (plan.stripes - 1) * plan.key_bytes
  pub sectors : rounded_to_sectors (stripe_bytes plan) ≤ plan.area.len
  pub within : IsInside plan.area total

-- under the passphrase the sectors of the area decrypt to the stripes that hold the key, and then to
-- zeros up to the end of the last sector
pub record IsSealed (plan : SlotPlan) (area passphrase key random : List ℕ) : Type 0 where
  pub stripes : stripes_in plan (area_key plan passphrase) area ≡ stripes_of plan key random
  pub zeros :
      drop (stripe_bytes plan)
      (opened_sectors (area_key plan passphrase) area (sector_count (stripe_bytes plan)))
      ≡ replicate (rounded_to_sectors (stripe_bytes plan) - stripe_bytes plan) 0
