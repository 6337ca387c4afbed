-- The key areas lie in their region, which follows both copies.
use Rattle.std.proofs.Common.{◌≡◌, ℕ, ◌+◌, ◌*◌, ◌-◌, ◌≤◌, codes, Option, Some, None, option_and_then, refl, subst, arith}
use Rattle.serde_json.specs.Data.{Data as Value}
use Rattle.serde_json.specs.Find.{get}
use Rattle.luks_area.specs.declared.area.Area.{Area}
use Rattle.luks_meta.specs.Accepted.{IsContent}
use Rattle.luks_meta.specs.Faults.{object_at}
use Rattle.luks_meta.specs.Reading.{decimal_in}
use Rattle.luks_meta.specs.Sizes.{keyslots_size, region_start}
use Rattle.luks_rules.specs.declared.table.Section.TheVariants.{Keyslots}
use Rattle.luks_rebuilding.proofs.SlotFacts.{no_slot}
use Rattle.luks_rebuilding.specs.KeyAreas.{IsSlotArea}

-- a key area begins behind both copies, and ends in the region
slot_within : (len : ℕ) (j : Value) → IsContent len j → (bytes : ℕ) → keyslots_size j ≡ Some bytes → (n : ℕ) (a : Area) → IsSlotArea j n a
    → (o : Option Value) → object_at j Keyslots n ≡ o → (region_start len ≤ a.start) × (a.start + a.len ≤ region_start len + bytes)
slot_within len j held bytes says n a is None e = absurd (no_slot j n a e is)
slot_within len j held bytes says n a is (Some d) e =
    held.within n d bytes a.start a.len (record { numbered = refl; named = is.0; is = e }) says
    (subst (λ (o : Option Value). decimal_in (option_and_then (get (codes "offset")) (option_and_then (get (codes "area")) o)) ≡ Some a.start) e is.1)
    (subst (λ (o : Option Value). decimal_in (option_and_then (get (codes "size")) (option_and_then (get (codes "area")) o)) ≡ Some a.len) e is.2)

module _ (j : Value) (size : ℕ) (large : 16384 ≤ size) (len : ℕ) (long : len ≡ size - 4096) (held : IsContent len j) (bytes : ℕ) (says : keyslots_size j ≡ Some bytes) where
  within : (n : ℕ) (a : Area) → IsSlotArea j n a → (2 * size ≤ a.start) × (a.start + a.len ≤ 2 * size + bytes)
  within n a is =
      let x = slot_within len j held bytes says n a is (object_at j Keyslots n) refl in
      let low = x.0 in
      let high = x.1 in
      (omega (arith, low, long, large), omega (arith, high, long, large))

  pub behind : (n : ℕ) (a : Area) → IsSlotArea j n a → 2 * size ≤ a.start
  behind n a is = (within n a is).0

  pub ends : (n : ℕ) (a : Area) → IsSlotArea j n a → a.start + a.len ≤ 2 * size + bytes
  ends n a is = (within n a is).1
