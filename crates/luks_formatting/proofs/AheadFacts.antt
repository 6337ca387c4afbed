-- A key area that was sealed ahead, alone on a device, and is then written where it belongs.
use Rattle.std.proofs.Common.{◌≡◌, ℕ, zero, suc, ◌+◌, ◌-◌, ◌*◌, ◌≤◌, List, ◌++◌, take, drop, length, arith, refl, sym, ap, subst, ◌∙◌}
use Rattle.luks_area.specs.Ranges.{part, written}
use Rattle.luks_area.proofs.RangeFacts.{part-part, part-written, part-whole}
use Rattle.luks_area.specs.Area.{IsInside}
use Rattle.luks_area.specs.Sectors.{rounded_to_sectors, sector_count}
use Rattle.luks_area.specs.declared.area.Area.{Area}
use Rattle.luks_slot.specs.Opening.{area_bytes, HasIterations, area_key, opened_sector, opened_sectors, stripe_bytes, stripes_from, stripes_in}
use Rattle.luks_slot.specs.Ciphers.{sector_opened}
use Rattle.luks_slot.specs.Sealing.{IsReadyToSeal, IsSealed}
use Rattle.luks_slot.specs.declared.plan.SlotPlan.{SlotPlan}
use Rattle.luks_formatting.specs.Encrypting.{used_bytes}
use Rattle.luks_formatting.specs.NewPlan.{IsSealedAhead}

-- a part of the front of a list is that part of the list
front_part : (a : List ℕ) (n i len : ℕ) → i + len ≤ n → part (part a 0 n) i len ≡ part a i len
front_part a n i len inside = part-part a 0 n i len inside ∙ ap (λ p. part a p len) (omega arith)

-- what the front of an area decrypts to depends on that front alone
same_sectors : (plan : SlotPlan) (p a b : List ℕ) (n : ℕ) → part a 0 (512 * n) ≡ part b 0 (512 * n) → opened_sectors (area_key plan p) a n ≡ opened_sectors (area_key plan p) b n
unfolding opened_sectors opened_sector
same_sectors plan p a b zero same = refl
same_sectors plan p a b (suc n) same =
    let front : part a 0 (512 * n) ≡ part b 0 (512 * n) =
    sym (front_part a (512 * suc n) 0 (512 * n) (omega arith)) ∙ ap (λ v. part v 0 (512 * n)) same ∙ front_part b (512 * suc n) 0 (512 * n) (omega arith) in
    let last : part a (512 * n) 512 ≡ part b (512 * n) 512 =
    sym (front_part a (512 * suc n) (512 * n) 512 (omega arith)) ∙ ap (λ v. part v (512 * n) 512) same ∙ front_part b (512 * suc n) (512 * n) 512 (omega arith) in
    let before = same_sectors plan p a b n front in
    ap (λ rows. rows ++ sector_opened (area_key plan p) n (part a (512 * n) 512)) before ∙ ap (λ sector. opened_sectors (area_key plan p) b n ++ sector_opened (area_key plan p) n sector) last

-- an area whose used sectors are those of a sealed one is sealed
sealed_front : (plan : SlotPlan) (a b passphrase key random : List ℕ)
    → part a 0 (512 * sector_count (stripe_bytes plan)) ≡ part b 0 (512 * sector_count (stripe_bytes plan))
    → IsSealed plan a passphrase key random → IsSealed plan b passphrase key random
unfolding stripes_in stripes_from
sealed_front plan a b passphrase key random same x =
    let rows = same_sectors plan passphrase a b (sector_count (stripe_bytes plan)) same in
    record {
      stripes = ap (λ (r : List ℕ). take (plan.key_bytes * plan.stripes) r) (sym rows) ∙ x.stripes;
      zeros = ap (λ (r : List ℕ). drop (plan.key_bytes * plan.stripes) r) (sym rows) ∙ x.zeros;
    }

-- how much a key of k bytes takes in 4000 stripes
used : (k key_bytes stripes : ℕ) → key_bytes ≡ k → stripes ≡ 4000 → 512 * sector_count (key_bytes * stripes) ≡ used_bytes k
used k key_bytes stripes key count = rw (key, count) (omega arith)

-- the same of whole sectors
pub used_is : (k : ℕ) (plan : SlotPlan) → plan.key_bytes ≡ k → plan.stripes ≡ 4000 → rounded_to_sectors (stripe_bytes plan) ≡ used_bytes k
used_is k plan key count = ap (λ n. rounded_to_sectors (n * plan.stripes)) key ∙ ap (λ s. rounded_to_sectors (k * s)) count

-- a key is ready to be sealed by the plan
pub ready_by : (plan : SlotPlan) (key random : List ℕ) (total : ℕ) → HasIterations plan.derivation → plan.key_bytes ≡ length key → plan.stripes ≡ 4000
    → length random ≡ 3999 * length key → used_bytes (length key) ≤ plan.area.len → IsInside plan.area total → IsReadyToSeal plan key random total
ready_by plan key random total turns size count counted large inside = record {
  iterations = turns;
  key_length = sym size;
  some_stripes = omega (arith, count);
  random_length = counted ∙ sym (ap (λ s. (s - 1) * plan.key_bytes) count ∙ ap (λ n. 3999 * n) size);
  sectors = subst (λ n. n ≤ plan.area.len) (sym (used_is (length key) plan size count)) large;
  within = inside;
}

-- where they are written, the area is sealed
pub written_sealed : (k : ℕ) (plan : SlotPlan) (passphrase key random bytes v w : List ℕ) → plan.key_bytes ≡ k → plan.stripes ≡ 4000 → used_bytes k ≤ plan.area.len
    → plan.area.start + plan.area.len ≤ length v → IsSealedAhead k plan passphrase key random bytes → w ≡ written v plan.area.start bytes
    → IsSealed plan (area_bytes w plan.area) passphrase key random
written_sealed k plan passphrase key random bytes v w key_is stripes_are large inside x is =
    let at = plan.area.start in
    let n : ℕ = used_bytes k in
    let long = x.long in
    let count = used k plan.key_bytes plan.stripes key_is stripes_are in
    let there : part w at n ≡ bytes = ap (λ (u : List ℕ). part u at n) is ∙ ap (λ m. part (written v at bytes) at m) (sym long) ∙ part-written v at bytes (omega (arith, long, large, inside)) in
    let front : part (part w at plan.area.len) 0 n ≡ part w at n = part-part w at plan.area.len 0 n (omega (arith, large)) ∙ ap (λ p. part w p n) (omega arith) in
    let whole : part bytes 0 n ≡ bytes = ap (λ m. part bytes 0 m) (sym long) ∙ part-whole bytes in
    let same : part bytes 0 n ≡ part (area_bytes w plan.area) 0 n = whole ∙ sym there ∙ sym front in
    sealed_front plan bytes (area_bytes w plan.area) passphrase key random (subst (λ m. part bytes 0 m ≡ part (area_bytes w plan.area) 0 m) (sym count) same) x.sealed

-- an area that is alone on a device is sealed as one at its place
pub alone_sealed : (k : ℕ) (plan : SlotPlan) (area : Area) (passphrase key random bytes : List ℕ) → area ≡ record { start = 0; len = used_bytes k } → length bytes ≡ used_bytes k
    → IsSealed (record plan { area = area }) (area_bytes bytes area) passphrase key random → IsSealedAhead k plan passphrase key random bytes
unfolding area_key stripes_in
alone_sealed k plan area passphrase key random bytes alone long x =
    let whole : area_bytes bytes area ≡ bytes = ap (λ (a : Area). part bytes a.start a.len) alone ∙ ap (λ n. part bytes 0 n) (sym long) ∙ part-whole bytes in
    let moved : IsSealed plan (area_bytes bytes area) passphrase key random = record { stripes = x.stripes; zeros = x.zeros } in
    record { long = long; sealed = subst (λ (a : List ℕ). IsSealed plan a passphrase key random) whole moved }
