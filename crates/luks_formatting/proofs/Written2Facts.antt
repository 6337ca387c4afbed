-- What the steps of formatting by LUKS2 leave: both copies of the header of a new volume, and its key area.
use Rattle.std.proofs.Common.{◌≡◌, ◌≤◌, ◌*◌, ℕ, List, Option, inl, inr, arith, lit≤, sym, ap, ◌∙◌, subst}
use Rattle.luks_area.specs.Ranges.{part, IsAt, SameBut}
use Rattle.luks_area.proofs.RangeFacts.{part-same_but_at, same_but-then, same_but-wider}
use Rattle.luks_area.specs.declared.area.Area.{Area}
use Rattle.luks_writing.specs.Cleared.{IsOfFirstSectors}
use Rattle.luks_writing.specs.MadeInOrder.{WritesInTurn}
use Rattle.luks_writing.proofs.MadeInOrderFacts.{clearing_widens, sectors_inside}
use Rattle.luks_making.specs.WrittenArea.{IsWrittenArea}
use Rattle.luks_slot.specs.Opening.{area_bytes}
use Rattle.luks_slot.specs.Sealing.{IsSealed}
use Rattle.luks_slot.specs.declared.plan.SlotPlan.{SlotPlan}
use Rattle.luks_reading.specs.Plans.{HasLuks2Plan}
use Rattle.luks_reading.specs.declared.format.Format.{Format}
use Rattle.luks_formatting.specs.Formatted2.{HasAllButFirst2As, HasKeyArea2As, HasNewCopy, IsFormatted2As, IsOfLuks2}
use Rattle.luks_formatting.specs.NewHeader2.{area2, new_metadata}
use Rattle.luks_making.specs.declared.derivation.NewDerivation.{NewDerivation}
use Rattle.luks_formatting.specs.NewPlan.{HoldsKey}
use Rattle.luks_formatting.specs.RandomBytes.{first_copy_salt, random_stripes, second_copy_salt, slot_place2}
use Rattle.luks_formatting.specs.Encrypting.{used_bytes}
use Rattle.luks_formatting.proofs.EncryptingFacts.{used_most}
use Rattle.luks_formatting.specs.Given.{key_of, IsBefore}
use Rattle.luks_formatting.specs.declared.given.Given.{Given}
use Rattle.luks_formatting.proofs.NewHeader2Facts.{copy_stays}

-- the key area alone
pub sealed_rest : {u v : List ℕ} (k : ℕ) (area : Area) → area ≡ area2 k → SameBut (IsAt area.start (used_bytes k)) u v → SameBut (IsOfLuks2 k) u v
sealed_rest {u} {v} k area is same =
    let first : SameBut (IsAt 32768 (used_bytes k)) u v = subst (λ (a : Area). SameBut (IsAt a.start (used_bytes k)) u v) is same in
    same_but-wider (λ p at. inr at) first

-- the second copy
second_inside : (p : ℕ) → IsAt 16384 16384 p → IsAt 0 32768 p
second_inside p at = (let low = at.0 in omega (arith, low), let high = at.1 in omega (arith, high))

first_inside : (p : ℕ) → IsAt 0 16384 p → IsAt 0 32768 p
first_inside p at = (let low = at.0 in omega (arith, low), let high = at.1 in omega (arith, high))

pub second_rest : {u v w : List ℕ} (k : ℕ) (area : Area) → area ≡ area2 k → SameBut (IsAt area.start (used_bytes k)) u v → SameBut (IsAt 16384 16384) v w → SameBut (IsOfLuks2 k) u w
second_rest k area is same second = same_but-then (sealed_rest k area is same) (same_but-wider (λ p at. inl (second_inside p at)) second)

-- and the first
pub all_rest : {u v w x : List ℕ} (k : ℕ) (area : Area) → area ≡ area2 k → SameBut (IsAt area.start (used_bytes k)) u v → SameBut (IsAt 16384 16384) v w → SameBut (IsAt 0 16384) w x → SameBut (IsOfLuks2 k) u x
all_rest k area is same second first = same_but-then (second_rest k area is same second) (same_but-wider (λ p at. inl (first_inside p at)) first)

-- ---- what stands after each step

-- the places of both copies lie before the key area
pub copies_wait : {u v : List ℕ} (k : ℕ) (area : Area) → area ≡ area2 k → SameBut (IsAt area.start (used_bytes k)) u v → part v 0 32768 ≡ part u 0 32768
copies_wait k area is same = (let start = ap (λ (a : Area). a.start) is in part-same_but_at area.start (used_bytes k) 0 32768 same (inl (omega (arith, start))))

module _ (given : Given) (format : Format) (chosen : Option NewDerivation) (passphrase random v json key stripes : List ℕ) (plan : SlotPlan)
    (metadata : IsWrittenArea 12288 (new_metadata given format chosen random) json) (has_plan : HasLuks2Plan json 0 plan) (area : plan.area ≡ area2 given.key_bytes)
    (is_key : key ≡ key_of given random) (are_stripes : stripes ≡ random_stripes given.key_bytes (slot_place2 given.key_bytes) random) (sealed : IsSealed plan (area_bytes v plan.area) passphrase key stripes) where
  -- the keyslot of each volume whose key area is the sealed one
  slot_in : (y : List ℕ) → area_bytes y plan.area ≡ area_bytes v plan.area → HoldsKey (HasLuks2Plan json 0) y passphrase (key_of given random) (random_stripes given.key_bytes (slot_place2 given.key_bytes) random)
  slot_in y kept = record {
    plan = plan;
    is = has_plan;
    sealed = subst (λ (k : List ℕ). IsSealed plan (area_bytes y plan.area) passphrase k (random_stripes given.key_bytes (slot_place2 given.key_bytes) random)) is_key
        (subst (λ (r : List ℕ). IsSealed plan (area_bytes y plan.area) passphrase key r) are_stripes
        (subst (λ (a : List ℕ). IsSealed plan a passphrase key stripes) (sym kept) sealed));
  }

  module _ (u w : List ℕ) (same : SameBut (IsAt plan.area.start (used_bytes given.key_bytes)) u v) (second_same : SameBut (IsAt 16384 16384) v w) where
    kept_behind : area_bytes w plan.area ≡ area_bytes v plan.area
    kept_behind =
        let start : plan.area.start ≡ 32768 = ap (λ (a : Area). a.start) area in
        part-same_but_at 16384 16384 plan.area.start plan.area.len second_same (inr (omega (arith, start)))

    -- the key area, while the second copy is written
    pub area_stands : WritesInTurn 16384 (HasKeyArea2As given format chosen passphrase random w) (HasAllButFirst2As given format chosen passphrase random w) u w
    area_stands =
        let start : plan.area.start ≡ 32768 = ap (λ (a : Area). a.start) area in
        inr (inl (
          part-same_but_at 16384 16384 0 16384 second_same (inl (omega arith)) ∙ part-same_but_at plan.area.start (used_bytes given.key_bytes) 0 16384 same (inl (omega (arith, start))),
          record { json = json; metadata = metadata; slot = slot_in w kept_behind },
        ))

    module _ (x : List ℕ) (first_same : SameBut (IsAt 0 16384) w x) (second : HasNewCopy w given random (second_copy_salt given.key_bytes random) json 16384) where
      area_kept : area_bytes x plan.area ≡ area_bytes v plan.area
      area_kept =
          let start : plan.area.start ≡ 32768 = ap (λ (a : Area). a.start) area in
          part-same_but_at 0 16384 plan.area.start plan.area.len first_same (inr (omega (arith, start))) ∙ kept_behind

      second_kept : HasNewCopy x given random (second_copy_salt given.key_bytes random) json 16384
      second_kept = copy_stays w x given random (second_copy_salt given.key_bytes random) json 16384 metadata.long first_same.length_same
          (part-same_but_at 0 16384 16384 4096 first_same (inr (omega arith))) (part-same_but_at 0 16384 20480 12288 first_same (inr (omega arith))) second

      -- both, while the first copy is written
      pub all_but_first : WritesInTurn 16384 (HasKeyArea2As given format chosen passphrase random x) (HasAllButFirst2As given format chosen passphrase random x) u x
      all_but_first = inr (inr (record { json = json; metadata = metadata; second = second_kept; slot = slot_in x area_kept }))

      -- the whole volume
      pub formatted2 : HasNewCopy x given random (first_copy_salt given.key_bytes random) json 0 → IsFormatted2As given format chosen passphrase random u x
      formatted2 first = record {
        json = json;
        metadata = metadata;
        first = first;
        second = second_kept;
        slot = slot_in x area_kept;
        rest = all_rest given.key_bytes plan.area area same second_same first_same;
      }

-- ---- over what was cleared

-- the first sectors lie in the places of both copies
sectors_there : (k p : ℕ) → IsOfFirstSectors 16384 p → IsOfLuks2 k p
sectors_there k p is = inl (sectors_inside 16384 (lit≤ tt) p is)

pub cleared_rest : {t u : List ℕ} (k : ℕ) → SameBut (IsOfFirstSectors 16384) t u → SameBut (IsOfLuks2 k) t u
cleared_rest k same = same_but-wider (sectors_there k) same

pub over_rest : {t u x : List ℕ} (k : ℕ) → SameBut (IsOfFirstSectors 16384) t u → SameBut (IsOfLuks2 k) u x → SameBut (IsOfLuks2 k) t x
over_rest k cleared same = clearing_widens 16384 (sectors_there k) cleared same

-- all that may change lies before the payload
pub before_payload : {t u : List ℕ} (k n : ℕ) → k ≤ 64 → 32768 ≤ n → SameBut (IsOfLuks2 k) t u → SameBut (IsBefore (512 * n)) t u
before_payload {t} {u} k n small low same = same_but-wider (λ p is. elim is [
  | inl at ↦ (let high = at.1 in omega (arith, high, low))
  | inr at ↦ (let high = at.1 in let most = used_most k small in omega (arith, high, low, most))
]) same

-- a volume that was formatted after the clearing is formatted
pub over_cleared : (given : Given) (format : Format) (chosen : Option NewDerivation) (passphrase random t u x : List ℕ) → SameBut (IsOfFirstSectors 16384) t u
    → IsFormatted2As given format chosen passphrase random u x → IsFormatted2As given format chosen passphrase random t x
over_cleared given format chosen passphrase random t u x cleared is = record {
  json = is.json;
  metadata = is.metadata;
  first = is.first;
  second = is.second;
  slot = is.slot;
  rest = over_rest given.key_bytes cleared is.rest;
}
