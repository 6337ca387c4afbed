-- The keyslots that are tried of a volume with another LUKS1 header in place of its first 592 bytes.
use Rattle.std.specs.Prelude.{◌≡◌, ℕ, ◌≤◌, Bool, List}
use Rattle.luks1_header.specs.Header1.{entry, entry_iterations, entry_stripes, mk_digest_iterations_of}
use Rattle.luks1_header.specs.declared.fault.HeadFault.{HeadFault}
use Rattle.luks1_mending.specs.Taken.{IsFieldFault}
use Rattle.luks1_mending.specs.declared.given.Given.{Given}
use Rattle.luks1_rebuilding.specs.Gives.{IsKeptPlan, IsRefusedKept}
use Rattle.luks1_rebuilding.specs.Headed.{headed}
use Rattle.luks1_rebuilding.specs.KeyAreas.{header_of, IsKeptInUse}
use Rattle.luks1_rebuilding.specs.Openings.{OpensBy}
use Rattle.luks_reading.specs.declared.open_fault.OpenFault.{OpenFault}
use Rattle.luks_slot.specs.Distance.{slot_digest}
use Rattle.luks_slot.specs.Opening.{area_bytes}
use Rattle.luks_slot.specs.declared.plan.SlotPlan.{SlotPlan}
use Rattle.luks_trials.specs.Trials.{most_stripes, most_turns}

-- the keyslot `n` is tried: neither it nor the digest has more iterations, nor it more stripes
pub record IsCheap (h : List ℕ) (n : ℕ) : Type 0 where
  pub digest : mk_digest_iterations_of h ≤ most_turns
  pub iterations : entry_iterations (entry h n) ≤ most_turns
  pub stripes : entry_stripes (entry h n) ≤ most_stripes

-- by the header `h` in place of that of `v`, and with what is given, the keyslot `n` opens by the passphrase `p`: the
-- key that its area gives meets the digest of `h`
pub record OpensHeaded (v h : List ℕ) (g : Given) (p : List ℕ) (n : ℕ) : Type 0 where
  pub cheap : IsCheap h n
  pub opens : OpensBy (headed v h) g p n

-- ---- what a keyslot gives, whether or not it opens: words of private contracts

-- by the header `h` the keyslot `n` is tried, and its stripes give this digest
pub record GivesDigest (v h : List ℕ) (g : Given) (p : List ℕ) (n : ℕ) (digest : List ℕ) : Type 0 where
  pub cheap : IsCheap h n
  pub made : (f : HeadFault) → IsFieldFault (header_of (headed v h)) g f → ⊥
  pub in_use : IsKeptInUse (headed v h) g n
  pub plan : SlotPlan
  pub is : IsKeptPlan (headed v h) g n plan
  pub unrefused : (older : Bool) (f : OpenFault) → IsRefusedKept older (headed v h) g n f → ⊥
  pub gives : digest ≡ slot_digest plan (area_bytes (headed v h) plan.area) p

-- and no other
pub record GivesOneDigest (v h : List ℕ) (g : Given) (p : List ℕ) (n : ℕ) (digest : List ℕ) : Type 0 where
  pub it : GivesDigest v h g p n digest
  pub one : (other : List ℕ) → GivesDigest v h g p n other → other ≡ digest

-- it isn't tried
abbrev pub GivesNoDigest : List ℕ → List ℕ → Given → List ℕ → ℕ → Type 0
GivesNoDigest v h g p n = (digest : List ℕ) → GivesDigest v h g p n digest → ⊥
