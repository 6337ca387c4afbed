-- Which keyslots of the headers that are made of the volume `v` a passphrase opens.
use Rattle.std.specs.Prelude.{ℕ, Bool, ◌<◌, List, length}
use Rattle.luks1_header.specs.Written.{WritesLuks1}
use Rattle.luks1_header.specs.declared.fault.HeadFault.{HeadFault}
use Rattle.luks1_mending.specs.Made.{IsMade}
use Rattle.luks1_mending.specs.Taken.{IsFieldFault}
use Rattle.luks1_mending.specs.declared.given.Given.{Given}
use Rattle.luks_reading.specs.Answer.{opens}
use Rattle.luks1_rebuilding.specs.Gives.{Gives}
use Rattle.luks1_rebuilding.specs.KeyAreas.{header_of, IsKeptInUse}
use Rattle.luks1_rebuilding.specs.Combinations.{IsCombination}
use Rattle.luks1_rebuilding.specs.declared.trial.opening.Opening.{Opening}

-- with what is given a header is made, and its keyslot `n` is kept, in use, and gives a key by the passphrase `p`,
-- whether or not ciphers and hashes of older disks are allowed
pub record OpensBy (v : List ℕ) (g : Given) (p : List ℕ) (n : ℕ) : Type 0 where
  pub made : (f : HeadFault) → IsFieldFault (header_of v) g f → ⊥
  pub in_use : IsKeptInUse v g n
  pub key : List ℕ
  pub gives : (older : Bool) → Gives older v g n p (opens key)

-- no keyslot does
pub record OpensNone (v : List ℕ) (g : Given) (p : List ℕ) : Type 0 where
  pub none : (n : ℕ) → OpensBy v g p n → ⊥

-- the keyslot `n` is the first that does
pub record IsFirstSlot (v : List ℕ) (g : Given) (p : List ℕ) (n : ℕ) : Type 0 where
  pub opens : OpensBy v g p n
  pub first : (m : ℕ) → m < n → OpensBy v g p m → ⊥

-- the combination `n` makes this header, and this is the first keyslot of it that does
pub record IsOpeningAt (v : List ℕ) (g : Given) (p : List ℕ) (n : ℕ) (o : Opening) : Type 0 where
  pub combination : IsCombination (header_of v) g n o.given
  pub made : IsMade (header_of v) (length v) o.given o.header
  pub written : WritesLuks1 o.bytes o.header
  pub opens : IsFirstSlot v o.given p o.slot

-- by the combination `n` no keyslot does
abbrev pub OpensNoneAt : List ℕ → Given → List ℕ → ℕ → Type 0
OpensNoneAt v g p n = (c : Given) → IsCombination (header_of v) g n c → OpensNone v c p

-- nor by those before the number `m`
abbrev pub OpensNoneBelow : List ℕ → Given → List ℕ → ℕ → Type 0
OpensNoneBelow v g p m = (n : ℕ) → n < m → OpensNoneAt v g p n

-- the first combination that opens a keyslot
pub record IsFirstOpening (v : List ℕ) (g : Given) (p : List ℕ) (o : Opening) : Type 0 where
  pub number : ℕ
  pub is : IsOpeningAt v g p number o
  pub first : OpensNoneBelow v g p number
