-- A LUKS1 header near to that of the volume `v`, by which a passphrase opens a keyslot.
use Rattle.std.specs.Prelude.{◌≡◌, ℕ, ◌<◌, ◌≤◌, List}
use Rattle.luks_area.specs.Ranges.{IsAt, SameBut}
use Rattle.luks1_header.specs.Header1.{mk_digest_of}
use Rattle.luks1_mending.specs.declared.given.Given.{Given}
use Rattle.luks1_rebuilding.specs.KeyAreas.{header_of}
use Rattle.luks_searching.specs.Fields1.{IsOfField, IsSearched}
use Rattle.luks_searching.specs.Headed.{OpensHeaded}
use Rattle.luks_slot.specs.Distance.{differing_bits}
use Rattle.luks_trials.specs.Turned.{turned}
use Rattle.luks_searching.specs.declared.fields1.Field.{Field}
use Rattle.luks_searching.specs.declared.searching1.Change1.{Change1}
use Rattle.luks_searching.specs.declared.searching1.Change1.TheVariants.{Nothing, Bit, Digest}
use Rattle.luks_searching.specs.declared.searching1.Found1.{Found1}

-- a bit of a field that the keyslot `n` opens by is turned
pub record IsBitTurned (h : List ℕ) (n place bit : ℕ) (new : List ℕ) : Type 0 where
  pub searched : IsSearched n place
  pub low : bit < 8
  pub is : new ≡ turned h place bit

-- a digest differs in few bits
abbrev pub few_bits : ℕ
few_bits = 8

-- the header is `h` except for its digest, the 20 bytes at 112, which differs in so many bits, 1 to 8
pub record IsDigestChanged (h : List ℕ) (bits : ℕ) (new : List ℕ) : Type 0 where
  pub some : 1 ≤ bits
  pub few : bits ≤ few_bits
  pub rest : SameBut (IsAt 112 20) h new
  pub differ : differing_bits (mk_digest_of new) (mk_digest_of h) ≡ bits

-- the header is `h` except for the change, for the keyslot `n`
abbrev pub IsChanged1 : List ℕ → ℕ → Change1 → List ℕ → Type 0
IsChanged1 h n Nothing new = new ≡ h
IsChanged1 h n (Bit place bit) new = IsBitTurned h n place bit new
IsChanged1 h n (Digest bits) new = IsDigestChanged h bits new

-- the header that was found is near to `h`, and in its place in `v` the keyslot opens
pub record IsFoundOf (v h : List ℕ) (g : Given) (p : List ℕ) (f : Found1) : Type 0 where
  pub numbered : f.slot < 8
  pub changed : IsChanged1 h f.slot f.change f.header
  pub opens : OpensHeaded v f.header g p f.slot

-- near to that of the volume
abbrev pub IsFound1 : List ℕ → Given → List ℕ → Found1 → Type 0
IsFound1 v g p f = IsFoundOf v (header_of v) g p f

-- the keyslot `n` opens by no header of which a bit of the field is turned
abbrev pub OpensNoneIn : List ℕ → List ℕ → Given → List ℕ → ℕ → Field → Type 0
OpensNoneIn v h g p n field =
    (place bit : ℕ) → IsOfField field n place → bit < 8 → OpensHeaded v (turned h place bit) g p n → ⊥

-- the keyslot `n` opens by no header whose digest differs in few bits
abbrev pub OpensNoneNear : List ℕ → List ℕ → Given → List ℕ → ℕ → Type 0
OpensNoneNear v h g p n = (bits : ℕ) (new : List ℕ) → IsDigestChanged h bits new → OpensHeaded v new g p n → ⊥

-- no keyslot opens as it stands, nor by a header whose digest differs in few bits, nor by one of which one bit is turned
pub record HasNoneOf (v h : List ℕ) (g : Given) (p : List ℕ) : Type 0 where
  pub standing : (n : ℕ) → n < 8 → OpensHeaded v h g p n → ⊥
  pub digest : (n : ℕ) → n < 8 → OpensNoneNear v h g p n
  pub turned : (n : ℕ) (field : Field) → n < 8 → OpensNoneIn v h g p n field

abbrev pub HasNone1 : List ℕ → Given → List ℕ → Type 0
HasNone1 v g p = HasNoneOf v (header_of v) g p

-- ---- of a digest that a keyslot gives: words of private contracts

-- the header that was found has this digest, and is `h` except for that
pub record HasDigestOf (h digest : List ℕ) (n : ℕ) (f : Found1) : Type 0 where
  pub slot : f.slot ≡ n
  pub changed : IsChanged1 h n f.change f.header
  pub rest : SameBut (IsAt 112 20) h f.header
  pub is : mk_digest_of f.header ≡ digest

-- the keyslot `n` opens neither as it stands nor by a header whose digest differs in few bits
pub record OpensNoneBut (v h : List ℕ) (g : Given) (p : List ℕ) (n : ℕ) : Type 0 where
  pub standing : OpensHeaded v h g p n → ⊥
  pub digest : OpensNoneNear v h g p n
