-- Metadata in which the digest of a keyslot has few other bits.
use Rattle.std.specs.Prelude.{◌≡◌, ℕ, ◌≤◌, List, length, Some, true}
use Rattle.base64.specs.Rfc4648.{encode}
use Rattle.serde_json.specs.Data.{Data}
use Rattle.luks_area.specs.Ranges.{part, written}
use Rattle.luks_json.specs.AreaText.{Json}
use Rattle.luks_json.specs.Encoded.{alphabet}
use Rattle.luks_meta.specs.Faults.{object_at}
use Rattle.luks_meta.specs.Naming.{IsDigestOf}
use Rattle.luks_meta.specs.Reading.{bytes_in}
use Rattle.luks_meta.specs.Says.{member_at}
use Rattle.luks_rules.specs.declared.table.Member.TheVariants as name
use Rattle.luks_rules.specs.declared.table.Outer.TheVariants as outer
use Rattle.luks_rules.specs.declared.table.Section.TheVariants.{Digests}
use Rattle.luks_slot.specs.Distance.{differing_bits}
use Rattle.luks2_searching.specs.declared.digest.NearDigest.{NearDigest}

-- by the metadata of the JSON area the key of the keyslot `n` is told by these bytes: those of the digest that names it
-- (LUKS2 On-Disk Format 1.1, 3.4)
pub record HasDigest (json : List ℕ) (n : ℕ) (bytes : List ℕ) : Type 0 where
  pub value : Data
  pub holds : Json json value
  pub number : ℕ
  pub naming : IsDigestOf value n number
  pub object : Data
  pub there : object_at value Digests number ≡ Some object
  pub is : bytes_in 20 64 (member_at object outer.Top name.Digest) ≡ Some bytes

-- how bytes are in the metadata (RFC 4648, section 4)
abbrev pub base64_text : List ℕ → List ℕ
base64_text bytes = encode alphabet 61 true bytes

-- a digest differs in few bits
abbrev pub few_bits : ℕ
few_bits = 8

-- the text of the one digest is at the place, and that of the other is put there
pub record IsReplaced (json stood digest : List ℕ) (place : ℕ) (new : List ℕ) : Type 0 where
  pub long : length new ≡ length json
  pub before : part json place (length (base64_text stood)) ≡ base64_text stood
  pub put : new ≡ written json place (base64_text digest)

-- the keyslot's digest has other bytes, which differ in so many bits, 1 to 8, and their text stands where that of the one
-- before stood
pub record IsDigestTurned (json : List ℕ) (n bits : ℕ) (new : List ℕ) : Type 0 where
  pub some : 1 ≤ bits
  pub few : bits ≤ few_bits
  pub stood : List ℕ
  pub stands : HasDigest json n stood
  pub digest : List ℕ
  pub is : HasDigest new n digest
  pub long : length digest ≡ length stood
  pub differ : differing_bits digest stood ≡ bits
  pub place : ℕ
  pub replaced : IsReplaced json stood digest place new

-- ---- words of private contracts

-- the two digests are as long, and differ in so many bits, 1 to 8
pub record AreNear (near : NearDigest) : Type 0 where
  pub some : 1 ≤ near.bits
  pub few : near.bits ≤ few_bits
  pub long : length near.digest.items ≡ length near.stood.items
  pub differ : differing_bits near.digest.items near.stood.items ≡ near.bits

-- one of them is that of the keyslot `n`
pub record IsNear (json : List ℕ) (n : ℕ) (near : NearDigest) : Type 0 where
  pub stands : HasDigest json n near.stood.items
  pub are : AreNear near

-- one of them is this one
pub record IsNearTo (stood : List ℕ) (near : NearDigest) : Type 0 where
  pub is : near.stood.items ≡ stood
  pub are : AreNear near
