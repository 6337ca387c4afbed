-- Whether a key is a volume's: it meets the digest, or not, or the first refusal stands.
use Rattle.std.specs.Prelude.{◌≡◌, ℕ, List, [], ◌∷◌, length, Bool, true, false, Option, Result, Ok, Err, ⊤}
use Rattle.serde_json.specs.Data.{Data}
use Rattle.luks_area.specs.First.{IsLeast}
use Rattle.luks_area.specs.Ranges.{part}
use Rattle.luks1_header.specs.declared.fault.HeadFault.{HeadFault}
use Rattle.luks1_header.specs.Bytes.{number_at}
use Rattle.luks1_header.specs.Faults.{head_key, IsCommonFault}
use Rattle.luks2_header.specs.Header2.{header_at, uuid_field, IsUuidFault}
use Rattle.luks2_header.specs.Selection.{Choice, luks1, luks2, nothing, Chosen, IsSelectFault}
use Rattle.luks_rules.specs.declared.fault.MetaFault.{MetaFault}
use Rattle.luks_meta.specs.MetaFault.{IsMetaFault, Json, meta_key}
use Rattle.luks_meta.specs.Naming.{IsDigestOf}
use Rattle.luks_slot.specs.declared.plan.DigestPlan.{DigestPlan}
use Rattle.luks_slot.specs.Opening.{meets_digest}
use Rattle.luks_slot.specs.Refusal.{is_known_hash}
use Rattle.luks_reading.specs.declared.key_fault.KeyFault.{KeyFault}
use Rattle.luks_reading.specs.declared.key_fault.KeyFault.TheVariants.{Head, Meta, NoSuchDigest, KeyLength, Hash, Device, Memory}
use Rattle.luks_reading.specs.declared.matching.KeyMatch.{KeyMatch}
use Rattle.luks_reading.specs.Header.{json_at, NeedsMetadata}
use Rattle.luks_reading.specs.KeyDigests.{HasLuks1Digest, HasLuks2Digest, HasLuks2KeyLength, IsLuks1Number, IsLuks2Number}

-- ---- the refusals, in their order: the header, the metadata, the digest's being there, the key's length, the hash

abbrev pub key_row : KeyFault → List ℕ
key_row (Head f) = 1 ∷ head_key f
key_row (Meta f) = 2 ∷ meta_key f
key_row NoSuchDigest = 3 ∷ []
key_row KeyLength = 4 ∷ []
key_row Hash = 5 ∷ []
key_row Device = 6 ∷ []
key_row Memory = 7 ∷ []

-- what a header says: the faults of its fields and of its metadata, the digest that is asked for with its number,
-- and how many bytes a key that this digest is of may have
pub record KeySays : Type 1 where
  pub heads : HeadFault → Type 0
  pub metas : MetaFault → Type 0
  pub digests : ℕ → DigestPlan → Type 0
  pub lengths : ℕ → ℕ → Type 0

-- the digest that is asked for is refused so
pub record HasRefusedDigest (says : KeySays) (is : ℕ → DigestPlan → Type 0) : Type 0 where
  pub number : ℕ
  pub digest : DigestPlan
  pub asked : says.digests number digest
  pub refused : is number digest

-- the set of the refusals of a key of `len` bytes, with `older` hashes or without
abbrev pub IsKeyRefusalBy : KeySays → Bool → ℕ → KeyFault → Type 0
IsKeyRefusalBy says older len (Head f) = says.heads f
IsKeyRefusalBy says older len (Meta f) = says.metas f
IsKeyRefusalBy says older len NoSuchDigest = (m : ℕ) (digest : DigestPlan) → says.digests m digest → ⊥
IsKeyRefusalBy says older len KeyLength = HasRefusedDigest says (λ m digest. says.lengths m len → ⊥)
IsKeyRefusalBy says older len Hash = HasRefusedDigest says (λ m digest. is_known_hash older digest.hash.now ≡ false)
IsKeyRefusalBy says older len Device = ⊥
IsKeyRefusalBy says older len Memory = ⊥

-- nothing refuses the key, and it meets the digest that is asked for by the standards' equation, exactly where
-- that is answered
pub record IsMatchBy (says : KeySays) (older : Bool) (key : List ℕ) (found : KeyMatch) : Type 0 where
  pub unrefused : (f : KeyFault) → IsKeyRefusalBy says older (length key) f → ⊥
  pub digest : DigestPlan
  pub asked : says.digests found.digest digest
  pub matches : found.matches ≡ meets_digest digest key

-- the answer, of which the device and memory are no part
abbrev pub IsKeyAnswerBy : KeySays → Bool → List ℕ → Result KeyMatch KeyFault → Type 0
IsKeyAnswerBy says older key (Ok found) = IsMatchBy says older key found
IsKeyAnswerBy says older key (Err f) = IsLeast key_row (IsKeyRefusalBy says older (length key)) f

-- what testing the key of a digest of this number gave: whether it meets it, or its hash isn't known
pub record IsMet (digest : DigestPlan) (number : ℕ) (older : Bool) (key : List ℕ) (found : KeyMatch) : Type 0 where
  pub number_is : found.digest ≡ number
  pub known : is_known_hash older digest.hash.now ≡ true
  pub matches : found.matches ≡ meets_digest digest key

pub record IsUnknown (digest : DigestPlan) (older : Bool) (f : KeyFault) : Type 0 where
  pub is : f ≡ Hash
  pub unknown : is_known_hash older digest.hash.now ≡ false

-- ---- of a volume

-- LUKS1, the header's 592 bytes being `h`: the fields before the keyslots have faults
abbrev pub luks1_says : List ℕ → Option ℕ → KeySays
luks1_says h asked = record {
  heads = IsCommonFault h;
  metas = λ f. ⊥;
  digests = HasLuks1Digest h asked;
  lengths = λ m len. len ≡ number_at h 108 4;
}

-- a LUKS2 copy with this field of the uuid and this JSON area
abbrev pub luks2_says : List ℕ → List ℕ → Option ℕ → KeySays
luks2_says uuid json asked = record {
  heads = IsUuidFault uuid;
  metas = IsMetaFault json;
  digests = HasLuks2Digest json asked;
  lengths = HasLuks2KeyLength json;
}

-- nothing counts of the volume `v`
abbrev pub nothing_says : List ℕ → KeySays
nothing_says v = record {
  heads = IsSelectFault v;
  metas = λ f. ⊥;
  digests = λ m digest. ⊥;
  lengths = λ m len. ⊥;
}

abbrev pub says_as : List ℕ → Option ℕ → Choice → KeySays
says_as v asked luks1 = luks1_says (part v 0 592) asked
says_as v asked (luks2 o copies) = luks2_says (uuid_field (header_at v o)) (json_at v o) asked
says_as v asked nothing = nothing_says v

-- what judging the key gives, of the volume `v` and the digest that is asked for
pub record IsKeyAnswer (v : List ℕ) (asked : Option ℕ) (older : Bool) (key : List ℕ) (result : Result KeyMatch KeyFault) : Type 0 where
  pub choice : Choice
  pub chosen : Chosen v choice
  pub is : IsKeyAnswerBy (says_as v asked choice) older key result

-- the same, unless the device failed or memory was refused
abbrev pub IsKeyAnswered : List ℕ → Option ℕ → Bool → List ℕ → Result KeyMatch KeyFault → Type 0
IsKeyAnswered v asked older key (Err Device) = ⊤
IsKeyAnswered v asked older key (Err Memory) = NeedsMetadata v
IsKeyAnswered v asked older key result = IsKeyAnswer v asked older key result

-- ---- a key that was found

-- by what counts of the volume `v`: `m` is the number of the digest that is asked for
pub record IsAskedIn (json : List ℕ) (asked : Option ℕ) (m : ℕ) : Type 0 where
  pub value : Data
  pub holds : Json json value
  pub is : IsLuks2Number value asked m

abbrev pub IsAskedAs : List ℕ → Choice → Option ℕ → ℕ → Type 0
IsAskedAs v luks1 asked m = IsLuks1Number asked m
IsAskedAs v (luks2 o copies) asked m = IsAskedIn (json_at v o) asked m
IsAskedAs v nothing asked m = ⊥

-- and of the digest that the keyslot `n` has
pub record NamesIn (json : List ℕ) (n m : ℕ) : Type 0 where
  pub value : Data
  pub holds : Json json value
  pub is : IsDigestOf value n m

abbrev pub NamesAs : List ℕ → Choice → ℕ → ℕ → Type 0
NamesAs v luks1 n m = m ≡ 0
NamesAs v (luks2 o copies) n m = NamesIn (json_at v o) n m
NamesAs v nothing n m = ⊥

-- it matches wherever the digest of the keyslot `n` is the one that is asked for
pub record MatchesAsked (older : Bool) (v : List ℕ) (n : ℕ) (key : List ℕ) : Type 0 where
  pub choice : Choice
  pub chosen : Chosen v choice
  pub number : ℕ
  pub names : NamesAs v choice n number
  pub matches : (asked : Option ℕ) → IsAskedAs v choice asked number
      → IsKeyAnswer v asked older key (Ok (record { digest = number; matches = true }))

abbrev pub is_key_failure : KeyFault → Bool
is_key_failure (Head f) = false
is_key_failure (Meta f) = false
is_key_failure NoSuchDigest = false
is_key_failure KeyLength = false
is_key_failure Hash = false
is_key_failure Device = true
is_key_failure Memory = false

-- the fault is neither the device's nor a failed allocation
abbrev pub is_own_key_fault : KeyFault → Bool
is_own_key_fault Device = false
is_own_key_fault Memory = false
is_own_key_fault f = true
