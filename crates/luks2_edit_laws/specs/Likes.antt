-- What a new keyslot is made like: the keyslot that was opened; or, by the volume key, the first one of the digest that
-- the key meets, or keyslot 0 of a new volume where that digest has none (LUKS2 On-Disk Format 1.1, 3.2 to 3.4).
use Rattle.std.specs.Prelude.{◌≡◌, ℕ, ◌≤◌, List, length, Bool, true, false, Option, Some, None, codes}
use Rattle.serde_json.specs.Data.{Data as Value}
use Rattle.luks_rules.specs.declared.table.Section.TheVariants.{Digests, Keyslots}
use Rattle.luks_rules.specs.Accepted.{HasObject}
use Rattle.luks_making.specs.Keyslots.{derivation_by, NewMembers, SlotMembers}
use Rattle.luks_making.specs.Naming.{IsDigestOf}
use Rattle.luks_making.specs.With.{IsAdded, with_slot}
use Rattle.luks_slot.specs.declared.fault.SlotFault.{SlotFault}
use Rattle.luks_slot.specs.declared.fault.SlotFault.TheVariants.{Hash}
use Rattle.luks_slot.specs.declared.plan.Derivation.TheVariants as derivation
use Rattle.luks_slot.specs.declared.plan.DigestPlan.{DigestPlan}
use Rattle.luks_slot.specs.declared.plan.SlotPlan.{SlotPlan}
use Rattle.luks_slot.specs.Allowance.{without_memory}
use Rattle.luks_slot.specs.Opening.{meets_digest}
use Rattle.luks_slot.specs.Refusal.{is_known_hash, slot_refusal_within}
use Rattle.luks_reading.specs.KeyDigests.{IsDigestOfSegment, IsLuks2KeyLength, NamesKeyslot, SaysDigest}
use Rattle.luks_reading.specs.Plans.{HasLuks2KeyBytes, IsLuks2Plan}
use Rattle.luks_edit.specs.declared.edit.Opener.{Opener}
use Rattle.luks_edit.specs.declared.edit.Opener.TheVariants as opener
use Rattle.luks_edit.specs.Asked.{chosen_or}
use Rattle.luks2_edit_laws.specs.declared.like.Like.{Like}
use Rattle.luks2_edit_laws.specs.declared.like.Like.TheVariants.{Keyslot, Digest}
use Rattle.luks2_edit_laws.specs.Metadata.{HasStripes}

-- ---- the digest that a key meets

-- the digest `m` says this, and its key may have so many bytes
pub record TakesKey (j : Value) (m len : ℕ) (digest : DigestPlan) : Type 0 where
  pub object : Value
  pub there : HasObject j Digests m object
  pub says : SaysDigest object digest
  pub long : IsLuks2KeyLength j m len

-- a key that it takes meets it, with hashes of older disks where `older` says so
pub record MeetsKey (older : Bool) (j : Value) (key : List ℕ) (m : ℕ) : Type 0 where
  pub digest : DigestPlan
  pub takes : TakesKey j m (length key) digest
  pub known : is_known_hash older digest.hash.now ≡ true
  pub meets : meets_digest digest key ≡ true

-- or its hash isn't known
pub record IsUnknownTo (older : Bool) (j : Value) (key : List ℕ) (m : ℕ) : Type 0 where
  pub digest : DigestPlan
  pub takes : TakesKey j m (length key) digest
  pub unknown : is_known_hash older digest.hash.now ≡ false

-- a segment is assigned to the digest
pub record IsAssigned (j : Value) (m : ℕ) : Type 0 where
  pub segment : ℕ
  pub is : IsDigestOfSegment j segment m

-- the digest `m` comes before `k`, or is it: those come first that a segment is assigned to, and each of both by number
pub record ComesFirst (j : Value) (m k : ℕ) : Type 0 where
  pub assigned : IsAssigned j k → IsAssigned j m
  pub number : (IsAssigned j m → IsAssigned j k) → m ≤ k

-- the first of those that the key meets
pub record IsKeyDigest (older : Bool) (j : Value) (key : List ℕ) (m : ℕ) : Type 0 where
  pub meets : MeetsKey older j key m
  pub first : (k : ℕ) → MeetsKey older j key k → ComesFirst j m k

-- ---- what a new keyslot is made like

-- of the keyslots of the digest `m` with a key of so many bytes the first
pub record IsFirstKeyslot (j : Value) (m len n : ℕ) : Type 0 where
  pub names : IsDigestOf j n m
  pub long : HasLuks2KeyBytes j n len
  pub first : (k : ℕ) → IsDigestOf j k m → HasLuks2KeyBytes j k len → n ≤ k

-- the digest `m` has no keyslot
pub record HasNoneLeft (j : Value) (m len number key_bytes : ℕ) : Type 0 where
  pub number_is : number ≡ m
  pub key_bytes_are : key_bytes ≡ len
  pub none : NamesKeyslot j m → ⊥

abbrev pub IsLikeOf : Value → ℕ → ℕ → Like → Type 0
IsLikeOf j m len (Keyslot n) = IsFirstKeyslot j m len n
IsLikeOf j m len (Digest number key_bytes) = HasNoneLeft j m len number key_bytes

pub record IsLikeByKey (older : Bool) (j : Value) (key : List ℕ) (like : Like) : Type 0 where
  pub digest : ℕ
  pub is : IsKeyDigest older j key digest
  pub like_is : IsLikeOf j digest (length key) like

abbrev pub IsLike : Value → Opener → Like → Type 0
IsLike j (opener.Keyslot slot secret) like = like ≡ Keyslot slot
IsLike j (opener.Key key) like = IsLikeByKey key.allowed.older j key.bytes.now like

-- what a new keyslot is made like by the opener has the property
pub record ForLike (j : Value) (o : Opener) (P : Like → Type 0) : Type 0 where
  pub like : Like
  pub is_like : IsLike j o like
  pub has : P like

-- ---- what it says

-- its key has `key_bytes` bytes, in `stripes` stripes
abbrev pub HasStripesLike : Value → Like → ℕ → ℕ → Type 0
HasStripesLike j (Keyslot n) key_bytes stripes = HasStripes j n key_bytes stripes
HasStripesLike j (Digest number len) key_bytes stripes = (key_bytes ≡ len) × (stripes ≡ 4000)

-- the members of keyslot 0 of a new volume, except for the key's length and what is new
abbrev pub fresh_members : ℕ → NewMembers → SlotMembers
fresh_members len f = record {
  key_size = len;
  stripes = 4000;
  splitter_hash = codes "sha256";
  offset = f.offset;
  size = f.size;
  encryption = codes "aes-xts-plain64";
  area_key_size = 64;
  derivation = derivation_by (codes "sha256") (chosen_or f.derivation.iterations f.derivation.chosen);
  salt = f.salt;
}

-- `new` is the metadata `old` with such a keyslot of the number `to`
abbrev pub IsAddedLike : ℕ → Like → NewMembers → Value → Value → Type 0
IsAddedLike to (Keyslot by_) f old new = IsAdded to by_ f old new
IsAddedLike to (Digest number len) f old new = new ≡ with_slot to number (fresh_members len f) old

-- its digest, and what it says
abbrev pub digest_by : (to : ℕ) (like : Like) (f : NewMembers) (old new : Value) → IsAddedLike to like f old new → ℕ
digest_by to (Keyslot n) f old new is = is.digest
digest_by to (Digest number key_bytes) f old new is = number

abbrev pub slot_by : (to : ℕ) (like : Like) (f : NewMembers) (old new : Value) → IsAddedLike to like f old new → SlotMembers
slot_by to (Keyslot n) f old new is = is.slot
slot_by to (Digest number key_bytes) f old new is = fresh_members key_bytes f

-- ---- when it is refused

-- the plan of a keyslot that is made like one with this plan: by PBKDF2, of its splitter's hash
abbrev pub derived_anew : SlotPlan → SlotPlan
derived_anew plan = record {
  derivation = derivation.Pbkdf2 plan.splitter_hash 1000 plan.digest.salt;
  cipher = plan.cipher;
  area = plan.area;
  area_key_bytes = plan.area_key_bytes;
  key_bytes = plan.key_bytes;
  stripes = plan.stripes;
  splitter_hash = plan.splitter_hash;
  digest = plan.digest;
}

-- the plan of a keyslot that is made like the keyslot `n` is refused or not, where older ciphers and hashes are accepted or not
pub record IsRefusedLike (older : Bool) (j : Value) (n : ℕ) (refusal : Option SlotFault) : Type 0 where
  pub object : Value
  pub there : HasObject j Keyslots n object
  pub plan : SlotPlan
  pub is : IsLuks2Plan j n object plan
  pub refused : slot_refusal_within (without_memory older) (derived_anew plan) ≡ refusal

-- the keyslot of a new volume never is
abbrev pub HasRefusal : Bool → Value → Like → Option SlotFault → Type 0
HasRefusal older j (Keyslot n) refusal = IsRefusedLike older j n refusal
HasRefusal older j (Digest number len) refusal = refusal ≡ None

-- ---- why the volume key doesn't give itself

-- no digest takes a key of so many bytes
abbrev pub HasNoDigestFor : Value → ℕ → Type 0
HasNoDigestFor j len = (m : ℕ) (digest : DigestPlan) → TakesKey j m len digest → ⊥

-- some do, and each is known, but the key meets none
pub record MeetsNone (older : Bool) (j : Value) (key : List ℕ) : Type 0 where
  pub number : ℕ
  pub digest : DigestPlan
  pub takes : TakesKey j number (length key) digest
  pub known : (m : ℕ) → IsUnknownTo older j key m → ⊥
  pub none : (m : ℕ) → MeetsKey older j key m → ⊥

-- the hash of one isn't known, and the key meets none
pub record MayMeetUnknown (older : Bool) (j : Value) (key : List ℕ) (f : SlotFault) : Type 0 where
  pub is : f ≡ Hash
  pub number : ℕ
  pub unknown : IsUnknownTo older j key number
  pub none : (m : ℕ) → MeetsKey older j key m → ⊥

-- the key meets a digest, but a keyslot that is made by it is refused
pub record HasRefusedLike (older : Bool) (j : Value) (key : List ℕ) (f : SlotFault) : Type 0 where
  pub like : Like
  pub is_like : IsLikeByKey older j key like
  pub refused : HasRefusal older j like (Some f)
