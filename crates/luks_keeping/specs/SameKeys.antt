-- What is told of the digests of headers that were read: words of private contracts.
use Rattle.std.specs.Prelude.{◌≡◌, ℕ, ◌<◌, List, Option, Some, None, length, slice_index_or, ⊤}
use Rattle.serde_json.specs.Data.{Data as Value}
use Rattle.luks_area.specs.Ranges.{part}
use Rattle.luks_meta.specs.Content.{content}
use Rattle.luks_reading.specs.Header.{IsHeader, NeedsMetadata}
use Rattle.luks_reading.specs.declared.header.Header.{Header}
use Rattle.luks_reading.specs.declared.header.Header.TheVariants.{Luks1, Luks2}
use Rattle.luks_reading.specs.declared.read_fault.ReadFault.{ReadFault}
use Rattle.luks_reading.specs.declared.read_fault.ReadFault.TheVariants as read
use Rattle.luks_keeping.specs.OtherHeaders.{read_uuid}
use Rattle.luks_keeping.specs.SameKey.{HasDigestIn, IsDigestAt, SharesDigest}
use Rattle.luks_keeping.specs.declared.identity.Identity.{Identity}
use Rattle.luks_keeping.specs.declared.identity.KeyDigest.{KeyDigest}
use Rattle.luks_keeping.specs.declared.restore_fault.RestoreFault.{RestoreFault}
use Rattle.luks_keeping.specs.declared.restore_fault.RestoreFault.TheVariants.{NotAccepted, DoesNotFit, OtherVolume, Memory, Device}

-- ---- of a header

-- the header has a digest of these bytes, with this salt
abbrev pub HasHeaderDigest : Header → List ℕ → List ℕ → Type 0
HasHeaderDigest (Luks1 bytes) salt digest = (salt ≡ part bytes 132 32) × (digest ≡ part bytes 112 20)
HasHeaderDigest (Luks2 copy) salt digest = HasDigestIn (content copy.meta) salt digest

-- the one of LUKS1 has the number 0
abbrev pub IsFirstDigest : List ℕ → ℕ → List ℕ → List ℕ → Type 0
IsFirstDigest header n salt digest = (n ≡ 0) × (salt ≡ part header 132 32) × (digest ≡ part header 112 20)

abbrev pub IsMetaDigest : Value → ℕ → List ℕ → List ℕ → Type 0
IsMetaDigest j n salt digest = IsDigestAt j salt digest n

-- the digest `n` of the header is this one
abbrev pub IsHeaderDigest : Header → ℕ → List ℕ → List ℕ → Type 0
IsHeaderDigest (Luks1 bytes) n salt digest = IsFirstDigest bytes n salt digest
IsHeaderDigest (Luks2 copy) n salt digest = IsMetaDigest (content copy.meta) n salt digest

-- what is found of it
abbrev pub FindsDigest : (List ℕ → List ℕ → Type 0) → Option KeyDigest → Type 0
FindsDigest is None = (salt digest : List ℕ) → is salt digest → ⊥
FindsDigest is (Some d) = is d.salt.items d.bytes.items

-- the digests below `n` are listed by their numbers
pub record HoldsDigests (header : Header) (n : ℕ) (digests : List (Option KeyDigest)) : Type 0 where
  pub long : length digests ≡ 32
  pub each : (k : ℕ) → k < n → FindsDigest (IsHeaderDigest header k) (slice_index_or digests k None)

-- the identity is the header's
pub record IsIdentity (header : Header) (identity : Identity) : Type 0 where
  pub uuid : identity.uuid ≡ read_uuid header
  pub digests : HoldsDigests header 32 identity.digests

-- and that header was read of the volume `v`
pub record Identifies (v : List ℕ) (identity : Identity) : Type 0 where
  pub header : Header
  pub is_header : IsHeader v header
  pub is : IsIdentity header identity

-- ---- of an identity

-- its digest `n` has these bytes, with this salt
pub record HasNumbered (identity : Identity) (n : ℕ) (salt bytes : List ℕ) : Type 0 where
  pub digest : KeyDigest
  pub is : slice_index_or identity.digests n None ≡ Some digest
  pub salted : digest.salt.items ≡ salt
  pub told : digest.bytes.items ≡ bytes

-- so has one of them
pub record HasKeyDigest (identity : Identity) (salt bytes : List ℕ) : Type 0 where
  pub number : ℕ
  pub numbered : number < 32
  pub is : HasNumbered identity number salt bytes

-- the digest `n` of the one is one of the other, or any is
pub record SharesAt (here there : Identity) (n : ℕ) : Type 0 where
  pub salt : List ℕ
  pub bytes : List ℕ
  pub own : HasNumbered here n salt bytes
  pub other : HasKeyDigest there salt bytes

pub record Shares (here there : Identity) : Type 0 where
  pub number : ℕ
  pub numbered : number < 32
  pub is : SharesAt here there number

-- ---- why the keys aren't told to be the same

abbrev pub unread_key : ReadFault → RestoreFault
unread_key (read.Head f) = OtherVolume
unread_key (read.Meta f) = OtherVolume
unread_key read.Device = Device
unread_key read.Memory = Memory

abbrev pub IsKeyAnswer : List ℕ → List ℕ → RestoreFault → Type 0
IsKeyAnswer b t OtherVolume = SharesDigest b t → ⊥
IsKeyAnswer b t Memory = NeedsMetadata t
IsKeyAnswer b t Device = ⊤
IsKeyAnswer b t (NotAccepted f) = ⊥
IsKeyAnswer b t (DoesNotFit f) = ⊥
