-- Whether the volume keys of two headers have one digest (LUKS1 On-Disk Format 1.2.3, "The partition header";
-- LUKS2 On-Disk Format 1.1, 3.5): the same bytes with the same salt.
use Rattle.std.specs.Prelude.{◌≡◌, ℕ, ◌<◌, List, Some}
use Rattle.serde_json.specs.Data.{Data as Value}
use Rattle.luks_area.specs.Ranges.{part}
use Rattle.luks1_header.specs.Header1.{luks1_size, mk_digest_of, mk_digest_salt_of}
use Rattle.luks2_header.specs.Header2.{header_at, uuid_field, IsUuidField}
use Rattle.luks2_header.specs.Selection.{luks1, luks2, nothing, Choice, Chosen}
use Rattle.luks_rules.specs.Accepted.{IsMeta}
use Rattle.luks_rules.specs.Faults.{member_at, object_at}
use Rattle.luks_rules.specs.Reading.{bytes_in}
use Rattle.luks_rules.specs.declared.table.Member.TheVariants as member
use Rattle.luks_rules.specs.declared.table.Outer.TheVariants.{Top}
use Rattle.luks_rules.specs.declared.table.Section.TheVariants.{Digests}
use Rattle.luks_reading.specs.Header.{json_at}

-- the digest `n` of the metadata has these bytes, with this salt
pub record IsDigestAt (j : Value) (salt bytes : List ℕ) (n : ℕ) : Type 0 where
  pub object : Value
  pub is : object_at j Digests n ≡ Some object
  pub salted : bytes_in 1 128 (member_at object Top member.Salt) ≡ Some salt
  pub told : bytes_in 20 64 (member_at object Top member.Digest) ≡ Some bytes

-- so has one of them
pub record HasDigestIn (j : Value) (salt bytes : List ℕ) : Type 0 where
  pub number : ℕ
  pub numbered : number < 32
  pub is : IsDigestAt j salt bytes number

-- or one of the binary header `h` and its JSON area, if these are accepted
pub record HasDigest2 (h json salt bytes : List ℕ) : Type 0 where
  pub uuid : IsUuidField (uuid_field h)
  pub value : Value
  pub accepted : IsMeta json value
  pub has : HasDigestIn value salt bytes

-- or that of LUKS1, by what counts of the volume `v`
abbrev pub HasDigestAs : List ℕ → Choice → List ℕ → List ℕ → Type 0
HasDigestAs v luks1 salt bytes = (mk_digest_salt_of (part v 0 luks1_size) ≡ salt) × (mk_digest_of (part v 0 luks1_size) ≡ bytes)
HasDigestAs v (luks2 o copies) salt bytes = HasDigest2 (header_at v o) (json_at v o) salt bytes
HasDigestAs v nothing salt bytes = ⊥

-- the headers that count of two volumes have a digest in common
pub record SharesDigest (b t : List ℕ) : Type 0 where
  pub choice : Choice
  pub chosen : Chosen b choice
  pub other : Choice
  pub counts : Chosen t other
  pub salt : List ℕ
  pub bytes : List ℕ
  pub here : HasDigestAs b choice salt bytes
  pub there : HasDigestAs t other salt bytes
