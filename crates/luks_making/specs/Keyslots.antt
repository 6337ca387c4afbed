-- The value of a keyslot that is made, and what is new of one.
use Rattle.std.specs.Prelude.{◌≡◌, ℕ, List, true, Option, Some, None, codes, decimal}
use Rattle.base64.specs.Rfc4648.{encode}
use Rattle.serde_json.specs.Data.{Data, number, string, object, Members, no_members, member, unsigned}
use Rattle.luks_json.specs.Encoded.{alphabet}
use Rattle.luks_rules.specs.declared.table.Outer.TheVariants as outer
use Rattle.luks_rules.specs.Faults.{type_at}
use Rattle.luks_rules.specs.Reading.{number_in, text_of}
use Rattle.luks_rules.specs.Sizes.{inside_at}
use Rattle.luks_making.specs.declared.derivation.Argon2Costs.{Argon2Costs}
use Rattle.luks_making.specs.declared.derivation.AskedDerivation.{AskedDerivation}
use Rattle.luks_making.specs.declared.derivation.NewDerivation.{NewDerivation}
use Rattle.luks_making.specs.declared.derivation.NewDerivation.TheVariants as chosen
use Rattle.luks_making.specs.declared.new_keyslot.New.{New}
use Rattle.luks_making.specs.declared.new_keyslot.KeyslotDerivation.{KeyslotDerivation}
use Rattle.luks_making.specs.declared.new_keyslot.KeyslotDerivation.TheVariants.{Pbkdf2, Argon2i, Argon2id}
use Rattle.luks_making.specs.declared.new_keyslot.NewKeyslot.{NewKeyslot}

-- how the key of a keyslot's area is derived, except for the salt
pub data Deriving : Type 0 where
  by_pbkdf2 : List ℕ → ℕ → Deriving
  by_argon2i : Argon2Costs → Deriving
  by_argon2id : Argon2Costs → Deriving

abbrev pub derivation_of : KeyslotDerivation → Deriving
derivation_of (Pbkdf2 hash iterations) = by_pbkdf2 hash.now iterations
derivation_of (Argon2i costs) = by_argon2i costs
derivation_of (Argon2id costs) = by_argon2id costs

-- the derivation that is chosen for a keyslot whose splitter has this hash
abbrev pub derivation_by : List ℕ → NewDerivation → Deriving
derivation_by hash (chosen.Pbkdf2 iterations) = by_pbkdf2 hash iterations
derivation_by hash (chosen.Argon2i costs) = by_argon2i costs
derivation_by hash (chosen.Argon2id costs) = by_argon2id costs

-- what a keyslot that is made says
pub record SlotMembers : Type 0 where
  pub key_size : ℕ
  pub stripes : ℕ
  pub splitter_hash : List ℕ
  pub offset : ℕ
  pub size : ℕ
  pub encryption : List ℕ
  pub area_key_size : ℕ
  pub derivation : Deriving
  pub salt : List ℕ

abbrev pub slot_members : NewKeyslot → SlotMembers
slot_members s = record {
  key_size = s.key_size;
  stripes = s.stripes;
  splitter_hash = s.splitter_hash.now;
  offset = s.offset;
  size = s.size;
  encryption = s.encryption.now;
  area_key_size = s.area_key_size;
  derivation = derivation_of s.derivation;
  salt = s.salt.now;
}

-- what is new of a keyslot that is sealed again, or made with the members of another
pub record NewMembers : Type 0 where
  pub derivation : AskedDerivation
  pub salt : List ℕ
  pub offset : ℕ
  pub size : ℕ

abbrev pub new_members : New → NewMembers
new_members f = record {
  derivation = f.derivation;
  salt = f.salt.now;
  offset = f.offset;
  size = f.size;
}

-- ---- values

abbrev pub text_member : List ℕ → List ℕ → Members → Members
text_member k t = member k (string t)

abbrev pub number_member : List ℕ → ℕ → Members → Members
number_member k n = member k (number (unsigned n))

-- RFC 4648, section 4, padded by `=`, 61
abbrev pub base64_text : List ℕ → List ℕ
base64_text bytes = encode alphabet 61 true bytes

abbrev pub splitter_value : SlotMembers → Data
splitter_value s = object (
    text_member (codes "hash") s.splitter_hash (
    number_member (codes "stripes") s.stripes (
    text_member (codes "type") (codes "luks1") no_members)))

abbrev pub area_value : SlotMembers → Data
area_value s = object (
    text_member (codes "encryption") s.encryption (
    number_member (codes "key_size") s.area_key_size (
    text_member (codes "offset") (decimal s.offset) (
    text_member (codes "size") (decimal s.size) (
    text_member (codes "type") (codes "raw") no_members)))))

abbrev pub argon2_value : List ℕ → Argon2Costs → List ℕ → Data
argon2_value kind costs salt = object (
    number_member (codes "cpus") costs.cpus (
    number_member (codes "memory") costs.memory (
    text_member (codes "salt") (base64_text salt) (
    number_member (codes "time") costs.time (
    text_member (codes "type") kind no_members)))))

abbrev pub kdf_value : Deriving → List ℕ → Data
kdf_value (by_pbkdf2 hash iterations) salt = object (
    text_member (codes "hash") hash (
    number_member (codes "iterations") iterations (
    text_member (codes "salt") (base64_text salt) (
    text_member (codes "type") (codes "pbkdf2") no_members))))
kdf_value (by_argon2i costs) salt = argon2_value (codes "argon2i") costs salt
kdf_value (by_argon2id costs) salt = argon2_value (codes "argon2id") costs salt

-- the members of a keyslot of this derivation (LUKS2 On-Disk Format 1.1, 3.2), in the order of their
-- names, and no others
abbrev pub slot_value_by : Deriving → SlotMembers → Data
slot_value_by derivation s = object (
    member (codes "af") (splitter_value s) (
    member (codes "area") (area_value s) (
    member (codes "kdf") (kdf_value derivation s.salt) (
    number_member (codes "key_size") s.key_size (
    text_member (codes "type") (codes "luks2") no_members)))))

abbrev pub slot_value : SlotMembers → Data
slot_value s = slot_value_by s.derivation s

-- ---- a keyslot that is made with the members of another

-- the costs of Argon2 of the keyslot `d`
pub record HasCosts (d : Data) (costs : Argon2Costs) : Type 0 where
  pub time : number_in 1 4294967295 (inside_at outer.Kdf (codes "time") d) ≡ Some costs.time
  pub memory : number_in 1 4294967295 (inside_at outer.Kdf (codes "memory") d) ≡ Some costs.memory
  pub cpus : number_in 1 4294967295 (inside_at outer.Kdf (codes "cpus") d) ≡ Some costs.cpus

-- the derivation is that of the keyslot `d`: the same hash with so many iterations, or the same kind and
-- costs of Argon2
abbrev pub IsDerivedLike : Data → ℕ → Deriving → Type 0
IsDerivedLike d n (by_pbkdf2 hash iterations) = (type_at d outer.Kdf ≡ Some (codes "pbkdf2"))
    × (text_of (inside_at outer.Kdf (codes "hash") d) ≡ Some hash) × (iterations ≡ n)
IsDerivedLike d n (by_argon2i costs) = (type_at d outer.Kdf ≡ Some (codes "argon2i")) × HasCosts d costs
IsDerivedLike d n (by_argon2id costs) = (type_at d outer.Kdf ≡ Some (codes "argon2id")) × HasCosts d costs

-- or it is the one that is chosen, PBKDF2 by the hash of the splitter of the keyslot that is made
abbrev pub IsDerivedOr : Data → ℕ → List ℕ → Option NewDerivation → Deriving → Type 0
IsDerivedOr d n hash None derivation = IsDerivedLike d n derivation
IsDerivedOr d n hash (Some c) derivation = derivation ≡ derivation_by hash c

-- `s` has the members of the keyslot `d`, except for what is new
pub record IsMadeFrom (d : Data) (f : NewMembers) (s : SlotMembers) : Type 0 where
  pub key_size : number_in 1 128 (inside_at outer.Top (codes "key_size") d) ≡ Some s.key_size
  pub stripes : number_in 1 4294967295 (inside_at outer.Af (codes "stripes") d) ≡ Some s.stripes
  pub splitter_hash : text_of (inside_at outer.Af (codes "hash") d) ≡ Some s.splitter_hash
  pub encryption : text_of (inside_at outer.Area (codes "encryption") d) ≡ Some s.encryption
  pub area_key_size : number_in 1 128 (inside_at outer.Area (codes "key_size") d) ≡ Some s.area_key_size
  pub derivation : IsDerivedOr d f.derivation.iterations s.splitter_hash f.derivation.chosen s.derivation
  pub offset : s.offset ≡ f.offset
  pub size : s.size ≡ f.size
  pub salt : s.salt ≡ f.salt
