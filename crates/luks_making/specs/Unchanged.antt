-- What an edit of the metadata keeps as it was, and what it changes.
use Rattle.std.specs.Prelude.{◌≡◌, ◌≢◌, ◌↔◌, ℕ, List, [], ◌∷◌, ◌++◌, not, codes, false, Option, None, Some, option_map}
use Rattle.std.specs.List.{filter, list_any}
use Rattle.std.specs.Str.{bytes_eq}
use Rattle.serde_json.specs.Data.{Data, number, unsigned}
use Rattle.serde_json.specs.Find.{get}
use Rattle.luks_json.specs.Arrays.{names, naming_count}
use Rattle.luks_json.specs.Number.{number_text}
use Rattle.luks_rules.specs.declared.table.Section.{Section}
use Rattle.luks_rules.specs.declared.table.Section.TheVariants.{Config, Digests, Keyslots, Segments, Tokens}
use Rattle.luks_rules.specs.declared.table.Outer.TheVariants as outer
use Rattle.luks_rules.specs.declared.table.Member.TheVariants as name
use Rattle.luks_rules.specs.Accepted.{HasObject}
use Rattle.luks_rules.specs.Faults.{member_at, object_at, outer_at, section_at, type_at}
use Rattle.luks_rules.specs.Reading.{bytes_in, decimal_in, number_in, text_of, texts_of}
use Rattle.luks_rules.specs.Sizes.{inside_at}
use Rattle.luks_making.specs.Amended.{priority_number}
use Rattle.luks_making.specs.Changed.{renewed_slot}
use Rattle.luks_making.specs.declared.amended.Priority.{Priority}
use Rattle.luks_making.specs.declared.derivation.Argon2Costs.{Argon2Costs}
use Rattle.luks_making.specs.declared.derivation.NewDerivation.{NewDerivation}
use Rattle.luks_making.specs.Keyslots.{Deriving, by_pbkdf2, by_argon2i, by_argon2id, NewMembers, SlotMembers, derivation_by, kdf_value, slot_value}
use Rattle.luks_making.specs.Naming.{IsDigestOf}
use Rattle.luks_making.specs.With.{with_name}
use Rattle.luks_making.specs.Without.{without_name, without_names}

-- the members of the value are as they were, except for those of the names
abbrev pub KeepsOthers : List (List ℕ) → Data → Data → Type 0
KeepsOthers names old new =
    (k : List ℕ) → list_any (bytes_eq k) names ≡ false → get k new ≡ get k old

-- the section has the objects that it had, and their members are as they were, except for those of the
-- names
pub record KeepsObjects (names : List (List ℕ)) (s : Section) (old new : Data) : Type 0 where
  pub there : (m : ℕ) (was : Data) → object_at old s m ≡ Some was
      → (d : Data) × (object_at new s m ≡ Some d) × KeepsOthers names was d
  pub back : (m : ℕ) (d : Data) → object_at new s m ≡ Some d
      → (was : Data) × (object_at old s m ≡ Some was) × KeepsOthers names was d

-- ---- what each edit of the keyslot `n` keeps

-- the other keyslots, what names them, and all but the digests' and tokens' arrays of keyslots
pub record KeepsRest (n : ℕ) (old new : Data) : Type 0 where
  pub keyslots : (m : ℕ) → m ≢ n → object_at new Keyslots m ≡ object_at old Keyslots m
  pub naming : (m k : ℕ) → m ≢ n → IsDigestOf old m k ↔ IsDigestOf new m k
  pub digests : KeepsObjects (codes "keyslots" ∷ []) Digests old new
  pub tokens : KeepsObjects (codes "keyslots" ∷ []) Tokens old new
  pub segments : section_at new Segments ≡ section_at old Segments
  pub config : section_at new Config ≡ section_at old Config
  pub others : KeepsOthers (codes "digests" ∷ codes "keyslots" ∷ codes "tokens" ∷ []) old new

-- ---- a value without a keyslot

-- each object of the section loses the name of the keyslot `n` from its array; it is equal where it
-- doesn't have the name
pub record LosesName (s : Section) (n : ℕ) (old new : Data) : Type 0 where
  pub changed : (m : ℕ)
      → object_at new s m ≡ option_map (without_name (number_text n)) (object_at old s m)
  pub equal : (m : ℕ) (d : Data) → object_at old s m ≡ Some d
      → names (number_text n) (get (codes "keyslots") d) ≡ false → object_at new s m ≡ Some d
  pub texts : (m : ℕ) (was d : Data) → object_at old s m ≡ Some was → object_at new s m ≡ Some d
      → texts_of (get (codes "keyslots") d)
      ≡ option_map (filter (λ t. not (bytes_eq t (number_text n))))
      (texts_of (get (codes "keyslots") was))

-- the value `new` is `old` without the keyslot `n` and its name
pub record LosesSlot (n : ℕ) (old new : Data) : Type 0 where
  pub gone : object_at new Keyslots n ≡ None
  pub digests : LosesName Digests n old new
  pub tokens : LosesName Tokens n old new
  pub rest : KeepsRest n old new

-- ---- a value without any keyslot

-- each object of the section has no name in its array of keyslots, and its other members are as they
-- were
pub record LosesNames (s : Section) (old new : Data) : Type 0 where
  pub changed : (m : ℕ) → object_at new s m ≡ option_map without_names (object_at old s m)
  pub none : (m : ℕ) (d : Data) (names : List (List ℕ)) → object_at new s m ≡ Some d
      → texts_of (get (codes "keyslots") d) ≡ Some names → names ≡ []
  pub rest : KeepsObjects (codes "keyslots" ∷ []) s old new

-- the value `new` is `old` without keyslots and their names
pub record LosesSlots (old new : Data) : Type 0 where
  pub gone : (n : ℕ) → object_at new Keyslots n ≡ None
  pub digests : LosesNames Digests old new
  pub tokens : LosesNames Tokens old new
  pub segments : section_at new Segments ≡ section_at old Segments
  pub config : section_at new Config ≡ section_at old Config
  pub others : KeepsOthers (codes "digests" ∷ codes "keyslots" ∷ codes "tokens" ∷ []) old new

-- ---- a value with one more keyslot

-- the value `new` is `old` with the keyslot `n` of the members `s`, and its name in the digest `m`,
-- the one that names it
pub record GainsSlot (n m : ℕ) (s : SlotMembers) (old new : Data) : Type 0 where
  pub there : object_at new Keyslots n ≡ Some (slot_value s)
  pub names : IsDigestOf new n m
  pub once : naming_count (codes "keyslots") (number_text n) (section_at new Digests) ≡ 1
  pub digest : object_at new Digests m
      ≡ option_map (with_name (number_text n)) (object_at old Digests m)
  pub texts : (was d : Data) → object_at old Digests m ≡ Some was → object_at new Digests m ≡ Some d
      → texts_of (get (codes "keyslots") d)
      ≡ option_map (λ ts. ts ++ number_text n ∷ []) (texts_of (get (codes "keyslots") was))
  pub digests : (k : ℕ) → k ≢ m → object_at new Digests k ≡ object_at old Digests k
  pub tokens : section_at new Tokens ≡ section_at old Tokens
  pub rest : KeepsRest n old new

-- the keyslot `d` says the derivation
pub record SaysPbkdf2 (h : List ℕ) (n : ℕ) (d : Data) : Type 0 where
  pub kind : type_at d outer.Kdf ≡ Some (codes "pbkdf2")
  pub hash : text_of (member_at d outer.Kdf name.Hash) ≡ Some h
  pub iterations : number_in 1 4294967295 (member_at d outer.Kdf name.Iterations) ≡ Some n

pub record SaysArgon2 (k : List ℕ) (costs : Argon2Costs) (d : Data) : Type 0 where
  pub kind : type_at d outer.Kdf ≡ Some k
  pub time : number_in 1 4294967295 (member_at d outer.Kdf name.Time) ≡ Some costs.time
  pub memory : number_in 1 4294967295 (member_at d outer.Kdf name.Memory) ≡ Some costs.memory
  pub cpus : number_in 1 4294967295 (member_at d outer.Kdf name.Cpus) ≡ Some costs.cpus

abbrev pub SaysDerivation : Deriving → Data → Type 0
SaysDerivation (by_pbkdf2 hash iterations) d = SaysPbkdf2 hash iterations d
SaysDerivation (by_argon2i costs) d = SaysArgon2 (codes "argon2i") costs d
SaysDerivation (by_argon2id costs) d = SaysArgon2 (codes "argon2id") costs d

-- the keyslot `d` says the members, and has no priority
pub record SaysMembers (s : SlotMembers) (d : Data) : Type 0 where
  pub kind : type_at d outer.Top ≡ Some (codes "luks2")
  pub key_size : number_in 1 128 (member_at d outer.Top name.KeySize) ≡ Some s.key_size
  pub no_priority : member_at d outer.Top name.Priority ≡ None
  pub splitter : type_at d outer.Af ≡ Some (codes "luks1")
  pub splitter_hash : text_of (member_at d outer.Af name.Hash) ≡ Some s.splitter_hash
  pub stripes : number_in 1 4294967295 (member_at d outer.Af name.Stripes) ≡ Some s.stripes
  pub area : type_at d outer.Area ≡ Some (codes "raw")
  pub encryption : text_of (member_at d outer.Area name.Encryption) ≡ Some s.encryption
  pub area_key_size : number_in 1 128 (member_at d outer.Area name.KeySize) ≡ Some s.area_key_size
  pub offset : decimal_in (member_at d outer.Area name.Offset) ≡ Some s.offset
  pub size : decimal_in (member_at d outer.Area name.Size) ≡ Some s.size
  pub derivation : SaysDerivation s.derivation d
  pub salt : bytes_in 1 128 (member_at d outer.Kdf name.Salt) ≡ Some s.salt

-- ---- a value with a changed keyslot

-- the keyslot `d` derives as `was`, except for the salt, and for the iterations where it does so by PBKDF2
pub record KeepsDerivation (n : ℕ) (was d : Data) : Type 0 where
  pub iterations : type_at was outer.Kdf ≡ Some (codes "pbkdf2")
      → number_in 1 4294967295 (member_at d outer.Kdf name.Iterations) ≡ Some n
  pub others : (k : List ℕ) → list_any (bytes_eq k) (codes "iterations" ∷ codes "salt" ∷ []) ≡ false
      → inside_at outer.Kdf k d ≡ inside_at outer.Kdf k was

-- the keyslot `d` derives as is chosen, PBKDF2 by the hash of its splitter, and says no more of it
pub record SaysChosen (c : NewDerivation) (salt : List ℕ) (d : Data) : Type 0 where
  pub hash : List ℕ
  pub splitter : text_of (member_at d outer.Af name.Hash) ≡ Some hash
  pub derivation : SaysDerivation (derivation_by hash c) d
  pub whole : outer_at d outer.Kdf ≡ Some (kdf_value (derivation_by hash c) salt)

-- what the keyslot `d` says of its derivation, by what is chosen
abbrev pub SaysAsked : NewMembers → Option NewDerivation → Data → Data → Type 0
SaysAsked f None was d = KeepsDerivation f.derivation.iterations was d
SaysAsked f (Some c) was d = SaysChosen c f.salt d

-- the keyslot `d` is `was` with a new salt and area, and new iterations where it derives by PBKDF2, or
-- the derivation that is chosen
pub record SaysNew (f : NewMembers) (was d : Data) : Type 0 where
  pub derivation : SaysAsked f f.derivation.chosen was d
  pub salt : bytes_in 1 128 (member_at d outer.Kdf name.Salt) ≡ Some f.salt
  pub offset : decimal_in (member_at d outer.Area name.Offset) ≡ Some f.offset
  pub size : decimal_in (member_at d outer.Area name.Size) ≡ Some f.size
  pub members : KeepsOthers (codes "area" ∷ codes "kdf" ∷ []) was d
  pub area : (k : List ℕ) → list_any (bytes_eq k) (codes "offset" ∷ codes "size" ∷ []) ≡ false
      → inside_at outer.Area k d ≡ inside_at outer.Area k was

-- the value `new` is `old` with what is new in the keyslot `n`
pub record ChangesSlot (n : ℕ) (f : NewMembers) (old new : Data) : Type 0 where
  pub was : Data
  pub there : HasObject old Keyslots n was
  pub is : object_at new Keyslots n ≡ Some (renewed_slot f was)
  pub says : SaysNew f was (renewed_slot f was)
  pub sections : KeepsOthers (codes "keyslots" ∷ []) old new
  -- the digest that names a keyslot is the same, of the changed keyslot too
  pub naming : (m k : ℕ) → IsDigestOf old m k ↔ IsDigestOf new m k
  pub rest : KeepsRest n old new

-- ---- a value with a change of named members

-- of a keyslot and a token that may be named: except for the priority of that keyslot and for that token the
-- value is as it was, and a keyslot has the digest that it had
pub record KeepsUnnamed (slot token : Option ℕ) (old new : Data) : Type 0 where
  pub keyslots : (m : ℕ) → slot ≢ Some m → object_at new Keyslots m ≡ object_at old Keyslots m
  pub named : KeepsObjects (codes "priority" ∷ []) Keyslots old new
  pub tokens : (m : ℕ) → token ≢ Some m → object_at new Tokens m ≡ object_at old Tokens m
  pub naming : (m k : ℕ) → IsDigestOf old m k ↔ IsDigestOf new m k
  pub others : KeepsOthers (codes "keyslots" ∷ codes "tokens" ∷ []) old new

-- the value `new` is `old` with the priority in the keyslot `n`, if that is there
pub record SetsPriority (n : ℕ) (p : Priority) (old new : Data) : Type 0 where
  pub says : (d : Data) → HasObject new Keyslots n d
      → get (codes "priority") d ≡ option_map (λ k. number (unsigned k)) (priority_number p)
  pub rest : KeepsUnnamed (Some n) None old new

-- the value `new` is `old` with the token `n`
pub record AddsToken (n : ℕ) (t old new : Data) : Type 0 where
  pub there : object_at new Tokens n ≡ Some t
  pub rest : KeepsUnnamed None (Some n) old new

-- the value `new` is `old` without the token `n`
pub record LosesToken (n : ℕ) (old new : Data) : Type 0 where
  pub gone : object_at new Tokens n ≡ None
  pub rest : KeepsUnnamed None (Some n) old new
