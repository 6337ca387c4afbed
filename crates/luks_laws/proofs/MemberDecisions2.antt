-- What the metadata of a LUKS2 volume says of a keyslot, and which digest names it: each is there once, or not at all.
use Rattle.std.proofs.Common.{◌≡◌, ℕ, ◌<◌, true, List, Option, Some, None, is_some, bytes_eq, codes, refl, sym, ap, subst, ◌∙◌, inl, inr}
use Rattle.std.proofs.lemmas.Slice.Eq.{bytes_eq-Decides}
use Rattle.serde_json.specs.Data.{Data as Value}
use Rattle.serde_json.specs.Find.{get}
use Rattle.luks_json.specs.Arrays.{names}
use Rattle.luks_json.specs.Number.{number_text}
use Rattle.luks_rules.specs.declared.table.Outer.TheVariants as outer
use Rattle.luks_rules.specs.declared.table.Section.TheVariants.{Digests, Keyslots}
use Rattle.luks_rules.specs.Faults.{object_at, type_at}
use Rattle.luks_rules.specs.Reading.{number_in, text_of}
use Rattle.luks_rules.specs.Sizes.{inside_at}
use Rattle.luks_making.specs.Conditions.{IsFree}
use Rattle.luks_making.specs.declared.derivation.Argon2Costs.{Argon2Costs}
use Rattle.luks_making.specs.declared.derivation.NewDerivation.{NewDerivation}
use Rattle.luks_making.specs.Keyslots.{by_argon2i, by_argon2id, by_pbkdf2, derivation_by, Deriving, HasCosts, IsDerivedLike, IsDerivedOr, IsMadeFrom, NewMembers, SlotMembers}
use Rattle.luks_making.specs.Naming.{IsDigestOf}
use Rattle.luks2_edit_laws.specs.Metadata.{HasStripes, IsInUse, IsLeastFree, IsNewKeyslot}
use Rattle.luks_laws.proofs.DecidedFacts.{alike_decided, both_decided, Decided, less_decided, true_decided}
use Rattle.luks_laws.proofs.SearchFacts.{held_decided, held_or_none, least_or_none_below, least_or_none_of, some_same, SomeOrNone}

-- ---- keyslots in use and free

-- a keyslot is in use, or it isn't
pub in_use_decided : (j : Value) (n : ℕ) → Decided (IsInUse j n)
in_use_decided j n = both_decided _ _ (less_decided n 32) (true_decided (is_some (object_at j Keyslots n)))

-- an option that is decided to hold nothing
pub none_decided : {A : Type 0} (o : Option A) → Decided (o ≡ None)
none_decided None = inl refl
none_decided (Some x) = inr (λ e. cc)

-- a number is free, or it isn't
free_decided : (j : Value) (n : ℕ) → Decided (IsFree j n)
free_decided j n = alike_decided ((n < 32) × (object_at j Keyslots n ≡ None)) (IsFree j n)
    (λ x. record { small = x.0; free = x.1 }) (λ x. (x.small, x.free)) (both_decided _ _ (less_decided n 32) (none_decided (object_at j Keyslots n)))

-- there is a least number that is free, or none is
least_free : (j : Value) → SomeOrNone ℕ (IsLeastFree j)
least_free j = elim (least_or_none_below (IsFree j) (free_decided j) 32) [
  | inl found ↦ inl (found.0, record { free = found.1; least = found.2 })
  | inr none ↦ inr (λ n x. none n x.free.small x.free)
]

-- no number is free, or some is
pub none_free_decided : (j : Value) → Decided ((n : ℕ) → IsFree j n → ⊥)
none_free_decided j = elim (least_or_none_below (IsFree j) (free_decided j) 32) [
  | inl found ↦ inr (λ none. none found.0 found.1)
  | inr none ↦ inl (λ n free. none n free.small free)
]

-- the number of a keyslot that is made
pub new_number : (j : Value) (to : Option ℕ) → SomeOrNone ℕ (IsNewKeyslot j to)
new_number j (Some t) = inl (t, refl)
new_number j None = least_free j

-- ---- what a keyslot says

-- the object of a keyslot
pub object_or_none : (j : Value) (n : ℕ) → SomeOrNone Value (λ d. (n < 32) × (object_at j Keyslots n ≡ Some d))
object_or_none j n = elim (less_decided n 32) [
  | inl low ↦ elim (held_or_none (object_at j Keyslots n)) [
    | inl d ↦ inl (d.0, (low, d.1))
    | inr none ↦ inr (λ d x. none d x.1)
  ]
  | inr high ↦ inr (λ d x. high x.0)
]

-- the key's length and the stripes of a keyslot
pub stripes_or_none : (j : Value) (n : ℕ) → SomeOrNone (ℕ × ℕ) (λ x. HasStripes j n x.0 x.1)
stripes_or_none j n = elim (object_or_none j n) [
  | inl d ↦ elim (held_or_none (number_in 1 128 (inside_at outer.Top (codes "key_size") d.0))) [
    | inl key ↦ elim (held_or_none (number_in 1 4294967295 (inside_at outer.Af (codes "stripes") d.0))) [
      | inl stripes ↦ inl (
        (key.0, stripes.0),
        record {
          object = d.0;
          there = record { numbered = refl; named = d.1.0; is = d.1.1 };
          key_bytes_are = key.1;
          stripes_are = stripes.1;
        },
      )
      | inr none ↦ inr (λ x y. none x.1 (subst (λ o. number_in 1 4294967295 (inside_at outer.Af (codes "stripes") o) ≡ Some x.1)
          (some_same y.object d.0 (sym y.there.is ∙ d.1.1)) y.stripes_are))
    ]
    | inr none ↦ inr (λ x y. none x.0 (subst (λ o. number_in 1 128 (inside_at outer.Top (codes "key_size") o) ≡ Some x.0)
        (some_same y.object d.0 (sym y.there.is ∙ d.1.1)) y.key_bytes_are))
  ]
  | inr none ↦ inr (λ x y. none y.object (y.there.named, y.there.is))
]

module _ (j : Value) (n a b c d : ℕ) (x : HasStripes j n a b) (y : HasStripes j n c d) where
  -- a keyslot has one object
  one_object : x.object ≡ y.object
  one_object = some_same x.object y.object (sym x.there.is ∙ y.there.is)

  -- and one length of its key
  pub one_key_length : a ≡ c
  one_key_length = some_same a c (sym x.key_bytes_are ∙ ap (λ o. number_in 1 128 (inside_at outer.Top (codes "key_size") o)) one_object ∙ y.key_bytes_are)

  -- and one number of stripes
  pub one_stripes : b ≡ d
  one_stripes = some_same b d (sym x.stripes_are ∙ ap (λ o. number_in 1 4294967295 (inside_at outer.Af (codes "stripes") o)) one_object ∙ y.stripes_are)

-- a keyslot with stripes is in use
pub stripes_in_use : (j : Value) (n a b : ℕ) → HasStripes j n a b → IsInUse j n
stripes_in_use j n a b x = (x.there.named, rw x.there.is refl)

-- the costs of Argon2 of the keyslot `d`
costs_or_none : (d : Value) → SomeOrNone Argon2Costs (HasCosts d)
costs_or_none d = elim (held_or_none (number_in 1 4294967295 (inside_at outer.Kdf (codes "time") d))) [
  | inr none ↦ inr (λ c x. none c.time x.time)
  | inl time ↦ elim (held_or_none (number_in 1 4294967295 (inside_at outer.Kdf (codes "memory") d))) [
    | inr none ↦ inr (λ c x. none c.memory x.memory)
    | inl memory ↦ elim (held_or_none (number_in 1 4294967295 (inside_at outer.Kdf (codes "cpus") d))) [
      | inr none ↦ inr (λ c x. none c.cpus x.cpus)
      | inl cpus ↦ inl (record { time = time.0; memory = memory.0; cpus = cpus.0 }, record { time = time.1; memory = memory.1; cpus = cpus.1 })
    ]
  ]
]

-- its type is one of three, or none of them
data KdfKind (d : Value) : Type 0 where
  is_pbkdf2 : type_at d outer.Kdf ≡ Some (codes "pbkdf2") → KdfKind d
  is_argon2i : type_at d outer.Kdf ≡ Some (codes "argon2i") → KdfKind d
  is_argon2id : type_at d outer.Kdf ≡ Some (codes "argon2id") → KdfKind d

-- a derivation like that of the keyslot is of its type
kind_of : (d : Value) (n : ℕ) (k : Deriving) → IsDerivedLike d n k → KdfKind d
kind_of d n (by_pbkdf2 hash iterations) x = is_pbkdf2 x.0
kind_of d n (by_argon2i costs) x = is_argon2i x.0
kind_of d n (by_argon2id costs) x = is_argon2id x.0

-- whether it is a text
text_decided : (d : Value) (t : List ℕ) → Decided (type_at d outer.Kdf ≡ Some t)
text_decided d t = elim (held_or_none (type_at d outer.Kdf)) [
  | inr none ↦ inr (λ is. none t is)
  | inl found ↦ elim (true_decided (bytes_eq found.0 t)) [
    | inl same ↦ inl (found.1 ∙ ap Some ((bytes_eq-Decides found.0 t).0 same))
    | inr other ↦ inr (λ is. other ((bytes_eq-Decides found.0 t).1 (some_same found.0 t (sym found.1 ∙ is))))
  ]
]

kind_decided : (d : Value) → Decided (KdfKind d)
kind_decided d = elim (text_decided d (codes "pbkdf2")) [
  | inl is ↦ inl (is_pbkdf2 is)
  | inr other ↦ elim (text_decided d (codes "argon2i")) [
    | inl is ↦ inl (is_argon2i is)
    | inr nor ↦ elim (text_decided d (codes "argon2id")) [
      | inl is ↦ inl (is_argon2id is)
      | inr neither ↦ inr (λ x. elim x [ is_pbkdf2 is ↦ other is | is_argon2i is ↦ nor is | is_argon2id is ↦ neither is ])
    ]
  ]
]

-- without a hash there is none by PBKDF2, and without costs none by Argon2
no_hash : (d : Value) (n : ℕ) → type_at d outer.Kdf ≡ Some (codes "pbkdf2") → ((h : List ℕ) → text_of (inside_at outer.Kdf (codes "hash") d) ≡ Some h → ⊥)
    → (k : Deriving) → IsDerivedLike d n k → ⊥
no_hash d n is none (by_pbkdf2 hash iterations) x = none hash x.1
no_hash d n is none (by_argon2i costs) x = let both : Some (codes "pbkdf2") ≡ Some (codes "argon2i") = sym is ∙ x.0 in cc
no_hash d n is none (by_argon2id costs) x = let both : Some (codes "pbkdf2") ≡ Some (codes "argon2id") = sym is ∙ x.0 in cc

no_costs : (d : Value) (n : ℕ) (t : List ℕ) → type_at d outer.Kdf ≡ Some t → (Some t ≡ Some (codes "pbkdf2") → ⊥) → ((c : Argon2Costs) → HasCosts d c → ⊥)
    → (k : Deriving) → IsDerivedLike d n k → ⊥
no_costs d n t is other none (by_pbkdf2 hash iterations) x = other (sym is ∙ x.0)
no_costs d n t is other none (by_argon2i costs) x = none costs x.1
no_costs d n t is other none (by_argon2id costs) x = none costs x.1

-- of the type that it has
derived_by : (d : Value) (n : ℕ) → KdfKind d → SomeOrNone Deriving (IsDerivedLike d n)
derived_by d n (is_pbkdf2 is) = elim (held_or_none (text_of (inside_at outer.Kdf (codes "hash") d))) [
  | inl hash ↦ inl (by_pbkdf2 hash.0 n, (is, hash.1, refl))
  | inr none ↦ inr (no_hash d n is none)
]
derived_by d n (is_argon2i is) = elim (costs_or_none d) [
  | inl costs ↦ inl (by_argon2i costs.0, (is, costs.1))
  | inr none ↦ inr (no_costs d n (codes "argon2i") is (λ e. cc) none)
]
derived_by d n (is_argon2id is) = elim (costs_or_none d) [
  | inl costs ↦ inl (by_argon2id costs.0, (is, costs.1))
  | inr none ↦ inr (no_costs d n (codes "argon2id") is (λ e. cc) none)
]

-- a derivation like that of a keyslot, or none
derived_or_none : (d : Value) (n : ℕ) → SomeOrNone Deriving (IsDerivedLike d n)
derived_or_none d n = elim (kind_decided d) [
  | inl kind ↦ derived_by d n kind
  | inr none ↦ inr (λ k x. none (kind_of d n k x))
]

-- or the one that is chosen
derived_or : (d : Value) (n : ℕ) (hash : List ℕ) (chosen : Option NewDerivation) → SomeOrNone Deriving (IsDerivedOr d n hash chosen)
derived_or d n hash None = derived_or_none d n
derived_or d n hash (Some c) = inl (derivation_by hash c, refl)

-- what a keyslot has that is made with the members of the keyslot `d`
pub made_or_none : (d : Value) (f : NewMembers) → SomeOrNone SlotMembers (IsMadeFrom d f)
made_or_none d f = elim (held_or_none (number_in 1 128 (inside_at outer.Top (codes "key_size") d))) [
  | inr none ↦ inr (λ s x. none s.key_size x.key_size)
  | inl key ↦ elim (held_or_none (number_in 1 4294967295 (inside_at outer.Af (codes "stripes") d))) [
    | inr none ↦ inr (λ s x. none s.stripes x.stripes)
    | inl stripes ↦ elim (held_or_none (text_of (inside_at outer.Af (codes "hash") d))) [
      | inr none ↦ inr (λ s x. none s.splitter_hash x.splitter_hash)
      | inl splitter ↦ elim (held_or_none (text_of (inside_at outer.Area (codes "encryption") d))) [
        | inr none ↦ inr (λ s x. none s.encryption x.encryption)
        | inl encryption ↦ elim (held_or_none (number_in 1 128 (inside_at outer.Area (codes "key_size") d))) [
          | inr none ↦ inr (λ s x. none s.area_key_size x.area_key_size)
          | inl area_key ↦ elim (derived_or d f.derivation.iterations splitter.0 f.derivation.chosen) [
            | inr none ↦ inr (λ s x. none s.derivation
                (subst (λ h. IsDerivedOr d f.derivation.iterations h f.derivation.chosen s.derivation) (some_same s.splitter_hash splitter.0 (sym x.splitter_hash ∙ splitter.1)) x.derivation))
            | inl derivation ↦ inl (
              record {
                key_size = key.0;
                stripes = stripes.0;
                splitter_hash = splitter.0;
                offset = f.offset;
                size = f.size;
                encryption = encryption.0;
                area_key_size = area_key.0;
                derivation = derivation.0;
                salt = f.salt;
              },
              record {
                key_size = key.1;
                stripes = stripes.1;
                splitter_hash = splitter.1;
                encryption = encryption.1;
                area_key_size = area_key.1;
                derivation = derivation.1;
                offset = refl;
                size = refl;
                salt = refl;
              },
            )
          ]
        ]
      ]
    ]
  ]
]

-- ---- the digest that names a keyslot

-- a digest names a keyslot, or it doesn't
pub digest_decided : (j : Value) (n m : ℕ) → Decided (IsDigestOf j n m)
digest_decided j n m = elim (both_decided (IsInUse j n) (m < 32) (in_use_decided j n) (less_decided m 32)) [
  | inl low ↦ alike_decided ((d : Value) × (object_at j Digests m ≡ Some d) × (names (number_text n) (get (codes "keyslots") d) ≡ true)) (IsDigestOf j n m)
      (λ x. record { named = low.0.0; keyslot = low.0.1; numbered = low.1; object = x.0; is = x.1; lists = x.2 }) (λ x. (x.object, x.is, x.lists))
      (held_decided (object_at j Digests m) (λ d. names (number_text n) (get (codes "keyslots") d) ≡ true) (λ d. true_decided (names (number_text n) (get (codes "keyslots") d))))
  | inr high ↦ inr (λ x. high ((x.named, x.keyslot), x.numbered))
]

-- some digest names a keyslot, or none does
pub digest_or_none : (j : Value) (n : ℕ) → SomeOrNone ℕ (IsDigestOf j n)
digest_or_none j n = elim (least_or_none_of (IsDigestOf j n) (digest_decided j n) 32 (λ m x. x.numbered)) [
  | inl found ↦ inl (found.0, found.1)
  | inr none ↦ inr none
]
