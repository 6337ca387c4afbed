-- The digest of a LUKS2 volume that a volume key meets: each digest takes the key or not, and the key meets it or not.
use Rattle.std.proofs.Common.{rules, ◌≡◌, ◌⊎◌, ℕ, List, [], ◌∷◌, length, Bool, true, false, Some, refl, sym, ap, subst, ◌∙◌, inl, inr}
use Rattle.std.specs.Prelude.{◌==◌}
use Rattle.std.specs.List.{list_any}
use Rattle.std.proofs.lemmas.Bool.{false≢true}
use Rattle.serde_json.specs.Data.{Data as Value}
use Rattle.luks_json.specs.Names.{numbers_of_array}
use Rattle.luks_rules.specs.declared.table.Member.TheVariants as name
use Rattle.luks_rules.specs.declared.table.Outer.TheVariants as outer
use Rattle.luks_rules.specs.declared.table.Section.TheVariants.{Digests, Keyslots}
use Rattle.luks_rules.specs.Faults.{member_at, object_at}
use Rattle.luks_rules.specs.Reading.{bytes_in, number_in, text_of}
use Rattle.luks_meta.specs.Says.{small_at}
use Rattle.luks_making.specs.Naming.{IsDigestOf}
use Rattle.luks_slot.specs.declared.plan.DigestPlan.{DigestPlan}
use Rattle.luks_slot.specs.Opening.{meets_digest}
use Rattle.luks_slot.specs.Refusal.{is_known_hash}
use Rattle.luks_reading.specs.KeyDigests.{HasKeyslotOf, IsLuks2KeyLength, NamesKeyslot, SaysDigest}
use Rattle.luks_reading.specs.Plans.{HasLuks2KeyBytes}
use Rattle.luks2_edit_laws.specs.Likes.{IsAssigned, IsKeyDigest, IsUnknownTo, MeetsKey, TakesKey}
use Rattle.luks_laws.proofs.DecidedFacts.{alike_decided, at_most_decided, both_decided, Decided, false_decided, less_decided, not_decided, one_decided, three_decided, true_decided}
use Rattle.luks_laws.proofs.SearchFacts.{held_decided, held_or_none, least_or_none_of, LeastNumber, number_decided, some_of_decided, some_same, SomeOrNone}
use Rattle.luks_laws.proofs.MemberDecisions2.{digest_decided}

-- ---- the length of its key

-- a keyslot has a key of so many bytes, or it hasn't
key_bytes_decided : (j : Value) (n len : ℕ) → Decided (HasLuks2KeyBytes j n len)
key_bytes_decided j n len = alike_decided _ (HasLuks2KeyBytes j n len) (λ x. record { object = x.0; there = x.1; is = x.2 }) (λ x. (x.object, x.there, x.is))
    (held_decided (object_at j Keyslots n) (λ d. number_in 1 128 (member_at d outer.Top name.KeySize) ≡ Some len) (λ d. number_decided (number_in 1 128 (member_at d outer.Top name.KeySize)) len))

-- a digest has a first keyslot with such a key, or none
pub first_keyslot : (j : Value) (m len : ℕ) → LeastNumber (λ n. IsDigestOf j n m × HasLuks2KeyBytes j n len) ⊎ ((n : ℕ) → IsDigestOf j n m × HasLuks2KeyBytes j n len → ⊥)
first_keyslot j m len = least_or_none_of _ (λ n. both_decided _ _ (digest_decided j n m) (key_bytes_decided j n len)) 32 (λ n x. x.0.named)

-- it has one, or none
keyslot_of_decided : (j : Value) (m len : ℕ) → Decided (HasKeyslotOf j m len)
keyslot_of_decided j m len = elim (first_keyslot j m len) [
  | inl found ↦ inl (record { slot = found.0; names = found.1.0; long = found.1.1 })
  | inr none ↦ inr (λ x. none x.slot (x.names, x.long))
]

-- it names a keyslot, or it names none
names_decided : (j : Value) (m : ℕ) → Decided (NamesKeyslot j m)
names_decided j m = alike_decided _ (NamesKeyslot j m) (λ x. record { slot = x.0; names = x.1 }) (λ x. (x.slot, x.names))
    (some_of_decided (λ n. IsDigestOf j n m) (λ n. digest_decided j n m) 32 (λ n x. x.named))

-- its key may have so many bytes, or it may not
length_decided : (j : Value) (m len : ℕ) → Decided (IsLuks2KeyLength j m len)
length_decided j m len = one_decided _ _ (keyslot_of_decided j m len)
    (three_decided _ _ _ (not_decided _ (names_decided j m)) (at_most_decided 1 len) (at_most_decided len 128))

-- ---- what it says

-- an object says a digest, or none
says_or_none : (o : Value) → SomeOrNone DigestPlan (SaysDigest o)
says_or_none o = elim (held_or_none (text_of (member_at o outer.Top name.Hash))) [
  | inr none ↦ inr (λ d x. none d.hash.now x.hash)
  | inl hash ↦ elim (held_or_none (small_at o outer.Top name.Iterations)) [
    | inr none ↦ inr (λ d x. none d.iterations x.iterations)
    | inl turns ↦ elim (held_or_none (bytes_in 1 128 (member_at o outer.Top name.Salt))) [
      | inr none ↦ inr (λ d x. none d.salt.now x.salt)
      | inl salt ↦ elim (held_or_none (bytes_in 20 64 (member_at o outer.Top name.Digest))) [
        | inr none ↦ inr (λ d x. none d.stored.now x.stored)
        | inl stored ↦ inl (
          record {
            hash = record { ref_ptr = (0, 0); now = hash.0 };
            iterations = turns.0;
            salt = record { ref_ptr = (0, 0); now = salt.0 };
            stored = record { ref_ptr = (0, 0); now = stored.0 };
          },
          record { hash = hash.1; iterations = turns.1; salt = salt.1; stored = stored.1 },
        )
      ]
    ]
  ]
]

-- it says one hash, and the same keys meet what it says
module _ (o : Value) (a b : DigestPlan) (x : SaysDigest o a) (y : SaysDigest o b) where
  one_hash : a.hash.now ≡ b.hash.now
  one_hash = some_same a.hash.now b.hash.now (sym x.hash ∙ y.hash)

  one_meets : (key : List ℕ) → meets_digest a key ≡ meets_digest b key
  unfolding meets_digest
  one_meets key =
      let turns = some_same a.iterations b.iterations (sym x.iterations ∙ y.iterations) in
      let salt = some_same a.salt.now b.salt.now (sym x.salt ∙ y.salt) in
      let stored = some_same a.stored.now b.stored.now (sym x.stored ∙ y.stored) in
      simp (one_hash, turns, salt, stored)

-- ---- the digest of a number

module _ (j : Value) (m len : ℕ) where
  -- it takes a key of so many bytes, or it doesn't
  pub takes_or_none : SomeOrNone DigestPlan (TakesKey j m len)
  takes_or_none = elim (less_decided m 32) [
    | inr high ↦ inr (λ d x. high x.there.named)
    | inl low ↦ elim (held_or_none (object_at j Digests m)) [
      | inr none ↦ inr (λ d x. none x.object x.there.is)
      | inl o ↦ elim (says_or_none o.0) [
        | inr none ↦ inr (λ d x. none d (subst (λ k. SaysDigest k d) (some_same x.object o.0 (sym x.there.is ∙ o.1)) x.says))
        | inl d ↦ elim (length_decided j m len) [
          | inr other ↦ inr (λ k x. other x.long)
          | inl long ↦ inl (d.0, record { object = o.0; there = record { numbered = refl; named = low; is = o.1 }; says = d.1; long = long })
        ]
      ]
    ]
  ]

  -- what is decided of each digest that says the same is decided of the one that takes it
  takes_decided : (P : DigestPlan → Type 0) → ((d : DigestPlan) → Decided (P d)) → ((o : Value) (a b : DigestPlan) → SaysDigest o a → SaysDigest o b → P b → P a)
      → Decided ((d : DigestPlan) × TakesKey j m len d × P d)
  takes_decided P decide same = elim takes_or_none [
    | inr none ↦ inr (λ x. none x.0 x.1)
    | inl own ↦ elim (decide own.0) [
      | inl has ↦ inl (own.0, own.1, has)
      | inr lacks ↦ inr (λ x. lacks (same own.1.object own.0 x.0 own.1.says (subst (λ k. SaysDigest k x.0) (some_same x.1.object own.1.object (sym x.1.there.is ∙ own.1.there.is)) x.1.says) x.2))
    ]
  ]

module _ (older : Bool) (j : Value) (key : List ℕ) (m : ℕ) where
  -- the key meets it, or it doesn't
  pub meets_decided : Decided (MeetsKey older j key m)
  meets_decided = alike_decided _ (MeetsKey older j key m) (λ x. record { digest = x.0; takes = x.1; known = x.2.0; meets = x.2.1 }) (λ x. (x.digest, x.takes, (x.known, x.meets)))
      (takes_decided j m (length key) (λ d. (is_known_hash older d.hash.now ≡ true) × (meets_digest d key ≡ true))
      (λ d. both_decided _ _ (true_decided (is_known_hash older d.hash.now)) (true_decided (meets_digest d key)))
      (λ o a b x y has. (ap (is_known_hash older) (one_hash o a b x y) ∙ has.0, one_meets o a b x y key ∙ has.1)))

  -- its hash isn't known, or it is
  pub unknown_decided : Decided (IsUnknownTo older j key m)
  unknown_decided = alike_decided _ (IsUnknownTo older j key m) (λ x. record { digest = x.0; takes = x.1; unknown = x.2 }) (λ x. (x.digest, x.takes, x.unknown))
      (takes_decided j m (length key) (λ d. is_known_hash older d.hash.now ≡ false) (λ d. false_decided (is_known_hash older d.hash.now))
      (λ o a b x y has. ap (is_known_hash older) (one_hash o a b x y) ∙ has))

-- ---- the segments that are assigned to it

same_number : (n : ℕ) → (n == n) ≡ true
same_number n = search rules

-- a list has a number, or it has none
some_number : (ns : List ℕ) → Decided ((s : ℕ) × (list_any (λ n. n == s) ns ≡ true))
some_number [] = inr (λ x. false≢true x.1)
some_number (n ∷ ns) = inl (n, rw same_number refl)

-- some segment is assigned to it, or none is
assigned_decided : (j : Value) (m : ℕ) → Decided (IsAssigned j m)
assigned_decided j m = elim (less_decided m 32) [
  | inr high ↦ inr (λ x. high x.is.numbered)
  | inl low ↦ alike_decided _ (IsAssigned j m)
      (λ x. record { segment = x.2.2.0; is = record { numbered = low; object = x.0; there = x.1; segments = x.2.0; told = x.2.1; lists = x.2.2.1 } })
      (λ x. (x.is.object, x.is.there, (x.is.segments, x.is.told, (x.segment, x.is.lists))))
      (held_decided (object_at j Digests m) _ (λ d. held_decided (numbers_of_array (member_at d outer.Top name.Segments)) (λ ns. (s : ℕ) × (list_any (λ n. n == s) ns ≡ true)) some_number))
]

-- ---- the digest that the key meets

-- the first one, or none
pub key_digest_or_none : (older : Bool) (j : Value) (key : List ℕ) → SomeOrNone ℕ (IsKeyDigest older j key)
key_digest_or_none older j key = elim (least_or_none_of (λ m. MeetsKey older j key m × IsAssigned j m) (λ m. both_decided _ _ (meets_decided older j key m) (assigned_decided j m)) 32
    (λ m x. x.0.takes.there.named)) [
      | inl found ↦ inl (found.0, record { meets = found.1.0; first = λ k meets. record { assigned = λ other. found.1.1; number = λ also. found.2 k (meets, also found.1.1) } })
      | inr unassigned ↦ elim (least_or_none_of (MeetsKey older j key) (meets_decided older j key) 32 (λ m x. x.takes.there.named)) [
        | inl found ↦ inl (found.0, record { meets = found.1; first = λ k meets. record { assigned = λ other. absurd (unassigned k (meets, other)); number = λ also. found.2 k meets } })
        | inr none ↦ inr (λ m x. none m x.meets)
      ]
    ]
