-- A keyslot of accepted metadata has a plan.
use Rattle.std.proofs.Common.{◌≡◌, ℕ, ◌<◌, Bool, true, false, ◌||◌, List, length, Option, Some, None, option_map, option_and_then, is_some, bytes_eq, codes, refl, ap, ◌∙◌, inl, inr}
use Rattle.std.proofs.lemmas.Bool.{false≢true, and_from, cases_Bool}
use Rattle.std.proofs.lemmas.Slice.Eq.{bytes_eq-Decides}
use Rattle.serde_json.specs.Data.{Data}
use Rattle.serde_json.specs.Find.{as_object}
use Rattle.luks_making.specs.Naming.{IsDigestOf}
use Rattle.luks_json.specs.Number.{number_of, number_text}
use Rattle.luks_rules.specs.declared.table.Listed.TheVariants as listed
use Rattle.luks_rules.specs.declared.table.Member.TheVariants as name
use Rattle.luks_rules.specs.declared.table.Outer.TheVariants as outer
use Rattle.luks_rules.specs.declared.table.Section.TheVariants.{Digests, Keyslots}
use Rattle.luks_rules.specs.declared.table.When.TheVariants as when
use Rattle.luks_rules.specs.Accepted.{HasObject, IsMeta, IsRead}
use Rattle.luks_rules.specs.Faults.{member_at, object_at, outer_at, suits, type_at}
use Rattle.luks_rules.specs.Reading.{bytes_in, decimal_in, is_listed, kept, number_in, text_of}
use Rattle.luks_rules.specs.Table.{digest_rows, keyslot_rows}
use Rattle.luks_meta.specs.Says.{small_at}
use Rattle.luks_slot.specs.declared.plan.Argon2Kind.{Argon2Kind}
use Rattle.luks_slot.specs.declared.plan.Argon2Kind.TheVariants.{I, Id}
use Rattle.luks_slot.specs.declared.plan.AreaCipher.TheVariants.{Whole}
use Rattle.luks_slot.specs.declared.plan.Derivation.{Derivation}
use Rattle.luks_slot.specs.declared.plan.Derivation.TheVariants.{Argon2, Pbkdf2}
use Rattle.luks_slot.specs.declared.plan.DigestPlan.{DigestPlan}
use Rattle.luks_slot.specs.declared.plan.SlotPlan.{SlotPlan}
use Rattle.luks_reading.specs.Plans.{kind_text, HasLuks2Plan, IsLuks2Derivation, IsLuks2Digest}
use Rattle.luks_laws.proofs.DigestFacts.{digest_there}
use Rattle.luks_laws.proofs.UniqueFacts.{tidy_read}

-- what a rule reads is there
said : {A B : Type 0} (f : A → B) (o : Option A) → is_some (option_map f o) ≡ true → (x : A) × (o ≡ Some x)
said f None h = absurd (false≢true h)
said f (Some x) h = (x, refl)

there_of : {A B : Type 0} (f : A → B) (o : Option A) → is_some (option_map f o) ≡ true → is_some o ≡ true
there_of f None h = h
there_of f (Some x) h = refl

kept_of : (test : List ℕ → Bool) (o : Option (List ℕ)) → is_some (option_and_then (kept test) o) ≡ true → (t : List ℕ) × (o ≡ Some t) × (test t ≡ true)
kept_of test None h = absurd (false≢true h)
kept_of test (Some t) h = elim (cases_Bool (test t)) [
  | inl passed ↦ (t, refl, passed)
  | inr failed ↦ absurd (false≢true (rw failed at h))
]

or_last : (a b : Bool) → (a || (b || false)) ≡ true → (a || b) ≡ true
or_last true b h = refl
or_last false true h = refl
or_last false false h = h

-- the kind that a type names
kind_of : (t : List ℕ) → (bytes_eq t (codes "argon2i") || bytes_eq t (codes "argon2id")) ≡ true → (k : Argon2Kind) × (t ≡ kind_text k)
kind_of t same = elim (cases_Bool (bytes_eq t (codes "argon2i"))) [
  | inl first ↦ (I, (bytes_eq-Decides t (codes "argon2i")).0 first)
  | inr other ↦ (Id, (bytes_eq-Decides t (codes "argon2id")).0 (rw other at same))
]

-- the object at `o` inside the object is there, so the rows that are always judged are
module _ (d : Data) (read : IsRead keyslot_rows d) where
  af_there : is_some (option_and_then as_object (outer_at d outer.Af)) ≡ true
  af_there = there_of _ _ (read.each 0 _ refl (and_from _ _ read.is_object refl))

  area_there : is_some (option_and_then as_object (outer_at d outer.Area)) ≡ true
  area_there = there_of _ _ (read.each 4 _ refl (and_from _ _ read.is_object refl))

  kdf_there : is_some (option_and_then as_object (outer_at d outer.Kdf)) ≡ true
  kdf_there = there_of _ _ (read.each 10 _ refl (and_from _ _ read.is_object refl))

  splitter_hash : (x : List ℕ) × (text_of (member_at d outer.Af name.Hash) ≡ Some x)
  splitter_hash = said _ _ (read.each 1 _ refl (and_from _ _ af_there refl))

  stripes : (x : ℕ) × (small_at d outer.Af name.Stripes ≡ Some x)
  stripes = said _ _ (read.each 2 _ refl (and_from _ _ af_there refl))

  encryption : (x : List ℕ) × (text_of (member_at d outer.Area name.Encryption) ≡ Some x)
  encryption = said _ _ (read.each 5 _ refl (and_from _ _ area_there refl))

  area_key_bytes : (x : ℕ) × (number_in 1 128 (member_at d outer.Area name.KeySize) ≡ Some x)
  area_key_bytes = said _ _ (read.each 6 _ refl (and_from _ _ area_there refl))

  offset : (x : ℕ) × (decimal_in (member_at d outer.Area name.Offset) ≡ Some x)
  offset = said _ _ (read.each 7 _ refl (and_from _ _ area_there refl))

  size : (x : ℕ) × (decimal_in (member_at d outer.Area name.Size) ≡ Some x)
  size = said _ _ (read.each 8 _ refl (and_from _ _ area_there refl))

  salt : (x : List ℕ) × (bytes_in 1 128 (member_at d outer.Kdf name.Salt) ≡ Some x)
  salt = said _ _ (read.each 15 _ refl (and_from _ _ kdf_there refl))

  key_bytes : (x : ℕ) × (number_in 1 128 (member_at d outer.Top name.KeySize) ≡ Some x)
  key_bytes = said _ _ (read.each 18 _ refl (and_from _ _ read.is_object refl))

  -- PBKDF2 says its hash and its iterations; the other types that are listed are Argon2
  by_pbkdf2 : (t : List ℕ) → type_at d outer.Kdf ≡ Some t → bytes_eq t (codes "pbkdf2") ≡ true → (a : Derivation) × IsLuks2Derivation d a
  by_pbkdf2 t is same =
      let suited : suits when.Pbkdf2 (type_at d outer.Kdf) ≡ true = rw is same in
      let hash : (x : List ℕ) × (text_of (member_at d outer.Kdf name.Hash) ≡ Some x) = said _ _ (read.each 12 _ refl (and_from _ _ kdf_there suited)) in
      let turns : (x : ℕ) × (small_at d outer.Kdf name.Iterations ≡ Some x) = said _ _ (read.each 13 _ refl (and_from _ _ kdf_there suited)) in (
        Pbkdf2 (record { ref_ptr = (0, 0); now = hash.0 }) turns.0 (record { ref_ptr = (0, 0); now = salt.0 }),
        (is ∙ ap Some ((bytes_eq-Decides t (codes "pbkdf2")).0 same), hash.1, turns.1, salt.1),
      )

  by_argon2 : (t : List ℕ) → type_at d outer.Kdf ≡ Some t → (bytes_eq t (codes "argon2i") || bytes_eq t (codes "argon2id")) ≡ true → (a : Derivation) × IsLuks2Derivation d a
  by_argon2 t is same =
      let suited : suits when.Argon2 (type_at d outer.Kdf) ≡ true = rw is same in
      let cpus : (x : ℕ) × (small_at d outer.Kdf name.Cpus ≡ Some x) = said _ _ (read.each 11 _ refl (and_from _ _ kdf_there suited)) in
      let memory : (x : ℕ) × (small_at d outer.Kdf name.Memory ≡ Some x) = said _ _ (read.each 14 _ refl (and_from _ _ kdf_there suited)) in
      let time : (x : ℕ) × (small_at d outer.Kdf name.Time ≡ Some x) = said _ _ (read.each 16 _ refl (and_from _ _ kdf_there suited)) in
      let kind : (k : Argon2Kind) × (t ≡ kind_text k) = kind_of t same in (
        Argon2 (record { kind = kind.0; time = time.0; memory = memory.0; cpus = cpus.0; salt = record { ref_ptr = (0, 0); now = salt.0 } }),
        (is ∙ ap Some kind.1, time.1, memory.1, cpus.1, salt.1),
      )

  derivation : (a : Derivation) × IsLuks2Derivation d a
  derivation =
      let kind : (t : List ℕ) × (type_at d outer.Kdf ≡ Some t) × (is_listed listed.Derivation t ≡ true) =
      kept_of (is_listed listed.Derivation) (type_at d outer.Kdf) (there_of _ _ (read.each 17 _ refl (and_from _ _ kdf_there refl))) in
      elim (cases_Bool (bytes_eq kind.0 (codes "pbkdf2"))) [
        | inl same ↦ by_pbkdf2 kind.0 kind.1 same
        | inr other ↦ (let either = kind.2 in by_argon2 kind.0 kind.1 (or_last (bytes_eq kind.0 (codes "argon2i")) (bytes_eq kind.0 (codes "argon2id")) (rw other at either)))
      ]

-- ---- the digest

module _ (j object : Data) (n m : ℕ) (named : IsDigestOf j n m) (is : object_at j Digests m ≡ Some object) (read : IsRead digest_rows object) where
  digest_plan : (plan : DigestPlan) × IsLuks2Digest j n plan
  digest_plan =
      let stored : (x : List ℕ) × (bytes_in 20 64 (member_at object outer.Top name.Digest) ≡ Some x) = said _ _ (read.each 0 _ refl (and_from _ _ read.is_object refl)) in
      let hash : (x : List ℕ) × (text_of (member_at object outer.Top name.Hash) ≡ Some x) = said _ _ (read.each 1 _ refl (and_from _ _ read.is_object refl)) in
      let turns : (x : ℕ) × (small_at object outer.Top name.Iterations ≡ Some x) = said _ _ (read.each 2 _ refl (and_from _ _ read.is_object refl)) in
      let salted : (x : List ℕ) × (bytes_in 1 128 (member_at object outer.Top name.Salt) ≡ Some x) = said _ _ (read.each 4 _ refl (and_from _ _ read.is_object refl)) in (
        record {
          hash = record { ref_ptr = (0, 0); now = hash.0 };
          iterations = turns.0;
          salt = record { ref_ptr = (0, 0); now = salted.0 };
          stored = record { ref_ptr = (0, 0); now = stored.0 };
        },
        record { number = m; names = named; object = object; there = is; hash = hash.1; iterations = turns.1; salt = salted.1; stored = stored.1 },
      )

-- ---- the keyslot

pub has_luks2_plan : ((text : List ℕ) (n : ℕ) → number_of text ≡ Some n → (text ≡ number_text n) × (n < 32))
    → (json : List ℕ) (j : Data) (n : ℕ) (d : Data) → IsMeta json j → n < 32 → object_at j Keyslots n ≡ Some d → (plan : SlotPlan) × HasLuks2Plan json n plan
has_luks2_plan says json j n d accepted low there =
    let read : IsRead keyslot_rows d = accepted.content.objects Keyslots n d (record { numbered = refl; named = low; is = there }) in
    let digest = digest_there says (length json) j n d accepted.content (tidy_read accepted.json.text j accepted.json.reads) low there in
    let held : HasObject j Digests digest.0 digest.1.object = record { numbered = refl; named = digest.1.numbered; is = digest.1.is } in
    let by_digest = digest_plan j digest.1.object n digest.0 digest.1 digest.1.is (accepted.content.objects Digests digest.0 digest.1.object held) in
    let by_kdf = derivation d read in (
      record {
        derivation = by_kdf.0;
        cipher = Whole (record { ref_ptr = (0, 0); now = (encryption d read).0 });
        area = record { start = (offset d read).0; len = (size d read).0 };
        area_key_bytes = (area_key_bytes d read).0;
        key_bytes = (key_bytes d read).0;
        stripes = (stripes d read).0;
        splitter_hash = record { ref_ptr = (0, 0); now = (splitter_hash d read).0 };
        digest = by_digest.0;
      },
      record {
        numbered = low;
        value = j;
        holds = accepted.json;
        object = d;
        there = there;
        is = record {
          derivation = by_kdf.1;
          cipher = (encryption d read).1;
          start = (offset d read).1;
          len = (size d read).1;
          area_key_bytes = (area_key_bytes d read).1;
          key_bytes = (key_bytes d read).1;
          stripes = (stripes d read).1;
          splitter_hash = (splitter_hash d read).1;
          digest = by_digest.1;
        };
      },
    )
