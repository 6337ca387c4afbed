-- The numbers that accepted metadata says: the stripes of a keyslot that is there, and the region's size.
use Rattle.std.proofs.Common.{◌≡◌, ℕ, true, Option, Some, None, option_map, option_and_then, is_some, codes, refl, ap, ◌∙◌}
use Rattle.std.proofs.lemmas.Bool.{and_from, false≢true}
use Rattle.serde_json.specs.Data.{Data as Value}
use Rattle.serde_json.specs.Find.{as_object, get}
use Rattle.luks_rules.specs.declared.table.Member.TheVariants as name
use Rattle.luks_rules.specs.declared.table.Outer.TheVariants as outer
use Rattle.luks_rules.specs.declared.table.Section.TheVariants.{Config, Keyslots}
use Rattle.luks_rules.specs.Accepted.{HasObject, IsContent, IsRead}
use Rattle.luks_rules.specs.Faults.{member_at, object_at, outer_at, section_at}
use Rattle.luks_rules.specs.Reading.{decimal_in, number_in}
use Rattle.luks_rules.specs.Sizes.{keyslots_size}
use Rattle.luks_rules.specs.Table.{config_rows, keyslot_rows}
use Rattle.luks2_edit_laws.specs.Metadata.{HasStripes, IsInUse}

-- ---- what is there

-- what is some value is one
some_of : {A : Type 0} (o : Option A) → is_some o ≡ true → (x : A) × (o ≡ Some x)
some_of None h = absurd (false≢true h)
some_of (Some x) h = (x, refl)

-- what a rule reads is there
read_of : {A B : Type 0} (f : A → B) (o : Option A) → is_some (option_map f o) ≡ true → (x : A) × (o ≡ Some x)
read_of f None h = absurd (false≢true h)
read_of f (Some x) h = (x, refl)

-- what a rule reads an object of is there
there_of : {A B : Type 0} (f : A → B) (o : Option A) → is_some (option_map f o) ≡ true → is_some o ≡ true
there_of f None h = h
there_of f (Some x) h = refl

-- what is looked into is there
outer_of : {A B : Type 0} (f : A → Option B) (o : Option A) → is_some (option_and_then f o) ≡ true → (x : A) × (o ≡ Some x)
outer_of f None h = absurd (false≢true h)
outer_of f (Some x) h = (x, refl)

-- ---- a keyslot

module _ (d : Value) (read : IsRead keyslot_rows d) where
  -- its key has a length
  key_bytes : (x : ℕ) × (number_in 1 128 (member_at d outer.Top name.KeySize) ≡ Some x)
  key_bytes = read_of _ _ (read.each 18 _ refl (and_from _ _ read.is_object refl))

  -- the splitter's object is there, so its members are judged
  splitter_there : is_some (option_and_then as_object (outer_at d outer.Af)) ≡ true
  splitter_there = there_of _ _ (read.each 0 _ refl (and_from _ _ read.is_object refl))

  -- it has a number of stripes
  stripes : (x : ℕ) × (number_in 1 4294967295 (member_at d outer.Af name.Stripes) ≡ Some x)
  stripes = read_of _ _ (read.each 2 _ refl (and_from _ _ splitter_there refl))

-- how long the key of a keyslot is and how many stripes it has
pub record SomeStripes (j : Value) (n : ℕ) : Type 0 where
  pub key_bytes : ℕ
  pub stripes : ℕ
  pub slot : HasStripes j n key_bytes stripes

module _ (len : ℕ) (j : Value) (content : IsContent len j) where
  -- a keyslot that is there says its stripes
  pub some_stripes : (n : ℕ) → IsInUse j n → SomeStripes j n
  some_stripes n used =
      let object : (d : Value) × (object_at j Keyslots n ≡ Some d) = some_of (object_at j Keyslots n) used.1 in
      let there : HasObject j Keyslots n object.0 = record { numbered = refl; named = used.0; is = object.1 } in
      let read : IsRead keyslot_rows object.0 = content.objects Keyslots n object.0 there in
      record {
        key_bytes = (key_bytes object.0 read).0;
        stripes = (stripes object.0 read).0;
        slot = record { object = object.0; there = there; key_bytes_are = (key_bytes object.0 read).1; stripes_are = (stripes object.0 read).1 };
      }

  -- ---- the region

  -- the metadata says how many bytes the region has
  pub some_region : (x : ℕ) × (keyslots_size j ≡ Some x)
  some_region =
      let config : (d : Value) × (section_at j Config ≡ Some d) = outer_of as_object (section_at j Config) (content.sections Config) in
      let read : IsRead config_rows config.0 = content.config config.0 config.1 in
      let size : (x : ℕ) × (decimal_in (member_at config.0 outer.Top name.KeyslotsSize) ≡ Some x) = read_of _ _ (read.each 1 _ refl (and_from _ _ read.is_object refl)) in
      (size.0, ap (λ o. decimal_in (option_and_then (get (codes "keyslots_size")) o)) config.1 ∙ size.1)
