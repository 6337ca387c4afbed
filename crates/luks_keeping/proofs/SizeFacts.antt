-- How long a backup is, and that its header and key areas fit into that.
use Rattle.std.proofs.Common.{◌≡◌, ℕ, ◌+◌, ◌-◌, ◌*◌, ◌≤◌, List, codes, length, Option, Some, None, option_and_then, refl, sym, ap, subst, ◌∙◌, arith}
use Rattle.serde_json.specs.Data.{Data as Value}
use Rattle.serde_json.specs.Find.{get}
use Rattle.luks_area.specs.Ranges.{part}
use Rattle.luks_area.proofs.RangeFacts.{length-part_inside}
use Rattle.luks_area.specs.declared.area.Area.{Area}
use Rattle.luks_area.specs.declared.area.AreaName.{AreaName}
use Rattle.luks_area.specs.declared.area.AreaName.TheVariants as name
use Rattle.luks2_header.proofs.ChoiceFacts.{choices_agree, chosen_is_sound}
use Rattle.luks2_header.proofs.CopyFacts.{listed_at_least}
use Rattle.luks2_header.specs.Header2.{hdr_size, header_at}
use Rattle.luks2_header.specs.Selection.{Choice, luks1, luks2, nothing, Chosen}
use Rattle.luks_rules.proofs.AreaFaults.{one_value}
use Rattle.luks_rules.specs.declared.table.Section.TheVariants.{Keyslots}
use Rattle.luks_meta.specs.Accepted.{IsContent}
use Rattle.luks_meta.specs.Content.{content}
use Rattle.luks_meta.specs.Faults.{object_at}
use Rattle.luks_meta.specs.Objects.{IsConfig}
use Rattle.luks_meta.specs.declared.configuration.Config.{Config as Sizes}
use Rattle.luks_meta.specs.Reading.{decimal_in}
use Rattle.luks_meta.specs.Sizes.{keyslots_size, region_start}
use Rattle.luks_reading.specs.Checked.{IsLuks1Volume, IsLuks2Volume}
use Rattle.luks_reading.specs.Header.{json_at, IsChosenCopy as IsChosenCopy2}
use Rattle.luks_reading.specs.declared.header.ChosenCopy.{ChosenCopy}
use Rattle.luks_reading.specs.Layout1.{Luks1Area}
use Rattle.luks_reading.specs.Layout2.{Luks2Area}
use Rattle.luks_reading.specs.declared.report.Data.{Data}
use Rattle.luks_reading.specs.declared.report.Data.TheVariants.{Here, Elsewhere}
use Rattle.luks_keeping.proofs.SlotFacts.{no_slot}
use Rattle.luks_keeping.specs.Backup.{IsBackupSize, IsLuks1Size, IsLuks2Size, IsSizeAs}
use Rattle.luks_keeping.specs.Judged.{IsFormedOn, IsFormedOnAs}
use Rattle.luks_keeping.specs.Laid.{HasSlot2}

-- ---- one size

some_number : (a b : ℕ) → Some a ≡ Some b → a ≡ b
some_number a b e = cc

-- by what counts
pub one_size_as : (v : List ℕ) (payload : Data) (c : Choice) (a b : ℕ) → IsSizeAs v payload c a → IsSizeAs v payload c b → a ≡ b
one_size_as v payload luks1 a b x y = (let low = x.least b y.holds in let high = y.least a x.holds in omega (arith, low, high))
one_size_as v payload (luks2 o copies) a b x y =
    let value : y.value ≡ x.value = one_value (json_at v o) y.value x.value y.holds x.holds in
    let says : keyslots_size x.value ≡ Some y.region = subst (λ (j : Value). keyslots_size j ≡ Some y.region) value y.says in
    let region : x.region ≡ y.region = some_number x.region y.region (sym x.says ∙ says) in
    let p = x.is in
    let q = y.is in
    omega (arith, p, q, region)
one_size_as v payload nothing a b x y = absurd x

pub one_size : (v : List ℕ) (payload : Data) (a b : ℕ) → IsBackupSize v payload a → IsBackupSize v payload b → a ≡ b
one_size v payload a b x y = one_size_as v payload x.choice a b x.is (subst (λ (c : Choice). IsSizeAs v payload c b) (choices_agree v y.choice x.choice y.chosen x.chosen) y.is)

pub size_by : (v : List ℕ) (payload : Data) (c : Choice) (a : ℕ) → Chosen v c → IsBackupSize v payload a → IsSizeAs v payload c a
size_by v payload c a chosen x = subst (λ (d : Choice). IsSizeAs v payload d a) (choices_agree v x.choice c x.chosen chosen) x.is

-- ---- LUKS1 fits

module _ (h : List ℕ) (payload : Data) (total size : ℕ) (formed : IsLuks1Volume h payload total) (is : IsLuks1Size h payload size) where
  inside1 : (n : AreaName) (a : Area) → Luks1Area h Elsewhere size n a → a.start + a.len ≤ size
  inside1 name.Head1 a x = (let start = x.0 in let len = x.1 in let all = is.holds.header in omega (arith, start, len, all))
  inside1 name.Head2 a x = absurd x
  inside1 (name.Slot n) a x = is.holds.areas n a x
  inside1 (name.Segment n) a x = absurd (let here : Elsewhere ≡ Here = x.1 in cc)

  as_here1 : (n : AreaName) (a : Area) → Luks1Area h Elsewhere size n a → Luks1Area h payload total n a
  as_here1 (name.Segment n) a x = absurd (let here : Elsewhere ≡ Here = x.1 in cc)
  as_here1 other a x = x

  formed1 : IsLuks1Volume h Elsewhere size
  formed1 = record {
    header = formed.header;
    fit = record { inside = inside1; disjoint = λ m n a b p q. formed.fit.disjoint m n a b (as_here1 m a p) (as_here1 n b q) };
  }

-- ---- LUKS2: the key areas lie in their region, which follows both copies

slot_within : (len : ℕ) (j : Value) → IsContent len j → (bytes : ℕ) → keyslots_size j ≡ Some bytes → (n : ℕ) (a : Area) → HasSlot2 j n a
    → (o : Option Value) → object_at j Keyslots n ≡ o → a.start + a.len ≤ region_start len + bytes
slot_within len j held bytes says n a is None e = absurd (no_slot j n a e is)
slot_within len j held bytes says n a is (Some d) e =
    (held.within n d bytes a.start a.len (record { numbered = refl; named = is.0; is = e }) says
    (subst (λ (o : Option Value). decimal_in (option_and_then (get (codes "offset")) (option_and_then (get (codes "area")) o)) ≡ Some a.start) e is.1)
    (subst (λ (o : Option Value). decimal_in (option_and_then (get (codes "size")) (option_and_then (get (codes "area")) o)) ≡ Some a.len) e is.2)).1

module _ (b json : List ℕ) (payload : Data) (total size : ℕ) (large : 16384 ≤ hdr_size b) (long : length json ≡ hdr_size b - 4096)
    (formed : IsLuks2Volume b json payload total) (is : IsLuks2Size (hdr_size b) json size) where
  j : Value
  j = formed.layout.0

  says : keyslots_size j ≡ Some is.region
  unfolding j
  says = subst (λ (k : Value). keyslots_size k ≡ Some is.region) (one_value json is.value formed.layout.0 is.holds formed.layout.1.metadata.json) is.says

  slot_inside : (n : ℕ) (a : Area) → HasSlot2 j n a → a.start + a.len ≤ size
  unfolding j
  slot_inside n a x =
      let within = slot_within (length json) formed.layout.0 formed.layout.1.metadata.content is.region says n a x (object_at formed.layout.0 Keyslots n) refl in
      let all = is.is in
      omega (arith, within, all, large, long)

  inside2 : (n : AreaName) (a : Area) → Luks2Area j (hdr_size b) Elsewhere size n a → a.start + a.len ≤ size
  inside2 (name.Slot n) a x = slot_inside n a x
  inside2 (name.Segment n) a x = absurd (let here : Elsewhere ≡ Here = x.1 in cc)
  inside2 other a x = (let start = x.0 in let len = x.1 in let all = is.is in omega (arith, start, len, all))

  as_here2 : (n : AreaName) (a : Area) → Luks2Area j (hdr_size b) Elsewhere size n a → Luks2Area formed.layout.0 (hdr_size b) payload total n a
  unfolding j
  as_here2 (name.Segment n) a x = absurd (let here : Elsewhere ≡ Here = x.1 in cc)
  as_here2 other a x = x

  formed2 : IsLuks2Volume b json Elsewhere size
  unfolding j
  formed2 = record {
    uuid = formed.uuid;
    layout = (
      formed.layout.0,
      record {
        metadata = formed.layout.1.metadata;
        segments = λ here. absurd (let is_here : Elsewhere ≡ Here = here in cc);
        fit = record { inside = inside2; disjoint = λ m n a b p q. formed.layout.1.fit.disjoint m n a b (as_here2 m a p) (as_here2 n b q) };
      },
    );
  }

-- ---- whatever counts

formed_size : (v : List ℕ) (payload : Data) (c : Choice) (size : ℕ) → Chosen v c → IsFormedOnAs v payload (length v) c → IsSizeAs v payload c size → IsFormedOnAs v Elsewhere size c
formed_size v payload luks1 size chosen formed is = formed1 (part v 0 592) payload (length v) size formed is
formed_size v payload (luks2 o copies) size chosen formed is =
    let sound = chosen_is_sound v o copies chosen.1 in
    let large = listed_at_least (hdr_size (header_at v o)) sound.form.listed in
    let inside = sound.form.inside in
    let long : length (json_at v o) ≡ hdr_size (header_at v o) - 4096 = length-part_inside v (o + 4096) (hdr_size (header_at v o) - 4096) (omega (arith, large, inside)) in
    formed2 (header_at v o) (json_at v o) payload (length v) size large long formed is
formed_size v payload nothing size chosen formed is = absurd formed

-- the header of a well formed volume is accepted on a device that is as long as its backup
pub fits_elsewhere : (v : List ℕ) (payload : Data) (size : ℕ) → IsFormedOn v payload (length v) → IsBackupSize v payload size → IsFormedOn v Elsewhere size
fits_elsewhere v payload size formed is = record {
  choice = formed.choice;
  chosen = formed.chosen;
  formed = formed_size v payload formed.choice size formed.chosen formed.formed (size_by v payload formed.choice size formed.chosen is);
}

-- ---- what is accepted on a device is accepted on a longer one, the payload being elsewhere

longer1 : (h : List ℕ) (size total : ℕ) → size ≤ total → IsLuks1Volume h Elsewhere size → IsLuks1Volume h Elsewhere total
longer1 h size total le x = record {
  header = x.header;
  fit = record {
    inside = λ n a is. (let all = x.fit.inside n a (same n a is) in omega (arith, all, le));
    disjoint = λ m n a b p q. x.fit.disjoint m n a b (same m a p) (same n b q);
  };
}
  where
    same : (n : AreaName) (a : Area) → Luks1Area h Elsewhere total n a → Luks1Area h Elsewhere size n a
    same (name.Segment n) a is = absurd (let here : Elsewhere ≡ Here = is.1 in cc)
    same other a is = is

longer2 : (b json : List ℕ) (size total : ℕ) → size ≤ total → IsLuks2Volume b json Elsewhere size → IsLuks2Volume b json Elsewhere total
longer2 b json size total le x = record {
  uuid = x.uuid;
  layout = (
    x.layout.0,
    record {
      metadata = x.layout.1.metadata;
      segments = λ here. absurd (let is : Elsewhere ≡ Here = here in cc);
      fit = record {
        inside = λ n a is. (let all = x.layout.1.fit.inside n a (same n a is) in omega (arith, all, le));
        disjoint = λ m n a b p q. x.layout.1.fit.disjoint m n a b (same m a p) (same n b q);
      };
    },
  );
}
  where
    same : (n : AreaName) (a : Area) → Luks2Area x.layout.0 (hdr_size b) Elsewhere total n a → Luks2Area x.layout.0 (hdr_size b) Elsewhere size n a
    same (name.Segment n) a is = absurd (let here : Elsewhere ≡ Here = is.1 in cc)
    same other a is = is

longer_as : (v : List ℕ) (c : Choice) (size total : ℕ) → size ≤ total → IsFormedOnAs v Elsewhere size c → IsFormedOnAs v Elsewhere total c
longer_as v luks1 size total le x = longer1 (part v 0 592) size total le x
longer_as v (luks2 o copies) size total le x = longer2 (header_at v o) (json_at v o) size total le x
longer_as v nothing size total le x = x

pub formed_longer : (v : List ℕ) (size total : ℕ) → size ≤ total → IsFormedOn v Elsewhere size → IsFormedOn v Elsewhere total
formed_longer v size total le x = record { choice = x.choice; chosen = x.chosen; formed = longer_as v x.choice size total le x.formed }

-- ---- by the header that was read

-- what `config` tells is what the metadata says
region_said : (j : Value) (k : Sizes) → IsConfig j k → keyslots_size j ≡ Some k.keyslots_size
region_said j k x = ap (λ s. decimal_in (option_and_then (get (codes "keyslots_size")) s)) x.is ∙ x.tells_members.1

pub sized2 : (v : List ℕ) (payload : Data) (copy : ChosenCopy) (k : Sizes) (size : ℕ) → IsChosenCopy2 v copy → IsConfig (content copy.meta) k → size ≡ 2 * copy.header.hdr_size + k.keyslots_size
    → IsBackupSize v payload size
sized2 v payload copy k size is config sum = record {
  choice = luks2 copy.header.hdr_offset copy.copies;
  chosen = is.chosen;
  is = record {
    value = content copy.meta;
    holds = is.metadata.json;
    region = k.keyslots_size;
    says = region_said (content copy.meta) k config;
    is = (let size = is.header.hdr_size in omega (arith, sum, size));
  };
}
