-- What the metadata that an edit makes shares with the old one.
use Rattle.std.proofs.Common.{◌≡◌, ◌≢◌, ℕ, ◌+◌, ◌-◌, ◌<◌, ◌≤◌, ◌⊎◌, [], ◌∷◌, codes, Some, None, option_and_then, unwrap_or, inl, inr, refl, sym, ap, subst, ◌∙◌, arith}
use Rattle.std.proofs.lemmas.Bool.{cases_eq}
use Rattle.serde_json.specs.Data.{Data as Value}
use Rattle.serde_json.specs.Find.{get}
use Rattle.luks_area.specs.declared.area.Area.{Area}
use Rattle.luks_area.specs.declared.area.AreaName.{AreaName}
use Rattle.luks_area.specs.declared.area.AreaName.TheVariants.{Head1, Head2, Slot, Segment}
use Rattle.luks_area.specs.Area.{name_kind, name_number, AreDisjoint, Fit}
use Rattle.luks_meta.specs.Number.{number_text}
use Rattle.luks_rules.specs.declared.table.Section.TheVariants.{Config, Digests, Keyslots, Segments}
use Rattle.luks_rules.specs.Faults.{object_at, section_at}
use Rattle.luks_rules.specs.Held.{IsHeld}
use Rattle.luks_rules.specs.Reading.{bytes_in, decimal_in, number_in, text_of}
use Rattle.luks_making.specs.Naming.{IsDigestOf}
use Rattle.luks_making.specs.Unchanged.{KeepsOthers, KeepsRest}
use Rattle.luks_slot.specs.declared.plan.DigestPlan.{DigestPlan}
use Rattle.luks_reading.specs.declared.report.Data.{Data}
use Rattle.luks_reading.specs.Checked.{SegmentsFollow}
use Rattle.luks_reading.specs.Layout2.{HasExtent, Luks2Area, segment_extent, segment_offset, slot_number}
use Rattle.luks_reading.specs.Plans.{IsLuks2Digest}
use Rattle.luks2_edit_laws.specs.Gap.{IsGap}
use Rattle.luks2_edit_laws.specs.Metadata.{IsKeyArea}
use Rattle.luks2_edit_laws.proofs.KeptFacts.{number_same, KeepsMetadata, SaysSame}
use Rattle.luks2_edit_laws.proofs.VolumeFacts.{IsLayout}

-- what is there is one thing
pub some_same : {A : Type 0} (a b : A) → Some a ≡ Some b → a ≡ b
some_same a b e = ap (λ o. unwrap_or o a) e

-- segments that lie behind the region still do where both are as they were
pub segments_follow : (len : ℕ) (j k : Value) → section_at k Segments ≡ section_at j Segments → section_at k Config ≡ section_at j Config
    → SegmentsFollow len j → SegmentsFollow len k
segments_follow len j k segments config s = record {
  each = λ n d bytes start held region offset. s.each n d bytes start
      (record { numbered = held.numbered; named = held.named; is = ap (option_and_then (get (number_text n))) (sym segments) ∙ held.is })
      (ap (λ c. decimal_in (option_and_then (get (codes "keyslots_size")) c)) (sym config) ∙ region) offset;
}

-- the digest of a keyslot says the same where it keeps all members but its array of keyslots
pub digest_moves : (j k : Value) (m n : ℕ) (d : DigestPlan) (x : IsLuks2Digest j m d) (now : Value) → IsDigestOf k n x.number
    → object_at k Digests x.number ≡ Some now → KeepsOthers (codes "keyslots" ∷ []) x.object now → IsLuks2Digest k n d
digest_moves j k m n d x now names there same = record {
  number = x.number;
  names = names;
  object = now;
  there = there;
  hash = ap text_of (same (codes "hash") refl) ∙ x.hash;
  iterations = ap (number_in 1 4294967295) (same (codes "iterations") refl) ∙ x.iterations;
  salt = ap (bytes_in 1 128) (same (codes "salt") refl) ∙ x.salt;
  stored = ap (bytes_in 20 64) (same (codes "digest") refl) ∙ x.stored;
}

-- ---- metadata that keep all but the keyslot `n`

module _ (n : ℕ) (j k : Value) (rest : KeepsRest n j k) where
  pub rest_says : (m : ℕ) → m ≢ n → SaysSame j k m
  rest_says m other = record {
    there = rest.keyslots m other;
    digests = λ d. (
      λ x. (let now = rest.digests.there x.number x.object x.there in
          digest_moves j k m m d x now.0 ((rest.naming m x.number other).0 x.names) now.1 now.2),
      λ x. (let was = rest.digests.back x.number x.object x.there in
          digest_moves k j m m d x was.0 ((rest.naming m x.number other).1 x.names) was.1 (λ key off. sym (was.2 key off))),
    );
  }

  -- each area that isn't the keyslot's was there
  area_back : (h total : ℕ) (payload : Data) (name : AreaName) (a : Area) → name ≢ Slot n → Luks2Area k h payload total name a → Luks2Area j h payload total name a
  area_back h total payload Head1 a other x = x
  area_back h total payload Head2 a other x = x
  area_back h total payload (Slot m) a other x =
      let same : object_at k Keyslots m ≡ object_at j Keyslots m = rest.keyslots m (λ e. other (ap Slot e)) in
      (x.0, sym (number_same j k m (codes "offset") same) ∙ x.1, sym (number_same j k m (codes "size") same) ∙ x.2)
  area_back h total payload (Segment m) a other x =
      let offset : segment_offset k m ≡ segment_offset j m = rw rest.segments refl in
      let extent : segment_extent k m ≡ segment_extent j m = rw rest.segments refl in
      (x.0, x.1, sym offset ∙ x.2, subst (HasExtent total a.start a.len) extent x.3)

  kept_metadata : (h total : ℕ) (payload : Data) (named : ℕ → Type 0) → named n → IsHeld (h - 4096) k → IsLayout h total payload j
      → Fit (Luks2Area k h payload total) total → KeepsMetadata h total payload named j k
  kept_metadata h total payload named is held old fit = record {
    layout = record {
      held = held;
      segments = λ here. segments_follow (h - 4096) j k rest.segments rest.config (old.segments here);
      fit = fit;
    };
    segments = rest.segments;
    slots = λ m lt free. rest_says m (λ same. free (subst named (sym same) is));
  }

  -- ---- where the keyslot is gone

  no_area : (name : AreaName) (h total : ℕ) (payload : Data) (a : Area) → object_at k Keyslots n ≡ None → Luks2Area k h payload total name a → name ≢ Slot n
  no_area name h total payload a gone x same =
      let there : Luks2Area k h payload total (Slot n) a = subst (λ m. Luks2Area k h payload total m a) same x in
      let none : slot_number k n (codes "offset") ≡ None = ap (λ o. decimal_in (option_and_then (get (codes "offset")) (option_and_then (get (codes "area")) o))) gone in
      let some : slot_number k n (codes "offset") ≡ Some a.start = there.1 in
      absurd (cc)

  pub lost_metadata : (h total : ℕ) (payload : Data) (named : ℕ → Type 0) → named n → IsHeld (h - 4096) k → IsLayout h total payload j
      → object_at k Keyslots n ≡ None → KeepsMetadata h total payload named j k
  lost_metadata h total payload named is held old gone = kept_metadata h total payload named is held old (record {
    inside = λ name a x. old.fit.inside name a (area_back h total payload name a (no_area name h total payload a gone x) x);
    disjoint = λ m l a b x y. old.fit.disjoint m l a b
        (area_back h total payload m a (no_area m h total payload a gone x) x) (area_back h total payload l b (no_area l h total payload b gone y) y);
  })

  -- ---- where the keyslot has an area in a gap

  module _ (h total : ℕ) (payload : Data) (low high : ℕ) (new : Area) (here : IsKeyArea k n new)
      (gap : IsGap (Luks2Area j h payload total) low high new.len new.start) (under : high ≤ total) where
    same_start : (a : Area) → Luks2Area k h payload total (Slot n) a → a.start ≡ new.start
    same_start a x = some_same a.start new.start (sym x.1 ∙ here.1)

    same_len : (a : Area) → Luks2Area k h payload total (Slot n) a → a.len ≡ new.len
    same_len a x = some_same a.len new.len (sym x.2 ∙ here.2)

    inside_by : (name : AreaName) (a : Area) → Fit (Luks2Area j h payload total) total → Luks2Area k h payload total name a
        → (name ≡ Slot n) ⊎ (name ≢ Slot n) → a.start + a.len ≤ total
    inside_by name a old x (inl same) =
        let there : Luks2Area k h payload total (Slot n) a = subst (λ m. Luks2Area k h payload total m a) same x in
        let start : a.start ≡ new.start = same_start a there in
        let len : a.len ≡ new.len = same_len a there in
        let to : new.start + new.len ≤ high = gap.to in
        omega (arith, start, len, to, under)
    inside_by name a old x (inr other) = old.inside name a (area_back h total payload name a other x)

    -- an old area beside the new one
    beside_new : (name : AreaName) (a b : Area) → Luks2Area k h payload total name a → name ≢ Slot n → Luks2Area k h payload total (Slot n) b → AreDisjoint a b
    beside_new name a b x other y = λ p in_a in_b.
        (let start : b.start ≡ new.start = same_start b y in
        let len : b.len ≡ new.len = same_len b y in
        let low_ : b.start ≤ p = in_b.0 in
        let high_ : p < b.start + b.len = in_b.1 in
        gap.free name a (area_back h total payload name a other x) p in_a (omega (arith, start, low_), omega (arith, start, len, high_)))

    disjoint_by : (m l : AreaName) (a b : Area) → Fit (Luks2Area j h payload total) total → Luks2Area k h payload total m a → Luks2Area k h payload total l b
        → m ≢ l → (m ≡ Slot n) ⊎ (m ≢ Slot n) → (l ≡ Slot n) ⊎ (l ≢ Slot n) → AreDisjoint a b
    disjoint_by m l a b old x y apart (inl is) (inl also) = absurd (apart (is ∙ sym also))
    disjoint_by m l a b old x y apart (inl is) (inr other) = λ p in_a in_b.
        beside_new l b a y other (subst (λ q. Luks2Area k h payload total q a) is x) p in_b in_a
    disjoint_by m l a b old x y apart (inr other) (inl is) = beside_new m a b x other (subst (λ q. Luks2Area k h payload total q b) is y)
    disjoint_by m l a b old x y apart (inr one) (inr two) =
        old.disjoint m l a b (area_back h total payload m a one x) (area_back h total payload l b two y) apart

    is_slot : (name : AreaName) → (name ≡ Slot n) ⊎ (name ≢ Slot n)
    is_slot Head1 = inr (λ same. (let kind : 0 ≡ 2 = ap name_kind same in absurd (omega (arith, kind))))
    is_slot Head2 = inr (λ same. (let kind : 1 ≡ 2 = ap name_kind same in absurd (omega (arith, kind))))
    is_slot (Slot m) = elim (cases_eq m n) [ inl same ↦ inl (ap Slot same) | inr other ↦ inr (λ same. other (ap name_number same)) ]
    is_slot (Segment m) = inr (λ same. (let kind : 3 ≡ 2 = ap name_kind same in absurd (omega (arith, kind))))

    pub placed_metadata : (named : ℕ → Type 0) → named n → IsHeld (h - 4096) k → IsLayout h total payload j → KeepsMetadata h total payload named j k
    placed_metadata named is held old = kept_metadata h total payload named is held old (record {
      inside = λ name a x. inside_by name a old.fit x (is_slot name);
      disjoint = λ m l a b x y apart. disjoint_by m l a b old.fit x y apart (is_slot m) (is_slot l);
    })
