-- What metadata with a keyslot's priority, with a token or without one shares with the old one.
use Rattle.std.proofs.Common.{◌≡◌, ◌≢◌, ◌↔◌, ℕ, ◌-◌, List, [], ◌∷◌, length, codes, Option, Some, None, option_and_then, refl, sym, ap, subst, ◌∙◌}
use Rattle.serde_json.specs.Data.{Data as Value}
use Rattle.serde_json.specs.Find.{get}
use Rattle.luks_area.specs.declared.area.Area.{Area}
use Rattle.luks_area.specs.declared.area.AreaName.{AreaName}
use Rattle.luks_area.specs.declared.area.AreaName.TheVariants.{Head1, Head2, Slot, Segment}
use Rattle.luks_area.specs.Ranges.{part}
use Rattle.luks2_header.specs.Header2.{header_at, uuid_field}
use Rattle.luks2_header.proofs.ChoiceFacts.{choices_agree}
use Rattle.luks_json.specs.Number.{number_text}
use Rattle.luks_rules.specs.declared.table.Section.TheVariants.{Digests, Keyslots, Segments}
use Rattle.luks_rules.specs.Faults.{object_at, section_at}
use Rattle.luks_rules.specs.Held.{IsHeld}
use Rattle.luks_rules.specs.MetaFault.{Json}
use Rattle.luks_rules.specs.Reading.{decimal_in, number_in, text_of}
use Rattle.luks_rules.proofs.AreaFaults.{one_value}
use Rattle.luks_making.specs.Unchanged.{KeepsOthers, KeepsUnnamed}
use Rattle.luks_slot.specs.declared.allowed.Allowed.{Allowed}
use Rattle.luks_slot.specs.declared.plan.AreaCipher.{AreaCipher}
use Rattle.luks_slot.specs.declared.plan.AreaCipher.TheVariants.{Apart, Whole}
use Rattle.luks_slot.specs.declared.plan.Derivation.{Derivation}
use Rattle.luks_slot.specs.declared.plan.Derivation.TheVariants.{Pbkdf2, Argon2}
use Rattle.luks_slot.specs.declared.plan.DigestPlan.{DigestPlan}
use Rattle.luks_slot.specs.declared.plan.SlotPlan.{SlotPlan}
use Rattle.luks_reading.specs.declared.report.Data.{Data}
use Rattle.luks_reading.specs.Answer.{AnswerWithin, HasNoKeyslot, Opened}
use Rattle.luks_reading.specs.Header.{json_at}
use Rattle.luks_reading.specs.Layout2.{HasExtent, Luks2Area, segment_extent, segment_offset, slot_number}
use Rattle.luks_reading.specs.Plans.{HasLuks2Plan, IsLuks2Cipher, IsLuks2Derivation, IsLuks2Digest, IsLuks2Plan}
use Rattle.luks2_edit_laws.specs.Kept.{HasSameKeyslot, IsSameKeyslot}
use Rattle.luks2_edit_laws.proofs.KeptAnswers.{answers_kept}
use Rattle.luks2_edit_laws.proofs.KeptFacts.{KeepsMetadata, SaysSame, plan_bytes}
use Rattle.luks2_edit_laws.proofs.MetadataFacts.{segments_follow}
use Rattle.luks2_edit_laws.proofs.UuidFacts.{same_faults}
use Rattle.luks2_edit_laws.proofs.VolumeFacts.{copy_faultless, HasCopy, IsLayout}

-- what is kept one way is kept the other way
pub turned : (slot token : Option ℕ) (j k : Value) → KeepsUnnamed slot token j k → KeepsUnnamed slot token k j
turned slot token j k r = record {
  keyslots = λ m off. sym (r.keyslots m off);
  named = record {
    there = λ m d is. (let p = r.named.back m d is in (p.0, p.1, λ q off. sym (p.2 q off)));
    back = λ m d is. (let p = r.named.there m d is in (p.0, p.1, λ q off. sym (p.2 q off)));
  };
  tokens = λ m off. sym (r.tokens m off);
  naming = λ m i. ((r.naming m i).1, (r.naming m i).0);
  others = λ q off. sym (r.others q off);
}

-- ---- a keyslot that keeps all members but its priority

abbrev Keeps : Value → Value → Type 0
Keeps was d = KeepsOthers (codes "priority" ∷ []) was d

derivation_moves : (was d : Value) → Keeps was d → (x : Derivation) → IsLuks2Derivation was x → IsLuks2Derivation d x
derivation_moves was d kept (Pbkdf2 hash iterations salt) h = let same : get (codes "kdf") d ≡ get (codes "kdf") was = kept (codes "kdf") refl in rw same h
derivation_moves was d kept (Argon2 costs) h = let same : get (codes "kdf") d ≡ get (codes "kdf") was = kept (codes "kdf") refl in rw same h

cipher_moves : (was d : Value) → Keeps was d → (x : AreaCipher) → IsLuks2Cipher was x → IsLuks2Cipher d x
cipher_moves was d kept (Apart name mode) h = h
cipher_moves was d kept (Whole text) h = let same : get (codes "area") d ≡ get (codes "area") was = kept (codes "area") refl in rw same h

-- the area of an object, or of one that isn't there
area_inside : (o n : Option Value) → ((w : Value) → o ≡ Some w → (d : Value) × (n ≡ Some d) × Keeps w d) → ((d : Value) → n ≡ Some d → (w : Value) × (o ≡ Some w) × Keeps w d)
    → option_and_then (get (codes "area")) n ≡ option_and_then (get (codes "area")) o
area_inside None None f g = refl
area_inside None (Some d) f g = let p = g d refl in absurd (let none : None ≡ Some p.0 = p.1 in cc)
area_inside (Some w) n f g = let p = f w refl in rw p.1 (p.2 (codes "area") refl)

none_by : (o n : Option Value) → ((d : Value) → n ≡ Some d → (w : Value) × (o ≡ Some w) × Keeps w d) → o ≡ None → n ≡ None
none_by o None g e = refl
none_by o (Some d) g e = let p = g d refl in absurd (let there : o ≡ Some p.0 = p.1 in cc)

module _ (slot token : Option ℕ) (j k : Value) (rest : KeepsUnnamed slot token j k) where
  digests_are : section_at k Digests ≡ section_at j Digests
  digests_are = rest.others (codes "digests") refl

  -- the digest of each keyslot says the same
  digest_says : (m : ℕ) (d : DigestPlan) → IsLuks2Digest j m d → IsLuks2Digest k m d
  digest_says m d x = record {
    number = x.number;
    names = (rest.naming m x.number).0 x.names;
    object = x.object;
    there = ap (option_and_then (get (number_text x.number))) digests_are ∙ x.there;
    hash = x.hash;
    iterations = x.iterations;
    salt = x.salt;
    stored = x.stored;
  }

  plan_says : (m : ℕ) (was d : Value) (plan : SlotPlan) → Keeps was d → IsLuks2Plan j m was plan → IsLuks2Plan k m d plan
  plan_says m was d plan kept x =
      let area : get (codes "area") d ≡ get (codes "area") was = kept (codes "area") refl in
      let af : get (codes "af") d ≡ get (codes "af") was = kept (codes "af") refl in
      record {
        derivation = derivation_moves was d kept plan.derivation x.derivation;
        cipher = cipher_moves was d kept plan.cipher x.cipher;
        start = ap (λ v. decimal_in (option_and_then (get (codes "offset")) v)) area ∙ x.start;
        len = ap (λ v. decimal_in (option_and_then (get (codes "size")) v)) area ∙ x.len;
        area_key_bytes = ap (λ v. number_in 1 128 (option_and_then (get (codes "key_size")) v)) area ∙ x.area_key_bytes;
        key_bytes = ap (number_in 1 128) (kept (codes "key_size") refl) ∙ x.key_bytes;
        stripes = ap (λ v. number_in 1 4294967295 (option_and_then (get (codes "stripes")) v)) af ∙ x.stripes;
        splitter_hash = ap (λ v. text_of (option_and_then (get (codes "hash")) v)) af ∙ x.splitter_hash;
        digest = digest_says m plan.digest x.digest;
      }

  -- each number of a key area is as it was
  pub number_kept : (m : ℕ) (name : List ℕ) → slot_number k m name ≡ slot_number j m name
  number_kept m name = ap (λ a. decimal_in (option_and_then (get name) a)) (area_inside (object_at j Keyslots m) (object_at k Keyslots m) (rest.named.there m) (rest.named.back m))

  -- so is each area
  pub area_kept : (h total : ℕ) (payload : Data) (name : AreaName) (a : Area) → Luks2Area k h payload total name a → Luks2Area j h payload total name a
  area_kept h total payload Head1 a x = x
  area_kept h total payload Head2 a x = x
  area_kept h total payload (Slot m) a x = (x.0, sym (number_kept m (codes "offset")) ∙ x.1, sym (number_kept m (codes "size")) ∙ x.2)
  area_kept h total payload (Segment m) a x =
      let segments : section_at k Segments ≡ section_at j Segments = rest.others (codes "segments") refl in
      let offset : segment_offset k m ≡ segment_offset j m = rw segments refl in
      let extent : segment_extent k m ≡ segment_extent j m = rw segments refl in
      (x.0, x.1, sym offset ∙ x.2, subst (HasExtent total a.start a.len) extent x.3)

  -- in JSON areas that hold them, each keyslot is there as it was
  plan_there : (old new : List ℕ) → Json old j → Json new k → (m : ℕ) (plan : SlotPlan) → HasLuks2Plan old m plan → HasLuks2Plan new m plan
  plan_there old new before after m plan x =
      let same : x.value ≡ j = one_value old x.value j x.holds before in
      let there : object_at j Keyslots m ≡ Some x.object = rw same at x.there in
      let is : IsLuks2Plan j m x.object plan = rw same at x.is in
      let p = rest.named.there m x.object there in
      record {
        numbered = x.numbered;
        value = k;
        holds = after;
        object = p.0;
        there = p.1;
        is = plan_says m x.object p.0 plan p.2 is;
      }

  absent_there : (old new : List ℕ) → Json old j → Json new k → (m : ℕ) → HasNoKeyslot old m → HasNoKeyslot new m
  absent_there old new before after m x =
      let same : x.value ≡ j = one_value old x.value j x.holds before in
      record { value = k; holds = after; absent = λ lt. none_by (object_at j Keyslots m) (object_at k Keyslots m) (rest.named.back m) (rw same at (x.absent lt)) }

-- each keyslot has the plans that it had
pub same_plans : (slot token : Option ℕ) (j k : Value) → KeepsUnnamed slot token j k → (old new : List ℕ) → Json old j → Json new k → (m : ℕ) → IsSameKeyslot old new m
same_plans slot token j k rest old new before after m =
    let back = turned slot token j k rest in
    record {
      absent = (absent_there slot token j k rest old new before after m, absent_there slot token k j back new old after before m);
      plans = λ plan. (plan_there slot token j k rest old new before after m plan, plan_there slot token k j back new old after before m plan);
    }

-- the digest of each keyslot says the same; a keyslot that isn't named says the same
pub unnamed_says : (slot token : Option ℕ) (j k : Value) → KeepsUnnamed slot token j k → (m : ℕ) → slot ≢ Some m → SaysSame j k m
unnamed_says slot token j k rest m other =
    record { there = rest.keyslots m other; digests = λ d. (digest_says slot token j k rest m d, digest_says slot token k j (turned slot token j k rest) m d) }

-- the metadata makes a well formed volume as the old one did, and agrees with it but in the keyslot that is named
pub amended_metadata : (slot token : Option ℕ) (j k : Value) → KeepsUnnamed slot token j k → (h total : ℕ) (payload : Data) (named : ℕ → Type 0) → ((m : ℕ) → slot ≡ Some m → named m)
    → IsHeld (h - 4096) k → IsLayout h total payload j → KeepsMetadata h total payload named j k
amended_metadata slot token j k rest h total payload named is held old =
    let back : (name : AreaName) (a : Area) → Luks2Area k h payload total name a → Luks2Area j h payload total name a = area_kept slot token j k rest h total payload in
    record {
      layout = record {
        held = held;
        segments = λ here. segments_follow (h - 4096) j k (rest.others (codes "segments") refl) (rest.others (codes "config") refl) (old.segments here);
        fit = record {
          inside = λ name a x. old.fit.inside name a (back name a x);
          disjoint = λ m l a b x y. old.fit.disjoint m l a b (back m a x) (back l b y);
        };
      };
      segments = rest.others (codes "segments") refl;
      slots = λ m lt free. unnamed_says slot token j k rest m (λ same. free (is m same));
    }

-- ---- one volume after another: `v` has the metadata `j`, `w` the metadata `k`, and the key areas are as they were

module _
    (v w : List ℕ) (payload : Data) (o p h : ℕ) (slot token : Option ℕ) (j k : Value) (rest : KeepsUnnamed slot token j k)
    (before : HasCopy v o h j) (after : HasCopy w p h k) (long : length w ≡ length v)
    (old : IsLayout h (length v) payload j) (held : IsHeld (h - 4096) k)
    (slot_bytes : (m : ℕ) (a : Area) → Luks2Area j h payload (length v) (Slot m) a → part w a.start a.len ≡ part v a.start a.len)
  where
    -- what a keyslot needs is the same, of the one too whose priority is set
    pub amended_needs : (m : ℕ) → HasSameKeyslot v w m
    amended_needs m = record {
      old_place = o;
      old_copies = before.copies;
      old_chosen = before.chosen;
      new_place = p;
      new_copies = after.copies;
      new_chosen = after.chosen;
      long = long;
      uuid = same_faults (uuid_field (header_at v o)) (uuid_field (header_at w p)) before.uuid after.uuid;
      old_faultless = copy_faultless v o h j before old.held;
      new_faultless = copy_faultless w p h k after held;
      slot = same_plans slot token j k rest (json_at v o) (json_at w p) before.holds after.holds m;
      bytes = λ plan x. plan_bytes v w (json_at v o) j m h (length v) payload plan before.holds (slot_bytes m) x;
    }

    -- so it gives every passphrase the answer that it gave
    pub amended_answers : (m : ℕ) (allowed : Allowed) (passphrase : List ℕ) (a : Opened) → AnswerWithin allowed v m passphrase a ↔ AnswerWithin allowed w m passphrase a
    amended_answers m = answers_kept choices_agree v w m (amended_needs m)
