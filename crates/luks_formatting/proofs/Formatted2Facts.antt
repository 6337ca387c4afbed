-- A volume that was formatted by LUKS2 is well formed, and its keyslot 0 opens.
use Rattle.std.proofs.Common.{◌≡◌, ℕ, ◌+◌, ◌*◌, ◌-◌, ◌≤◌, ◌++◌, true, List, length, replicate, Option, Some, None, arith, sym, ap, ◌∙◌, subst, lit<, if◌then◌else◌}
use Rattle.std.specs.Prelude.{IfSome}
use Rattle.serde_json.specs.Data.{Data as Value}
use Rattle.luks_area.specs.Ranges.{part}
use Rattle.luks_area.proofs.RangeFacts.{length-part_inside}
use Rattle.luks_area.specs.declared.area.Area.{Area}
use Rattle.luks_kdf.specs.Names.{digest_size_of}
use Rattle.luks_reading.specs.declared.format.Format.{Format}
use Rattle.luks2_header.specs.Header2.{hdr_size, header_at, uuid_field, IsUuidField}
use Rattle.luks2_header.specs.Selection.{luks2, Chosen}
use Rattle.luks2_header.specs.Written.{IsWrittenCopy}
use Rattle.luks2_header.proofs.BinaryHeaderFacts.{written_in_step}
use Rattle.luks2_header.proofs.ChoiceFacts.{uuid_sound}
use Rattle.luks2_header.specs.declared.selection.Copies.TheVariants.{InStep}
use Rattle.luks1_header.specs.Bytes.{IsUuid}
use Rattle.luks2_header.proofs.UuidFacts.{fills}
use Rattle.luks_rules.specs.Accepted.{IsContent, IsMeta}
use Rattle.luks_rules.specs.Faults.{object_at}
use Rattle.luks_rules.specs.MetaFault.{IsMetaFault}
use Rattle.luks_rules.specs.declared.fault.MetaFault.{MetaFault}
use Rattle.luks_rules.specs.declared.table.Section.TheVariants.{Keyslots}
use Rattle.luks_rules.proofs.AreaFaults.{one_value}
use Rattle.luks_rules.proofs.Deciding.{metadata_faultless}
use Rattle.luks_making.specs.Formatted.{VolumeMembers}
use Rattle.luks_making.specs.Keyslots.{slot_value}
use Rattle.luks_slot.specs.Refusal.{slot_refusal_within}
use Rattle.luks_slot.specs.declared.allowed.Allowed.{Allowed}
use Rattle.luks_slot.specs.declared.plan.SlotPlan.{SlotPlan}
use Rattle.luks_reading.specs.Answer.{AnswerWithin, IsLuks2RefusalWithin, opens}
use Rattle.luks_reading.specs.Checked.{IsLuks2Volume, SegmentsFollow, WellFormed}
use Rattle.luks_reading.specs.Header.{json_at}
use Rattle.luks_reading.specs.Plans.{HasLuks2Plan}
use Rattle.luks_reading.specs.declared.open_fault.OpenFault.{OpenFault}
use Rattle.luks_reading.specs.declared.open_fault.OpenFault.TheVariants.{Head, Meta, NoSuchSlot, SlotFree, Outside, Slot, Device, Memory}
use Rattle.luks_making.specs.declared.derivation.NewDerivation.{NewDerivation}
use Rattle.luks_making.specs.Derivations.{memory_by, IsMakeable}
use Rattle.luks_formatting.specs.Deriving.{slot_derivation}
use Rattle.luks_formatting.specs.Formatted2.{IsFormatted2As}
use Rattle.luks_formatting.specs.NewHeader2.{area2, first_slot_by, formatted_by, new_members, new_metadata, FitsMetadataAs, IsNewCipher2}
use Rattle.luks_formatting.specs.NewPlan.{key_digest, IsNewPlanBy}
use Rattle.luks_formatting.specs.RandomBytes.{digest_salt, needed_bytes, random_stripes, slot_place2, slot_salt}
use Rattle.luks_formatting.specs.Encrypting.{is_older}
use Rattle.luks_formatting.proofs.EncryptingFacts.{block_most, opens2, sizes, AreSizes}
use Rattle.luks_formatting.specs.Given.{key_of, uuid_of, IsSound2}
use Rattle.luks_formatting.specs.declared.given.Given.{Given}
use Rattle.luks_formatting.proofs.GivenFacts.{length-key_of, uuid_is}
use Rattle.luks_formatting.proofs.Formatted1Facts.{reopens}
use Rattle.luks_formatting.proofs.Keyslot2Facts.{fit, plan_is, segments}
use Rattle.luks_formatting.proofs.MetadataFacts.{can_format, held_by, length-slot_salt, no_some}
use Rattle.luks_formatting.proofs.NewPlanFacts.{key_meets, makeable_enough, unrefused_chosen}

-- the uuid of a new header
uuid_good : (text field_ : List ℕ) → IsUuid text → field_ ≡ text ++ replicate 4 0 → IsUuidField field_
uuid_good text field_ good is = subst IsUuidField (sym is) (fills text good)

-- metadata that is accepted has no fault
no_meta : (area : List ℕ) (j : Value) → IsMeta area j → (f : MetaFault) → IsMetaFault area f → ⊥
no_meta area j is = (metadata_faultless area).1 (j, is)

module _ (given : Given) (format : Format) (chosen : Option NewDerivation) (passphrase random old new : List ℕ) (some : 1 ≤ format.iterations) (large : 16777216 ≤ length new) (counted : length random ≡ needed_bytes true given.key_bytes)
    (sound : IsSound2 given (length new)) (fits : FitsMetadataAs given format chosen random) (x : IsFormatted2As given format chosen passphrase random old new) where
  long : 208 + given.key_bytes ≤ length random
  long = omega (arith, counted)

  sized : AreSizes given.key_bytes
  sized = sizes given.cipher given.key_bytes sound.takes

  size : hdr_size (header_at new 0) ≡ 16384
  size = x.first.written.header.fields.hdr_size ∙ x.first.fields.hdr_size

  json_there : json_at new 0 ≡ x.json
  json_there = ap (λ n. part new 4096 (n - 4096)) size ∙ sym (ap (λ n. part new 4096 n) x.metadata.long) ∙ x.first.written.area

  counts : Chosen new (luks2 0 InStep)
  counts =
      let second = subst (λ (o : ℕ). IsWrittenCopy new o x.second.header x.json) (sym x.first.fields.hdr_size) x.second.written in
      written_in_step new x.first.header x.second.header x.json x.json x.first.written second (x.first.fields.seqid ∙ sym x.second.fields.seqid)

  uuid : IsUuidField (uuid_field (header_at new 0))
  uuid = uuid_good (uuid_of given random) (uuid_field (header_at new 0)) (uuid_is given random sound.uuid) (x.first.written.header.fields.uuid ∙ x.first.fields.uuid)

  meta : IsMeta x.json (new_metadata given format chosen random)
  meta = record {
    json = x.metadata.json;
    content = subst (λ (n : ℕ). IsContent n (new_metadata given format chosen random)) (sym x.metadata.long)
        (held_by given.key_bytes sized (slot_derivation format chosen) (new_members given format random) fits.fits (can_format given format random sound.sector_size some long fits.digest_length) fits.derivation).content;
  }

  formed : IsLuks2Volume (header_at new 0) x.json given.payload (length new)
  formed = record {
    uuid = uuid;
    layout = (
      new_metadata given format chosen random,
      record {
        metadata = meta;
        segments = λ here. subst (λ (n : ℕ). SegmentsFollow n (new_metadata given format chosen random)) (sym x.metadata.long)
            (segments given format chosen random some long sound.takes sound.sector_size fits (length new) sound large here);
        fit = fit given format chosen random some long sound.takes sound.sector_size fits (length new) (hdr_size (header_at new 0)) size sound large;
      },
    );
  }

  pub well_formed : WellFormed new given.payload
  well_formed = record {
    choice = luks2 0 InStep;
    chosen = counts;
    formed = subst (λ (a : List ℕ). IsLuks2Volume (header_at new 0) a given.payload (length new)) (sym json_there) formed;
  }

  new_plan : (plan : SlotPlan) → HasLuks2Plan x.json 0 plan
      → IsNewPlanBy (slot_derivation format chosen) format given.key_bytes (slot_salt (slot_place2 given.key_bytes) random) (area2 given.key_bytes) (digest_salt given.key_bytes random) (key_digest given format random (digest_size_of format.hash)) plan × IsNewCipher2 given.cipher plan.cipher
  new_plan = plan_is given format chosen random some long sound.takes sound.sector_size fits x.json x.metadata.json

  -- where as much memory is allowed as the keyslot takes, its plan isn't refused
  module _ (memory : ℕ) (allowed : Allowed) (can : IfSome chosen (IsMakeable memory)) (enough : memory_by (slot_derivation format chosen) ≤ allowed.memory)
      (may : is_older given.cipher ≡ true → allowed.older ≡ true) where
    plan_unrefused : (plan : SlotPlan) → HasLuks2Plan x.json 0 plan → slot_refusal_within allowed plan ≡ None
    plan_unrefused plan y =
        let is = new_plan plan y in
        unrefused_chosen format chosen given.cipher given.key_bytes (slot_salt (slot_place2 given.key_bytes) random) (area2 given.key_bytes) (digest_salt given.key_bytes random)
        (key_digest given format random (digest_size_of format.hash)) plan is.0 (opens2 given.cipher plan.cipher is.1) sound.takes
        allowed may (length-slot_salt given.key_bytes random long) (makeable_enough format memory allowed.memory chosen can enough)

    none : (f : OpenFault) → IsLuks2RefusalWithin allowed (header_at new 0) x.json (length new) 0 f → ⊥
    none (Head f) y = uuid_sound (uuid_field (header_at new 0)) uuid f y
    none (Meta f) y = no_meta x.json (new_metadata given format chosen random) meta f y
    none NoSuchSlot y =
        let v : VolumeMembers = new_members given format random in
        let same : y.value ≡ formatted_by given.key_bytes (slot_derivation format chosen) v = one_value x.json y.value (formatted_by given.key_bytes (slot_derivation format chosen) v) y.holds x.metadata.json in
        let gone : object_at (formatted_by given.key_bytes (slot_derivation format chosen) v) Keyslots 0 ≡ None = subst (λ (k : Value). object_at k Keyslots 0 ≡ None) same (y.absent (lit< tt)) in
        no_some (slot_value (first_slot_by given.key_bytes (slot_derivation format chosen) v)) (sym gone)
    none SlotFree y = y
    none Outside y =
        let past = y.past in
        let is = (new_plan y.plan y.is).0 in
        let start = ap (λ (a : Area). a.start) is.area in
        let len = ap (λ (a : Area). a.len) is.area in
        let most = block_most given.key_bytes sized.high in
        absurd (omega (arith, past, start, len, most, large))
    none (Slot s) y = (let both : None ≡ Some s = sym (plan_unrefused y.plan y.is) ∙ y.refused in no_some s both)
    none Device y = y
    none Memory y = y

    pub slot_opens : AnswerWithin allowed new 0 passphrase (opens (key_of given random))
    slot_opens =
        let plan = x.slot.plan in
        let is = (new_plan plan x.slot.is).0 in
        let key_len : length (key_of given random) ≡ plan.key_bytes = length-key_of given random sound.key (omega (arith, counted)) ∙ sym is.key_bytes in
        let random_len : length (random_stripes given.key_bytes (slot_place2 given.key_bytes) random) ≡ (plan.stripes - 1) * plan.key_bytes =
        length-part_inside random (slot_place2 given.key_bytes + 32) (3999 * given.key_bytes) (omega (arith, counted)) ∙ sym (ap (λ s. (s - 1) * plan.key_bytes) is.stripes ∙ ap (λ k. (4000 - 1) * k) is.key_bytes) in
        let meets = key_meets given format random (digest_size_of format.hash) plan.digest is.digest fits.digest_length in
        let stripes = is.stripes in
        record {
          choice = luks2 0 InStep;
          chosen = counts;
          plan = plan;
          is = subst (λ (a : List ℕ). HasLuks2Plan a 0 plan) (sym json_there) x.slot.is;
          unrefused = subst (λ (a : List ℕ). (f : OpenFault) → IsLuks2RefusalWithin allowed (header_at new 0) a (length new) 0 f → ⊥) (sym json_there) none;
          key = reopens plan (part new plan.area.start plan.area.len) passphrase (key_of given random) (random_stripes given.key_bytes (slot_place2 given.key_bytes) random) (omega (arith, stripes)) key_len random_len x.slot.sealed
              ∙ ap (λ b. if b then Some (key_of given random) else None) meets;
        }
