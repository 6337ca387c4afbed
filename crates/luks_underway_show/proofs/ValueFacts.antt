-- The objects of keyslots and segments, by their records.
use Rattle.std.proofs.Common.{◌≡◌, ℕ, ◌<◌, Option, Some, sym, ap, ◌∙◌, true}
use Rattle.std.proofs.lemmas.Bool.{false≢true}
use Rattle.serde_json.specs.Data.{Data, object}
use Rattle.luks_rules.specs.declared.table.Section.TheVariants.{Keyslots, Segments}
use Rattle.luks_rules.specs.Faults.{object_at}
use Rattle.luks_meta.specs.declared.keyslots.Keyslot.{Keyslot}
use Rattle.luks_meta.specs.Objects.{IsMissing, IsObject}
use Rattle.luks_show.specs.SegmentValues.{integrity_at}
use Rattle.luks_underway.specs.declared.reencryption.Reencryption.{Reencryption}
use Rattle.luks_underway.specs.declared.segments.WideSegment.{WideSegment}
use Rattle.luks_underway.specs.declared.slots.WideKeyslot.TheVariants.{Luks2, Reencrypt}
use Rattle.luks_underway.specs.Segments.{TellsWideSegment}
use Rattle.luks_underway.specs.Slots.{TellsWideKeyslot}
use Rattle.luks_contradictions.specs.Hot.{is_in_hand}
use Rattle.luks_underway_show.specs.KeyslotValues.{IsKeyslotValue, key, reencryption, reencryption_members}
use Rattle.luks_underway_show.specs.Shown.{keyslot_digest}
use Rattle.luks_underway_show.specs.WideSegmentValues.{flags_value, IsWideSegmentValue, wide_segment_members}

pub key_value : (j : Data) (n : ℕ) (k : Keyslot) (d : Data) → IsObject TellsWideKeyslot j Keyslots n (Luks2 k) → IsKeyslotValue j n d
key_value j n k d of = key k (record { object = of.object; is = of.is; tells_members = of.tells_members })

pub reencryption_value : (j : Data) (n : ℕ) (k : Reencryption) (digest : Option ℕ) (d : Data) → IsObject TellsWideKeyslot j Keyslots n (Reencrypt k)
    → ((o : Data) → object_at j Keyslots n ≡ Some o → keyslot_digest j n ≡ digest) → d ≡ object (reencryption_members n k digest) → IsKeyslotValue j n d
reencryption_value j n k digest d of named is =
    reencryption k (record { object = of.object; is = of.is; tells_members = of.tells_members })
    (is ∙ ap (λ m. object (reencryption_members n k m)) (sym (named of.object of.is)))

-- the segment's object `o`, its flags and what it says of its integrity
pub segment_value : (j : Data) (n : ℕ) (k : WideSegment) (o : Data) (flags : Data) (integrity : Option Data) (d : Data) → (told : IsObject TellsWideSegment j Segments n k)
    → object_at j Segments n ≡ Some o → flags ≡ flags_value o → integrity ≡ integrity_at j n → d ≡ object (wide_segment_members n k flags integrity)
    → IsWideSegmentValue j n d
segment_value j n k o flags integrity d told there has holds is =
    let same : o ≡ told.object = cc (there, told.is) in
    record {
      segment = k;
      told = told;
      is = is ∙ ap (λ m. object (wide_segment_members n k m integrity)) (has ∙ ap flags_value same)
          ∙ ap (λ m. object (wide_segment_members n k (flags_value told.object) m)) holds;
    }

-- a segment in hand is there
pub hot_there : (j : Data) (n : ℕ) → n < 32 → is_in_hand j n ≡ true → IsMissing j Segments n → ⊥
hot_there j n below hot missing = false≢true (rw (missing below) at hot)
