use Rattle.std.proofs.Common.{◌≡◌, ◌≤◌, ◌<◌, ℕ, length, arith, sym, ap, ◌∙◌, subst, rules, IsNone}
use Rattle.serde_json.specs.Data.{Data}
use Rattle.serde_json.specs.View.{view}
use Rattle.serde_json.specs.Written.{compact_text}
use Rattle.luks_kdf.specs.Names.{digest_size_of}
use Rattle.luks_rules.specs.Held.{IsHeld}
use Rattle.luks_making.specs.Conditions.{CanFormat, FitsDerivation}
use Rattle.luks_making.specs.Formatted.{VolumeMembers, volume_members}
use Rattle.luks_formatting.specs.Deriving.{slot_derivation}
use Rattle.luks_formatting.specs.NewHeader2.{formatted_by}
use Rattle.luks_formatting.specs.NewPlan.{key_digest}
use Rattle.luks_formatting.proofs.EncryptingFacts.{cipher_short, sizes}
use Rattle.luks_formatting.proofs.MetadataFacts.{can_format, derivation_fits, digest_short, held_by, length-digest_salt, length-slot_salt}
use Rattle.luks_formatting.proofs.TextLengthFacts.{derivation_most, name_short, text_fits}
use Rattle.luks_formatting.proofs.metadata.area_of.Goals as goal

pub written_area-requires : goal.written_area-requires
written_area-requires c =
    let volume = c.args.volume.now in
    let own = slot_derivation volume.format.now volume.chosen in
    let members = c.requires.members in
    let digest : length (key_digest volume.given.now volume.format.now volume.random.now (digest_size_of volume.format.now.hash)) ≡ digest_size_of volume.format.now.hash =
    sym (ap (λ (m : VolumeMembers). length m.digest) members) ∙ c.requires.digest_length in
    let can : CanFormat (volume_members c.args.like.now) =
    subst CanFormat (sym members) (can_format volume.given.now volume.format.now volume.random.now c.requires.size c.requires.iterations c.requires.long digest) in
    let low : volume.format.now.iterations < 4294967296 = subst (λ (n : ℕ). n < 4294967296) (ap (λ (m : VolumeMembers). m.iterations) members) c.volume_fits.ensures.iterations in
    let fits_own : FitsDerivation own = derivation_fits volume.format.now volume.passphrase.allowed.memory volume.chosen c.requires.iterations low c.requires.makeable c.chosen_fits.ensures in
    subst (λ (d : Data). IsHeld 12288 d) (sym c.in_ok-value.ensures) (held_by volume.given.now.key_bytes (sizes volume.given.now.cipher volume.given.now.key_bytes c.requires.takes) own (volume_members c.args.like.now) c.volume_fits.ensures can fits_own)

short_text : (n m : ℕ) → 12288 ≤ n → n ≡ m → m < 12288 → ⊥
short_text n m full is short = absurd (omega (arith, full, is, short))

pub unreachable-requires : goal.unreachable-requires
unreachable-requires c =
    let volume = c.args.volume.now in
    let own = slot_derivation volume.format.now volume.chosen in
    let v = volume_members c.args.like.now in
    let members = c.requires.members in
    let empty : IsNone c.in_ok-area.field-0 = rw c.in-None.is (search rules) in
    let full : 12288 ≤ length (compact_text (view c.in_ok-value.value)) = c.in_ok-area.ensures.full empty in
    let is : length (compact_text (view c.in_ok-value.value)) ≡ length (compact_text (formatted_by volume.given.now.key_bytes own v)) = ap (λ d. length (compact_text d)) c.in_ok-value.ensures in
    let hash : length v.hash ≤ 6 = (let named = ap (λ (m : VolumeMembers). length m.hash) members in let short = name_short volume.format.now.hash in omega (arith, named, short)) in
    let first : length v.digest_salt ≤ 32 = (let same = ap (λ (m : VolumeMembers). length m.digest_salt) members in let long = length-digest_salt volume.given.now.key_bytes volume.random.now c.requires.long in omega (arith, same, long)) in
    let third : length v.slot_salt ≤ 32 = (let same = ap (λ (m : VolumeMembers). length m.slot_salt) members in let long = length-slot_salt volume.given.now.key_bytes volume.random.now c.requires.long in omega (arith, same, long)) in
    let second : length v.digest ≤ 64 = (let long = c.requires.digest_length in let short = digest_short volume.format.now.hash in omega (arith, long, short)) in
    let encryption : length v.encryption ≤ 20 = (let same = ap (λ (m : VolumeMembers). length m.encryption) members in let short = cipher_short volume.given.now.cipher in omega (arith, same, short)) in
    let low : volume.format.now.iterations < 4294967296 = subst (λ (n : ℕ). n < 4294967296) (ap (λ (m : VolumeMembers). m.iterations) members) c.volume_fits.ensures.iterations in
    let derivation = derivation_most volume.format.now volume.chosen v.slot_salt low c.chosen_fits.ensures third in
    let high = (sizes volume.given.now.cipher volume.given.now.key_bytes c.requires.takes).high in
    let short = text_fits volume.given.now.key_bytes high own v derivation hash c.volume_fits.ensures.iterations c.volume_fits.ensures.segment_offset first second encryption c.volume_fits.ensures.sector_size in
    short_text (length (compact_text (view c.in_ok-value.value))) (length (compact_text (formatted_by volume.given.now.key_bytes own v))) full is short
