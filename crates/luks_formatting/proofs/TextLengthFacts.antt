-- The text of a new volume's metadata is shorter than its JSON area.
use Rattle.std.proofs.Common.{◌<◌, ◌≤◌, ◌^◌, ℕ, List, length, Option, None, Some, arith, lit<, refl}
use Rattle.std.specs.Prelude.{decimal, IfSome}
use Rattle.std.proofs.lemmas.Fmt.{length-decimal-le}
use Rattle.serde_json.specs.Written.{compact_text}
use Rattle.luks_kdf.specs.Names.{each_at_most, name_of}
use Rattle.luks_kdf.specs.declared.hash_name.HashName.{HashName}
use Rattle.luks_making.specs.Formatted.{VolumeMembers}
use Rattle.luks_making.specs.Keyslots.{base64_text, by_argon2i, by_argon2id, by_pbkdf2, Deriving, kdf_value}
use Rattle.luks_making.specs.TextLengths.{encoded_short, string_most, value_bound, value_short}
use Rattle.luks_making.specs.declared.derivation.Argon2Costs.{Argon2Costs}
use Rattle.luks_reading.specs.declared.format.Format.{Format}
use Rattle.luks_making.specs.declared.derivation.NewDerivation.{NewDerivation}
use Rattle.luks_making.specs.declared.derivation.NewDerivation.TheVariants as by
use Rattle.luks_making.specs.Derivations.{FitsCosts, FitsNewDerivation}
use Rattle.luks_formatting.specs.Deriving.{slot_derivation}
use Rattle.luks_formatting.specs.Encrypting.{block_bytes}
use Rattle.luks_formatting.proofs.EncryptingFacts.{block_most}
use Rattle.luks_formatting.specs.NewHeader2.{formatted_by}

pub name_short : (hash : HashName) → length (name_of hash) ≤ 6
name_short = each_at_most 6 (λ h. length (name_of h)) refl

-- ---- the derivation

number_most : (n : ℕ) → n < 2 ^ 32 → length (decimal n) ≤ 10
number_most n low = length-decimal-le 10 n (lit< tt) (omega (arith, low)) (omega (arith, low))

pbkdf2_most : (h : List ℕ) (n : ℕ) (salt : List ℕ) → length h ≤ 6 → n < 2 ^ 32 → length salt ≤ 32 → value_bound (kdf_value (by_pbkdf2 h n) salt) ≤ 400
pbkdf2_most h n salt hash low short =
    let number = number_most n low in
    let hash_text = string_most h in
    let text = encoded_short salt in
    let salt_text = string_most (base64_text salt) in
    omega (arith, number, hash_text, text, salt_text, hash, short)

argon2i_most : (costs : Argon2Costs) (salt : List ℕ) → FitsCosts costs → length salt ≤ 32 → value_bound (kdf_value (by_argon2i costs) salt) ≤ 400
argon2i_most costs salt fits short =
    let time = number_most costs.time fits.0 in
    let memory = number_most costs.memory fits.1 in
    let cpus = number_most costs.cpus fits.2 in
    let text = encoded_short salt in
    let salt_text = string_most (base64_text salt) in
    omega (arith, time, memory, cpus, text, salt_text, short)

argon2id_most : (costs : Argon2Costs) (salt : List ℕ) → FitsCosts costs → length salt ≤ 32 → value_bound (kdf_value (by_argon2id costs) salt) ≤ 400
argon2id_most costs salt fits short =
    let time = number_most costs.time fits.0 in
    let memory = number_most costs.memory fits.1 in
    let cpus = number_most costs.cpus fits.2 in
    let text = encoded_short salt in
    let salt_text = string_most (base64_text salt) in
    omega (arith, time, memory, cpus, text, salt_text, short)

-- its text takes at most 400 bytes
pub derivation_most : (format : Format) (chosen : Option NewDerivation) (salt : List ℕ) → format.iterations < 2 ^ 32 → IfSome chosen FitsNewDerivation → length salt ≤ 32
    → value_bound (kdf_value (slot_derivation format chosen) salt) ≤ 400
derivation_most format None salt low fits short = pbkdf2_most (name_of format.hash) format.iterations salt (name_short format.hash) low short
derivation_most format (Some (by.Pbkdf2 n)) salt low fits short = pbkdf2_most (name_of format.hash) n salt (name_short format.hash) fits short
derivation_most format (Some (by.Argon2i costs)) salt low fits short = argon2i_most costs salt fits short
derivation_most format (Some (by.Argon2id costs)) salt low fits short = argon2id_most costs salt fits short

-- the whole text
module _ (k : ℕ) (high : k ≤ 64) (own : Deriving) (v : VolumeMembers) (derivation : value_bound (kdf_value own v.slot_salt) ≤ 400) (hash : length v.hash ≤ 6) (iterations : v.iterations < 2 ^ 32) (offset : v.segment_offset < 2 ^ 64)
    (digest_salt : length v.digest_salt ≤ 32) (digest : length v.digest ≤ 64) (encryption : length v.encryption ≤ 20) (sectors : v.sector_size < 2 ^ 32) where
  pub text_fits : length (compact_text (formatted_by k own v)) < 12288
  text_fits =
      let text = value_short (formatted_by k own v) in
      let most = block_most k high in
      let number : length (decimal v.iterations) ≤ 10 = length-decimal-le 10 v.iterations (lit< tt) (omega (arith, iterations)) (omega (arith, iterations)) in
      let start : length (decimal v.segment_offset) ≤ 20 = length-decimal-le 20 v.segment_offset (lit< tt) (omega (arith, offset)) offset in
      let area : length (decimal 32768) ≤ 5 = length-decimal-le 5 32768 (lit< tt) (lit< tt) (lit< tt) in
      let size : length (decimal (block_bytes k)) ≤ 6 = length-decimal-le 6 (block_bytes k) (lit< tt) (omega (arith, most)) (omega (arith, most)) in
      let stripes : length (decimal 4000) ≤ 4 = length-decimal-le 4 4000 (lit< tt) (lit< tt) (lit< tt) in
      let key : length (decimal k) ≤ 2 = length-decimal-le 2 k (lit< tt) (omega (arith, high)) (omega (arith, high)) in
      let sector : length (decimal v.sector_size) ≤ 10 = number_most v.sector_size sectors in
      let start_text = string_most (decimal v.segment_offset) in
      let area_text = string_most (decimal 32768) in
      let size_text = string_most (decimal (block_bytes k)) in
      let hash_text = string_most v.hash in
      let encryption_text = string_most v.encryption in
      let first = encoded_short v.digest_salt in
      let first_text = string_most (base64_text v.digest_salt) in
      let second = encoded_short v.digest in
      let second_text = string_most (base64_text v.digest) in
      omega (
        arith,
        text,
        number,
        start,
        area,
        size,
        stripes,
        key,
        sector,
        start_text,
        area_text,
        size_text,
        hash_text,
        encryption_text,
        first,
        first_text,
        second,
        second_text,
        derivation,
        hash,
        encryption,
        digest_salt,
        digest,
      )
