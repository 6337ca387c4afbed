-- The text of a converted volume's metadata is shorter than its JSON area.
use Rattle.std.proofs.Common.{◌≡◌, ◌≤◌, length, ap, arith, lit<}
use Rattle.std.specs.Prelude.{decimal}
use Rattle.std.proofs.lemmas.Fmt.{length-decimal-le}
use Rattle.serde_json.specs.Data.{Items, Members}
use Rattle.serde_json.specs.Written.{compact_text}
use Rattle.luks_making.specs.Conversions.{CanConvert, FitsSource}
use Rattle.luks_making.specs.Converted.{SourceMembers, converted, region_size, volume_like}
use Rattle.luks_making.specs.TextLengths.{decimal_exact, items_bound, members_bound, value_bound, value_short}
use Rattle.luks_making.proofs.NewAreaFacts.{region_short}
use Rattle.luks_making.proofs.NewVolumeFacts.{shape}
use Rattle.luks_making.proofs.ConversionFacts.{Holds, all}
use Rattle.luks_making.proofs.LengthFacts.{digest_most, encryption_most, hash_most, place_most, salt_most, word_most}

module _ (v : SourceMembers) (fits : FitsSource v) (can : CanConvert v) where
  shape_most : (names : Items) (slots : Members) → items_bound names ≤ 33 → members_bound slots ≤ 10369 → value_bound (shape (volume_like v) (region_size v) names slots) ≤ 12287
  shape_most names slots few short =
      let hash = hash_most v fits can in
      let encryption = encryption_most v fits can in
      let salt = salt_most v fits can v.digest_salt fits.digest_salt.long in
      let digest = digest_most v fits can in
      let iterations = word_most v fits can v.digest_iterations fits.digest_iterations in
      let offset : length (decimal v.payload_offset) ≤ 20 = (let low = fits.payload_offset in length-decimal-le 20 v.payload_offset (lit< tt) (omega (arith, low)) low) in
      let exact = decimal_exact v.payload_offset fits.payload_offset in
      let sector : length (decimal 512) ≤ 3 = length-decimal-le 3 512 (lit< tt) (lit< tt) (lit< tt) in
      let size = place_most v fits can (region_size v) (let most = region_short v in omega (arith, most)) in
      omega (arith, hash, encryption, salt, digest, iterations, offset, exact, sector, size, few, short)

  pub text_short : length (compact_text (converted v)) ≤ 12287
  text_short =
      let x : Holds v fits can 8 (converted v) = all v fits can in
      let text = value_short (converted v) in
      let same : value_bound (converted v) ≡ value_bound (shape (volume_like v) (region_size v) x.names x.slots) = ap value_bound x.is in
      let names = x.names_most in
      let slots = x.slots_most in
      let most = shape_most x.names x.slots (omega (arith, names)) (omega (arith, slots)) in
      omega (arith, text, same, most)
