-- What follows of what is given of a new volume, where it is sound.
use Rattle.std.proofs.Common.{◌≡◌, ◌+◌, ◌≤◌, ◌<◌, ◌^◌, ◌*◌, ℕ, false, List, length, Option, None, Some, arith, lit<, lit≤, refl, sym, ap, subst}
use Rattle.std.specs.Prelude.{IfSome}
use Rattle.std.specs.Borrow.{Bor}
use Rattle.luks_area.proofs.RangeFacts.{length-part_inside}
use Rattle.luks1_header.specs.Bytes.{IsUuid}
use Rattle.luks2_header.specs.NewUuid.{uuid_text}
use Rattle.luks2_header.proofs.UuidFacts.{uuid_text-is, uuid_text-length}
use Rattle.luks_reading.specs.declared.report.Data.{Data}
use Rattle.luks_reading.specs.declared.report.Data.TheVariants.{Here, Elsewhere}
use Rattle.luks_formatting.specs.declared.given.Given.{Given}
use Rattle.luks_formatting.proofs.EncryptingFacts.{sizes}
use Rattle.luks_formatting.specs.Given.{bytes_or, first_sector, key_of, nothing_given, number_or, uuid_of, IsPlaced, IsSound1, IsSound2}
use Rattle.luks_formatting.specs.NewHeader1.{own_sector, payload_sector}
use Rattle.luks_formatting.specs.NewHeader2.{own_segment, segment_sector, AreTexts2}
use Rattle.luks_formatting.specs.RandomBytes.{uuid_bytes, volume_key}

-- the uuid is one
uuid_by : (o : Option (Bor (List ℕ))) (random : List ℕ) → IfSome o (λ text. IsUuid text.now) → IsUuid (bytes_or o (uuid_text (uuid_bytes random)))
uuid_by None random is = uuid_text-is (uuid_bytes random)
uuid_by (Some text) random is = is

pub uuid_is : (given : Given) (random : List ℕ) → IfSome given.uuid (λ text. IsUuid text.now) → IsUuid (uuid_of given random)
uuid_is given random is = uuid_by given.uuid random is

-- the key has the bytes that are asked for
key_by : (o : Option (Bor (List ℕ))) (k : ℕ) (random : List ℕ) → IfSome o (λ key. length key.now ≡ k) → 16 + k ≤ length random → length (bytes_or o (volume_key k random)) ≡ k
key_by None k random is long = length-part_inside random 16 k (omega (arith, long))
key_by (Some key) k random is long = is

pub length-key_of : (given : Given) (random : List ℕ) → IfSome given.key (λ key. length key.now ≡ given.key_bytes) → 16 + given.key_bytes ≤ length random
    → length (key_of given random) ≡ given.key_bytes
length-key_of given random is long = key_by given.key given.key_bytes random is long

-- a text of a uuid has 36 bytes
text_by : (o : Option (Bor (List ℕ))) → IfSome o (λ text. IsUuid text.now) → IfSome o (λ text. length text.now ≡ 36)
text_by None is = tt
text_by (Some text) is = is.long

pub uuid_long : (given : Given) → IfSome given.uuid (λ text. IsUuid text.now) → IfSome given.uuid (λ text. length text.now ≡ 36)
uuid_long given is = text_by given.uuid is

short_by : (o : Option (Bor (List ℕ))) → IfSome o (λ text. IsUuid text.now) → IfSome o (λ text. length text.now ≤ 40)
short_by None is = tt
short_by (Some text) is = (let long = is.long in omega (arith, long))

pub uuid_short : (given : Given) → IfSome given.uuid (λ text. IsUuid text.now) → IfSome given.uuid (λ text. length text.now ≤ 40)
uuid_short given is = short_by given.uuid is

-- the text of the uuid fills its field
fills_by : (o : Option (Bor (List ℕ))) (random : List ℕ) → IfSome o (λ text. length text.now ≡ 36) → length (bytes_or o (uuid_text (uuid_bytes random))) ≡ 36
fills_by None random is = uuid_text-length (uuid_bytes random)
fills_by (Some text) random is = is

pub length-uuid_of : (given : Given) (random : List ℕ) → IfSome given.uuid (λ text. length text.now ≡ 36) → length (uuid_of given random) ≡ 36
length-uuid_of given random is = fills_by given.uuid random is

fits_by : (o : Option (Bor (List ℕ))) → IfSome o (λ text. length text.now ≡ 36) → IfSome o (λ text. length text.now ≤ 40)
fits_by None is = tt
fits_by (Some text) is = omega (arith, is)

pub uuid_fits : (given : Given) → IfSome given.uuid (λ text. length text.now ≡ 36) → IfSome given.uuid (λ text. length text.now ≤ 40)
uuid_fits given is = fits_by given.uuid is

-- the texts fit their fields
pub texts_fit : (given : Given) (total : ℕ) → IsSound2 given total → AreTexts2 given
texts_fit given total sound = record { uuid = uuid_long given sound.uuid; label = sound.label; subsystem = sound.subsystem }

-- ---- the payload of LUKS1

pub record AreBehind (first sector total : ℕ) : Type 0 where
  pub low : first ≤ sector
  pub inside : 512 * sector ≤ total

-- of no key do the key areas end behind 2 MiB
first_low : (k : ℕ) → k ≤ 64 → first_sector false k ≤ 4096
first_low k high = omega (arith, high)

placed1_by : (o : Option ℕ) (first total : ℕ) → first ≤ 4096 → IfSome o (IsPlaced first (2 ^ 32) Here total) → 2097152 ≤ total → AreBehind first (number_or o 4096) total
placed1_by None first total low is large = record { low = low; inside = omega (arith, large) }
placed1_by (Some s) first total low is large = record { low = is.0; inside = is.2 }

pub placed1 : (given : Given) (total : ℕ) → IsSound1 given total → 2097152 ≤ total → given.payload ≡ Here → AreBehind (first_sector false given.key_bytes) (payload_sector given) total
placed1 given total sound large here =
    let first : ℕ = first_sector false given.key_bytes in
    let low : first ≤ 4096 = first_low given.key_bytes (sizes given.cipher given.key_bytes sound.takes).high in
    let placed : IfSome given.sector (IsPlaced first (2 ^ 32) Here total) = subst (λ (p : Data). IfSome given.sector (IsPlaced first (2 ^ 32) p total)) here sound.sector in
    subst (λ (n : ℕ). AreBehind first (number_or given.sector n) total) (sym (ap own_sector here)) (placed1_by given.sector first total low placed large)

told1_by : (o : Option ℕ) (payload : Data) (first total : ℕ) → IfSome o (IsPlaced first (2 ^ 32) payload total) → number_or o (own_sector payload) < 2 ^ 32
told1_by None Here first total is = lit< tt
told1_by None Elsewhere first total is = lit< tt
told1_by (Some s) Here first total is = is.1
told1_by (Some s) Elsewhere first total is = is

pub told1 : (given : Given) (total : ℕ) → IsSound1 given total → payload_sector given < 2 ^ 32
told1 given total sound = told1_by given.sector given.payload (first_sector false given.key_bytes) total sound.sector

-- where nothing is given, all is sound
pub nothing_sound1 : (payload : Data) (total : ℕ) → IsSound1 (nothing_given payload) total
nothing_sound1 payload total = record { sector = tt; uuid = tt; takes = refl; key = tt; sector_size = refl; label = tt; subsystem = tt }

-- ---- of LUKS2

placed2_by : (o : Option ℕ) (total : ℕ) → IfSome o (IsPlaced 32768 (2 ^ 55) Here total) → 16777216 ≤ total → AreBehind 32768 (number_or o 32768) total
placed2_by None total is large = record { low = lit≤ tt; inside = omega (arith, large) }
placed2_by (Some s) total is large = record { low = is.0; inside = is.2 }

pub placed2 : (given : Given) (total : ℕ) → IsSound2 given total → 16777216 ≤ total → given.payload ≡ Here → AreBehind 32768 (segment_sector given) total
placed2 given total sound large here =
    let placed : IfSome given.sector (IsPlaced 32768 (2 ^ 55) Here total) = subst (λ (p : Data). IfSome given.sector (IsPlaced 32768 (2 ^ 55) p total)) here sound.sector in
    subst (λ (n : ℕ). AreBehind 32768 (number_or given.sector n) total) (sym (ap own_segment here)) (placed2_by given.sector total placed large)

told2_by : (o : Option ℕ) (payload : Data) (total : ℕ) → IfSome o (IsPlaced 32768 (2 ^ 55) payload total) → number_or o (own_segment payload) < 2 ^ 55
told2_by None Here total is = lit< tt
told2_by None Elsewhere total is = lit< tt
told2_by (Some s) Here total is = is.1
told2_by (Some s) Elsewhere total is = is

pub told2 : (given : Given) (total : ℕ) → IsSound2 given total → segment_sector given < 2 ^ 55
told2 given total sound = told2_by given.sector given.payload total sound.sector

pub nothing_sound2 : (payload : Data) (total : ℕ) → IsSound2 (nothing_given payload) total
nothing_sound2 payload total = record { sector = tt; uuid = tt; takes = refl; key = tt; sector_size = refl; label = tt; subsystem = tt }
