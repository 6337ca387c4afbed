-- What a new volume has of what is given, or else of its own.
use Rattle.std.specs.Prelude.{◌≡◌, ◌≢◌, ℕ, ◌+◌, ◌*◌, ◌-◌, ◌/◌, ◌%◌, ◌==◌, ◌<◌, ◌≤◌, ◌^◌, ◌⊎◌, List, length, ◌++◌, replicate, Bool, true, false, not, if◌then◌else◌, Option, None, Some, IfSome, ⊤}
use Rattle.std.specs.Borrow.{Bor}
use Rattle.luks_area.specs.Text.{is_plain}
use Rattle.luks1_header.specs.Bytes.{IsUuid}
use Rattle.luks2_header.specs.NewUuid.{uuid_text}
use Rattle.luks_rules.specs.Reading.{is_sector_size}
use Rattle.luks_reading.specs.declared.report.Data.{Data}
use Rattle.luks_reading.specs.declared.report.Data.TheVariants.{Here, Elsewhere}
use Rattle.luks_formatting.specs.declared.given.Given.{Given}
use Rattle.luks_formatting.specs.declared.new_cipher.NewCipher.{NewCipher}
use Rattle.luks_formatting.specs.declared.new_cipher.NewCipher.TheVariants.{XtsPlain64}
use Rattle.luks_formatting.specs.Encrypting.{block_bytes, takes_key, used_bytes}
use Rattle.luks_formatting.specs.RandomBytes.{uuid_bytes, volume_key}

-- a volume of which no more is given than where its payload lies: a key of 64 bytes for aes-xts-plain64, in
-- sectors of 512 bytes
abbrev pub nothing_given : Data → Given
nothing_given payload = record { payload = payload; sector = None; key = None; uuid = None; label = None; subsystem = None; cipher = XtsPlain64; key_bytes = 64; sector_size = 512 }

-- the bytes that are given, or else these
abbrev pub bytes_or : Option (Bor (List ℕ)) → List ℕ → List ℕ
bytes_or None own = own
bytes_or (Some bytes) own = bytes.now

-- the number that is given, or else this one
abbrev pub number_or : Option ℕ → ℕ → ℕ
number_or None own = own
number_or (Some n) own = n

-- the volume key, and the text of the uuid
abbrev pub key_of : Given → List ℕ → List ℕ
key_of given random = bytes_or given.key (volume_key given.key_bytes random)

abbrev pub uuid_of : Given → List ℕ → List ℕ
uuid_of given random = bytes_or given.uuid (uuid_text (uuid_bytes random))

-- the field of 48 bytes of a label or a subsystem of LUKS2: the text and zeros (LUKS2 On-Disk Format 1.1, 2.1)
abbrev pub name_field : Option (Bor (List ℕ)) → List ℕ
name_field None = replicate 48 0
name_field (Some text) = text.now ++ replicate (48 - length text.now) 0

-- ---- what is refused

-- a payload doesn't begin at this sector: on the volume itself sectors before `first` are the header's and the
-- key areas', and `most` isn't told by the header's field
abbrev pub IsMisplaced : ℕ → ℕ → Data → ℕ → Type 0
IsMisplaced first most Here s = (s < first) ⊎ (most ≤ s)
IsMisplaced first most Elsewhere s = most ≤ s

-- the volume of `total` bytes has fewer than `least`, or ends before its payload begins
abbrev pub IsSmall : ℕ → Option ℕ → Data → ℕ → Type 0
IsSmall least None payload total = total < least
IsSmall least (Some s) Here total = (total < least) ⊎ (total < 512 * s)
IsSmall least (Some s) Elsewhere total = total < least

-- the text isn't one of a uuid
abbrev pub IsNoUuid : Option (Bor (List ℕ)) → Type 0
IsNoUuid None = ⊥
IsNoUuid (Some text) = IsUuid text.now → ⊥

-- a label or a subsystem: LUKS1 has none, one of LUKS2 has at most 47 bytes, all printable
abbrev pub IsNoName : Bool → List ℕ → Type 0
IsNoName false text = ⊤
IsNoName true text = (47 < length text) ⊎ (is_plain text ≡ true → ⊥)

abbrev pub HasNoName : Bool → Option (Bor (List ℕ)) → Option (Bor (List ℕ)) → Type 0
HasNoName named None None = ⊥
HasNoName named (Some label) None = IsNoName named label.now
HasNoName named None (Some subsystem) = IsNoName named subsystem.now
HasNoName named (Some label) (Some subsystem) = IsNoName named label.now ⊎ IsNoName named subsystem.now

-- the cipher takes no key of k bytes, or the key that is given hasn't so many
abbrev pub IsNoKey : NewCipher → ℕ → Option (Bor (List ℕ)) → Type 0
IsNoKey cipher k None = takes_key cipher k ≡ false
IsNoKey cipher k (Some key) = (takes_key cipher k ≡ false) ⊎ (length key.now ≢ k)

-- the version, LUKS1 or the second, may have sectors of so many bytes (LUKS2 On-Disk Format 1.1, 3.3.2)
abbrev pub takes_sectors : Bool → ℕ → Bool
takes_sectors false size = size == 512
takes_sectors true size = is_sector_size size

-- where a payload on the volume begins if nothing is given, in sectors of 512 bytes: of LUKS1 at 2 MiB, of LUKS2
-- behind the region of the key areas, at 16 MiB
abbrev pub own_start : Bool → ℕ
own_start false = 4096
own_start true = 32768

-- the sectors of 512 bytes from `start` to the end of a volume of `total` bytes, which has the payload, aren't
-- whole sectors of `size`
abbrev pub is_uneven : ℕ → Data → ℕ → ℕ → Bool
is_uneven size Here start total = not ((total / 512 - start) % (size / 512) == 0)
is_uneven size Elsewhere start total = false

-- those of 512 always are
abbrev pub are_uneven : ℕ → Data → ℕ → ℕ → Bool
are_uneven size payload start total = if size == 512 then false else is_uneven size payload start total

-- ---- and what isn't

-- the place lies before `n` bytes
abbrev pub IsBefore : ℕ → ℕ → Type 0
IsBefore n p = p < n

-- the payload begins behind the header and the key areas, and the volume reaches as far
abbrev pub IsPlaced : ℕ → ℕ → Data → ℕ → ℕ → Type 0
IsPlaced first most Here total s = (first ≤ s) × (s < most) × (512 * s ≤ total)
IsPlaced first most Elsewhere total s = s < most

-- what is given of a volume of `total` bytes is none of the above
pub record IsSound (first most : ℕ) (given : Given) (total : ℕ) : Type 0 where
  pub sector : IfSome given.sector (IsPlaced first most given.payload total)
  pub uuid : IfSome given.uuid (λ text. IsUuid text.now)
  pub takes : takes_key given.cipher given.key_bytes ≡ true
  pub key : IfSome given.key (λ key. length key.now ≡ given.key_bytes)
  pub sector_size : is_sector_size given.sector_size ≡ true
  pub label : IfSome given.label (λ text. length text.now ≤ 47)
  pub subsystem : IfSome given.subsystem (λ text. length text.now ≤ 47)

-- the first sector behind the key areas: of LUKS1 behind that of keyslot 7, of LUKS2 behind their region
abbrev pub first_sector : Bool → ℕ → ℕ
first_sector false k = 8 + 7 * (block_bytes k / 512) + used_bytes k / 512
first_sector true k = 32768

-- of LUKS1, and of LUKS2
abbrev pub IsSound1 : Given → ℕ → Type 0
IsSound1 given = IsSound (first_sector false given.key_bytes) (2 ^ 32) given

abbrev pub IsSound2 : Given → ℕ → Type 0
IsSound2 given = IsSound (first_sector true given.key_bytes) (2 ^ 55) given
