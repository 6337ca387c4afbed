-- What a sign of a volume tells of the place where it stands.
use Rattle.std.proofs.Common.{◌≡◌, ℕ, ◌+◌, ◌*◌, ◌/◌, ◌<◌, ◌≤◌, ◌⊎◌, ◌==◌, List, length, get_or, if◌then◌else◌, inl, inr, refl, sym, ap, ◌∙◌, subst, arith}
use Rattle.std.proofs.lemmas.Bool.{cases_lt, eqb-true, ne_eqb}
use Rattle.byteorder.specs.Endian.{big_number}
use Rattle.luks_area.specs.Ranges.{part}
use Rattle.luks_area.proofs.RangeFacts.{length-part_inside, part-part}
use Rattle.luks1_header.specs.Bytes.{number_at}
use Rattle.luks1_header.specs.Header1.{key_bytes_of, luks_magic}
use Rattle.luks2_header.specs.Header2.{hdr_size, header_at, magic_of, second_magic, IsSound}
use Rattle.luks2_header.specs.Sizes.{listed_sizes, IsListed}
use Rattle.luks2_header.proofs.CopyFacts.{among_pass, listed_at_least}
use Rattle.luks_rebuilding.specs.Candidates.{IsPlace}
use Rattle.luks_rebuilding.specs.declared.place.Place.{Place}
use Rattle.luks_finding.specs.Blocks.{BeginsFields, BeginsSecond, BeginsText, MayBegin}
use Rattle.luks_finding.specs.Starts.{volume_at, BeginsHeader, BeginsLuks1, BeginsVolume, HasSignBefore, IsCopySign, IsMetadataSign, IsSign}
use Rattle.luks_finding.specs.Telling.{HasNearer, NamesSize}
use Rattle.luks_finding.proofs.CopyFacts.{listed-some, part-volume, sound-inside}
use Rattle.luks_finding.proofs.MetadataFacts.{metadata-text, listed-sectors}

-- a copy begins at a multiple of 16384, its size or 0
listed-large : (size : ℕ) → IsListed size → 16384 * (size / 16384) ≡ size
listed-large size listed = eqb-true (16384 * (size / 16384)) size (among_pass (λ n. 16384 * (n / 16384) == n) listed_sizes size refl listed)

place-large : {total : ℕ} (place : Place) → IsPlace total place → 16384 * (place.at / 16384) ≡ place.at
place-large place is = elim is.first_or_second [
  | inl first ↦ ap (λ n. 16384 * (n / 16384)) first ∙ sym first
  | inr second ↦ ap (λ n. 16384 * (n / 16384)) second ∙ listed-large place.size is.listed ∙ sym second
]

-- and so a sign is at a sector
pub sign-sector : (v : List ℕ) (s p : ℕ) → IsSign v s p → (k : ℕ) × (p ≡ 512 * k)
sign-sector v s p sign =
    let start : s ≡ 512 * sign.sector = sign.there in
    elim sign.is [
      | inl header ↦ (sign.sector, header.here ∙ sign.there)
      | inr other ↦ elim other [
        | inl copy ↦
            let there : p ≡ s + copy.size = copy.there in
            let sectors : 512 * (copy.size / 512) ≡ copy.size = listed-sectors copy.size copy.listed in
            (sign.sector + copy.size / 512, omega (arith, there, start, sectors))
        | inr metadata ↦
            let there : p ≡ s + metadata.copy.at + 4096 = metadata.there in
            let large : 16384 * (metadata.copy.at / 16384) ≡ metadata.copy.at = place-large metadata.copy metadata.has.whole.is_place in
            (sign.sector + 32 * (metadata.copy.at / 16384) + 8, omega (arith, there, start, large))
      ]
    ]

-- the magic of a copy that isn't the first
magic-second : (size : ℕ) → IsListed size → magic_of size ≡ second_magic
magic-second size listed = ap (λ b. if b then luks_magic else second_magic) (ne_eqb size 0 (listed-some size listed))

-- fields among the first 8 bytes
front-part : (v : List ℕ) (p o l : ℕ) → o + l ≤ 8 → part (part v p 8) o l ≡ part (part v p 4096) o l
front-part v p o l inside = part-part v p 8 o l inside ∙ sym (part-part v p 4096 o l (omega (arith, inside)))

-- where a second copy stands that is a sign
copy-header : (v : List ℕ) (s p : ℕ) (sign : IsCopySign v s p) → header_at (volume_at v s) sign.size ≡ part v p 4096
copy-header v s p sign = part-volume v s sign.size 4096 ∙ ap (λ k. part v k 4096) (sym sign.there)

-- it begins with its magic and version 2
second-begins : (v : List ℕ) (s p : ℕ) → IsCopySign v s p → BeginsSecond (part v p 8)
second-begins v s p sign =
    let size : ℕ = sign.size in
    let there : p ≡ s + size = sign.there in
    let inside : s + size + size ≤ length v = sound-inside v s size sign.listed sign.sound in
    let least : 16384 ≤ size = listed_at_least size sign.listed in
    let is : part v p 4096 ≡ header_at (volume_at v s) size = sym (copy-header v s p sign) in
    record {
      long = length-part_inside v p 8 (omega (arith, there, inside, least));
      magic = front-part v p 0 6 (omega arith) ∙ ap (λ b. part b 0 6) is ∙ sign.sound.form.magic ∙ magic-second size sign.listed;
      version = ap (big_number 2) (front-part v p 6 2 (omega arith)) ∙ ap (λ b. number_at b 6 2) is ∙ sign.sound.form.version;
    }

-- a JSON area that is a sign begins as one
text-begins : (v : List ℕ) (s p : ℕ) → IsMetadataSign v s p → BeginsText (part v p 8)
text-begins v s p sign = subst (λ (k : ℕ). BeginsText (part v k 8)) (sym sign.there) (metadata-text v s sign.copy sign.has.whole)

-- the fields of a LUKS1 header begin so
fields-begin : (v : List ℕ) (s : ℕ) → BeginsLuks1 v s → BeginsFields (part v s 112)
fields-begin v s begins =
    let whole : s + 592 ≤ length v = begins.whole in
    let same : key_bytes_of (part v s 592) ≡ key_bytes_of (part v s 112) =
    ap (big_number 4) (part-part v s 592 108 4 (omega arith) ∙ sym (part-part v s 112 108 4 (omega arith))) in
    record {
      long = length-part_inside v s 112 (omega (arith, whole));
      key_at_least = subst (λ (n : ℕ). 1 ≤ n) same begins.header.usable.key_at_least;
      key_at_most = subst (λ (n : ℕ). n ≤ 128) same begins.header.usable.key_at_most;
    }

volume-begins : (v : List ℕ) (s : ℕ) → BeginsVolume v s → MayBegin v s
volume-begins v s (inl header) = inl (inl header)
volume-begins v s (inr luks1) = inr (fields-begin v s luks1)

-- a sign begins a header, a second copy or a JSON area
pub sign-begins : (v : List ℕ) (s p : ℕ) → IsSign v s p → MayBegin v p
sign-begins v s p sign = elim sign.is [
  | inl header ↦ subst (MayBegin v) (sym header.here) (volume-begins v s header.begins)
  | inr other ↦ elim other [
    | inl copy ↦ inl (inr (inl (second-begins v s p copy)))
    | inr metadata ↦ inl (inr (inr (text-begins v s p metadata)))
  ]
]

-- no bytes begin two of them
header-second : (b : List ℕ) → BeginsHeader b → BeginsSecond b → ⊥
header-second b (inl header) second =
    let first : 0x4C ≡ 0x53 = ap (λ l. get_or l 0 0) (sym header.magic ∙ second.magic) in
    omega (arith, first)
header-second b (inr header) second =
    let first : 0x4C ≡ 0x53 = ap (λ l. get_or l 0 0) (sym header.magic ∙ second.magic) in
    omega (arith, first)

first-byte : (b : List ℕ) → BeginsHeader b → get_or (part (part b 0 6) 0 1) 0 0 ≡ 0x4C
first-byte b (inl header) = ap (λ l. get_or (part l 0 1) 0 0) header.magic
first-byte b (inr header) = ap (λ l. get_or (part l 0 1) 0 0) header.magic

header-text : (b : List ℕ) → BeginsHeader b → BeginsText b → ⊥
header-text b header text =
    let brace : get_or (part b 0 1) 0 0 ≡ 123 = ap (λ l. get_or l 0 0) text.brace in
    let magic : get_or (part (part b 0 6) 0 1) 0 0 ≡ 0x4C = first-byte b header in
    let same : part (part b 0 6) 0 1 ≡ part b 0 1 = part-part b 0 6 0 1 (omega arith) in
    let both : get_or (part (part b 0 6) 0 1) 0 0 ≡ get_or (part b 0 1) 0 0 = ap (λ l. get_or l 0 0) same in
    omega (arith, brace, magic, both)

second-text : (b : List ℕ) → BeginsSecond b → BeginsText b → ⊥
second-text b second text =
    let brace : get_or (part b 0 1) 0 0 ≡ 123 = ap (λ l. get_or l 0 0) text.brace in
    let magic : get_or (part (part b 0 6) 0 1) 0 0 ≡ 0x53 = ap (λ l. get_or (part l 0 1) 0 0) second.magic in
    let same : part (part b 0 6) 0 1 ≡ part b 0 1 = part-part b 0 6 0 1 (omega arith) in
    let both : get_or (part (part b 0 6) 0 1) 0 0 ≡ get_or (part b 0 1) 0 0 = ap (λ l. get_or l 0 0) same in
    omega (arith, brace, magic, both)

-- the first bytes of a header are those of its beginning
front-same : (v : List ℕ) (p o l : ℕ) → o + l ≤ 8 → part (part v p 592) o l ≡ part (part v p 8) o l
front-same v p o l inside = part-part v p 592 o l (omega (arith, inside)) ∙ sym (part-part v p 8 o l inside)

volume-second : (v : List ℕ) (p : ℕ) → BeginsVolume v p → BeginsSecond (part v p 8) → ⊥
volume-second v p (inl header) second = header-second (part v p 8) header second
volume-second v p (inr luks1) second = luks1.header.no_copy (front-same v p 0 6 (omega arith) ∙ second.magic)

volume-text : (v : List ℕ) (p : ℕ) → BeginsVolume v p → BeginsText (part v p 8) → ⊥
volume-text v p (inl header) text = header-text (part v p 8) header text
volume-text v p (inr luks1) text = luks1.header.no_text (front-same v p 0 1 (omega arith) ∙ text.brace)

-- a second copy that is a sign names its size
pub copy-named : (v : List ℕ) (s p : ℕ) (sign : IsCopySign v s p) → NamesSize v p sign.size
copy-named v s p sign =
    let size : ℕ = sign.size in
    let there : p ≡ s + size = sign.there in
    let inside : s + size + size ≤ length v = sound-inside v s size sign.listed sign.sound in
    let least : 16384 ≤ size = listed_at_least size sign.listed in
    record {
      listed = sign.listed;
      room = omega (arith, there);
      whole = omega (arith, there, inside, least);
      is = ap hdr_size (sym (copy-header v s p sign)) ∙ sign.sound.form.second (listed-some size sign.listed);
    }

-- so all that are at one place have one size
pub copy-sound : (v : List ℕ) (s p size : ℕ) → NamesSize v p size → IsCopySign v s p → (p ≡ s + size) × IsSound (volume_at v s) size
copy-sound v s p size named sign =
    let same : sign.size ≡ size = sym (copy-named v s p sign).is ∙ named.is in
    (sign.there ∙ ap (λ n. s + n) same, subst (λ (n : ℕ). IsSound (volume_at v s) n) same sign.sound)

-- ---- which sign is at a place

-- a sign where a header begins is that header
pub sign-header : (v : List ℕ) (s p : ℕ) → BeginsVolume v p → IsSign v s p → p ≡ s
sign-header v s p begins sign = elim sign.is [
  | inl header ↦ header.here
  | inr other ↦ elim other [
    | inl copy ↦ absurd (volume-second v p begins (second-begins v s p copy))
    | inr metadata ↦ absurd (volume-text v p begins (text-begins v s p metadata))
  ]
]

-- where neither a header nor a JSON area begins, it is a second copy
pub sign-copy : (v : List ℕ) (s p : ℕ) → (BeginsVolume v p → ⊥) → (BeginsText (part v p 8) → ⊥) → IsSign v s p → IsCopySign v s p
sign-copy v s p none no_text sign = elim sign.is [
  | inl header ↦ absurd (none (subst (BeginsVolume v) (sym header.here) header.begins))
  | inr other ↦ elim other [
    | inl copy ↦ copy
    | inr metadata ↦ absurd (no_text (text-begins v s p metadata))
  ]
]

-- where a JSON area begins, it is metadata
pub sign-metadata : (v : List ℕ) (s p : ℕ) → BeginsText (part v p 8) → IsSign v s p → IsMetadataSign v s p
sign-metadata v s p text sign = elim sign.is [
  | inl header ↦ absurd (volume-text v p (subst (BeginsVolume v) (sym header.here) header.begins) text)
  | inr other ↦ elim other [
    | inl copy ↦ absurd (second-text (part v p 8) (second-begins v s p copy) text)
    | inr metadata ↦ metadata
  ]
]

-- ---- signs of one volume

-- a sign of the volume before its second copy of this size
pub nearer-before : (v : List ℕ) (s p k size : ℕ) → s ≡ 512 * k → IsListed size → s + size ≤ p → HasNearer v s size → HasSignBefore v s p
nearer-before v s p k size start listed high has =
    let least : 16384 ≤ size = listed_at_least size listed in
    elim has [
      | inl begins ↦ record { place = s; before = omega (arith, high, least); sign = record { sector = k; there = start; is = inl (record { here = refl; begins = begins }) } }
      | inr other ↦ elim other [
        | inl copy ↦
            let below : copy.nearer < size = copy.below in
            record {
              place = s + copy.nearer;
              before = omega (arith, high, below);
              sign = record { sector = k; there = start; is = inr (inl (record { size = copy.nearer; listed = copy.listed; there = refl; sound = copy.sound })) };
            }
        | inr metadata ↦
            let near : metadata.copy.at < size = metadata.near in
            let one : 16384 * (metadata.copy.at / 16384) ≡ metadata.copy.at = place-large metadata.copy metadata.has.whole.is_place in
            let two : 16384 * (size / 16384) ≡ size = listed-large size listed in
            record {
              place = s + metadata.copy.at + 4096;
              before = omega (arith, high, near, one, two);
              sign = record { sector = k; there = start; is = inr (inr (record { copy = metadata.copy; there = refl; has = metadata.has })) };
            }
      ]
    ]

-- one that comes before it, or before the JSON area behind its binary header, is such a sign, or the copy itself
pub before-nearer : (v : List ℕ) (s q size : ℕ) → IsListed size → IsSign v s q → q < s + size + 4096 → HasNearer v s size ⊎ ((q ≡ s + size) × IsSound (volume_at v s) size)
before-nearer v s q size listed sign low = elim sign.is [
  | inl header ↦ inl (inl header.begins)
  | inr other ↦ elim other [
    | inl copy ↦
        let there : q ≡ s + copy.size = copy.there in
        elim (cases_lt copy.size size) [
          | inl below ↦ inl (inr (inl (record { nearer = copy.size; listed = copy.listed; below = below; sound = copy.sound })))
          | inr behind ↦
              let one : 16384 * (copy.size / 16384) ≡ copy.size = listed-large copy.size copy.listed in
              let two : 16384 * (size / 16384) ≡ size = listed-large size listed in
              let same : copy.size ≡ size = omega (arith, there, low, behind, one, two) in
              inr (there ∙ ap (λ n. s + n) same, subst (λ (n : ℕ). IsSound (volume_at v s) n) same copy.sound)
        ]
    | inr metadata ↦
        let there : q ≡ s + metadata.copy.at + 4096 = metadata.there in
        inl (inr (inr (record { copy = metadata.copy; near = omega (arith, there, low); has = metadata.has })))
  ]
]
