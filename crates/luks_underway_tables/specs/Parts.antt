-- The lines of a table, by the records that are read of segments. That they are those of the metadata's value is a part of each contract that has the value
-- (`Table`).
use Rattle.std.specs.Prelude.{ℕ, ◌-◌, ◌/◌, List, [], ◌++◌, codes, nat_eq, if◌then◌else◌, Option}
use Rattle.std.specs.Fmt.{decimal}
use Rattle.luks_meta.specs.declared.member.Extent.{Extent}
use Rattle.luks_meta.specs.declared.member.Extent.TheVariants.{Fixed, Dynamic}
use Rattle.luks_meta.specs.declared.segments.Encryption.{Encryption}
use Rattle.luks_show.specs.Texts.{escaped, line}
use Rattle.luks_underway.specs.declared.segments.WideKind.{WideKind}
use Rattle.luks_underway.specs.declared.segments.WideKind.TheVariants.{Crypt, Linear, HwOpal, HwOpalCrypt}
use Rattle.luks_underway.specs.declared.segments.WideSegment.{WideSegment}
use Rattle.luks_underway_tables.specs.Table.{key_word, place_text}

abbrev pub length_by_extent : ℕ → ℕ → Extent → ℕ
length_by_extent end start (Fixed bytes) = bytes
length_by_extent end start Dynamic = end - start

abbrev pub length_of : ℕ → WideSegment → ℕ
length_of end s = length_by_extent end s.offset s.size

abbrev pub sectors_of : ℕ → WideSegment → ℕ
sectors_of end s = if s.flags.backup then 0 else length_of end s / 512

abbrev pub sector_size_text : ℕ → List ℕ
sector_size_text n = line (if nat_eq n 512 then [] else codes " 1 sector_size:" ++ decimal n)

abbrev pub crypt_text : Option ℕ → ℕ → Encryption → List ℕ
crypt_text key start e =
    codes "crypt " ++ escaped e.cipher.now ++ codes " " ++ key_word key ++ codes " " ++ decimal e.iv_tweak ++ codes " DEVICE " ++ decimal start
    ++ sector_size_text e.sector_size

abbrev pub linear_text : ℕ → List ℕ
linear_text start = codes "linear DEVICE " ++ line (decimal start)

abbrev pub kind_target : Option ℕ → ℕ → WideKind → List ℕ
kind_target key start (Crypt e) = crypt_text key start e
kind_target key start Linear = linear_text start
kind_target key start (HwOpal o) = linear_text start
kind_target key start (HwOpalCrypt o e) = crypt_text key start e

abbrev pub target_text : Option ℕ → WideSegment → List ℕ
target_text key s = if s.flags.in_reencryption then line (codes "error") else kind_target key (s.offset / 512) s.kind

abbrev pub part_text : ℕ → ℕ → Option ℕ → WideSegment → List ℕ
part_text place sectors key s = place_text place sectors ++ target_text key s
