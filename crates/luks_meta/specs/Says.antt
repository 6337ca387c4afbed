-- What the records tell of the metadata: each member of an object, as its rule reads it, is a field of the record.
use Rattle.std.specs.Prelude.{◌≡◌, ℕ, codes, Option, Some, None, option_and_then}
use Rattle.serde_json.specs.Data.{Data}
use Rattle.luks_rules.specs.declared.table.Outer.{Outer}
use Rattle.luks_rules.specs.declared.table.Outer.TheVariants as outer
use Rattle.luks_rules.specs.declared.table.Member.{Member}
use Rattle.luks_rules.specs.declared.table.Member.TheVariants as name
use Rattle.luks_rules.specs.declared.table.Rule.TheVariants as rule
use Rattle.luks_meta.specs.declared.member.Extent.{Extent}
use Rattle.luks_meta.specs.declared.member.Extent.TheVariants.{Fixed, Dynamic}
use Rattle.luks_meta.specs.declared.configuration.Config.{Config}
use Rattle.luks_meta.specs.declared.segments.Segment.{Segment}
use Rattle.luks_meta.specs.declared.segments.SegmentKind.{SegmentKind}
use Rattle.luks_meta.specs.declared.segments.SegmentKind.TheVariants.{Crypt, Linear}
use Rattle.luks_meta.specs.declared.keyslots.Splitter.{Splitter}
use Rattle.luks_meta.specs.declared.keyslots.KeyArea.{KeyArea}
use Rattle.luks_meta.specs.declared.keyslots.Argon2.{Argon2}
use Rattle.luks_meta.specs.declared.keyslots.Cost.{Cost}
use Rattle.luks_meta.specs.declared.keyslots.Cost.TheVariants as cost
use Rattle.luks_meta.specs.declared.keyslots.Derivation.{Derivation}
use Rattle.luks_meta.specs.declared.keyslots.Keyslot.{Keyslot}
use Rattle.luks_meta.specs.declared.digests.Digest.{Digest}
use Rattle.luks_meta.specs.declared.tokens.Token.{Token}
use Rattle.luks_json.specs.Names.{numbers_of_array}
use Rattle.luks_rules.specs.Reading.{Field, whole, absent, dynamic, reads, text_of, number_of, number_in, decimal_in, extent_of, bytes_in, kept, is_sector_size}
pub use Rattle.luks_rules.specs.Faults.{member_at}
use Rattle.luks_rules.specs.Faults.{type_at}

-- an extent, and a priority, as what a member says
abbrev pub extent_field : Extent → Field
extent_field (Fixed n) = whole n
extent_field Dynamic = dynamic

abbrev pub priority_field : Option ℕ → Field
priority_field None = absent
priority_field (Some n) = whole n

-- ---- the records, member by member

abbrev pub TellsConfig : Data → Config → Type 0
TellsConfig d k = (decimal_in (member_at d outer.Top name.JsonSize) ≡ Some k.json_size) × (decimal_in (member_at d outer.Top name.KeyslotsSize) ≡ Some k.keyslots_size)

abbrev pub TellsKind : Data → SegmentKind → Type 0
TellsKind d (Crypt e) = (type_at d outer.Top ≡ Some (codes "crypt")) × (text_of (member_at d outer.Top name.Encryption) ≡ Some e.cipher.now)
    × (decimal_in (member_at d outer.Top name.IvTweak) ≡ Some e.iv_tweak)
    × (option_and_then (kept is_sector_size) (number_of (member_at d outer.Top name.SectorSize)) ≡ Some e.sector_size)
TellsKind d Linear = type_at d outer.Top ≡ Some (codes "linear")

abbrev pub TellsSegment : Data → Segment → Type 0
TellsSegment d k = (decimal_in (member_at d outer.Top name.Offset) ≡ Some k.offset)
    × (option_and_then extent_of (text_of (member_at d outer.Top name.Size)) ≡ Some (extent_field k.size)) × TellsKind d k.kind

-- the number from 1 to 4294967295 at a member
abbrev pub small_at : Data → Outer → Member → Option ℕ
small_at d o n = number_in 1 4294967295 (member_at d o n)

abbrev pub TellsSplitter : Data → Splitter → Type 0
TellsSplitter d k = (type_at d outer.Af ≡ Some (codes "luks1")) × (text_of (member_at d outer.Af name.Hash) ≡ Some k.hash.now)
    × (small_at d outer.Af name.Stripes ≡ Some k.stripes)

abbrev pub TellsArea : Data → KeyArea → Type 0
TellsArea d k = (type_at d outer.Area ≡ Some (codes "raw")) × (text_of (member_at d outer.Area name.Encryption) ≡ Some k.encryption.now)
    × (number_in 1 128 (member_at d outer.Area name.KeySize) ≡ Some k.key_size)
    × (decimal_in (member_at d outer.Area name.Offset) ≡ Some k.offset) × (decimal_in (member_at d outer.Area name.Size) ≡ Some k.size)

abbrev pub TellsArgon2 : Data → Argon2 → Type 0
TellsArgon2 d k = (small_at d outer.Kdf name.Time ≡ Some k.time) × (small_at d outer.Kdf name.Memory ≡ Some k.memory)
    × (small_at d outer.Kdf name.Cpus ≡ Some k.cpus)

abbrev pub TellsCost : Data → Cost → Type 0
TellsCost d (cost.Pbkdf2 k) = (type_at d outer.Kdf ≡ Some (codes "pbkdf2")) × (text_of (member_at d outer.Kdf name.Hash) ≡ Some k.hash.now)
    × (small_at d outer.Kdf name.Iterations ≡ Some k.iterations)
TellsCost d (cost.Argon2i k) = (type_at d outer.Kdf ≡ Some (codes "argon2i")) × TellsArgon2 d k
TellsCost d (cost.Argon2id k) = (type_at d outer.Kdf ≡ Some (codes "argon2id")) × TellsArgon2 d k

abbrev pub TellsKdf : Data → Derivation → Type 0
TellsKdf d k = TellsCost d k.cost × (bytes_in 1 128 (member_at d outer.Kdf name.Salt) ≡ Some k.salt.items)

abbrev pub TellsKeyslot : Data → Keyslot → Type 0
TellsKeyslot d k = (type_at d outer.Top ≡ Some (codes "luks2")) × (number_in 1 128 (member_at d outer.Top name.KeySize) ≡ Some k.key_size)
    × (reads (rule.MayBeNumber 0 2) (member_at d outer.Top name.Priority) ≡ Some (priority_field k.priority))
    × TellsSplitter d k.af × TellsArea d k.area × TellsKdf d k.kdf

abbrev pub TellsDigest : Data → Digest → Type 0
TellsDigest d k = (type_at d outer.Top ≡ Some (codes "pbkdf2")) × (text_of (member_at d outer.Top name.Hash) ≡ Some k.hash.now)
    × (small_at d outer.Top name.Iterations ≡ Some k.iterations)
    × (bytes_in 1 128 (member_at d outer.Top name.Salt) ≡ Some k.salt.items) × (bytes_in 20 64 (member_at d outer.Top name.Digest) ≡ Some k.digest.items)
    × (numbers_of_array (member_at d outer.Top name.Keyslots) ≡ Some k.keyslots.items)
    × (numbers_of_array (member_at d outer.Top name.Segments) ≡ Some k.segments.items)

abbrev pub TellsToken : Data → Token → Type 0
TellsToken d k = (text_of (member_at d outer.Top name.Kind) ≡ Some k.kind.now)
    × (numbers_of_array (member_at d outer.Top name.Keyslots) ≡ Some k.keyslots.items)
