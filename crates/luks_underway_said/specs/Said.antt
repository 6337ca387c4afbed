-- What standard error says of a volume in which something is under way (docs/PROFILE.md, 11).
use Rattle.std.specs.Prelude.{◌≡◌, ℕ, ◌<◌, List, [], ◌++◌, codes, Bool, true, false, ◌&&◌, not, nat_lt, Option, Some, None}
use Rattle.std.specs.Fmt.{decimal}
use Rattle.std.specs.List.{list_any}
use Rattle.serde_json.specs.Data.{Data}
use Rattle.luks_meta.specs.declared.member.Extent.{Extent}
use Rattle.luks_meta.specs.declared.member.Extent.TheVariants.{Fixed, Dynamic}
use Rattle.luks_show.specs.Texts.{line}
use Rattle.luks_underway.specs.declared.reencryption.Reencryption.{Reencryption}
use Rattle.luks_underway.specs.declared.sides.Side.{Side}
use Rattle.luks_underway.specs.declared.sides.Side.TheVariants as side
use Rattle.luks_underway.specs.Kinds.{has_reencrypt}
use Rattle.luks_underway.specs.Sides.{is_named, IsSide, is_side_of, side_of}
use Rattle.luks_wider.specs.declared.reencryption.ReencryptSlot.{ReencryptSlot}
use Rattle.luks_wider.specs.Reencrypting.{IsReencryptSlot}
use Rattle.luks_underway_show.specs.declared.hotzone.Hotzone.{Hotzone}
use Rattle.luks_underway_show.specs.KeyslotLines.{direction_text, mode_text}
use Rattle.luks_underway_show.specs.UnderwayValue.{IsHot}

-- ---- a reencryption

abbrev pub key_words : Option ℕ → List ℕ
key_words None = codes "no encryption"
key_words (Some n) = codes "the key of digest " ++ decimal n

abbrev pub length_words : Extent → List ℕ
length_words (Fixed n) = decimal n ++ codes " bytes"
length_words Dynamic = codes "the rest"

abbrev pub hand_words : Option Hotzone → List ℕ
hand_words None = codes ", no part is in hand"
hand_words (Some z) = codes ", the part in hand begins at byte " ++ decimal z.offset ++ codes " and has " ++ length_words z.size

-- what is done and which way; from which key to which, and where
abbrev pub doing_words : Reencryption → List ℕ
doing_words k = codes "a reencryption is under way: " ++ mode_text k.mode ++ codes " " ++ direction_text k.direction

abbrev pub between_words : Option ℕ → Option ℕ → Option Hotzone → List ℕ
between_words old new hot = codes ", from " ++ key_words old ++ codes " to " ++ key_words new ++ hand_words hot

abbrev pub reencryption_words : Reencryption → Option ℕ → Option ℕ → Option Hotzone → List ℕ
reencryption_words k old new hot = doing_words k ++ between_words old new hot

abbrev pub said_of : List ℕ → List ℕ → List ℕ
said_of volume words = codes "luks: " ++ volume ++ codes ": " ++ line words

abbrev pub resuming_words : List ℕ
resuming_words = codes "cryptsetup repair or cryptsetup reencrypt --resume-only goes on with it"

-- both lines of the volume of this name; none where no keyslot says that one is under way
pub data IsReencryptionSaid (j : Data) (volume : List ℕ) (text : List ℕ) : Type 0 where
  nothing : ((n : ℕ) → n < 32 → has_reencrypt j n ≡ false) → text ≡ [] → IsReencryptionSaid j volume text
  said : (slot : ReencryptSlot) (old new : Option ℕ) (hot : Option Hotzone) → IsReencryptSlot j slot → IsSide j (codes "backup-previous") old
      → IsSide j (codes "backup-final") new → IsHot j hot
      → text ≡ said_of volume (reencryption_words slot.members old new hot) ++ said_of volume resuming_words → IsReencryptionSaid j volume text

-- ---- which key a keyslot gives

abbrev pub side_words : Side → List ℕ
side_words side.Old = codes "the old key of the reencryption"
side_words side.New = codes "the new key of the reencryption"
side_words side.Both = codes "the key of both sides of the reencryption"
side_words side.Neither = codes "the key of neither side of the reencryption"

abbrev pub side_line : ℕ → Side → List ℕ
side_line n of = codes "luks: keyslot " ++ decimal n ++ codes ": it gives " ++ line (side_words of)

-- by the digests of both sides
abbrev pub side_by : Data → ℕ → Option ℕ → Option ℕ → Side
side_by j n old new = side_of (is_side_of j n old) (is_side_of j n new)

-- ---- the key that is missing

-- the keyslot `n` is assigned to the digest `m`
abbrev pub gives : Data → ℕ → ℕ → Bool
gives j m n = nat_lt n 32 && is_named j (codes "keyslots") n m

-- there is a key of that side, and none of these keyslots gives it
abbrev pub is_missing : Data → List ℕ → Option ℕ → Bool
is_missing j opened None = false
is_missing j opened (Some m) = nat_lt m 32 && not (list_any (gives j m) opened)

abbrev pub missing_line : List ℕ → List ℕ
missing_line which =
    codes "luks: no keyslot that opens gives the " ++ which ++ line (codes " key: cryptsetup reencrypt --resume-only asks for both by one passphrase, and fails")

abbrev pub missing_as : Bool → List ℕ → List ℕ
missing_as true which = missing_line which
missing_as false which = []

-- what is said where a passphrase has opened these keyslots
abbrev pub missing_text : Data → List ℕ → Option ℕ → Option ℕ → List ℕ
missing_text j opened old new = missing_as (is_missing j opened old) (codes "old") ++ missing_as (is_missing j opened new) (codes "new")
