-- Keyslots in the JSON object of a copy in which something is under way.
use Rattle.std.specs.Prelude.{◌≡◌, ℕ, ◌+◌, List, [], ◌∷◌, ◌++◌, codes, Option, Some, None}
use Rattle.serde_json.specs.Data.{Data, Members, array, no_members, null, number, object, put, string, unsigned}
use Rattle.serde_json.specs.View.{items_of}
use Rattle.luks_rules.specs.declared.table.Section.TheVariants as section
use Rattle.luks_meta.specs.declared.keyslots.Keyslot.{Keyslot}
use Rattle.luks_meta.specs.Objects.{IsMissing, IsObject}
use Rattle.luks_meta.specs.Says.{TellsKeyslot}
use Rattle.luks_underway.specs.declared.reencryption.ReencryptArea.{ReencryptArea}
use Rattle.luks_underway.specs.declared.reencryption.Reencryption.{Reencryption}
use Rattle.luks_underway.specs.declared.resilience.Checksum.{Checksum}
use Rattle.luks_underway.specs.declared.resilience.Resilience.{Resilience}
use Rattle.luks_underway.specs.declared.resilience.Resilience.TheVariants as kept_by
use Rattle.luks_underway.specs.Reencryptions.{TellsReencryption}
use Rattle.luks_underway_show.specs.KeyslotLines.{direction_text, mode_text}
use Rattle.luks_underway_show.specs.Shown.{keyslot_digest}

-- a number, or null where there is none
abbrev pub number_value : Option ℕ → Data
number_value None = null
number_value (Some n) = number (unsigned n)

-- ---- the keyslot that says what is under way

abbrev pub with_type : List ℕ → Members → Members
with_type kind ms = put (codes "type") (string kind) ms

abbrev pub with_checksum : Checksum → Members → Members
with_checksum k ms = put (codes "sector_size") (number (unsigned k.sector_size)) (put (codes "hash") (string k.hash.now) ms)

abbrev pub with_shift : ℕ → Members → Members
with_shift n ms = put (codes "shift_size") (number (unsigned n)) ms

-- by what it is mended
abbrev pub resilience_members : Resilience → Members
resilience_members kept_by.Nothing = with_type (codes "none") no_members
resilience_members kept_by.Journal = with_type (codes "journal") no_members
resilience_members (kept_by.Checksum k) = with_type (codes "checksum") (with_checksum k no_members)
resilience_members (kept_by.Datashift n) = with_type (codes "datashift") (with_shift n no_members)
resilience_members (kept_by.DatashiftJournal n) = with_type (codes "datashift-journal") (with_shift n no_members)
resilience_members (kept_by.DatashiftChecksum k n) = with_type (codes "datashift-checksum") (with_shift n (with_checksum k no_members))

-- where its area lies, in bytes
abbrev pub area_members : ReencryptArea → Members
area_members a = put (codes "size") (number (unsigned a.size)) (put (codes "offset") (number (unsigned a.offset)) no_members)

abbrev pub reencryption_members : ℕ → Reencryption → Option ℕ → Members
reencryption_members n k digest =
    put (codes "state") (string (codes "reencrypt")) (
    put (codes "resilience") (object (resilience_members k.area.resilience)) (
    put (codes "number") (number (unsigned n)) (
    put (codes "mode") (string (mode_text k.mode)) (
    put (codes "direction") (string (direction_text k.direction)) (
    put (codes "digest") (number_value digest) (
    put (codes "area") (object (area_members k.area)) no_members))))))

-- ---- each keyslot

-- it is the object of the keyslot with that number; of one that keeps a key its members aren't told
pub data IsKeyslotValue (j : Data) (n : ℕ) (d : Data) : Type 0 where
  key : (k : Keyslot) → IsObject TellsKeyslot j section.Keyslots n k → IsKeyslotValue j n d
  reencryption : (k : Reencryption) → IsObject TellsReencryption j section.Keyslots n k
      → d ≡ object (reencryption_members n k (keyslot_digest j n)) → IsKeyslotValue j n d

-- the objects of those keyslots that there are of the first n numbers, the lowest number first
pub data AreKeyslots (j : Data) : ℕ → List Data → Type 0 where
  start : AreKeyslots j 0 []
  passed : {n : ℕ} {ds : List Data} → AreKeyslots j n ds → IsMissing j section.Keyslots n → AreKeyslots j (n + 1) ds
  listed : {n : ℕ} {ds : List Data} {d : Data} → AreKeyslots j n ds → IsKeyslotValue j n d → AreKeyslots j (n + 1) (ds ++ d ∷ [])

-- it is the array of all keyslots
pub record IsKeyslotsValue (j : Data) (d : Data) : Type 0 where
  pub keyslots : List Data
  pub all : AreKeyslots j 32 keyslots
  pub is : d ≡ array (items_of keyslots)
