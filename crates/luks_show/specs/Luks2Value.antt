-- The JSON object of the chosen copy of a LUKS2 header.
use Rattle.std.specs.Prelude.{◌≡◌, ℕ, List, codes, option_and_then, unwrap_or}
use Rattle.serde_json.specs.Data.{Data, Members, null, number, string, object, no_members, put, unsigned}
use Rattle.serde_json.specs.Find.{get}
use Rattle.serde_json.specs.View.{view}
use Rattle.luks_area.specs.Text.{text_of}
use Rattle.luks2_header.specs.declared.bin2.Bin2.{Bin2}
use Rattle.luks_meta.specs.declared.configuration.Config.{Config}
use Rattle.luks_meta.specs.declared.meta.Meta.{Meta}
use Rattle.luks_meta.specs.Content.{content}
use Rattle.luks_meta.specs.Objects.{IsConfig}
use Rattle.luks_reading.specs.declared.header.ChosenCopy.{ChosenCopy}
use Rattle.luks_show.specs.Texts.{copies_text}
use Rattle.luks_show.specs.declared.as_json.luks2.Objects.{Objects}
use Rattle.luks_show.specs.declared.as_json.luks2.Texts.{Texts}
use Rattle.luks_show.specs.SegmentValues.{IsSegmentsValue}
use Rattle.luks_show.specs.ValueTexts.{IsTextValue, number_member}

-- the texts of the binary header
pub record AreTextsOf (header : Bin2) (texts : Texts) : Type 0 where
  pub uuid : IsTextValue (text_of header.uuid) (view texts.uuid)
  pub label : IsTextValue (text_of header.label) (view texts.label)
  pub subsystem : IsTextValue (text_of header.subsystem) (view texts.subsystem)

-- the member of the metadata's `config`, or null where it isn't there
abbrev pub configured : List ℕ → Data → Data
configured name j = unwrap_or (option_and_then (get name) (get (codes "config") j)) null

-- what the metadata says; nothing is said of the arrays of its keyslots, tokens and digests
pub record AreObjectsOf (meta : Meta) (objects : Objects) : Type 0 where
  pub flags : view objects.flags ≡ configured (codes "flags") (content meta)
  pub requirements : view objects.requirements ≡ configured (codes "requirements") (content meta)
  pub segments : IsSegmentsValue (content meta) (view objects.segments)
  pub metadata : view objects.metadata ≡ content meta

-- in bytes: the binary header with its JSON area, that area alone, and the keyslots' areas together
abbrev pub sizes_value : ℕ → Config → Data
sizes_value header_size config = object (
    number_member (codes "header") header_size (
    number_member (codes "json") config.json_size (
    number_member (codes "keyslots") config.keyslots_size no_members)))

-- the members that the binary header gives
abbrev pub header_members : ChosenCopy → Data → Texts → Members
header_members copy sizes texts =
    put (codes "sizes") sizes (
    put (codes "seqid") (number (unsigned copy.header.seqid)) (
    put (codes "copies") (string (copies_text copy.copies)) (
    put (codes "subsystem") (view texts.subsystem) (
    put (codes "label") (view texts.label) (
    put (codes "uuid") (view texts.uuid) (
    put (codes "version") (number (unsigned 2)) no_members))))))

-- and with those that the metadata gives
abbrev pub with_objects : Objects → Members → Members
with_objects objects ms =
    put (codes "metadata") (view objects.metadata) (
    put (codes "digests") (view objects.digests) (
    put (codes "segments") (view objects.segments) (
    put (codes "tokens") (view objects.tokens) (
    put (codes "keyslots") (view objects.keyslots) (
    put (codes "requirements") (view objects.requirements) (
    put (codes "flags") (view objects.flags) ms))))))

-- it is the object of this copy
pub record IsLuks2Value (copy : ChosenCopy) (d : Data) : Type 0 where
  pub config : Config
  pub texts : Texts
  pub objects : Objects
  pub told_sizes : IsConfig (content copy.meta) config
  pub told_texts : AreTextsOf copy.header texts
  pub told_objects : AreObjectsOf copy.meta objects
  pub is : d ≡ object (with_objects objects (header_members copy (sizes_value copy.header.hdr_size config) texts))
