-- Keyslots of metadata in the midst of something: when the object `d` is one, and what the records tell of it.
use Rattle.serde_json.specs.Data.{Data}
use Rattle.luks_rules.specs.Accepted.{IsRead}
use Rattle.luks_rules.specs.Table.{keyslot_rows}
use Rattle.luks_meta.specs.Says.{TellsKeyslot}
use Rattle.luks_underway.specs.declared.slots.WideKeyslot.{WideKeyslot}
use Rattle.luks_underway.specs.declared.slots.WideKeyslot.TheVariants.{Luks2, Reencrypt}
use Rattle.luks_underway.specs.Reencryptions.{IsReencryption, TellsReencryption}

-- what the rules of `luks_rules` accept, or one of the type `reencrypt`
pub data IsWideKeyslot (d : Data) : Type 0 where
  plain : IsRead keyslot_rows d → IsWideKeyslot d
  reencrypt : IsReencryption d → IsWideKeyslot d

abbrev pub TellsWideKeyslot : Data → WideKeyslot → Type 0
TellsWideKeyslot d (Luks2 k) = TellsKeyslot d k
TellsWideKeyslot d (Reencrypt k) = TellsReencryption d k
