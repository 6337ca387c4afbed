-- The keyslot that says what is under way.
use Rattle.std.specs.Prelude.{◌≡◌, ◌<◌, ℕ, true}
use Rattle.serde_json.specs.Data.{Data}
use Rattle.luks_rules.specs.declared.table.Section.TheVariants.{Keyslots}
use Rattle.luks_rules.specs.Sizes.{IsFirst}
use Rattle.luks_meta.specs.Objects.{IsObject}
use Rattle.luks_underway.specs.Kinds.{has_reencrypt}
use Rattle.luks_underway.specs.Reencryptions.{TellsReencryption}
use Rattle.luks_wider.specs.declared.reencryption.ReencryptSlot.{ReencryptSlot}

-- it tells the members of the only keyslot of the type `reencrypt`
pub record IsReencryptSlot (j : Data) (slot : ReencryptSlot) : Type 0 where
  pub is : IsFirst (has_reencrypt j) slot.number
  pub only : (m : ℕ) → m < 32 → has_reencrypt j m ≡ true → m ≡ slot.number
  pub tells_members : IsObject TellsReencryption j Keyslots slot.number slot.members
