-- A keyslot that is made as a new volume has it, for a digest that is there.
use Rattle.std.proofs.Common.{ℕ, codes, sym, subst, arith}
use Rattle.serde_json.specs.Data.{Data as Value}
use Rattle.luks_rules.specs.Held.{IsHeld}
use Rattle.luks_making.specs.Conditions.{FitsNew, FitsSlot, IsFree, IsRoom}
use Rattle.luks_making.specs.Keyslots.{NewMembers, SlotMembers}
use Rattle.luks_making.specs.Naming.{HasUniqueDigests}
use Rattle.luks_making.specs.Unchanged.{GainsSlot}
use Rattle.luks_making.proofs.AdditionFacts.{slot_gained}
use Rattle.luks_making.proofs.FreeNumberFacts.{unnamed_free}
use Rattle.luks_making.proofs.RoomFacts.{says_members}
use Rattle.luks2_edit_laws.specs.declared.like.Like.TheVariants.{Digest}
use Rattle.luks2_edit_laws.specs.Likes.{fresh_members, IsAddedLike}
use Rattle.luks2_edit_laws.proofs.AfterFacts.{fresh_fits as derivation_fits}
use Rattle.luks2_editing.specs.MadeMetadata.{CanMake, IsGained}

-- its members are ones that their rows read
pub fresh_fits : (len : ℕ) (j : Value) (number key_bytes : ℕ) (f : NewMembers) → CanMake len j number key_bytes f → FitsNew f → FitsSlot (fresh_members key_bytes f)
fresh_fits len j number key_bytes f can fits = record {
  key_size = can.key;
  stripes = record { from = omega arith; to = omega arith };
  offset = fits.offset;
  size = fits.size;
  area_key_size = record { from = omega arith; to = omega arith };
  derivation = derivation_fits (codes "sha256") f.derivation.iterations f.derivation.chosen fits.derivation.iterations fits.derivation.chosen can.derivation;
  salt = record { are_bytes = fits.salt; long = can.salt };
}

-- what the metadata has gained
pub fresh_gained : (len : ℕ) (j k : Value) (slot number key_bytes : ℕ) (f : NewMembers) → IsHeld len j → HasUniqueDigests j → IsFree j slot → CanMake len j number key_bytes f → FitsNew f
    → IsAddedLike slot (Digest number key_bytes) f j k → IsGained slot (Digest number key_bytes) f j k
fresh_gained len j k slot number key_bytes f held unique free can fits added =
    let s : SlotMembers = fresh_members key_bytes f in
    let room : IsRoom len slot number s j can.digest.object = record {
      number = free;
      unnamed = unnamed_free len slot j held.content free.free unique;
      digest = can.digest.there;
      fits = fresh_fits len j number key_bytes f can fits;
      large = can.large;
      within = can.within;
    } in
    record {
      added = added;
      gains = subst (GainsSlot slot number s j) (sym added) (slot_gained len slot number s j can.digest.object held.content room);
      says = says_members s room.fits;
    }
