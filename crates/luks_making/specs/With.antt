-- The metadata with a new keyslot.
use Rattle.std.specs.Prelude.{◌≡◌, ℕ, List, codes}
use Rattle.serde_json.specs.Data.{Data, put}
use Rattle.luks_json.specs.Number.{number_text}
use Rattle.luks_rules.specs.declared.table.Section.TheVariants.{Keyslots}
use Rattle.luks_rules.specs.Accepted.{HasObject}
use Rattle.luks_making.specs.Changing.{add_text, at_member, in_array, in_object}
use Rattle.luks_making.specs.Keyslots.{IsMadeFrom, NewMembers, SlotMembers, slot_value}
use Rattle.luks_making.specs.Naming.{IsDigestOf}

-- the digest with the name last in its array of keyslots
abbrev pub with_name : List ℕ → Data → Data
with_name t = at_member (codes "keyslots") (in_array (add_text t))

-- the value with the keyslot `n`, named by the digest `m`; all else as it was
abbrev pub with_slot : ℕ → ℕ → SlotMembers → Data → Data
with_slot n m s j =
    at_member (codes "keyslots") (in_object (put (number_text n) (slot_value s)))
    (at_member (codes "digests") (at_member (number_text m) (with_name (number_text n))) j)

-- `new` is the value `old` with the keyslot `to`, which is made with the members of the keyslot
-- `by` and named by the digest that names `by`
pub record IsAdded (to by : ℕ) (f : NewMembers) (old new : Data) : Type 0 where
  pub from : Data
  pub there : HasObject old Keyslots by from
  pub slot : SlotMembers
  pub made : IsMadeFrom from f slot
  pub digest : ℕ
  pub names : IsDigestOf old by digest
  pub is : new ≡ with_slot to digest slot old
