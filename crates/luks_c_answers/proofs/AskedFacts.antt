-- Facts on what is asked for by numbers.
use Rattle.std.proofs.Common.{◌≢◌, ◌⊎◌, inl, inr, ℕ, List}
use Rattle.luks_edit.specs.declared.edit.Edit.{Edit}
use Rattle.luks_edit.specs.declared.edit.Edit.TheVariants.{Add, AddByKey, Change, Remove, Erase, Repair, Label, Uuid, Amend}
use Rattle.luks_making.specs.declared.amended.Change.{Change as TheChange}
use Rattle.luks_making.specs.declared.amended.Change.TheVariants as change
use Rattle.luks_c_answers.specs.EditAsked.{IsAsked, IsChangeAsked, IsOtherAsked, IsUnasked}
use Rattle.luks_c_answers.specs.declared.asking.LuksEdit.{LuksEdit}

-- what is asked for changes named members, or doesn't
asked_cases : (asked : LuksEdit) (words text subsystem : List ℕ) (e : Edit) → IsAsked asked words text subsystem e
    → IsOtherAsked asked words text subsystem e ⊎ ((c : TheChange) × IsChangeAsked asked text c)
asked_cases asked words text subsystem (Add by_ old new to iterations derivation) is = inl is
asked_cases asked words text subsystem (AddByKey key new to iterations derivation) is = inl is
asked_cases asked words text subsystem (Change slot old new iterations derivation) is = inl is
asked_cases asked words text subsystem (Remove slot by_ secret) is = inl is
asked_cases asked words text subsystem Erase is = inl is
asked_cases asked words text subsystem Repair is = inl is
asked_cases asked words text subsystem (Label label s) is = inl is
asked_cases asked words text subsystem (Uuid own) is = inl is
asked_cases asked words text subsystem (Amend c) is = inr (c, is)

-- no change has another kind
no_change : (asked : LuksEdit) (text : List ℕ) → asked.kind ≢ 6 → asked.kind ≢ 7 → asked.kind ≢ 8 → (c : TheChange) → IsChangeAsked asked text c → ⊥
no_change asked text six seven eight (change.Priority slot p) is = six is.0
no_change asked text six seven eight (change.AddToken to token) is = seven is.0.0
no_change asked text six seven eight (change.RemoveToken number) is = eight is.0

-- where no such edit is asked for, and the kind is that of no change, nothing is
pub unasked_other : (asked : LuksEdit) (words text subsystem : List ℕ) → asked.kind ≢ 6 → asked.kind ≢ 7 → asked.kind ≢ 8
    → ((e : Edit) → IsOtherAsked asked words text subsystem e → ⊥) → IsUnasked asked words text subsystem
unasked_other asked words text subsystem six seven eight none = record {
  none = λ e is. elim (asked_cases asked words text subsystem e is) [
    | inl other ↦ none e other
    | inr so ↦ no_change asked text six seven eight so.0 so.1
  ];
  no_token = λ to is. seven is.0;
}
