-- The reply of an edit: that of a volume of one version is that of the volume.
use Rattle.std.proofs.Common.{ℕ, List, Result, Ok, Err, refl, inl}
use Rattle.luks2_header.specs.declared.selection.Copies.{Copies}
use Rattle.luks2_header.specs.Selection.{Choice, luks1, luks2, nothing, Chosen}
use Rattle.luks2_header.proofs.ChoiceFacts.{choice_exists}
use Rattle.luks_reading.specs.declared.report.Data.{Data}
use Rattle.luks_reading.specs.Header.{NeedsMetadata}
use Rattle.luks_edit.specs.declared.edit.Done.{Done}
use Rattle.luks_edit.specs.declared.edit.Edit.{Edit}
use Rattle.luks_edit.specs.declared.edit_fault.EditFault.{EditFault}
use Rattle.luks_edit.specs.declared.edit_fault.EditFault.TheVariants as fault
use Rattle.luks1_edits.specs.Replies.{EndsBy1, Replies1}
use Rattle.luks2_editing.specs.Replies.{EndsBy2, Replies2}
use Rattle.luks2_edit_laws.specs.Edited.{HasRanges}
use Rattle.luks_volume.specs.Edits.{LeftoverAs, Replies}
use Rattle.luks_volume.specs.Unread.{IsHeaderRefused}
use Rattle.luks_volume.proofs.VersionFacts.{first_refuses, refusal_by, tells_slot1, tells_slot2, unrefused_by}

-- a failing call before the first write leaves the volume as it was
left_as_it_was : (v : List ℕ) (payload : Data) (e : Edit) (r : List ℕ) (c : Choice) → LeftoverAs v payload e r c v
left_as_it_was v payload e r luks1 = inl refl
left_as_it_was v payload e r (luks2 o copies) = inl refl
left_as_it_was v payload e r nothing = refl

pub unread_replies : (v : List ℕ) (payload : Data) (e : Edit) (r : List ℕ) (f : EditFault)
    → IsHeaderRefused v payload f → Replies payload v e r (Err f) v
unread_replies v payload e r (fault.NotAccepted f) x = (first_refuses v payload e r f x, refl)
unread_replies v payload e r fault.Memory x = (x, refl)
unread_replies v payload e r fault.Device x =
    let some = choice_exists v in record { choice = some.0; chosen = some.1; left = left_as_it_was v payload e r some.0 }
unread_replies v payload e r f x = absurd x

module _ (v : List ℕ) (payload : Data) (e : Edit) (r w : List ℕ) where
  module _ (chosen : Chosen v luks1) where
    ends1 : (f : EditFault) → EndsBy1 payload v e r f w → Replies payload v e r (Err f) w
    ends1 fault.Device x = record { choice = luks1; chosen = chosen; left = x }
    ends1 fault.Memory x = absurd x
    ends1 f x = (refusal_by v payload e luks1 chosen r f x.0, x.1)

    pub replies_by1 : HasRanges v e r → (result : Result Done EditFault) → Replies1 payload v e r result w → Replies payload v e r result w
    replies_by1 ranges (Ok done) x = (
      ranges,
      unrefused_by v payload e luks1 chosen r x.unrefused.none,
      tells_slot1 v e done.slot chosen x.told,
      record { choice = luks1; chosen = chosen; after = x.after },
    )
    replies_by1 ranges (Err f) x = ends1 f x

  module _ (o : ℕ) (copies : Copies) (chosen : Chosen v (luks2 o copies)) where
    ends2 : NeedsMetadata v → (f : EditFault) → EndsBy2 payload v e r f w → Replies payload v e r (Err f) w
    ends2 needs fault.Device x = record { choice = luks2 o copies; chosen = chosen; left = x }
    ends2 needs fault.Memory x = (needs, x)
    ends2 needs f x = (refusal_by v payload e (luks2 o copies) chosen r f x.0, x.1)

    pub replies_by2 : NeedsMetadata v → HasRanges v e r → (result : Result Done EditFault) → Replies2 payload v e r result w → Replies payload v e r result w
    replies_by2 needs ranges (Ok done) x = (
      ranges,
      unrefused_by v payload e (luks2 o copies) chosen r x.unrefused.none,
      tells_slot2 v e done.slot o copies chosen x.told,
      record { choice = luks2 o copies; chosen = chosen; after = x.after },
    )
    replies_by2 needs ranges (Err f) x = ends2 needs f x
