-- After a change of the metadata in named members each keyslot has its area, and answers as it did.
use Rattle.std.proofs.Common.{◌≡◌, ℕ, ◌-◌, List, length, Option, Some, None, sym, subst}
use Rattle.serde_json.specs.Data.{Data as Value}
use Rattle.serde_json.specs.View.{view}
use Rattle.luks_area.specs.declared.area.Area.{Area}
use Rattle.luks_area.specs.declared.area.AreaName.TheVariants.{Slot}
use Rattle.luks_area.specs.Ranges.{part}
use Rattle.luks2_header.specs.Header2.{hdr_size, header_at}
use Rattle.luks_rules.specs.Held.{IsHeld}
use Rattle.luks_making.specs.Unchanged.{KeepsUnnamed}
use Rattle.luks_making.specs.declared.amended.Change.{Change}
use Rattle.luks_making.specs.declared.amended.Change.TheVariants as changes
use Rattle.luks_making.proofs.AmendFacts.{priority_set, token_added, token_lost}
use Rattle.luks_reading.specs.declared.report.Data.{Data}
use Rattle.luks_reading.specs.Checked.{WellFormed}
use Rattle.luks_reading.specs.Layout2.{Luks2Area}
use Rattle.luks_edit.specs.declared.edit.Edit.{Edit}
use Rattle.luks_edit.specs.declared.edit.Edit.TheVariants.{Add, AddByKey, Change as ChangeKey, Remove, Erase, Repair, Label, Uuid, Amend}
use Rattle.luks_edit.specs.Asked.{change_by}
use Rattle.luks_edit.specs.Kept.{KeepsAnswers, KeepsArea}
use Rattle.luks2_edit_laws.specs.Edited.{After2, HasRanges, IsAmended}
use Rattle.luks2_edit_laws.specs.Refused.{IsUnrefused2}
use Rattle.luks2_edit_laws.proofs.AfterFacts.{after, before, edited_metadata, layout, was_opened}
use Rattle.luks2_edit_laws.proofs.AmendFacts.{amended_answers, area_kept, turned}
use Rattle.luks2_edit_laws.proofs.PlaceFacts.{left_bytes}
use Rattle.luks2_edit_laws.proofs.VolumeFacts.{areas_are, areas_back, HasCopy, IsLayout}

-- what a change names, and that all else is as it was
pub record Unnamed (j k : Value) : Type 0 where
  pub slot : Option ℕ
  pub token : Option ℕ
  pub rest : KeepsUnnamed slot token j k

unnamed_by : (len : ℕ) (c : Change) (j k : Value) → IsHeld len j → IsAmended (Some c) j k → Unnamed j k
unnamed_by len (changes.Priority slot priority) j k held is = record {
  slot = Some slot;
  token = None;
  rest = subst (KeepsUnnamed (Some slot) None j) (sym is) (priority_set len slot priority j held).rest;
}
unnamed_by len (changes.AddToken to token) j k held is = record {
  slot = None;
  token = Some is.number;
  rest = subst (KeepsUnnamed None (Some is.number) j) (sym is.is) (token_added len is.number (view token.now) j held).rest;
}
unnamed_by len (changes.RemoveToken number) j k held is = record {
  slot = None;
  token = Some number;
  rest = subst (KeepsUnnamed None (Some number) j) (sym is) (token_lost number j).rest;
}

module _ (v : List ℕ) (payload : Data) (c : Change) (random w : List ℕ) (well : WellFormed v payload)
    (ranges : HasRanges v (Amend c) random) (free : IsUnrefused2 v payload (Amend c) random) (a : After2 v payload (Amend c) random w) where
  abbrev h : ℕ
  h = hdr_size (header_at v a.place)

  first : HasCopy v a.place h a.value
  first = before v payload (Amend c) random w well ranges free a

  second : HasCopy w 0 h a.new
  second = after v payload (Amend c) random w well ranges free a

  old : IsLayout h (length v) payload a.value
  old = layout v payload (Amend c) random w well ranges free a

  new : IsLayout h (length v) payload a.new
  new = (edited_metadata v a.place payload (Amend c) random a.value a.new a.metadata first ranges free (was_opened v (Amend c) random a.value w a.new a.sealed) a.edited old).layout

  unnamed : Unnamed a.value a.new
  unnamed = unnamed_by (h - 4096) c a.value a.new old.held a.edited

  bytes : (m : ℕ) (b : Area) → Luks2Area a.value h payload (length v) (Slot m) b → part w b.start b.len ≡ part v b.start b.len
  bytes m b x = left_bytes v w h (length v) payload a.value (Amend c) old.fit a.rest (Slot m) b (λ lost. lost) x

  area_stays : (m : ℕ) → KeepsArea payload (Slot m) v w
  area_stays m = record {
    same = λ b. (
      λ x. areas_back w payload 0 h a.new second (Slot m) b (subst (λ t. Luks2Area a.new h payload t (Slot m) b) (sym a.rest.length_same)
          (area_kept unnamed.slot unnamed.token a.new a.value (turned unnamed.slot unnamed.token a.value a.new unnamed.rest) h (length v) payload (Slot m) b
          (areas_are v payload a.place h a.value first (Slot m) b x))),
      λ x. areas_back v payload a.place h a.value first (Slot m) b (area_kept unnamed.slot unnamed.token a.value a.new unnamed.rest h (length v) payload (Slot m) b
          (subst (λ t. Luks2Area a.new h payload t (Slot m) b) a.rest.length_same (areas_are w payload 0 h a.new second (Slot m) b x))),
    );
    bytes = λ b x. bytes m b (areas_are v payload a.place h a.value first (Slot m) b x);
  }

  amends_keep : (m : ℕ) → KeepsAnswers payload m v w
  amends_keep m = record {
    area = area_stays m;
    answers = amended_answers v w payload a.place 0 h unnamed.slot unnamed.token a.value a.new unnamed.rest first second a.rest.length_same old new.held bytes m;
  }

-- so it is of each edit that makes one
pub change_keeps : (v : List ℕ) (payload : Data) (e : Edit) (random w : List ℕ) (c : Change) → WellFormed v payload → HasRanges v e random → IsUnrefused2 v payload e random
    → After2 v payload e random w → change_by e ≡ Some c → (m : ℕ) → KeepsAnswers payload m v w
change_keeps v payload (Amend own) random w c well ranges free a is = amends_keep v payload own random w well ranges free a
change_keeps v payload (Add by_ old_ fresh to iterations d) random w c well ranges free a is = absurd (cc)
change_keeps v payload (AddByKey key fresh to iterations d) random w c well ranges free a is = absurd (cc)
change_keeps v payload (ChangeKey slot old_ fresh iterations d) random w c well ranges free a is = absurd (cc)
change_keeps v payload (Remove slot by_ passphrase) random w c well ranges free a is = absurd (cc)
change_keeps v payload Erase random w c well ranges free a is = absurd (cc)
change_keeps v payload Repair random w c well ranges free a is = absurd (cc)
change_keeps v payload (Label text subsystem) random w c well ranges free a is = absurd (cc)
change_keeps v payload (Uuid uuid) random w c well ranges free a is = absurd (cc)
