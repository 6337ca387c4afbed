-- An edit that was judged by the copy that was read: how it ends where it is refused, and what is
-- known of it where it isn't.
use Rattle.std.proofs.Common.{◌≡◌, ℕ, List, Result, inl, subst, sym}
use Rattle.luks2_header.specs.Header2.{hdr_size, header_at}
use Rattle.luks_meta.specs.Content.{content}
use Rattle.luks_reading.specs.declared.header.ChosenCopy.{ChosenCopy}
use Rattle.luks_reading.specs.declared.report.Data.{Data}
use Rattle.luks_reading.specs.Checked.{WellFormed}
use Rattle.luks_reading.specs.Header.{IsChosenCopy}
use Rattle.luks_edit.specs.declared.edit.Done.{Done}
use Rattle.luks_edit.specs.declared.edit.Edit.{Edit}
use Rattle.luks_edit.specs.declared.edit_fault.EditFault.{EditFault}
use Rattle.luks_edit.specs.Endings.{EndsBy-map}
use Rattle.luks2_edit_laws.specs.Leftovers.{Leftover2}
use Rattle.luks2_edit_laws.specs.Refused.{Refusal2}
use Rattle.luks2_judging.specs.declared.judged.Judged.{Judged}
use Rattle.luks2_judging.specs.Judging.{IsRefusedEarly, IsUnrefusedSoFar, Seals}
use Rattle.luks2_judging.specs.Opened.{TakesMemoryToOpen}
use Rattle.luks2_judging.specs.Rows.{HasNoFaultBefore}
use Rattle.luks2_editing.specs.Replies.{EndsBy2, Replies2}

-- a refusal, a failed allocation, or the device's failure while the edit was judged
pub refused_ends : (v : List ℕ) (payload : Data) (e : Edit) (random w : List ℕ) (f : EditFault) → w ≡ v → IsRefusedEarly v payload e f → EndsBy2 payload v e random f w
refused_ends v payload e random w f same x = EndsBy-map
    (λ g. (random : List ℕ) → Refusal2 v payload e random g) (λ g. Refusal2 v payload e random g × (w ≡ v)) (TakesMemoryToOpen v e) (w ≡ v) (Unit {0}) (Leftover2 v payload e random w) f
    (λ is refused. (refused random, same)) (λ wanting. same) (λ any. inl same) x

-- what is known of the edit `it` once it was judged, of the volume `v` that is still as it was read
pub record IsJudgedEdit (v : List ℕ) (payload : Data) (it : Edit) (judged : Judged) : Type 0 where
  pub chosen : IsChosenCopy v judged.copy
  pub well : WellFormed v payload
  pub none : (random : List ℕ) → HasNoFaultBefore 20 v payload it random
  pub seals : Seals (hdr_size (header_at v judged.copy.header.hdr_offset)) v payload (content judged.copy.meta) it judged.edit

module _ {u v : List ℕ} {e it : Edit} (same : v ≡ u) (asked : e ≡ it) where
  pub judged_edit : {payload : Data} {copy : ChosenCopy} (judged : Judged) → judged.copy ≡ copy → IsChosenCopy u copy
      → IsUnrefusedSoFar u payload e judged → IsJudgedEdit v payload it judged
  judged_edit {payload} {copy} judged kept is x =
      let there : IsUnrefusedSoFar v payload it judged =
      subst (λ y. IsUnrefusedSoFar v payload y judged) asked (subst (λ b. IsUnrefusedSoFar b payload e judged) (sym same) x) in
      record {
        chosen = subst (λ c. IsChosenCopy v c) (sym kept) (subst (λ b. IsChosenCopy b copy) (sym same) is);
        well = there.well;
        none = there.none;
        seals = there.seals;
      }

  -- its reply is that of the edit that was asked for
  pub replied : (payload : Data) (random w : List ℕ) (result : Result Done EditFault) → Replies2 payload v it random result w → Replies2 payload u e random result w
  replied payload random w result x =
      subst (λ y. Replies2 payload u y random result w) (sym asked) (subst (λ b. Replies2 payload b it random result w) same x)
