-- Which bytes of a LUKS2 volume a failing device call may have changed.
use Rattle.std.proofs.Common.{ℕ, ◌+◌, ◌*◌, ◌<◌, ◌==◌, Bool, true, false, if◌then◌else◌, List, length, inl, inr, arith}
use Rattle.serde_json.specs.Data.{Data as Value}
use Rattle.luks_area.proofs.RangeFacts.{same_but-equal, same_but-wider}
use Rattle.luks_area.specs.Ranges.{IsAt, SameBut}
use Rattle.luks2_header.specs.Header2.{hdr_size, header_at}
use Rattle.luks_reading.specs.declared.report.Data.{Data}
use Rattle.luks_edit.specs.declared.edit.Edit.{Edit}
use Rattle.luks2_edit_laws.specs.Leftovers.{IsTornAt, Leftover2}
use Rattle.luks2_edit_laws.specs.Places.{IsTouched, IsTouchedIn, IsTouchedUpTo}

-- the copy at one of the two places is of the copies
copy_is_of_copies : (h p : ℕ) (second : Bool) → IsAt (if second then h else 0) h p → p < 2 * h
copy_is_of_copies h p true at = let high : p < h + h = at.1 in omega (arith, high)
copy_is_of_copies h p false at = let high : p < 0 + h = at.1 in omega (arith, high)

-- what is touched up to the area of a keyslot is touched
pub all_touched : (last h total : ℕ) (payload : Data) (j : Value) (e : Edit) (v w : List ℕ) → SameBut (IsTouchedUpTo last h total payload j e) v w → SameBut (IsTouched h total payload j e) v w
all_touched last h total payload j e v w rest =
    same_but-wider (λ p x. elim x [
      | inl copies ↦ inl copies
      | inr other ↦ elim other [
        | inl sealed ↦ inr (inl sealed)
        | inr lost ↦ inr (inr lost.lost)
      ]
    ]) rest

-- whichever step failed, no byte changed but those that the edit may change
pub torn_rest : (v : List ℕ) (payload : Data) (e : Edit) (random : List ℕ) (o : ℕ) (j new : Value) (w : List ℕ) → IsTornAt v payload e random o j new w
    → SameBut (IsTouched (hdr_size (header_at v o)) (length v) payload j e) v w
torn_rest v payload e random o j new w (inl t) = same_but-wider (λ p sealed. inr (inl sealed)) t
torn_rest v payload e random o j new w (inr (inl t)) =
    same_but-wider (λ p x. elim x [
      | inl sealed ↦ inr (inl sealed)
      | inr at ↦ inl (copy_is_of_copies (hdr_size (header_at v o)) p (o == 0) at)
    ]) t.rest
torn_rest v payload e random o j new w (inr (inr (inl t))) =
    same_but-wider (λ p x. elim x [
      | inl sealed ↦ inr (inl sealed)
      | inr at ↦ inl at
    ]) t.rest
torn_rest v payload e random o j new w (inr (inr (inr t))) = all_touched t.slot (hdr_size (header_at v o)) (length v) payload j e v w t.rest

pub leftover_rest : (v : List ℕ) (payload : Data) (e : Edit) (random w : List ℕ) → Leftover2 v payload e random w → SameBut (IsTouchedIn v payload e) v w
leftover_rest v payload e random w (inl same) = same_but-equal (IsTouchedIn v payload e) same
leftover_rest v payload e random w (inr t) =
    same_but-wider (λ p x. record { place = t.1.place; value = t.1.value; metadata = t.1.metadata; is = x })
    (torn_rest v payload e random t.1.place t.1.value t.1.new w t.1.torn)
