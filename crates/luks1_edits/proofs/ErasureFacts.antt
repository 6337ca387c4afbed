-- Keyslots that are removed one after the other, and what an erasure of all replies.
use Rattle.std.proofs.Common.{◌≡◌, ◌≢◌, ℕ, ◌+◌, ◌*◌, ◌<◌, ◌≤◌, List, length, replicate, None, subst, refl, sym, ap, ◌∙◌, arith, inl, inr, lit≤}
use Rattle.std.proofs.lemmas.Bool.{cases_lt}
use Rattle.luks_area.specs.declared.area.Area.{Area}
use Rattle.luks_area.specs.Area.{Fit}
use Rattle.luks_area.specs.Ranges.{part, IsAt, SameBut}
use Rattle.luks_area.specs.Sectors.{rounded_to_sectors}
use Rattle.luks_area.proofs.RangeFacts.{part-same_but, same_but-then, same_but-wider}
use Rattle.luks1_header.specs.Bytes.{number_at}
use Rattle.luks1_header.specs.Header1.{entry, entry_key_material_offset, entry_stripes, HoldsEntry}
use Rattle.luks1_header.specs.declared.luks1.Luks1Slot.{Luks1Slot}
use Rattle.luks_reading.specs.declared.check_fault.CheckFault.{CheckFault}
use Rattle.luks_reading.specs.declared.report.Data.{Data}
use Rattle.luks_reading.specs.Checked.{IsFault}
use Rattle.luks_reading.specs.Layout1.{Luks1Area}
use Rattle.luks_edit.specs.declared.deed.Deed.TheVariants as deed
use Rattle.luks_edit.specs.declared.edit.Edit.{Edit}
use Rattle.luks_edit.specs.declared.edit_fault.EditFault.TheVariants as fault
use Rattle.luks_edit.specs.Asked.{deed_of}
use Rattle.luks_edit.proofs.RowFacts.{Passed, first_of_row}
use Rattle.luks1_edits.specs.Accepted.{IsHeaderOf}
use Rattle.luks1_edits.specs.Edited.{AreRemoved, IsFreed, IsRemoved, IsWiped}
use Rattle.luks1_edits.specs.Kept.{HasSameKeyslot, IsEither}
use Rattle.luks1_edits.specs.Leftovers.{IsFreedFirst, IsHalfErased, IsHalfRemoved, Leftover1}
use Rattle.luks1_edits.specs.Places.{area_len, area_start, entry_place, IsOfKeyslot, IsOfKeyslots}
use Rattle.luks1_edits.specs.Refused.{IsEditFault1, IsUnrefused1, Need1}
use Rattle.luks1_edits.specs.Replies.{EndsBy1, IsDone1}
use Rattle.luks1_edits.specs.Steps.{IsKeyslotAt}
use Rattle.luks1_edits.proofs.HeaderFacts.{front_moves, number_same, volume_of}
use Rattle.luks1_edits.proofs.KeptFacts.{area_apart, entry_apart, same_keyslot}
use Rattle.luks1_edits.proofs.RowFacts.{none_to_open, OpensNone, past_argon2, past_label, past_new, past_uuid, unrefused}

-- ---- one keyslot after the other

-- the places of the keyslot where its entry and its area stand alike
of_one : (u v : List ℕ) (n : ℕ) → area_start u n ≡ area_start v n → area_len u n ≡ area_len v n → (p : ℕ) → IsOfKeyslot u n p → IsOfKeyslot v n p
of_one u v n start len p (inl in_entry) = inl in_entry
of_one u v n start len p (inr in_area) = inr (subst (λ k. IsAt (area_start v n) k p) len (subst (λ k. IsAt k (area_len u n) p) start in_area))

of_either : (u : List ℕ) (n p : ℕ) → IsOfKeyslots u (IsEither n n) p → IsOfKeyslot u n p
of_either u n p x = let one : x.keyslot ≡ n = elim x.is_named [ inl y ↦ y | inr y ↦ y ] in subst (λ k. IsOfKeyslot u k p) one x.of

module _ (h : List ℕ) (payload : Data) (v : List ℕ) (of : IsHeaderOf h payload v) (u : List ℕ) (n : ℕ) (lt : n < 8) (x : AreRemoved n v u) where
  fit : Fit (Luks1Area (part v 0 592) payload (length v)) (length v)
  fit = (volume_of v payload of.chosen of.well).fit

  -- where those below it were removed the keyslot is as it was
  still : HasSameKeyslot n v u
  still = same_keyslot v payload fit u (λ m. m < n) (record { numbered = λ m low. omega (arith, low, lt) }) x.rest n (λ low. omega (arith, low))

  entry_still : entry u n ≡ entry v n
  entry_still = still.entry lt

  start_still : area_start u n ≡ area_start v n
  start_still = ap (λ e. entry_key_material_offset e * 512) entry_still

  len_still : area_len u n ≡ area_len v n
  len_still =
      let key : number_at u 108 4 ≡ number_at v 108 4 = number_same u v 108 4 (front_moves v u still.common.front 108 4 (lit≤ tt)) in
      ap (λ k. rounded_to_sectors (k * entry_stripes (entry u n))) key ∙ ap (λ e. rounded_to_sectors (number_at v 108 4 * entry_stripes e)) entry_still

  pub keyslot_still : (s : Luks1Slot) (a : Area) → IsKeyslotAt v n s a → IsKeyslotAt u n s a
  keyslot_still s a y = record {
    says = subst (λ e. HoldsEntry e s) (sym entry_still) y.says;
    start = y.start ∙ sym start_still;
    len = y.len ∙ sym len_still;
    apart = y.apart;
  }

  module _ (w : List ℕ) (touched : SameBut (IsOfKeyslots u (IsEither n n)) u w) where
    -- no byte changed except of the keyslot
    own : SameBut (IsOfKeyslot v n) u w
    own = same_but-wider (λ p at. of_one u v n start_still len_still p (of_either u n p at)) touched

    both : (named : ℕ → Type 0) → ((m : ℕ) → m < n → named m) → named n → SameBut (IsOfKeyslots v named) v w
    both named low is = same_but-then
        (same_but-wider (λ p at. record { keyslot = at.keyslot; is_named = low at.keyslot at.is_named; of = at.of }) x.rest)
        (same_but-wider (λ p at. record { keyslot = n; is_named = is; of = at }) own)

    -- those below it are as they were left
    freed_below : (m : ℕ) → m < n → IsFreed (entry v m) (entry w m)
    freed_below m low =
        let kept : entry w m ≡ entry u m = part-same_but (entry_place m) 48 own (λ p at is. entry_apart v payload fit n m p lt (omega (arith, low, lt)) (λ same. omega (arith, same, low)) at is) in
        subst (λ e. IsFreed (entry v m) e) (sym kept) (x.freed m low)

    wiped_below : (m : ℕ) → m < n → IsWiped v m w
    wiped_below m low =
        part-same_but (area_start v m) (area_len v m) own (λ p at is. area_apart v payload fit n m p lt (omega (arith, low, lt)) (λ same. omega (arith, same, low)) at is)
        ∙ x.wiped m low

  -- the keyslot was removed
  pub next_removed : (w : List ℕ) → IsRemoved u n w → AreRemoved (n + 1) v w
  next_removed w y =
      let freed : IsFreed (entry v n) (entry w n) = subst (λ e. IsFreed e (entry w n)) entry_still y.freed in
      let wiped : IsWiped v n w = subst (λ k. part w k (area_len v n) ≡ replicate (area_len v n) 0) start_still (subst (λ k. part w (area_start u n) k ≡ replicate k 0) len_still y.wiped) in
      record {
        rest = both w y.rest (λ m. m < n + 1) (λ m low. omega (arith, low)) (omega arith);
        freed = λ m low. elim (cases_lt m n) [
          | inl below ↦ freed_below w y.rest m below
          | inr past ↦ (let same : n ≡ m = omega (arith, low, past) in subst (λ k. IsFreed (entry v k) (entry w k)) same freed)
        ];
        wiped = λ m low. elim (cases_lt m n) [
          | inl below ↦ wiped_below w y.rest m below
          | inr past ↦ (let same : n ≡ m = omega (arith, low, past) in subst (λ k. IsWiped v k w) same wiped)
        ];
      }

  -- the area keeps its bytes, or the entry was freed before
  order_still : (w : List ℕ) → IsFreedFirst u n w → IsFreedFirst v n w
  order_still w (inl kept) =
      inl (subst (λ k. part w k (area_len v n) ≡ part u k (area_len v n)) start_still (subst (λ k. part w (area_start u n) k ≡ part u (area_start u n) k) len_still kept)
      ∙ still.area lt)
  order_still w (inr freed) = inr (subst (λ e. IsFreed e (entry w n)) entry_still freed)

  -- while it was
  pub next_torn : (w : List ℕ) → IsHalfRemoved u n w → IsHalfErased v w
  next_torn w y = record {
    slot = n;
    numbered = lt;
    rest = both w y.rest (λ m. m ≤ n) (λ m low. omega (arith, low)) (omega arith);
    freed = freed_below w y.rest;
    wiped = wiped_below w y.rest;
    order = order_still w y.order;
  }

-- ---- what an erasure replies

-- it needs no key and wants no keyslot
pub erasure_opens_none : (e : Edit) → deed_of e ≡ deed.Erase → OpensNone e
erasure_opens_none e is = record { opens = rw is refl; wants = λ n x. rw is at x; other = λ x. rw is at x }

module _ (v : List ℕ) (payload : Data) (r : List ℕ) (accepted : (f : CheckFault) → IsFault v payload f → ⊥) (e : Edit) (is : deed_of e ≡ deed.Erase) where
  judged : Passed (IsEditFault1 v payload e r) 23
  judged =
      let new = past_new v payload e r (none_to_open v payload e r accepted (erasure_opens_none e is)) (λ bad. rw is at bad) (λ bad. rw is at bad) in
      let made = past_argon2 v payload e r new (λ bad. rw is at bad) (λ bad. rw is at bad) (λ bad. rw is at bad) in
      past_uuid v payload e r (past_label v payload e r made (λ bad. rw is at bad)) (λ bad. rw is at bad)

  need_nothing : (k : ℕ) → Need1 v e k → k ≡ 0
  need_nothing k x = rw is at x

  pub erasure_refused : length r ≢ 0 → EndsBy1 payload v e r fault.RandomLength v
  erasure_refused some = (first_of_row (IsEditFault1 v payload e r) fault.RandomLength refl judged (record { need = 0; is = rw is refl; other = some }), refl)

  module _ (none : length r ≡ 0) where
    free : IsUnrefused1 v payload e r
    free = unrefused v payload e r judged (λ bad. bad.other (none ∙ sym (need_nothing bad.need bad.is)))

    pub erasure_done : (w : List ℕ) → AreRemoved 8 v w → IsDone1 payload v e r (record { slot = None }) w
    erasure_done w removed = record { unrefused = free; after = rw is removed; told = rw is refl }

    pub erasure_torn : (w : List ℕ) → IsHalfErased v w → Leftover1 v payload e r w
    erasure_torn w half = inr (free, rw is half)
