-- The steps of an edit, each of which writes one range.
use Rattle.std.proofs.Common.{◌≡◌, ℕ, ◌+◌, ◌*◌, ◌<◌, ◌≤◌, List, length, replicate, subst, refl, sym, ap, ◌∙◌, arith, inl, inr}
use Rattle.luks_area.specs.declared.area.Area.{Area}
use Rattle.luks_area.specs.Ranges.{part, written, IsAt, SameBut, SameOutside}
use Rattle.luks_area.proofs.RangeFacts.{part-same_but, part-written, same_but-same_outside, same_but-then, same_but-wider}
use Rattle.luks1_header.specs.Header1.{entry, word_of, HoldsEntry}
use Rattle.luks1_header.specs.declared.luks1.Luks1Slot.{Luks1Slot}
use Rattle.luks1_header.specs.declared.luks1.SlotState.TheVariants.{Disabled}
use Rattle.luks1_edits.specs.Edited.{IsFreed, IsRemoved}
use Rattle.luks1_edits.specs.Kept.{IsEither}
use Rattle.luks1_edits.specs.Leftovers.{IsHalfRemoved}
use Rattle.luks1_edits.specs.Places.{area_len, area_start, entry_place, IsOfKeyslots, IsOfUuid}
use Rattle.luks1_edits.specs.Steps.{IsKeyslotAt}

-- ---- an entry that is written

-- an entry was written, or was being written
pub entry_range : (v u w : List ℕ) (n l : ℕ) → l ≡ 48 → SameOutside v u (208 + 48 * n) l → w ≡ u → SameBut (IsAt (entry_place n) 48) v w
entry_range v u w n l size same flushed =
    subst (λ x. SameBut (IsAt (entry_place n) 48) v x) (sym flushed)
    (subst (λ k. SameBut (IsAt (208 + 48 * n) k) v u) size (same_but-same_outside same))

pub entry_written : (v u w b : List ℕ) (n : ℕ) → length b ≡ 48 → n < 8 → 592 ≤ length v → u ≡ written v (208 + 48 * n) b → w ≡ u → entry w n ≡ b
entry_written v u w b n size lt long wrote flushed =
    ap (λ x. entry x n) (flushed ∙ wrote) ∙ ap (λ l. part (written v (208 + 48 * n) b) (208 + 48 * n) l) (sym size)
    ∙ part-written v (208 + 48 * n) b (omega (arith, size, lt, long))

-- ---- the uuid's field

-- it was written, or was being written
pub uuid_range : (v w : List ℕ) (l : ℕ) → l ≡ 40 → SameOutside v w 168 l → SameBut IsOfUuid v w
uuid_range v w l size same = subst (λ k. SameBut (IsAt 168 k) v w) size (same_but-same_outside same)

pub uuid_written : (v w b : List ℕ) → length b ≡ 40 → 592 ≤ length v → w ≡ written v 168 b → part w 168 40 ≡ b
uuid_written v w b size long wrote =
    ap (λ x. part x 168 40) wrote ∙ ap (λ l. part (written v 168 b) 168 l) (sym size) ∙ part-written v 168 b (omega (arith, size, long))

-- ---- a keyslot that is freed: its entry is written, then its area is wiped

entry_of : (v : List ℕ) (n p : ℕ) → IsAt (entry_place n) 48 p → IsOfKeyslots v (IsEither n n) p
entry_of v n p at = record { keyslot = n; is_named = inl refl; of = inl at }

area_of : (v : List ℕ) (n : ℕ) (s : Luks1Slot) (a : Area) → IsKeyslotAt v n s a → (p : ℕ) → IsAt a.start a.len p → IsOfKeyslots v (IsEither n n) p
area_of v n s a x p at = record {
  keyslot = n;
  is_named = inl refl;
  of = inr (subst (λ k. IsAt (area_start v n) k p) x.len (subst (λ k. IsAt k a.len p) x.start at));
}

-- after the entry's step, done or not
entry_touched : (v u : List ℕ) (n : ℕ) → SameBut (IsAt (entry_place n) 48) v u → SameBut (IsOfKeyslots v (IsEither n n)) v u
entry_touched v u n same = same_but-wider (entry_of v n) same

-- after both steps, done or not
both_touched : (v u w : List ℕ) (n : ℕ) (s : Luks1Slot) (a : Area) → IsKeyslotAt v n s a → SameBut (IsAt (entry_place n) 48) v u
    → SameBut (IsAt a.start a.len) u w → SameBut (IsOfKeyslots v (IsEither n n)) v w
both_touched v u w n s a x first second = same_but-then (entry_touched v u n first) (same_but-wider (area_of v n s a x) second)

-- the entry says that the keyslot is free, wherever its area stands
entry_freed : (v u w : List ℕ) (n : ℕ) (s f : Luks1Slot) (a : Area) → IsKeyslotAt v n s a
    → f.state ≡ Disabled → f.iterations ≡ 0 → f.salt ≡ replicate 32 0 → f.key_material_offset ≡ s.key_material_offset → f.stripes ≡ s.stripes
    → HoldsEntry (entry u n) f → SameBut (IsAt a.start a.len) u w → IsFreed (entry v n) (entry w n)
entry_freed v u w n s f a x off turns salt offset stripes holds second =
    let same : entry w n ≡ entry u n = part-same_but (entry_place n) 48 second x.apart in
    let there : HoldsEntry (entry w n) f = subst (λ e. HoldsEntry e f) (sym same) holds in
    record {
      disabled = there.state ∙ ap word_of off;
      no_iterations = there.iterations ∙ turns;
      no_salt = there.salt ∙ salt;
      offset = there.key_material_offset ∙ offset ∙ sym x.says.key_material_offset;
      stripes = there.stripes ∙ stripes ∙ sym x.says.stripes;
    }

-- the area after the entry's step
area_after_entry : (v u : List ℕ) (n : ℕ) (s : Luks1Slot) (a : Area) → IsKeyslotAt v n s a → SameBut (IsAt (entry_place n) 48) v u
    → part u (area_start v n) (area_len v n) ≡ part v (area_start v n) (area_len v n)
area_after_entry v u n s a x first =
    subst (λ k. part u (area_start v n) k ≡ part v (area_start v n) k) x.len
    (subst (λ k. part u k a.len ≡ part v k a.len) x.start
    (part-same_but a.start a.len first (λ p there here. x.apart p here there)))

-- while the entry was written
pub half_removed_entry : (v u : List ℕ) (n : ℕ) (s : Luks1Slot) (a : Area) → IsKeyslotAt v n s a → SameBut (IsAt (entry_place n) 48) v u → IsHalfRemoved v n u
half_removed_entry v u n s a x first = record { rest = entry_touched v u n first; order = inl (area_after_entry v u n s a x first) }

module _ (v u w : List ℕ) (n : ℕ) (s f : Luks1Slot) (a : Area) (x : IsKeyslotAt v n s a)
    (off : f.state ≡ Disabled) (turns : f.iterations ≡ 0) (salt : f.salt ≡ replicate 32 0) (offset : f.key_material_offset ≡ s.key_material_offset) (stripes : f.stripes ≡ s.stripes)
    (first : SameBut (IsAt (entry_place n) 48) v u) (holds : HoldsEntry (entry u n) f) (second : SameBut (IsAt a.start a.len) u w) where
  -- while the area was wiped
  pub half_removed_area : IsHalfRemoved v n w
  half_removed_area = record {
    rest = both_touched v u w n s a x first second;
    order = inr (entry_freed v u w n s f a x off turns salt offset stripes holds second);
  }

  -- after both
  pub keyslot_removed : part w a.start a.len ≡ replicate a.len 0 → IsRemoved v n w
  keyslot_removed zeros = record {
    rest = both_touched v u w n s a x first second;
    freed = entry_freed v u w n s f a x off turns salt offset stripes holds second;
    wiped = subst (λ k. part w (area_start v n) k ≡ replicate k 0) x.len (subst (λ k. part w k a.len ≡ replicate a.len 0) x.start zeros);
  }
