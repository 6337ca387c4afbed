-- A change: after a keyslot was made, another one is removed.
use Rattle.std.proofs.Common.{◌≡◌, ℕ, ◌*◌, ◌<◌, List, length, replicate, take, drop, subst, refl, sym, ap, ◌∙◌, arith, inl, inr, lit≤}
use Rattle.luks_area.specs.declared.area.Area.{Area}
use Rattle.luks_area.specs.Area.{Fit}
use Rattle.luks_area.specs.Ranges.{part, IsAt, SameBut}
use Rattle.luks_area.proofs.RangeFacts.{part-same_but, same_but-then, same_but-wider}
use Rattle.luks_area.specs.Sectors.{rounded_to_sectors}
use Rattle.luks1_header.specs.Bytes.{number_at}
use Rattle.luks1_header.specs.Header1.{entry, entry_stripes, HoldsEntry}
use Rattle.luks1_header.specs.declared.luks1.Luks1Slot.{Luks1Slot}
use Rattle.luks_slot.specs.Sealing.{IsSealed}
use Rattle.luks_reading.specs.declared.report.Data.{Data}
use Rattle.luks_reading.specs.Layout1.{Luks1Area}
use Rattle.luks_edit.specs.declared.edit.Opener.TheVariants.{Keyslot}
use Rattle.luks_edit.specs.declared.edit.Secret.{Secret}
use Rattle.luks1_edits.specs.Accepted.{IsHeaderOf}
use Rattle.luks1_edits.specs.Edited.{HoldsKey, IsChanged, IsFreed, IsInUse, IsLeastFree, IsMade, IsRemoved, IsWiped, Opens1}
use Rattle.luks1_edits.specs.Kept.{AreKeyslots, HasSameKeyslot, IsEither}
use Rattle.luks1_edits.specs.Leftovers.{IsFreedFirst, IsHalfChanged, IsHalfRemoved}
use Rattle.luks1_edits.specs.Places.{area_len, area_start, entry_place, IsOfKeyslot, IsOfKeyslots}
use Rattle.luks1_edits.specs.Steps.{IsKeyslotAt, IsKeyslotMade}
use Rattle.luks1_edits.proofs.AnswerFacts.{has_plan_moves, same_front}
use Rattle.luks1_edits.proofs.HeaderFacts.{entry_is, front_moves, len_is, number_same, start_is, volume_of}
use Rattle.luks1_edits.proofs.OpenerFacts.{used_or_free}
use Rattle.luks1_edits.proofs.KeptFacts.{area_apart, common_apart, entry_apart, same_keyslot}

module _ (h : List ℕ) (payload : Data) (v : List ℕ) (of : IsHeaderOf h payload v) (slot n : ℕ) (used : IsInUse v slot) (least : IsLeastFree v n)
    (iterations : ℕ) (p key random u : List ℕ) (made : IsKeyslotMade v n iterations p key random u) where
  slot_lt : slot < 8
  slot_lt = used.0

  n_lt : n < 8
  n_lt = least.free.0

  other : slot ≡ n → ⊥
  other same = used_or_free v n (subst (λ k. IsInUse v k) same used) least.free

  fit : Fit (Luks1Area (part v 0 592) payload (length v)) (length v)
  fit = (volume_of v payload of.chosen of.well).fit

  one : AreKeyslots (IsEither n n)
  one = record { numbered = λ m either. elim either [ inl y ↦ omega (arith, y, n_lt) | inr y ↦ omega (arith, y, n_lt) ] }

  not_named : IsEither n n slot → ⊥
  not_named either = elim either [ inl y ↦ other y | inr y ↦ other y ]

  same : HasSameKeyslot slot v u
  same = same_keyslot v payload fit u (IsEither n n) one made.rest slot not_named

  key_same : number_at u 108 4 ≡ number_at v 108 4
  key_same = number_same u v 108 4 (front_moves v u same.common.front 108 4 (lit≤ tt))

  start_same : area_start u slot ≡ area_start v slot
  start_same = ap (λ e. number_at e 40 4 * 512) (same.entry slot_lt)

  len_same : area_len u slot ≡ area_len v slot
  len_same = ap (λ k. rounded_to_sectors (k * entry_stripes (entry u slot))) key_same ∙ ap (λ e. rounded_to_sectors (number_at v 108 4 * entry_stripes e)) (same.entry slot_lt)

  -- the keyslot to remove is where it was
  pub still_at : {s : Luks1Slot} {a : Area} → IsKeyslotAt v slot s a → IsKeyslotAt u slot s a
  still_at {s} {a} x = record {
    says = subst (λ e. HoldsEntry e s) (sym (same.entry slot_lt)) x.says;
    start = x.start ∙ sym start_same;
    len = x.len ∙ sym len_same;
    apart = x.apart;
  }

  -- its places in the volume before
  place_before : (q : ℕ) → IsOfKeyslots u (IsEither slot slot) q → IsOfKeyslots v (IsEither slot slot) q
  place_before q x =
      let is : x.keyslot ≡ slot = elim x.is_named [ inl y ↦ y | inr y ↦ y ] in
      let of : IsOfKeyslot u slot q = subst (λ k. IsOfKeyslot u k q) is x.of in
      record {
        keyslot = slot;
        is_named = inl refl;
        of = elim of [
          | inl at ↦ inl at
          | inr at ↦ inr (subst (λ l. IsAt (area_start v slot) l q) len_same (subst (λ s. IsAt s (area_len u slot) q) start_same at))
        ];
      }

  module _ (w : List ℕ) (rest : SameBut (IsOfKeyslots u (IsEither slot slot)) u w) where
    before : SameBut (IsOfKeyslots v (IsEither slot slot)) u w
    before = same_but-wider place_before rest

    of_slot : (q : ℕ) → IsOfKeyslots v (IsEither slot slot) q → IsOfKeyslot v slot q
    of_slot q x = let is : x.keyslot ≡ slot = elim x.is_named [ inl y ↦ y | inr y ↦ y ] in subst (λ k. IsOfKeyslot v k q) is x.of

    both_rest : SameBut (IsOfKeyslots v (IsEither slot n)) v w
    both_rest = same_but-then
        (same_but-wider (λ q x. record { keyslot = x.keyslot; is_named = elim x.is_named [ inl y ↦ inr y | inr y ↦ inr y ]; of = x.of }) made.rest)
        (same_but-wider (λ q x. record { keyslot = x.keyslot; is_named = elim x.is_named [ inl y ↦ inl y | inr y ↦ inl y ]; of = x.of }) before)

    entry_kept : entry w n ≡ entry u n
    entry_kept = part-same_but (entry_place n) 48 before (λ q at x. entry_apart v payload fit slot n q slot_lt n_lt other at (of_slot q x))

    front_kept : part w 0 168 ≡ part u 0 168
    front_kept = part-same_but 0 168 before (λ q at x. common_apart v payload fit slot q slot_lt (let high = at.1 in omega (arith, high)) (of_slot q x))

    still_made : IsMade (entry v n) (entry w n) iterations (take 32 random)
    still_made = subst (λ e. IsMade (entry v n) e iterations (take 32 random)) (sym entry_kept) made.made

    -- where the new keyslot's area stands
    new_start : made.holds.plan.area.start ≡ area_start v n
    new_start = made.holds.is.is.start ∙ start_is u n n_lt ∙ ap (λ k. k * 512) made.made.offset

    new_len : made.holds.plan.area.len ≡ area_len v n
    new_len = made.holds.is.is.len ∙ len_is u n n_lt
        ∙ ap (λ k. rounded_to_sectors (k * entry_stripes (entry u n))) key_same ∙ ap (λ s. rounded_to_sectors (number_at v 108 4 * s)) made.made.stripes

    area_kept : part w made.holds.plan.area.start made.holds.plan.area.len ≡ part u made.holds.plan.area.start made.holds.plan.area.len
    area_kept = part-same_but made.holds.plan.area.start made.holds.plan.area.len before (λ q at x.
        area_apart v payload fit slot n q slot_lt n_lt other
        (subst (λ l. IsAt (area_start v n) l q) new_len (subst (λ s. IsAt s made.holds.plan.area.len q) new_start at)) (of_slot q x))

    still_holds : HoldsKey w n p key (drop 32 random)
    still_holds = record {
      plan = made.holds.plan;
      is = has_plan_moves (part u 0 592) (part w 0 592) n made.holds.plan (same_front u w front_kept)
          (λ lt. entry_is u n lt ∙ sym entry_kept ∙ sym (entry_is w n lt)) made.holds.is;
      key_length = made.holds.key_length;
      random_length = made.holds.random_length;
      sealed = subst (λ b. IsSealed made.holds.plan b p key (drop 32 random)) (sym area_kept) made.holds.sealed;
    }

    freed_before : IsFreed (entry u slot) (entry w slot) → IsFreed (entry v slot) (entry w slot)
    freed_before x = subst (λ e. IsFreed e (entry w slot)) (same.entry slot_lt) x

    order_before : IsFreedFirst u slot w → IsFreedFirst v slot w
    order_before (inl kept) =
        let here : part w (area_start v slot) (area_len v slot) ≡ part u (area_start v slot) (area_len v slot) =
        subst (λ l. part w (area_start v slot) l ≡ part u (area_start v slot) l) len_same
        (subst (λ s. part w s (area_len u slot) ≡ part u s (area_len u slot)) start_same kept) in
        inl (here ∙ same.area slot_lt)
    order_before (inr freed) = inr (freed_before freed)

    wiped_after : IsRemoved u slot w → IsWiped v slot w
    wiped_after x =
        subst (λ l. part w (area_start v slot) l ≡ replicate l 0) len_same
        (subst (λ s. part w s (area_len u slot) ≡ replicate (area_len u slot) 0) start_same x.wiped)

  -- after both
  pub changed : (secret : Secret) (w : List ℕ) → Opens1 v (Keyslot slot secret) key → IsRemoved u slot w → IsChanged v slot secret p iterations random w
  changed secret w opened x = record {
    fresh = n;
    is_free = least;
    key = key;
    opened = opened;
    rest = both_rest w x.rest;
    made = still_made w x.rest;
    holds = still_holds w x.rest;
    freed = freed_before w x.rest x.freed;
    wiped = wiped_after w x.rest x;
  }

  -- while the other one was removed
  pub half_changed : (secret : Secret) (w : List ℕ) → Opens1 v (Keyslot slot secret) key → IsHalfRemoved u slot w → IsHalfChanged v slot secret p iterations random w
  half_changed secret w opened x = record {
    fresh = n;
    is_free = least;
    key = key;
    opened = opened;
    rest = both_rest w x.rest;
    made = still_made w x.rest;
    holds = still_holds w x.rest;
    order = order_before w x.rest x.order;
  }
