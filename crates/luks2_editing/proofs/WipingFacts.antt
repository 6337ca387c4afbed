-- The areas of keyslots in a list, overwritten one after another.
use Rattle.std.proofs.Common.{◌≡◌, ℕ, zero, suc, ◌+◌, ◌<◌, ◌≤◌, List, [], ◌∷◌, ◌++◌, length, get_or, take, inl, inr, refl, sym, ap, subst, ◌∙◌, arith}
use Rattle.std.proofs.lemmas.List.{take_more}
use Rattle.luks_area.specs.declared.area.Area.{Area}
use Rattle.luks_area.specs.declared.area.AreaName.{AreaName}
use Rattle.luks_area.specs.declared.area.AreaName.TheVariants.{Slot}
use Rattle.luks_area.specs.declared.areas.Entry.{Entry}
use Rattle.luks_area.specs.Area.{name_kind, name_number, IsBefore}
use Rattle.luks_area.specs.Names.{HasArea, IsIncreasing}
use Rattle.luks_area.specs.Ranges.{IsAt, SameBut}
use Rattle.luks_area.proofs.Increasing.{has-append_one}
use Rattle.luks_area.proofs.RangeFacts.{part-same_but, same_but-then, same_but-wider}
use Rattle.luks2_editing.specs.Wiping.{AreApart, AreWiped, AreWipedInPart, IsOfKeyslots}

-- ---- lists

-- the entry at a place is of the list
pub has_item : (es : List Entry) (k : ℕ) (d : Entry) → k < length es → HasArea es (get_or es k d).name (get_or es k d).area
has_item [] k d lt = absurd (omega (arith, lt))
has_item (e ∷ es) zero d lt = inl (refl, refl)
has_item (e ∷ es) (suc k) d lt = inr (has_item es k d (omega (arith, lt)))

-- what the front of the list has the list has
pub has_front : (es : List Entry) (k : ℕ) (n : AreaName) (a : Area) → HasArea (take k es) n a → HasArea es n a
has_front [] zero n a h = absurd h
has_front [] (suc k) n a h = absurd h
has_front (e ∷ es) zero n a h = absurd h
has_front (e ∷ es) (suc k) n a (inl h) = inl h
has_front (e ∷ es) (suc k) n a (inr h) = inr (has_front es k n a h)

-- the names before a place come before the one there
front_before : (es : List Entry) (k : ℕ) (d : Entry) → IsIncreasing es → k < length es → (n : AreaName) (a : Area) → HasArea (take k es) n a → IsBefore n (get_or es k d).name
front_before [] k d order lt n a h = absurd (omega (arith, lt))
front_before (e ∷ es) zero d order lt n a h = absurd h
front_before (e ∷ es) (suc k) d order lt n a (inl h) =
    subst (λ m. IsBefore m (get_or es k d).name) h.0 (order.0 (get_or es k d).name (get_or es k d).area (has_item es k d (omega (arith, lt))))
front_before (e ∷ es) (suc k) d order lt n a (inr h) = front_before es k d order.1 (omega (arith, lt)) n a h

-- a name doesn't come before itself, nor before one that comes before it
not_before : (m n : AreaName) → IsBefore m n → IsBefore n m → ⊥
not_before m n x y =
    let up : name_kind m ≤ name_kind n = x.0 in
    let down : name_kind n ≤ name_kind m = y.0 in
    let less : name_number m < name_number n = x.1 (omega (arith, up, down)) in
    let more : name_number n < name_number m = y.1 (omega (arith, up, down)) in
    absurd (omega (arith, less, more))

-- a name that comes before the one at a place comes before it
before_front : (es : List Entry) (k : ℕ) (d : Entry) → IsIncreasing es → k < length es → (n : AreaName) (a : Area) → HasArea es n a → IsBefore n (get_or es k d).name → HasArea (take k es) n a
before_front [] k d order lt n a h first = absurd h
before_front (e ∷ es) zero d order lt n a (inl h) first = absurd (not_before n n (subst (λ m. IsBefore n m) h.0 first) (subst (λ m. IsBefore n m) h.0 first))
before_front (e ∷ es) zero d order lt n a (inr h) first = absurd (not_before n e.name first (order.0 n a h))
before_front (e ∷ es) (suc k) d order lt n a (inl h) first = inl h
before_front (e ∷ es) (suc k) d order lt n a (inr h) first = inr (before_front es k d order.1 (omega (arith, lt)) n a h first)

-- ---- an entry that is overwritten behind the front of a list

-- what a list of one has is that
sole_has : (e : Entry) (n : AreaName) (a : Area) → HasArea (e ∷ []) n a → (e.name ≡ n) × (e.area ≡ a)
sole_has e n a (inl h) = h
sole_has e n a (inr h) = absurd h

-- a place of it is of its area
sole_at : (e : Entry) (p : ℕ) → (x : IsOfKeyslots (e ∷ []) p) → (e.name ≡ Slot x.slot) × IsAt e.area.start e.area.len p
sole_at e p x =
    let h = sole_has e (Slot x.slot) x.area x.has in
    (h.0, subst (λ (a : Area). IsAt a.start a.len p) (sym h.1) x.at)

module _ (es : List Entry) (k : ℕ) (d : Entry) (order : IsIncreasing es) (lt : k < length es) where
  -- it is of the list
  pub item_has : (n : ℕ) → (get_or es k d).name ≡ Slot n → HasArea es (Slot n) (get_or es k d).area
  item_has n named = subst (λ m. HasArea es m (get_or es k d).area) named (has_item es k d lt)

  -- keyslots before it have lower numbers
  lower : (m n : ℕ) (a : Area) → HasArea (take k es) (Slot m) a → (get_or es k d).name ≡ Slot n → m < n
  lower m n a h named = let first : IsBefore (Slot m) (Slot n) = subst (λ l. IsBefore (Slot m) l) named (front_before es k d order lt (Slot m) a h) in first.1 refl

  -- no place of theirs is its
  beside : AreApart es → (m : ℕ) (a : Area) → HasArea (take k es) (Slot m) a → (p : ℕ) → IsAt a.start a.len p → IsOfKeyslots (get_or es k d ∷ []) p → ⊥
  beside apart m a h p at x =
      let sole = sole_at (get_or es k d) p x in
      let less : m < x.slot = lower m x.slot a h sole.0 in
      apart m x.slot a (get_or es k d).area (has_front es k (Slot m) a h) (item_has x.slot sole.0) (λ same. absurd (omega (arith, less, same))) p at sole.1

  module _ (u w : List ℕ) (rest : SameBut (IsOfKeyslots (get_or es k d ∷ [])) u w) where
    -- so theirs stay zeros
    front_kept : AreApart es → AreWiped (take k es) u → AreWiped (take k es) w
    front_kept apart zeros n a h = part-same_but a.start a.len rest (beside apart n a h) ∙ zeros n a h

    -- and with it one more is
    pub wiped_more : AreApart es → AreWiped (take k es) u → AreWiped (get_or es k d ∷ []) w → AreWiped (take (k + 1) es) w
    wiped_more apart zeros own =
        subst (λ l. AreWiped l w) (sym (take_more es k d lt)) (λ n a h. elim (has-append_one (take k es) (get_or es k d) (Slot n) a h) [
          | inl old ↦ front_kept apart zeros n a old
          | inr new ↦ own n a (inl new)
        ])

    -- no other place was touched
    pub rest_more : (v : List ℕ) → SameBut (IsOfKeyslots (take k es)) v u → SameBut (IsOfKeyslots es) v w
    rest_more v before = same_but-then
        (same_but-wider (λ p x. record { slot = x.slot; area = x.area; has = has_front es k (Slot x.slot) x.area x.has; at = x.at }) before)
        (same_but-wider (λ p x. (let sole = sole_at (get_or es k d) p x in
        record { slot = x.slot; area = (get_or es k d).area; has = item_has x.slot sole.0; at = sole.1 })) rest)

    pub front_more : (v : List ℕ) → SameBut (IsOfKeyslots (take k es)) v u → SameBut (IsOfKeyslots (take (k + 1) es)) v w
    front_more v before =
        subst (λ l. SameBut (IsOfKeyslots l) v w) (sym (take_more es k d lt)) (same_but-then
        (same_but-wider (λ p x. record { slot = x.slot; area = x.area; has = more_front (Slot x.slot) x.area x.has; at = x.at }) before)
        (same_but-wider (λ p x. record { slot = x.slot; area = x.area; has = more_item (Slot x.slot) x.area x.has; at = x.at }) rest))
      where
        old : (l : List Entry) (n : AreaName) (a : Area) → HasArea l n a → HasArea (l ++ get_or es k d ∷ []) n a
        old [] n a h = absurd h
        old (e ∷ l) n a (inl h) = inl h
        old (e ∷ l) n a (inr h) = inr (old l n a h)

        new : (l : List Entry) (n : AreaName) (a : Area) → HasArea (get_or es k d ∷ []) n a → HasArea (l ++ get_or es k d ∷ []) n a
        new [] n a h = h
        new (e ∷ l) n a h = inr (new l n a h)

        more_front : (n : AreaName) (a : Area) → HasArea (take k es) n a → HasArea (take k es ++ get_or es k d ∷ []) n a
        more_front n a h = old (take k es) n a h

        more_item : (n : AreaName) (a : Area) → HasArea (get_or es k d ∷ []) n a → HasArea (take k es ++ get_or es k d ∷ []) n a
        more_item n a h = new (take k es) n a h

    -- while it was overwritten
    pub torn_item : (v : List ℕ) → AreApart es → AreWiped (take k es) u → SameBut (IsOfKeyslots (take k es)) v u → (n : ℕ) → (get_or es k d).name ≡ Slot n → AreWipedInPart es v w
    torn_item v apart zeros before n named = record {
      slot = n;
      area = (get_or es k d).area;
      has = item_has n named;
      wiped = λ m a less h. front_kept apart zeros m a (before_front es k d order lt (Slot m) a h (subst (λ l. IsBefore (Slot m) l) (sym named) (omega arith, λ same. less)));
      rest = same_but-then
          (same_but-wider (λ p x. record {
            is = record { slot = x.slot; area = x.area; has = has_front es k (Slot x.slot) x.area x.has; at = x.at };
            low = (let less : x.slot < n = lower x.slot n x.area x.has named in omega (arith, less));
          }) before)
          (same_but-wider (λ p x. (let sole = sole_at (get_or es k d) p x in
          let same : x.slot ≡ n = ap name_number (sym sole.0 ∙ named) in
          record { is = record { slot = x.slot; area = (get_or es k d).area; has = item_has x.slot sole.0; at = sole.1 }; low = omega (arith, same) })) rest);
    }
