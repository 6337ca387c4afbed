-- The areas of a LUKS2 volume, added name by name.
use Rattle.std.proofs.Common.{◌≡◌, ℕ, ◌+◌, ◌<◌, List, [], ◌∷◌, ◌++◌, length, codes, Option, Some, None, unwrap_or, option_and_then, ◌⊎◌, inl, inr, refl, subst, sym, ap, ◌∙◌, arith, length-append}
use Rattle.std.proofs.lemmas.Bool.{cases_lt}
use Rattle.serde_json.specs.Data.{Data as Json}
use Rattle.serde_json.specs.Find.{get}
use Rattle.luks_area.specs.declared.area.Area.{Area}
use Rattle.luks_area.specs.declared.area.AreaName.{AreaName}
use Rattle.luks_area.specs.declared.area.AreaName.TheVariants.{Head1, Head2, Slot, Segment}
use Rattle.luks_area.specs.declared.areas.Entry.{Entry}
use Rattle.luks_area.specs.Area.{IsBefore}
use Rattle.luks_rules.specs.declared.table.Section.TheVariants.{Keyslots, Segments}
use Rattle.luks_meta.specs.Faults.{object_at}
use Rattle.luks_meta.specs.Reading.{Field, whole, dynamic, decimal_in, extent_of, text_of}
use Rattle.luks_reading.specs.declared.report.Data.{Data}
use Rattle.luks_reading.specs.declared.report.Data.TheVariants.{Here, Elsewhere}
use Rattle.luks_reading.specs.Layout2.{slot_number, segment_offset, segment_extent, HasExtent, Luks2Area}
use Rattle.luks_reading.specs.Listing.{AddsLuks2Slots, AddsSegments, Lists, ListsBelow}
use Rattle.luks_reading.proofs.AreaListFacts.{has-cases, same_area, lists-push, lists-skip, lists-empty, lists-all}

same_value : (o : Option ℕ) (m n : ℕ) → o ≡ Some m → o ≡ Some n → m ≡ n
same_value o m n p q = ap (λ v. unwrap_or v m) (sym p ∙ q)

same_length : (total start m n : ℕ) (e : Option Field) → HasExtent total start m e → HasExtent total start n e → m ≡ n
same_length total start m n (Some (whole k)) p q = p ∙ sym q
same_length total start m n (Some dynamic) p q = p ∙ sym q
same_length total start m n other p q = absurd p

-- a name has one area
pub luks2_area-unique : (j : Json) (h : ℕ) (payload : Data) (total : ℕ) (n : AreaName) (a b : Area)
    → Luks2Area j h payload total n a → Luks2Area j h payload total n b → a ≡ b
luks2_area-unique j h payload total (Slot n) a b p q =
    same_area a b (same_value (slot_number j n (codes "offset")) _ _ p.1 q.1) (same_value (slot_number j n (codes "size")) _ _ p.2 q.2)
luks2_area-unique j h payload total (Segment n) a b p q =
    let start : a.start ≡ b.start = same_value (segment_offset j n) _ _ p.2 q.2 in
    same_area a b start
    (same_length total b.start a.len b.len (segment_extent j n) (subst (λ s. HasExtent total s a.len (segment_extent j n)) start p.3) q.3)
luks2_area-unique j h payload total other a b p q = same_area a b (p.0 ∙ sym q.0) (p.1 ∙ sym q.1)

-- no object, no area
no_slot : (j : Json) (n : ℕ) (start : ℕ) → object_at j Keyslots n ≡ None → slot_number j n (codes "offset") ≡ Some start → ⊥
no_slot j n start gone is =
    let none : slot_number j n (codes "offset") ≡ None =
    ap (λ o. decimal_in (option_and_then (get (codes "offset")) (option_and_then (get (codes "area")) o))) gone in
    absurd (cc)

no_segment : (j : Json) (n : ℕ) (start : ℕ) → object_at j Segments n ≡ None → segment_offset j n ≡ Some start → ⊥
no_segment j n start gone is =
    let none : segment_offset j n ≡ None = ap (λ o. decimal_in (option_and_then (get (codes "offset")) o)) gone in
    absurd (cc)

slot_wider : (n : ℕ) (m : AreaName) → IsBefore m (Slot n) → IsBefore m (Slot (n + 1))
slot_wider n m h = (h.0, λ e. let lt = h.1 e in omega (arith, lt))

segment_wider : (n : ℕ) (m : AreaName) → IsBefore m (Segment n) → IsBefore m (Segment (n + 1))
segment_wider n m h = (h.0, λ e. let lt = h.1 e in omega (arith, lt))

-- a name of the set before the next slot is this slot or comes before it
slot_between : (j : Json) (h : ℕ) (payload : Data) (total n : ℕ) (m : AreaName) (b : Area) → Luks2Area j h payload total m b
    → IsBefore m (Slot (n + 1)) → IsBefore m (Slot n) ⊎ ((Slot n ≡ m) × Luks2Area j h payload total (Slot n) b)
slot_between j h payload total n (Slot k) b g before =
    let lt : k < n + 1 = before.1 refl in
    elim (cases_lt k n) [
      | inl less ↦ inl (omega arith, λ _. less)
      | inr more ↦ let e : k ≡ n = omega (arith, lt, more) in inr (ap Slot (sym e), subst (λ q. Luks2Area j h payload total (Slot q) b) e g)
    ]
slot_between j h payload total n (Segment k) b g before = let low = before.0 in absurd (omega (arith, low))
slot_between j h payload total n other b g before = inl (omega arith, λ e. absurd (omega (arith, e)))

segment_between : (j : Json) (h : ℕ) (payload : Data) (total n : ℕ) (m : AreaName) (b : Area) → Luks2Area j h payload total m b
    → IsBefore m (Segment (n + 1)) → IsBefore m (Segment n) ⊎ ((Segment n ≡ m) × Luks2Area j h payload total (Segment n) b)
segment_between j h payload total n (Segment k) b g before =
    let lt : k < n + 1 = before.1 refl in
    elim (cases_lt k n) [
      | inl less ↦ inl (omega arith, λ _. less)
      | inr more ↦ let e : k ≡ n = omega (arith, lt, more) in inr (ap Segment (sym e), subst (λ q. Luks2Area j h payload total (Segment q) b) e g)
    ]
segment_between j h payload total n other b g before = inl (omega arith, λ e. absurd (omega (arith, e)))

pub slot-listed : (j : Json) (h : ℕ) (payload : Data) (total n : ℕ) (es : List Entry) (a : Area) → n < 32
    → slot_number j n (codes "offset") ≡ Some a.start → slot_number j n (codes "size") ≡ Some a.len
    → ListsBelow es (Luks2Area j h payload total) (Slot n)
    → ListsBelow (es ++ record { name = Slot n; area = a } ∷ []) (Luks2Area j h payload total) (Slot (n + 1))
slot-listed j h payload total n es a lt start len listed =
    lists-push es (Luks2Area j h payload total) (Slot n) (Slot (n + 1)) (record { name = Slot n; area = a }) listed (slot_wider n)
    (lt, start, len) (omega arith, λ _. omega arith)
    (λ m b g before. elim (slot_between j h payload total n m b g before) [
      | inl less ↦ inl less
      | inr is ↦ inr (is.0, luks2_area-unique j h payload total (Slot n) a b (lt, start, len) is.1)
    ])

pub slot-passed : (j : Json) (h : ℕ) (payload : Data) (total n : ℕ) (es : List Entry) → object_at j Keyslots n ≡ None
    → ListsBelow es (Luks2Area j h payload total) (Slot n) → ListsBelow es (Luks2Area j h payload total) (Slot (n + 1))
slot-passed j h payload total n es gone listed =
    lists-skip es (Luks2Area j h payload total) (Slot n) (Slot (n + 1)) listed (slot_wider n)
    (λ m b g before. elim (slot_between j h payload total n m b g before) [
      | inl less ↦ less
      | inr is ↦ absurd (no_slot j n b.start gone is.1.1)
    ])

pub segment-listed : (j : Json) (h : ℕ) (payload : Data) (total n : ℕ) (es : List Entry) (a : Area) → n < 32 → payload ≡ Here
    → segment_offset j n ≡ Some a.start → HasExtent total a.start a.len (segment_extent j n)
    → ListsBelow es (Luks2Area j h payload total) (Segment n)
    → ListsBelow (es ++ record { name = Segment n; area = a } ∷ []) (Luks2Area j h payload total) (Segment (n + 1))
segment-listed j h payload total n es a lt here start len listed =
    lists-push es (Luks2Area j h payload total) (Segment n) (Segment (n + 1)) (record { name = Segment n; area = a }) listed (segment_wider n)
    (lt, here, start, len) (omega arith, λ _. omega arith)
    (λ m b g before. elim (segment_between j h payload total n m b g before) [
      | inl less ↦ inl less
      | inr is ↦ inr (is.0, luks2_area-unique j h payload total (Segment n) a b (lt, here, start, len) is.1)
    ])

pub segment-passed : (j : Json) (h : ℕ) (payload : Data) (total n : ℕ) (es : List Entry) → object_at j Segments n ≡ None
    → ListsBelow es (Luks2Area j h payload total) (Segment n) → ListsBelow es (Luks2Area j h payload total) (Segment (n + 1))
segment-passed j h payload total n es gone listed =
    lists-skip es (Luks2Area j h payload total) (Segment n) (Segment (n + 1)) listed (segment_wider n)
    (λ m b g before. elim (segment_between j h payload total n m b g before) [
      | inl less ↦ less
      | inr is ↦ absurd (no_segment j n b.start gone is.1.2)
    ])

-- from the slots to the segments: no name stands between
pub slots-done : (j : Json) (h : ℕ) (payload : Data) (total : ℕ) (es : List Entry)
    → ListsBelow es (Luks2Area j h payload total) (Slot 32) → ListsBelow es (Luks2Area j h payload total) (Segment 0)
slots-done j h payload total es listed =
    lists-skip es (Luks2Area j h payload total) (Slot 32) (Segment 0) listed wider between
  where
    wider : (n : AreaName) → IsBefore n (Slot 32) → IsBefore n (Segment 0)
    wider n before = let low = before.0 in (omega (arith, low), λ e. absurd (omega (arith, e, low)))

    between : (n : AreaName) (a : Area) → Luks2Area j h payload total n a → IsBefore n (Segment 0) → IsBefore n (Slot 32)
    between (Slot k) a g before = (omega arith, λ _. g.0)
    between (Segment k) a g before = let lt : k < 0 = before.1 refl in absurd (omega (arith, lt))
    between other a g before = (omega arith, λ e. absurd (omega (arith, e)))

pub segments-done : (j : Json) (h : ℕ) (payload : Data) (total : ℕ) (es : List Entry)
    → ListsBelow es (Luks2Area j h payload total) (Segment 32) → Lists es (Luks2Area j h payload total)
segments-done j h payload total es listed = lists-all es (Luks2Area j h payload total) (Segment 32) listed last
  where
    last : (n : AreaName) (a : Area) → Luks2Area j h payload total n a → IsBefore n (Segment 32)
    last (Segment k) a g = (omega arith, λ _. g.0)
    last other a g = (omega arith, λ e. absurd (omega (arith, e)))

pub segments-away : (j : Json) (h : ℕ) (payload : Data) (total : ℕ) (es : List Entry) → payload ≡ Elsewhere
    → ListsBelow es (Luks2Area j h payload total) (Slot 32) → Lists es (Luks2Area j h payload total)
segments-away j h payload total es away listed = lists-all es (Luks2Area j h payload total) (Slot 32) listed last
  where
    last : (n : AreaName) (a : Area) → Luks2Area j h payload total n a → IsBefore n (Slot 32)
    last (Slot k) a g = (omega arith, λ _. g.0)
    last (Segment k) a g = let here : payload ≡ Here = g.1 in absurd (cc)
    last other a g = (omega arith, λ e. absurd (omega (arith, e)))

-- both headers, listed first
pub heads-listed : (j : Json) (h : ℕ) (payload : Data) (total : ℕ) (first second : Area)
    → first.start ≡ 0 → first.len ≡ h → second.start ≡ h → second.len ≡ h
    → ListsBelow (record { name = Head1; area = first } ∷ record { name = Head2; area = second } ∷ []) (Luks2Area j h payload total) (Slot 0)
heads-listed j h payload total first second start1 len1 start2 len2 =
    lists-push (record { name = Head1; area = first } ∷ []) (Luks2Area j h payload total) Head2 (Slot 0) (record { name = Head2; area = second })
    (lists-push [] (Luks2Area j h payload total) Head1 Head2 (record { name = Head1; area = first }) (lists-empty (Luks2Area j h payload total))
    (λ n before. let low = before.0 in (omega (arith, low), λ e. absurd (omega (arith, e, low)))) (start1, len1)
    (omega arith, λ e. absurd (omega (arith, e))) one)
    (λ n before. let low = before.0 in (omega (arith, low), λ e. absurd (omega (arith, e, low)))) (start2, len2)
    (omega arith, λ e. absurd (omega (arith, e))) two
  where
    one : (n : AreaName) (a : Area) → Luks2Area j h payload total n a → IsBefore n Head2 → IsBefore n Head1 ⊎ ((Head1 ≡ n) × (first ≡ a))
    one Head1 a g before = inr (refl, same_area first a (start1 ∙ sym g.0) (len1 ∙ sym g.1))
    one Head2 a g before = let lt : 0 < 0 = before.1 refl in absurd (omega (arith, lt))
    one other a g before = let low = before.0 in absurd (omega (arith, low))

    two : (n : AreaName) (a : Area) → Luks2Area j h payload total n a → IsBefore n (Slot 0) → IsBefore n Head2 ⊎ ((Head2 ≡ n) × (second ≡ a))
    two Head1 a g before = inl (omega arith, λ e. absurd (omega (arith, e)))
    two Head2 a g before = inr (refl, same_area second a (start2 ∙ sym g.0) (len2 ∙ sym g.1))
    two (Slot k) a g before = let lt : k < 0 = before.1 refl in absurd (omega (arith, lt))
    two (Segment k) a g before = let low = before.0 in absurd (omega (arith, low))

-- ---- the loops over keyslots and segments

pub adds-slot : (before now : List Entry) (j : Json) (n : ℕ) (a : Area) → n < 32
    → slot_number j n (codes "offset") ≡ Some a.start → slot_number j n (codes "size") ≡ Some a.len
    → AddsLuks2Slots before now j n → AddsLuks2Slots before (now ++ record { name = Slot n; area = a } ∷ []) j (n + 1)
adds-slot before now j n a lt start len adds =
    let e : Entry = record { name = Slot n; area = a } in
    let longer : length (now ++ e ∷ []) ≡ length now + 1 = length-append now (e ∷ []) in
    let count = adds.count in
    record {
      count = omega (arith, longer, count);
      last = λ m b g. elim (has-cases now e m b g) [
        | inl old ↦ slot_wider n m (adds.last m b old)
        | inr new ↦ subst (λ k. IsBefore k (Slot (n + 1))) new.0 (omega arith, λ _. omega arith)
      ];
      listed = λ h payload total from. slot-listed j h payload total n now a lt start len (adds.listed h payload total from);
    }

pub adds-no_slot : (before now : List Entry) (j : Json) (n : ℕ) → object_at j Keyslots n ≡ None
    → AddsLuks2Slots before now j n → AddsLuks2Slots before now j (n + 1)
adds-no_slot before now j n gone adds = let count = adds.count in record {
  count = omega (arith, count);
  last = λ m b g. slot_wider n m (adds.last m b g);
  listed = λ h payload total from. slot-passed j h payload total n now gone (adds.listed h payload total from);
}

pub adds-segment : (before now : List Entry) (j : Json) (total n : ℕ) (a : Area) → n < 32
    → segment_offset j n ≡ Some a.start → HasExtent total a.start a.len (segment_extent j n)
    → AddsSegments before now j total n → AddsSegments before (now ++ record { name = Segment n; area = a } ∷ []) j total (n + 1)
adds-segment before now j total n a lt start len adds =
    let e : Entry = record { name = Segment n; area = a } in
    let longer : length (now ++ e ∷ []) ≡ length now + 1 = length-append now (e ∷ []) in
    let count = adds.count in
    record {
      count = omega (arith, longer, count);
      last = λ m b g. elim (has-cases now e m b g) [
        | inl old ↦ segment_wider n m (adds.last m b old)
        | inr new ↦ subst (λ k. IsBefore k (Segment (n + 1))) new.0 (omega arith, λ _. omega arith)
      ];
      listed = λ h payload here from. segment-listed j h payload total n now a lt here start len (adds.listed h payload here from);
    }

pub adds-no_segment : (before now : List Entry) (j : Json) (total n : ℕ) → object_at j Segments n ≡ None
    → AddsSegments before now j total n → AddsSegments before now j total (n + 1)
adds-no_segment before now j total n gone adds = let count = adds.count in record {
  count = omega (arith, count);
  last = λ m b g. segment_wider n m (adds.last m b g);
  listed = λ h payload here from. segment-passed j h payload total n now gone (adds.listed h payload here from);
}

-- what the members of a keyslot's object say of its area
pub slot_start : (j d : Json) (n start : ℕ) → object_at j Keyslots n ≡ Some d
    → decimal_in (option_and_then (get (codes "offset")) (get (codes "area") d)) ≡ Some start → slot_number j n (codes "offset") ≡ Some start
slot_start j d n start is says =
    ap (λ o. decimal_in (option_and_then (get (codes "offset")) (option_and_then (get (codes "area")) o))) is ∙ says

pub slot_size : (j d : Json) (n size : ℕ) → object_at j Keyslots n ≡ Some d
    → decimal_in (option_and_then (get (codes "size")) (get (codes "area") d)) ≡ Some size → slot_number j n (codes "size") ≡ Some size
slot_size j d n size is says =
    ap (λ o. decimal_in (option_and_then (get (codes "size")) (option_and_then (get (codes "area")) o))) is ∙ says

pub segment_start : (j d : Json) (n start : ℕ) → object_at j Segments n ≡ Some d
    → decimal_in (get (codes "offset") d) ≡ Some start → segment_offset j n ≡ Some start
segment_start j d n start is says = ap (λ o. decimal_in (option_and_then (get (codes "offset")) o)) is ∙ says

pub segment_size : (j d : Json) (n : ℕ) (f : Field) → object_at j Segments n ≡ Some d
    → option_and_then extent_of (text_of (get (codes "size") d)) ≡ Some f → segment_extent j n ≡ Some f
segment_size j d n f is says = ap (λ o. option_and_then extent_of (text_of (option_and_then (get (codes "size")) o))) is ∙ says
