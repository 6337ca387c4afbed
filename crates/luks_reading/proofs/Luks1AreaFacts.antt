-- The areas of a LUKS1 volume, added name by name.
use Rattle.std.proofs.Common.{◌≡◌, ℕ, ◌+◌, ◌-◌, ◌*◌, ◌<◌, List, [], ◌∷◌, ◌++◌, length, slice_index_or, ◌⊎◌, inl, inr, refl, subst, sym, ap, ◌∙◌, arith, length-append}
use Rattle.std.proofs.lemmas.Bool.{cases_lt}
use Rattle.luks_area.specs.declared.area.Area.{Area}
use Rattle.luks_area.specs.declared.area.AreaName.{AreaName}
use Rattle.luks_area.specs.declared.area.AreaName.TheVariants.{Head1, Head2, Slot, Segment}
use Rattle.luks_area.specs.declared.areas.Entry.{Entry}
use Rattle.luks_area.specs.Area.{IsBefore}
use Rattle.luks_area.specs.Sectors.{rounded_to_sectors}
use Rattle.luks_area.specs.Names.{HasArea}
use Rattle.luks1_header.specs.declared.luks1.Luks1.{Luks1}
use Rattle.luks1_header.specs.declared.luks1.Luks1Slot.{Luks1Slot}
use Rattle.luks1_header.specs.Header1.{IsLuks1}
use Rattle.luks1_header.specs.Bytes.{number_at}
use Rattle.luks_reading.specs.declared.report.Data.{Data}
use Rattle.luks_reading.specs.declared.report.Data.TheVariants.{Here, Elsewhere}
use Rattle.luks_reading.specs.Layout1.{Luks1Area}
use Rattle.luks_reading.specs.Listing.{Lists, ListsBelow}
use Rattle.luks_reading.proofs.AreaListFacts.{same_area, has-cases, lists-push, lists-empty, lists-all}

-- `now` has the areas of `before` and the slots below `n`
pub record AddsSlots (before now : List Entry) (header : Luks1) (n : ℕ) : Type 0 where
  pub count : length now ≡ 1 + n
  pub last : (m : AreaName) (a : Area) → HasArea now m a → IsBefore m (Slot n)
  pub listed : (h : List ℕ) (payload : Data) (total : ℕ) → IsLuks1 h header
      → ListsBelow before (Luks1Area h payload total) (Slot 0) → ListsBelow now (Luks1Area h payload total) (Slot n)

slot_wider : (n : ℕ) (m : AreaName) → IsBefore m (Slot n) → IsBefore m (Slot (n + 1))
slot_wider n m h = (h.0, λ e. let lt = h.1 e in omega (arith, lt))

-- the area of the slot `n` as the header's record says it
pub slot_area_is : (h : List ℕ) (payload : Data) (total n : ℕ) (d : Luks1) (s : Luks1Slot) (a : Area) → IsLuks1 h d → n < 8
    → a.start ≡ (slice_index_or d.slots n s).key_material_offset * 512
    → a.len ≡ rounded_to_sectors (d.common.key_bytes * (slice_index_or d.slots n s).stripes)
    → Luks1Area h payload total (Slot n) a
slot_area_is h payload total n d s a is lt start len =
    let fields = (is.slots.each n s lt).fields in (
      lt,
      start ∙ ap (λ x. x * 512) (sym fields.key_material_offset),
      len ∙ ap (λ x. rounded_to_sectors (x * (slice_index_or d.slots n s).stripes)) (sym is.common.fields.key_bytes)
          ∙ ap (λ x. rounded_to_sectors (number_at h 108 4 * x)) (sym fields.stripes),
    )

-- a name has one area
pub luks1_area-unique : (h : List ℕ) (payload : Data) (total : ℕ) (n : AreaName) (a b : Area)
    → Luks1Area h payload total n a → Luks1Area h payload total n b → a ≡ b
luks1_area-unique h payload total Head1 a b p q = same_area a b (p.0 ∙ sym q.0) (p.1 ∙ sym q.1)
luks1_area-unique h payload total Head2 a b p q = absurd p
luks1_area-unique h payload total (Slot n) a b p q = same_area a b (p.1 ∙ sym q.1) (p.2 ∙ sym q.2)
luks1_area-unique h payload total (Segment n) a b p q =
    same_area a b (p.2 ∙ sym q.2) (p.3 ∙ ap (λ s. total - s) (p.2 ∙ sym q.2) ∙ sym q.3)

-- a name that isn't past the slot `n` is the slot `n` or comes before it
not_past : (h : List ℕ) (payload : Data) (total n : ℕ) (a : Area) → Luks1Area h payload total (Slot n) a
    → (m : AreaName) (b : Area) → Luks1Area h payload total m b → IsBefore m (Slot (n + 1)) → IsBefore m (Slot n) ⊎ ((Slot n ≡ m) × (a ≡ b))
not_past h payload total n a is Head1 b g before = inl (omega arith, λ e. absurd (omega (arith, e)))
not_past h payload total n a is Head2 b g before = absurd g
not_past h payload total n a is (Slot k) b g before =
    let lt : k < n + 1 = before.1 refl in
    elim (cases_lt k n) [
      | inl less ↦ inl (omega arith, λ _. less)
      | inr more ↦
          let e : k ≡ n = omega (arith, lt, more) in
          inr (ap Slot (sym e), luks1_area-unique h payload total (Slot n) a b is (subst (λ q. Luks1Area h payload total (Slot q) b) e g))
    ]
not_past h payload total n a is (Segment k) b g before = let low = before.0 in absurd (omega (arith, low))

pub adds-one : (before now : List Entry) (d : Luks1) (s : Luks1Slot) (n : ℕ) (a : Area) → n < 8 → AddsSlots before now d n
    → a.start ≡ (slice_index_or d.slots n s).key_material_offset * 512
    → a.len ≡ rounded_to_sectors (d.common.key_bytes * (slice_index_or d.slots n s).stripes)
    → AddsSlots before (now ++ record { name = Slot n; area = a } ∷ []) d (n + 1)
adds-one before now d s n a lt adds start len =
    let e : Entry = record { name = Slot n; area = a } in
    let longer : length (now ++ e ∷ []) ≡ length now + 1 = length-append now (e ∷ []) in
    let count = adds.count in
    record {
      count = omega (arith, longer, count);
      last = λ m b g. elim (has-cases now e m b g) [
        | inl old ↦ slot_wider n m (adds.last m b old)
        | inr new ↦ subst (λ k. IsBefore k (Slot (n + 1))) new.0 (omega arith, λ _. omega arith)
      ];
      listed = λ h payload total is from.
          lists-push now (Luks1Area h payload total) (Slot n) (Slot (n + 1)) e (adds.listed h payload total is from) (slot_wider n)
          (slot_area_is h payload total n d s a is lt start len) (omega arith, λ _. omega arith)
          (not_past h payload total n a (slot_area_is h payload total n d s a is lt start len));
    }

-- the header, listed first
pub head-listed : (h : List ℕ) (payload : Data) (total : ℕ) (e : Entry) → e.name ≡ Head1 → e.area.start ≡ 0 → e.area.len ≡ 592
    → ListsBelow (e ∷ []) (Luks1Area h payload total) (Slot 0)
head-listed h payload total e named start len =
    lists-push [] (Luks1Area h payload total) Head1 (Slot 0) e (lists-empty (Luks1Area h payload total)) wider
    (subst (λ n. Luks1Area h payload total n e.area) (sym named) (start, len))
    (subst (λ n. IsBefore n (Slot 0)) (sym named) (omega arith, λ e. absurd (omega (arith, e))))
    between
  where
    wider : (n : AreaName) → IsBefore n Head1 → IsBefore n (Slot 0)
    wider n before = let low = before.0 in (omega (arith, low), λ e. absurd (omega (arith, e, low)))

    between : (n : AreaName) (a : Area) → Luks1Area h payload total n a → IsBefore n (Slot 0) → IsBefore n Head1 ⊎ ((e.name ≡ n) × (e.area ≡ a))
    between Head1 a g before = inr (named, same_area e.area a (start ∙ sym g.0) (len ∙ sym g.1))
    between Head2 a g before = absurd g
    between (Slot k) a g before = let lt : k < 0 = before.1 refl in absurd (omega (arith, lt))
    between (Segment k) a g before = let low = before.0 in absurd (omega (arith, low))

pub adds-all : (before now : List Entry) (d : Luks1) (n : ℕ) → n ≡ 8 → AddsSlots before now d n → AddsSlots before now d 8
adds-all before now d n e adds = subst (AddsSlots before now d) e adds

-- all slots are listed, and the payload lies elsewhere
pub lists-elsewhere : (h : List ℕ) (payload : Data) (total : ℕ) (es : List Entry) → payload ≡ Elsewhere
    → ListsBelow es (Luks1Area h payload total) (Slot 8) → Lists es (Luks1Area h payload total)
lists-elsewhere h payload total es away listed = lists-all es (Luks1Area h payload total) (Slot 8) listed last
  where
    last : (n : AreaName) (a : Area) → Luks1Area h payload total n a → IsBefore n (Slot 8)
    last Head1 a g = (omega arith, λ e. absurd (omega (arith, e)))
    last Head2 a g = absurd g
    last (Slot k) a g = (omega arith, λ _. g.0)
    last (Segment k) a g = let here : payload ≡ Here = g.1 in absurd (cc)

-- the segment, listed last
pub lists-here : (h : List ℕ) (payload : Data) (total : ℕ) (es : List Entry) (a : Area) → payload ≡ Here
    → a.start ≡ number_at h 104 4 * 512 → a.len ≡ total - a.start
    → ListsBelow es (Luks1Area h payload total) (Slot 8) → Lists (es ++ record { name = Segment 0; area = a } ∷ []) (Luks1Area h payload total)
lists-here h payload total es a here start len listed =
    lists-all (es ++ record { name = Segment 0; area = a } ∷ []) (Luks1Area h payload total) (Segment 1)
    (lists-push es (Luks1Area h payload total) (Slot 8) (Segment 1) (record { name = Segment 0; area = a }) listed wider
    (refl, here, start, len) (omega arith, λ _. omega arith) between)
    last
  where
    wider : (n : AreaName) → IsBefore n (Slot 8) → IsBefore n (Segment 1)
    wider n before = let low = before.0 in (omega (arith, low), λ e. absurd (omega (arith, e, low)))

    between : (n : AreaName) (b : Area) → Luks1Area h payload total n b → IsBefore n (Segment 1) → IsBefore n (Slot 8) ⊎ ((Segment 0 ≡ n) × (a ≡ b))
    between Head1 b g before = inl (omega arith, λ e. absurd (omega (arith, e)))
    between Head2 b g before = absurd g
    between (Slot k) b g before = inl (omega arith, λ _. g.0)
    between (Segment k) b g before =
        inr (ap Segment (sym g.0), luks1_area-unique h payload total (Segment 0) a b (refl, here, start, len) (subst (λ q. Luks1Area h payload total (Segment q) b) g.0 g))

    last : (n : AreaName) (b : Area) → Luks1Area h payload total n b → IsBefore n (Segment 1)
    last Head2 b g = absurd g
    last (Segment k) b g = (omega arith, λ _. let zero = g.0 in omega (arith, zero))
    last other b g = (omega arith, λ e. absurd (omega (arith, e)))
