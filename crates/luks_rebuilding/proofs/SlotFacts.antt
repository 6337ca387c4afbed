-- The key areas of metadata, and what copying them leaves.
use Rattle.std.proofs.Common.{◌≡◌, ℕ, ◌+◌, ◌-◌, ◌<◌, ◌++◌, List, codes, replicate, append-nil, None, option_and_then, ap, subst, ◌∙◌, arith, inl, inr, Result, Ok, Err, OnOk}
use Rattle.std.proofs.lemmas.Bool.{cases_eq}
use Rattle.serde_json.specs.Data.{Data as Value}
use Rattle.serde_json.specs.Find.{get}
use Rattle.luks_area.specs.Ranges.{part, IsAt, SameBut}
use Rattle.luks_area.proofs.RangeFacts.{part-same_but, same_but-wider}
use Rattle.luks_area.specs.declared.area.Area.{Area}
use Rattle.luks_area.specs.declared.area.AreaName.TheVariants.{Slot}
use Rattle.luks_rules.specs.declared.table.Section.TheVariants.{Keyslots}
use Rattle.luks_meta.specs.Faults.{object_at}
use Rattle.luks_meta.specs.Reading.{decimal_in}
use Rattle.luks_reading.proofs.Luks2AreaFacts.{luks2_area-unique}
use Rattle.luks_reading.specs.Layout2.{slot_number}
use Rattle.luks_reading.specs.declared.report.Data.TheVariants.{Elsewhere}
use Rattle.luks_rebuilding.specs.Found.{AreSlotsApart, IsOfSlot, IsOfSlots}
use Rattle.luks_rebuilding.specs.KeyAreas.{IsSlotArea}

-- no keyslot, no area
pub no_slot : (j : Value) (n : ℕ) (a : Area) → object_at j Keyslots n ≡ None → IsSlotArea j n a → ⊥
no_slot j n a gone is =
    let none : slot_number j n (codes "offset") ≡ None =
    ap (λ o. decimal_in (option_and_then (get (codes "offset")) (option_and_then (get (codes "area")) o))) gone in
    let some = is.1 in
    absurd (cc)

-- a keyslot has one area
pub one_slot : (j : Value) (n : ℕ) (a b : Area) → IsSlotArea j n a → IsSlotArea j n b → a ≡ b
one_slot j n a b p q = luks2_area-unique j 0 Elsewhere 0 (Slot n) a b p q

-- ---- one area

whole_copied : (s w : List ℕ) (a : Area) → part w a.start a.len ≡ part s a.start a.len ++ replicate (a.len - a.len) 0
    → part w a.start a.len ≡ part s a.start a.len
whole_copied s w a copied =
    let none : a.len - a.len ≡ 0 = omega arith in
    copied ∙ ap (λ n. part s a.start a.len ++ replicate n 0) none ∙ append-nil (part s a.start a.len)

copied_as : (j : Value) (n : ℕ) (b : Area) (s w : List ℕ) → IsSlotArea j n b → part w b.start b.len ≡ part s b.start b.len ++ replicate (b.len - b.len) 0
    → (a : Area) → IsSlotArea j n a → part w a.start a.len ≡ part s a.start a.len
copied_as j n b s w has copied a is =
    subst (λ (x : Area). part w x.start x.len ≡ part s x.start x.len) (one_slot j n b a has is) (whole_copied s w b copied)

pub slot_copied : {A F : Type 0} (r : Result A F) (j : Value) (n : ℕ) (b : Area) (s w : List ℕ) → IsSlotArea j n b
    → OnOk r (part w b.start b.len ≡ part s b.start b.len ++ replicate (b.len - b.len) 0)
    → OnOk r ((a : Area) → IsSlotArea j n a → part w a.start a.len ≡ part s a.start a.len)
slot_copied (Ok x) j n b s w has copied = copied_as j n b s w has copied
slot_copied (Err f) j n b s w has copied = tt

pub of_slot : {u w : List ℕ} (j : Value) (n : ℕ) (a : Area) → IsSlotArea j n a → SameBut (IsAt a.start a.len) u w → SameBut (IsOfSlot j n) u w
of_slot j n a has same = same_but-wider (λ p here. record { area = a; is = has; at = here }) same

-- ---- the areas of several keyslots

module _ (j : Value) (apart : AreSlotsApart j) where
  stays : (s u w : List ℕ) (m n : ℕ) (a : Area) → m < n → IsSlotArea j m a → SameBut (IsOfSlot j n) u w
      → part u a.start a.len ≡ part s a.start a.len → part w a.start a.len ≡ part s a.start a.len
  stays s u w m n a less has same there =
      part-same_but a.start a.len same (λ p here other.
      apart m n a other.area has other.is (λ e. omega (arith, e, less)) p here other.at) ∙ there

  pub next_copied : (s u w : List ℕ) (n : ℕ)
      → ((m : ℕ) (a : Area) → m < n → IsSlotArea j m a → part u a.start a.len ≡ part s a.start a.len)
      → SameBut (IsOfSlot j n) u w → ((a : Area) → IsSlotArea j n a → part w a.start a.len ≡ part s a.start a.len)
      → (m : ℕ) (a : Area) → m < n + 1 → IsSlotArea j m a → part w a.start a.len ≡ part s a.start a.len
  next_copied s u w n before same there m a below has = elim (cases_eq m n) [
    | inl is ↦ there a (subst (λ k. IsSlotArea j k a) is has)
    | inr other ↦ (let less : m < n = omega (arith, below, other) in stays s u w m n a less has same (before m a less has))
  ]

pub one_of : {u w : List ℕ} (j : Value) (n : ℕ) → SameBut (IsOfSlot j n) u w → SameBut (IsOfSlots j) u w
one_of j n same = same_but-wider (λ p is. record { number = n; of_slot = is }) same
