-- The search for what a checksum vouches for, in the order of the copies.
use Rattle.std.proofs.Common.{◌≡◌, ℕ, ◌-◌, List, [], ◌∷◌, inl, inr, arith, refl, sym, ap, ◌∙◌, subst, Some, None}
use Rattle.luks_area.specs.First.{NotAfter}
use Rattle.luks_rebuilding.specs.Candidates.{place_key, place_of_source, source_key, HasToBeTried, IsVouchedOf, Source}
use Rattle.luks_rebuilding.specs.Found.{source_of, standing, standing_key, AreCopies, AreStanding, BreaksVouched, BreaksVouchedAt, FindsVouchedAt, FindsVouchedFirst, IsOf, TakesFirst}
use Rattle.luks_rebuilding.specs.Shares.{StandsAt}
use Rattle.luks_rebuilding.specs.Vouchers.{copy_key}
use Rattle.luks_rebuilding.specs.declared.candidate.Candidate.{Candidate}
use Rattle.luks_rebuilding.specs.declared.place.Place.{Place}
use Rattle.luks_rebuilding.specs.declared.place.Which.{Which}
use Rattle.luks_rebuilding.specs.declared.rebuild_fault.RebuildFault.{RebuildFault}
use Rattle.luks_rebuilding.specs.declared.standing.Standing.{Standing}
use Rattle.luks_rebuilding.proofs.SearchFacts.{memory_so}
use Rattle.luks_rebuilding.proofs.SourceFacts.{key_vouched, not_after_as}

-- ---- places of one kind, whose copies stand

module _ (v : List ℕ) (Is : Place → Type 0) where
  -- each is of a copy that is left
  abbrev pub AreLeft : List Standing → Type 0
  AreLeft left = (place : Place) → Is place → IsOf (standing v place) left

  pub all_left : (found : List Standing) → ((place : Place) → Is place → StandsAt v place) → AreStanding v found → AreLeft found
  all_left found so x place is = x.all place (so place is)

  -- where the first that was left isn't one
  pub left_after : (old new : List Standing) (x : Standing) → TakesFirst old x new → (Is x.place → ⊥) → AreLeft old → AreLeft new
  left_after old new x taken none left place is = elim (taken.rest (standing v place) (left place is)) [
    | inl at ↦ absurd (none (subst Is (ap (λ (y : Standing). y.place) at) is))
    | inr of ↦ of
  ]

  -- the first that was left comes before each
  pub left_first : (old new : List Standing) (x : Standing) → TakesFirst old x new → x ≡ standing v x.place → AreLeft old
      → (place : Place) → Is place → NotAfter (copy_key v x.place) (copy_key v place)
  left_first old new x taken told left place is =
      subst (λ (y : Standing). NotAfter (standing_key y) (copy_key v place)) told (taken.first (standing v place) (left place is))

-- the copies that are left are told as they stand, and each place is of one of them
pub record Seeks (v : List ℕ) (Is : Place → Type 0) (left : List Standing) : Type 0 where
  pub told : (x : Standing) → IsOf x left → x ≡ standing v x.place
  pub each : AreLeft v Is left

-- before any is taken
pub seeks_all : (v w : List ℕ) (Is : List ℕ → Place → Type 0) (found : List Standing) → ((u : List ℕ) (place : Place) → Is u place → StandsAt u place) → w ≡ v → AreStanding v found → Seeks w (Is w) found
seeks_all v w Is found so same x = subst (λ (u : List ℕ). Seeks u (Is u) found) (sym same) (record { told = x.told; each = all_left v (Is v) found (so v) x })

-- the first isn't one
pub seeks_after : (v : List ℕ) (Is : Place → Type 0) (old new : List Standing) (x : Standing) → TakesFirst old x new → (Is x.place → ⊥) → Seeks v Is old → Seeks v Is new
seeks_after v Is old new x taken none seeks = record { told = λ y of. seeks.told y (taken.kept y of); each = left_after v Is old new x taken none seeks.each }

-- what is left are copies as before
pub copies_after : (old new : List Standing) (x : Standing) → TakesFirst old x new → AreCopies old → AreCopies new
copies_after old new x taken copies y of = copies y (taken.kept y of)

-- none of them is one
pub seeks_none : (v : List ℕ) (Is : Place → Type 0) (left : List Standing) → left ≡ [] → Seeks v Is left → (place : Place) → Is place → ⊥
seeks_none v Is left none seeks place is = subst (IsOf (standing v place)) none (seeks.each place is)

-- ---- sources that are vouched for

module _ (v : List ℕ) (which : Which) where
  -- the copy at the place vouches for one
  abbrev pub HasVouched : Place → Type 0
  HasVouched place = (s : Source) × IsVouchedOf v which s × (place_of_source s ≡ place)

  pub vouched_stands : (place : Place) → HasVouched place → StandsAt v place
  vouched_stands place x = subst (StandsAt v) x.2 x.1.1.vouched.stands

  pub none_there : (place : Place) → FindsVouchedAt v which place None → HasVouched place → ⊥
  none_there place none x = none x.0 x.1 x.2

  pub none_first : ((place : Place) → HasVouched place → ⊥) → FindsVouchedFirst v which None
  none_first none = λ s is. none (place_of_source s) (s, is, refl)

  -- the key of a source is that of its copy
  key_of : (s : Source) → IsVouchedOf v which s → source_key s ≡ 1 ∷ copy_key v (place_of_source s)
  key_of s is = key_vouched s is.0 ∙ ap (λ n. 1 ∷ (0xFFFF_FFFF_FFFF_FFFF - n) ∷ place_key (place_of_source s)) is.1.number

  -- what the first copy that is left vouches for is the first
  pub first_found : (old new : List Standing) (x : Standing) (c : Candidate) → TakesFirst old x new → Seeks v HasVouched old
      → FindsVouchedAt v which x.place (Some c) → FindsVouchedFirst v which (Some c)
  first_found old new x c taken seeks found = (
    found.1,
    λ s is.
        let before = left_first v HasVouched old new x taken (seeks.told x taken.is) seeks.each (place_of_source s) (s, is, refl) in
        let own : NotAfter (copy_key v c.place) (copy_key v (place_of_source s)) = subst (λ (p : Place). NotAfter (copy_key v p) (copy_key v (place_of_source s))) (sym found.0) before in
        not_after_as (source_key (source_of c)) (source_key s) _ _ (key_of (source_of c) found.1) (key_of s is) (omega arith, λ e. own),
  )

-- ---- where the search was broken off

pub tried_broken : (v : List ℕ) (which : Which) (place : Place) (f : RebuildFault) → BreaksVouchedAt v which place f → BreaksVouched v which f
tried_broken v which place f x = memory_so (HasToBeTried v which place) ((q : Place) × HasToBeTried v which q) (λ s. (place, s)) f x
