-- Between areas there is a least gap or none, where it is decided of each area whether one meets it.
use Rattle.std.proofs.Common.{◌⊎◌, ℕ, suc, ◌+◌, ◌*◌, ◌≤◌, subst, refl, arith, inl, inr}
use Rattle.luks_area.specs.declared.area.Area.{Area}
use Rattle.luks_area.specs.declared.area.AreaName.{AreaName}
use Rattle.luks2_edit_laws.specs.Gap.{area_at, HasNoGap, IsGap, IsLeastGap}
use Rattle.luks_laws.proofs.DecidedFacts.{alike_decided, at_most_decided, both_decided, Decided}
use Rattle.luks_laws.proofs.SearchFacts.{least_or_none_below}
use Rattle.luks_laws.proofs.GapDecisions.{IsBeside}

module _ (areas : AreaName → Area → Type 0) (low high len : ℕ) (free : (x : Area) → Decided (IsBeside areas x)) where
  -- at the block's place there is a gap
  abbrev IsGapAt : ℕ → Type 0
  IsGapAt block = IsGap areas low high len (4096 * block)

  -- what a gap at the block's place is: after `low`, before `high`, and beside all areas
  abbrev IsOpenAt : ℕ → Type 0
  IsOpenAt block = ((low ≤ 4096 * block) × (4096 * block + len ≤ high)) × IsBeside areas (area_at (4096 * block) len)

  -- there is one or there is none
  gap_decided : (block : ℕ) → Decided (IsGapAt block)
  gap_decided block = alike_decided (IsOpenAt block) (IsGapAt block)
      (λ x. record { block = block; aligned = refl; from = x.0.0; to = x.0.1; free = x.1 })
      (λ g. ((g.from, g.to), g.free))
      (both_decided _ _ (both_decided _ _ (at_most_decided low (4096 * block)) (at_most_decided (4096 * block + len) high)) (free (area_at (4096 * block) len)))

  -- each gap is at a block's place
  gap_at_block : (p : ℕ) (g : IsGap areas low high len p) → IsGapAt g.block
  gap_at_block p g = subst (IsGap areas low high len) g.aligned g

  -- a gap begins at most at the region's end, so the blocks up to there are all
  pub least_gap_or_none : ((at : ℕ) × IsLeastGap areas low high len at) ⊎ HasNoGap areas low high len
  least_gap_or_none = elim (least_or_none_below IsGapAt gap_decided (suc high)) [
    | inl found ↦ inl (
      4096 * found.0,
      record {
        gap = found.1;
        least = λ p g. let first = found.2 g.block (gap_at_block p g) in let aligned = g.aligned in omega (arith, first, aligned);
      },
    )
    | inr none ↦ inr (λ p g. let aligned = g.aligned in let to = g.to in none g.block (omega (arith, aligned, to)) (gap_at_block p g))
  ]
