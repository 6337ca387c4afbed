use Rattle.std.proofs.Common.{◌≡◌, ◌↔◌, ℕ, ◌+◌, ◌*◌, ◌<◌, ◌≤◌, option_map, true, false, refl, sym, subst, inl, inr, arith}
use Rattle.std.proofs.lemmas.Bool.{cases_lt, false≢true}
use Rattle.std.proofs.lemmas.Result.{err_from_is_err_and}
use Rattle.luks_area.specs.Area.{area_key, Fit, IsAreaFault}
use Rattle.luks_area.specs.First.{IsLeast}
use Rattle.luks_meta.specs.Content.{content}
use Rattle.luks_reading.proofs.ListedAreaFacts.{fit_of, least_of}
use Rattle.luks_reading.specs.Layout2.{Luks2Area}
use Rattle.luks_reading.specs.declared.report.Data.TheVariants.{Elsewhere}
use Rattle.luks_rebuilding.specs.Found.{IsWhole}
use Rattle.luks_rebuilding.proofs.FaultFacts.{area_first, makeable, random_first, region_said, small_first, uuid_first}
use Rattle.luks_rebuilding.proofs.judging.judge.Goals as goal

-- the region's end, past the target's
ends_past : (end_ total : ℕ) → (false ≡ true) ↔ (end_ ≤ total) → total < end_
ends_past end_ total said = elim (cases_lt total end_) [ inl short ↦ short | inr large ↦ absurd (false≢true (said.1 (omega (arith, large)))) ]

pub returns-in_err-fit-clause-fault : goal.returns-in_err-fit-clause-fault
returns-in_err-fit-clause-fault c = λ v long.
    let p = err_from_is_err_and c.from_residual.result c.from_residual.ensures.1 in
    let lists = c.luks2_areas-areas.ensures in
    let least = least_of _ _ _ _ lists c.in_err-fit.ensures.fault in
    rw (p.1, p.2)
    (area_first v (option_map (λ t. t.now) c.args.uuid) c.args.total c.args.random.now c.args.found.now (subst (λ (n : ℕ). IsWhole n c.args.found.now) (sym long) c.requires)
    c.in_err-fit.field-0.0 (subst (λ (n : ℕ). IsLeast area_key (IsAreaFault (Luks2Area (content c.args.found.now.meta) c.args.found.now.place.size Elsewhere n) n) c.in_err-fit.field-0.0) (sym long) least))

pub returns-then-not-ends_inside-clause-fault : goal.returns-then-not-ends_inside-clause-fault
returns-then-not-ends_inside-clause-fault c = λ v long.
    let fit = fit_of _ _ _ c.luks2_areas-areas.ensures c.in_ok-fit.ensures.fits in
    small_first v (option_map (λ t. t.now) c.args.uuid) c.args.total c.args.random.now c.args.found.now (subst (λ (n : ℕ). IsWhole n c.args.found.now) (sym long) c.requires)
    (subst (λ (n : ℕ). Fit (Luks2Area (content c.args.found.now.meta) c.args.found.now.place.size Elsewhere n) n) (sym long) fit)
    c.config-region.result.keyslots_size (region_said (content c.args.found.now.meta) c.config-region.result c.config-region.ensures)
    (ends_past (2 * c.args.found.now.place.size + c.config-region.result.keyslots_size) c.args.total c.if-not-ends_inside.ensures)

pub returns-then-is_no_uuid-clause-fault : goal.returns-then-is_no_uuid-clause-fault
returns-then-is_no_uuid-clause-fault c = λ v long.
    let fit = fit_of _ _ _ c.luks2_areas-areas.ensures c.in_ok-fit.ensures.fits in
    uuid_first v (option_map (λ t. t.now) c.args.uuid) c.args.total c.args.random.now c.args.found.now (subst (λ (n : ℕ). IsWhole n c.args.found.now) (sym long) c.requires)
    (subst (λ (n : ℕ). Fit (Luks2Area (content c.args.found.now.meta) c.args.found.now.place.size Elsewhere n) n) (sym long) fit)
    c.config-region.result.keyslots_size (region_said (content c.args.found.now.meta) c.config-region.result c.config-region.ensures)
    (c.if-not-ends_inside.ensures.0 refl) (c.if-is_no_uuid.ensures.bad refl)

pub returns-then-random-ne-RANDOM-clause-fault : goal.returns-then-random-ne-RANDOM-clause-fault
returns-then-random-ne-RANDOM-clause-fault c = λ v long.
    let fit = fit_of _ _ _ c.luks2_areas-areas.ensures c.in_ok-fit.ensures.fits in
    random_first v (option_map (λ t. t.now) c.args.uuid) c.args.total c.args.random.now c.args.found.now (subst (λ (n : ℕ). IsWhole n c.args.found.now) (sym long) c.requires)
    (subst (λ (n : ℕ). Fit (Luks2Area (content c.args.found.now.meta) c.args.found.now.place.size Elsewhere n) n) (sym long) fit)
    c.config-region.result.keyslots_size (region_said (content c.args.found.now.meta) c.config-region.result c.config-region.ensures)
    (c.if-not-ends_inside.ensures.0 refl) (c.if-is_no_uuid.ensures.good refl) c.if-random-ne-RANDOM.true

pub returns-else-random-ne-RANDOM-clause-faultless : goal.returns-else-random-ne-RANDOM-clause-faultless
returns-else-random-ne-RANDOM-clause-faultless c = λ v long.
    let fit = fit_of _ _ _ c.luks2_areas-areas.ensures c.in_ok-fit.ensures.fits in
    makeable v (option_map (λ t. t.now) c.args.uuid) c.args.total c.args.random.now c.args.found.now (subst (λ (n : ℕ). IsWhole n c.args.found.now) (sym long) c.requires)
    (subst (λ (n : ℕ). Fit (Luks2Area (content c.args.found.now.meta) c.args.found.now.place.size Elsewhere n) n) (sym long) fit)
    c.config-region.result.keyslots_size (region_said (content c.args.found.now.meta) c.config-region.result c.config-region.ensures)
    (c.if-not-ends_inside.ensures.0 refl) (c.if-is_no_uuid.ensures.good refl) c.if-random-ne-RANDOM.false

pub returns-else-random-ne-RANDOM-clause-ready : goal.returns-else-random-ne-RANDOM-clause-ready
returns-else-random-ne-RANDOM-clause-ready c = record {
  fit = fit_of _ _ _ c.luks2_areas-areas.ensures c.in_ok-fit.ensures.fits;
  region = record {
    bytes = c.config-region.result.keyslots_size;
    says = region_said (content c.args.found.now.meta) c.config-region.result c.config-region.ensures;
    inside = c.if-not-ends_inside.ensures.0 refl;
  };
  uuid = c.if-is_no_uuid.ensures.good refl;
  counted = c.if-random-ne-RANDOM.false;
}
