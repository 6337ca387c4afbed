use Rattle.std.proofs.Common.{◌≡◌, ℕ, ◌*◌, ◌≤◌, List, length, true, false, refl, sym, subst, ◌∙◌, arith}
use Rattle.std.proofs.lemmas.Bool.{true≢false}
use Rattle.std.proofs.lemmas.Result.{err_from_is_err_and}
use Rattle.luks_area.specs.Device.{unchanged-then}
use Rattle.luks_area.specs.Ranges.{IsOfEither, SameBut}
use Rattle.luks_area.proofs.RangeFacts.{same_but-equal}
use Rattle.luks_writing.proofs.CountFacts.{counts_none}
use Rattle.luks2_header.specs.Selection.{luks2}
use Rattle.luks_reading.specs.declared.report.Data.TheVariants.{Elsewhere}
use Rattle.luks_keeping.specs.Places.{HoldsAll, IsOfWhole}
use Rattle.luks_keeping.specs.Restored.{IsFrontAs}
use Rattle.luks_keeping.specs.SecondPlaces.{IsOfCopies}
use Rattle.luks_wide_keeping.specs.Restored.{is_underway_restore_failure, HasNoFault, IsUnfitEither}
use Rattle.luks_wide_keeping.proofs.MadeFacts.{changed, has_header, put_back, reads_there}
use Rattle.luks_wide_keeping.proofs.PlacesFacts.{apart, inside_of, lead_sector}
use Rattle.luks_wide_keeping.proofs.RestoredFacts.{barred, can_restore, failed_after, fit_both, unfit}
use Rattle.luks_wide_keeping.proofs.restoring.restore_underway.Goals as goal

-- ---- the places

pub write_over-requires-clause-lead : goal.write_over-requires-clause-lead
write_over-requires-clause-lead g c =
    let here = c.in_ok-judge_fit.ensures.here in
    let there = c.in_ok-judge_fit.ensures.there in
    let own = c.len.ensures in
    let volume = c.len-2.ensures in
    let own_later = c.len-3.ensures in
    let volume_later = c.len-4.ensures in
    let kept = c.in_ok-judge_standing.ensures.kept.size in
    let unchanged = c.in_ok-judge_standing.ensures.unchanged.size in
    let least = c.min-total.ensures in
    let room : 2 * c.args.copy.now.header.hdr_size ≤ c.min-total.result = omega (arith, here, there, own, volume, own_later, volume_later, kept, unchanged, least) in
    lead_sector c.args.copy.now c.min-total.result c.places_of-places.result c.places_of-places.ensures room

pub write_over-requires-clause-apart : goal.write_over-requires-clause-apart
write_over-requires-clause-apart g c =
    let here = c.in_ok-judge_fit.ensures.here in
    let there = c.in_ok-judge_fit.ensures.there in
    let own = c.len.ensures in
    let volume = c.len-2.ensures in
    let own_later = c.len-3.ensures in
    let volume_later = c.len-4.ensures in
    let kept = c.in_ok-judge_standing.ensures.kept.size in
    let unchanged = c.in_ok-judge_standing.ensures.unchanged.size in
    let least = c.min-total.ensures in
    let room : 2 * c.args.copy.now.header.hdr_size ≤ c.min-total.result = omega (arith, here, there, own, volume, own_later, volume_later, kept, unchanged, least) in
    apart c.args.copy.now c.min-total.result c.places_of-places.result c.places_of-places.ensures room

pub write_over-requires-clause-there : goal.write_over-requires-clause-there
write_over-requires-clause-there g c =
    let here = c.in_ok-judge_fit.ensures.here in
    let there = c.in_ok-judge_fit.ensures.there in
    let own = c.len.ensures in
    let volume = c.len-2.ensures in
    let own_later = c.len-3.ensures in
    let volume_later = c.len-4.ensures in
    let kept = c.in_ok-judge_standing.ensures.kept.size in
    let unchanged = c.in_ok-judge_standing.ensures.unchanged.size in
    let least = c.min-total.ensures in
    let room : 2 * c.args.copy.now.header.hdr_size ≤ c.min-total.result = omega (arith, here, there, own, volume, own_later, volume_later, kept, unchanged, least) in
    inside_of c.args.copy.now c.min-total.result c.places_of-places.result c.places_of-places.ensures room _ (omega (arith, room, least, own_later))

pub write_over-requires-clause-within : goal.write_over-requires-clause-within
write_over-requires-clause-within g c =
    let here = c.in_ok-judge_fit.ensures.here in
    let there = c.in_ok-judge_fit.ensures.there in
    let own = c.len.ensures in
    let volume = c.len-2.ensures in
    let own_later = c.len-3.ensures in
    let volume_later = c.len-4.ensures in
    let kept = c.in_ok-judge_standing.ensures.kept.size in
    let unchanged = c.in_ok-judge_standing.ensures.unchanged.size in
    let least = c.min-total.ensures in
    let room : 2 * c.args.copy.now.header.hdr_size ≤ c.min-total.result = omega (arith, here, there, own, volume, own_later, volume_later, kept, unchanged, least) in
    inside_of c.args.copy.now c.min-total.result c.places_of-places.result c.places_of-places.ensures room _ (omega (arith, room, least, volume_later))

-- ---- it doesn't fit

pub returns-in_err-judge_fit-clause-count : goal.returns-in_err-judge_fit-clause-count
returns-in_err-judge_fit-clause-count g c =
    let p = err_from_is_err_and c.from_residual.result c.from_residual.ensures.1 in
    rw (p.1, p.2) (counts_none (is_underway_restore_failure c.in_err-judge_fit.field-0.0) _ _ _ c.in_err-judge_fit.ensures.kinds refl)

pub returns-in_err-judge_fit-clause-fault : goal.returns-in_err-judge_fit-clause-fault
returns-in_err-judge_fit-clause-fault g c = λ source tells.
    let b : List ℕ = g.B.Device.bytes c.args.backup.now in
    let t : List ℕ = g.T.Device.bytes c.args.target.now in
    let long_b : c.len.result ≡ length b = c.len.ensures ∙ sym (g.met.B.Device.sized c.args.backup.now source) in
    let long_t : c.len-2.result ≡ length t = c.len-2.ensures ∙ sym (g.met.T.Device.sized c.args.target.now tells) in
    let f = c.in_err-judge_fit.field-0.0 in
    let p = err_from_is_err_and c.from_residual.result c.from_residual.ensures.1 in
    rw (p.1, p.2)
    (unfit b t c.args.copy.now (c.requires.of source) c.args.payload c.args.over f
    (subst (λ (n : ℕ). IsUnfitEither c.args.copy.now c.args.payload n (length t) f) long_b
    (subst (λ (n : ℕ). IsUnfitEither c.args.copy.now c.args.payload c.len.result n f) long_t c.in_err-judge_fit.ensures.refused)))

-- ---- the header that counts bars it

pub returns-in_err-judge_standing-clause-count : goal.returns-in_err-judge_standing-clause-count
returns-in_err-judge_standing-clause-count g c =
    let p = err_from_is_err_and c.from_residual-in_err-judge_standing.result c.from_residual-in_err-judge_standing.ensures.1 in
    rw (p.1, p.2) c.in_err-judge_standing.ensures.count

pub returns-in_err-judge_standing-clause-fault : goal.returns-in_err-judge_standing-clause-fault
returns-in_err-judge_standing-clause-fault g c = λ source tells.
    let b : List ℕ = g.B.Device.bytes c.args.backup.now in
    let t : List ℕ = g.T.Device.bytes c.args.target.now in
    let long_b : c.len.result ≡ length b = c.len.ensures ∙ sym (g.met.B.Device.sized c.args.backup.now source) in
    let long_t : c.len-2.result ≡ length t = c.len-2.ensures ∙ sym (g.met.T.Device.sized c.args.target.now tells) in
    let both = fit_both b t c.args.copy.now (c.requires.of source) c.args.payload c.args.over
    (subst (HasNoFault c.args.copy.now Elsewhere) long_b c.in_ok-judge_fit.ensures.fits) (subst (HasNoFault c.args.copy.now c.args.payload) long_t c.in_ok-judge_fit.ensures.fits_there) in
    let p = err_from_is_err_and c.from_residual-in_err-judge_standing.result c.from_residual-in_err-judge_standing.ensures.1 in
    rw (p.1, p.2) (barred b t c.args.copy.now (c.requires.of source) c.args.payload c.args.over c.in_err-judge_standing.field-0.0 both (c.in_err-judge_standing.ensures.barred source tells))

pub returns-in_err-judge_standing-clause-refused : goal.returns-in_err-judge_standing-clause-refused
returns-in_err-judge_standing-clause-refused g c =
    let p = err_from_is_err_and c.from_residual-in_err-judge_standing.result c.from_residual-in_err-judge_standing.ensures.1 in
    rw (p.1, p.2) (λ own. c.in_err-judge_standing.ensures.unchanged)

pub returns-in_err-judge_standing-clause-rest : goal.returns-in_err-judge_standing-clause-rest
returns-in_err-judge_standing-clause-rest g c = λ source tells. same_but-equal _ (c.in_err-judge_standing.ensures.unchanged.same tells)

-- ---- it was written

pub returns-in_err-write_over-clause-count : goal.returns-in_err-write_over-clause-count
returns-in_err-write_over-clause-count g c =
    let p = err_from_is_err_and c.from_residual-in_err-write_over.result c.from_residual-in_err-write_over.ensures.1 in
    rw (p.1, p.2) (failed_after _ _ _ _ _ _ c.in_ok-judge_standing.ensures.count.0 c.in_ok-judge_standing.ensures.count.1 c.in_err-write_over.ensures.count)

pub returns-in_err-write_over-clause-refused : goal.returns-in_err-write_over-clause-refused
returns-in_err-write_over-clause-refused g c =
    let p = err_from_is_err_and c.from_residual-in_err-write_over.result c.from_residual-in_err-write_over.ensures.1 in
    rw (p.1, p.2) (λ (own : true ≡ false). absurd (true≢false own))

pub returns-clause-faultless : goal.returns-clause-faultless
returns-clause-faultless g c = λ source tells.
    let b : List ℕ = g.B.Device.bytes c.args.backup.now in
    let t : List ℕ = g.T.Device.bytes c.args.target.now in
    let long_b : c.len.result ≡ length b = c.len.ensures ∙ sym (g.met.B.Device.sized c.args.backup.now source) in
    let long_t : c.len-2.result ≡ length t = c.len-2.ensures ∙ sym (g.met.T.Device.sized c.args.target.now tells) in
    let both = fit_both b t c.args.copy.now (c.requires.of source) c.args.payload c.args.over
    (subst (HasNoFault c.args.copy.now Elsewhere) long_b c.in_ok-judge_fit.ensures.fits) (subst (HasNoFault c.args.copy.now c.args.payload) long_t c.in_ok-judge_fit.ensures.fits_there) in
    can_restore b t c.args.payload c.args.over both (c.in_ok-judge_standing.ensures.clear source tells)

pub returns-clause-rest : goal.returns-clause-rest
returns-clause-rest g c = λ source tells.
    let b : List ℕ = g.B.Device.bytes c.args.backup.now in
    let t : List ℕ = g.T.Device.bytes c.args.target.now in
    let here = c.in_ok-judge_fit.ensures.here in
    let there = c.in_ok-judge_fit.ensures.there in
    let own = c.len.ensures in
    let volume = c.len-2.ensures in
    let own_later = c.len-3.ensures in
    let volume_later = c.len-4.ensures in
    let kept = c.in_ok-judge_standing.ensures.kept.size in
    let unchanged = c.in_ok-judge_standing.ensures.unchanged.size in
    let least = c.min-total.ensures in
    let room : 2 * c.args.copy.now.header.hdr_size ≤ c.min-total.result = omega (arith, here, there, own, volume, own_later, volume_later, kept, unchanged, least) in
    let front : IsFrontAs b c.args.payload (length t) (luks2 c.args.copy.now.header.hdr_offset c.args.copy.now.copies) c.front_of-limit.result =
    subst (λ (n : ℕ). IsFrontAs b c.args.payload n (luks2 c.args.copy.now.header.hdr_offset c.args.copy.now.copies) c.front_of-limit.result)
    (c.len-5.ensures ∙ c.in_ok-judge_standing.ensures.unchanged.size ∙ sym (g.met.T.Device.sized c.args.target.now tells)) (c.front_of-limit.ensures.front b (c.requires.of source)) in
    let rest : SameBut (IsOfEither (IsOfWhole c.places_of-places.result) (IsOfCopies t c.front_of-limit.result)) t (g.T.Device.bytes c.write_over.new.target) =
    subst (λ (l : List ℕ). SameBut (IsOfEither (IsOfWhole c.places_of-places.result) (IsOfCopies l c.front_of-limit.result)) l (g.T.Device.bytes c.write_over.new.target))
    (c.in_ok-judge_standing.ensures.unchanged.same tells) (c.write_over.ensures.rest tells) in
    changed b c.args.copy.now (c.requires.of source) c.min-total.result c.places_of-places.result c.places_of-places.ensures room c.args.payload t c.front_of-limit.result front rest

pub returns-in_err-write_over-clause-rest : goal.returns-in_err-write_over-clause-rest
returns-in_err-write_over-clause-rest g c = λ source tells.
    let b : List ℕ = g.B.Device.bytes c.args.backup.now in
    let t : List ℕ = g.T.Device.bytes c.args.target.now in
    let here = c.in_ok-judge_fit.ensures.here in
    let there = c.in_ok-judge_fit.ensures.there in
    let own = c.len.ensures in
    let volume = c.len-2.ensures in
    let own_later = c.len-3.ensures in
    let volume_later = c.len-4.ensures in
    let kept = c.in_ok-judge_standing.ensures.kept.size in
    let unchanged = c.in_ok-judge_standing.ensures.unchanged.size in
    let least = c.min-total.ensures in
    let room : 2 * c.args.copy.now.header.hdr_size ≤ c.min-total.result = omega (arith, here, there, own, volume, own_later, volume_later, kept, unchanged, least) in
    let front : IsFrontAs b c.args.payload (length t) (luks2 c.args.copy.now.header.hdr_offset c.args.copy.now.copies) c.front_of-limit.result =
    subst (λ (n : ℕ). IsFrontAs b c.args.payload n (luks2 c.args.copy.now.header.hdr_offset c.args.copy.now.copies) c.front_of-limit.result)
    (c.len-5.ensures ∙ c.in_ok-judge_standing.ensures.unchanged.size ∙ sym (g.met.T.Device.sized c.args.target.now tells)) (c.front_of-limit.ensures.front b (c.requires.of source)) in
    let rest : SameBut (IsOfEither (IsOfWhole c.places_of-places.result) (IsOfCopies t c.front_of-limit.result)) t (g.T.Device.bytes c.write_over.new.target) =
    subst (λ (l : List ℕ). SameBut (IsOfEither (IsOfWhole c.places_of-places.result) (IsOfCopies l c.front_of-limit.result)) l (g.T.Device.bytes c.write_over.new.target))
    (c.in_ok-judge_standing.ensures.unchanged.same tells) (c.write_over.ensures.rest tells) in
    changed b c.args.copy.now (c.requires.of source) c.min-total.result c.places_of-places.result c.places_of-places.ensures room c.args.payload t c.front_of-limit.result front rest

pub returns-clause-restored : goal.returns-clause-restored
returns-clause-restored g c = λ source tells.
    let b : List ℕ = g.B.Device.bytes c.args.backup.now in
    let t : List ℕ = g.T.Device.bytes c.args.target.now in
    let here = c.in_ok-judge_fit.ensures.here in
    let there = c.in_ok-judge_fit.ensures.there in
    let own = c.len.ensures in
    let volume = c.len-2.ensures in
    let own_later = c.len-3.ensures in
    let volume_later = c.len-4.ensures in
    let kept = c.in_ok-judge_standing.ensures.kept.size in
    let unchanged = c.in_ok-judge_standing.ensures.unchanged.size in
    let least = c.min-total.ensures in
    let room : 2 * c.args.copy.now.header.hdr_size ≤ c.min-total.result = omega (arith, here, there, own, volume, own_later, volume_later, kept, unchanged, least) in
    let front : IsFrontAs b c.args.payload (length t) (luks2 c.args.copy.now.header.hdr_offset c.args.copy.now.copies) c.front_of-limit.result =
    subst (λ (n : ℕ). IsFrontAs b c.args.payload n (luks2 c.args.copy.now.header.hdr_offset c.args.copy.now.copies) c.front_of-limit.result)
    (c.len-5.ensures ∙ c.in_ok-judge_standing.ensures.unchanged.size ∙ sym (g.met.T.Device.sized c.args.target.now tells)) (c.front_of-limit.ensures.front b (c.requires.of source)) in
    let rest : SameBut (IsOfEither (IsOfWhole c.places_of-places.result) (IsOfCopies t c.front_of-limit.result)) t (g.T.Device.bytes c.write_over.new.target) =
    subst (λ (l : List ℕ). SameBut (IsOfEither (IsOfWhole c.places_of-places.result) (IsOfCopies l c.front_of-limit.result)) l (g.T.Device.bytes c.write_over.new.target))
    (c.in_ok-judge_standing.ensures.unchanged.same tells) (c.write_over.ensures.rest tells) in
    let w : List ℕ = g.T.Device.bytes c.write_over.new.target in
    let long_b = g.met.B.Device.sized c.args.backup.now source in
    let long_w = g.met.T.Device.sized c.write_over.new.target tells in
    let size = c.write_over.ensures.size in
    put_back b c.args.copy.now (c.requires.of source) c.min-total.result c.places_of-places.result c.places_of-places.ensures room c.args.payload t c.front_of-limit.result front w
    (omega (arith, least, own_later, volume_later, kept, unchanged, long_b, long_w, size)) rest
    (subst (λ (l : List ℕ). HoldsAll c.places_of-places.result l w) (c.in_ok-judge_standing.ensures.kept.same source) (c.in_ok-write_over.ensures.copied source tells))
    (c.in_ok-write_over.ensures.lead tells)

pub returns-clause-reads : goal.returns-clause-reads
returns-clause-reads g c = λ source tells other is.
    let b : List ℕ = g.B.Device.bytes c.args.backup.now in
    let t : List ℕ = g.T.Device.bytes c.args.target.now in
    let here = c.in_ok-judge_fit.ensures.here in
    let there = c.in_ok-judge_fit.ensures.there in
    let own = c.len.ensures in
    let volume = c.len-2.ensures in
    let own_later = c.len-3.ensures in
    let volume_later = c.len-4.ensures in
    let kept = c.in_ok-judge_standing.ensures.kept.size in
    let unchanged = c.in_ok-judge_standing.ensures.unchanged.size in
    let least = c.min-total.ensures in
    let room : 2 * c.args.copy.now.header.hdr_size ≤ c.min-total.result = omega (arith, here, there, own, volume, own_later, volume_later, kept, unchanged, least) in
    let w : List ℕ = g.T.Device.bytes c.write_over.new.target in
    let long_b = g.met.B.Device.sized c.args.backup.now source in
    let long_w = g.met.T.Device.sized c.write_over.new.target tells in
    let size = c.write_over.ensures.size in
    let held : HoldsAll c.places_of-places.result b w = subst (λ (l : List ℕ). HoldsAll c.places_of-places.result l w) (c.in_ok-judge_standing.ensures.kept.same source) (c.in_ok-write_over.ensures.copied source tells) in
    reads_there b w c.args.copy.now other (c.requires.of source)
    (has_header b c.args.copy.now (c.requires.of source) c.min-total.result c.places_of-places.result c.places_of-places.ensures room w held.header (c.in_ok-write_over.ensures.lead tells))
    (omega (arith, room, least, own_later, kept, long_b)) (omega (arith, room, least, volume_later, long_w, size)) is

pub returns-clause-kept : goal.returns-clause-kept
returns-clause-kept g c = unchanged-then c.in_ok-judge_standing.ensures.kept c.in_ok-write_over.ensures.kept

pub returns-in_err-write_over-clause-kept : goal.returns-in_err-write_over-clause-kept
returns-in_err-write_over-clause-kept g c = unchanged-then c.in_ok-judge_standing.ensures.kept c.in_err-write_over.ensures.kept

pub returns-in_err-judge_fit-clause-no_memory : goal.returns-in_err-judge_fit-clause-no_memory
returns-in_err-judge_fit-clause-no_memory g c =
    let p = err_from_is_err_and c.from_residual.result c.from_residual.ensures.1 in
    rw (p.1, p.2) c.in_err-judge_fit.ensures.no_memory

pub returns-in_err-judge_standing-clause-no_memory : goal.returns-in_err-judge_standing-clause-no_memory
returns-in_err-judge_standing-clause-no_memory g c =
    let p = err_from_is_err_and c.from_residual-in_err-judge_standing.result c.from_residual-in_err-judge_standing.ensures.1 in
    rw (p.1, p.2) c.in_err-judge_standing.ensures.no_memory
