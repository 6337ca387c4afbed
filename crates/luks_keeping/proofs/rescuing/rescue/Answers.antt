use Rattle.std.proofs.Common.{◌≡◌, ◌≤◌, ◌-◌, ℕ, List, length, true, false, refl, sym, ap, subst, ◌∙◌, arith, inl}
use Rattle.std.proofs.lemmas.Bool.{false≢true, true≢false}
use Rattle.std.proofs.lemmas.Result.{err_from_is_err_and}
use Rattle.luks_area.specs.Device.{count_after, unchanged-then}
use Rattle.luks_reading.specs.declared.report.Data.TheVariants.{Elsewhere}
use Rattle.luks_keeping.specs.BackupFaults.{checked_backup, is_backup_failure, IsAnsweredBackup, IsShort}
use Rattle.luks_keeping.specs.Places.{AreInside, HoldsHeader}
use Rattle.luks_keeping.specs.ReadPlaces.{lost_by, WritesReadAnew}
use Rattle.luks_keeping.specs.Rescued.{AnswersUnlessLost, IsLost, IsRescue}
use Rattle.luks_keeping.proofs.BackupFacts.{answered_refusal, answered_short, can_back_up, no_failure, of_backup, same_failure}
use Rattle.luks_keeping.proofs.LaidFacts.{apart, inside, inside_larger, lead_within}
use Rattle.luks_keeping.proofs.RescueFacts.{count_rises, ended_by, ends_first, ends_none, ends_since, formed_new, left_since, marks_tell, marks_told, none_marked, rescue_answers, rescue_made, rescue_whole, rescues_in_turn, turn_still}
use Rattle.luks_keeping.proofs.SizeFacts.{fits_elsewhere}
use Rattle.luks_keeping.proofs.TurnFacts.{large_size}
use Rattle.luks_keeping.proofs.VolumeFacts.{own_formed}
use Rattle.luks_keeping.proofs.rescuing.rescue.Goals as goal

pub write_rescue-requires-clause-lead : goal.write_rescue-requires-clause-lead
write_rescue-requires-clause-lead g c = lead_within c.in_ok-header.header c.places_of-places.result c.places_of-places.ensures

pub write_rescue-requires-clause-apart : goal.write_rescue-requires-clause-apart
write_rescue-requires-clause-apart g c = apart c.in_ok-header.header c.places_of-places.result c.places_of-places.ensures c.args.payload (g.S.Device.size c.args.source.now) c.in_ok-header.ensures.fits

pub write_rescue-requires-clause-there : goal.write_rescue-requires-clause-there
write_rescue-requires-clause-there g c =
    subst (AreInside c.places_of-places.result) (sym c.in_ok-header.ensures.unchanged.size)
    (inside c.in_ok-header.header c.places_of-places.result c.places_of-places.ensures c.args.payload (g.S.Device.size c.args.source.now) c.in_ok-header.ensures.fits)

pub write_rescue-requires-clause-within : goal.write_rescue-requires-clause-within
write_rescue-requires-clause-within g c = inside c.in_ok-header.header c.places_of-places.result c.places_of-places.ensures _ c.in_ok-size.size c.in_ok-judge_header.ensures.fits

-- ---- the source isn't accepted

pub returns-in_err-header-clause-count : goal.returns-in_err-header-clause-count
returns-in_err-header-clause-count g c =
    let p = err_from_is_err_and c.from_residual.result c.from_residual.ensures.1 in
    rw (p.1, p.2) (ends_first (is_backup_failure (checked_backup c.in_err-header.field-0.0)) _ _ _
    (c.in_err-header.ensures.count ∙ ap (λ b. count_after b (g.S.Device.failed c.args.source.now)) (sym (same_failure c.in_err-header.field-0.0))))

pub returns-in_err-header-clause-ended : goal.returns-in_err-header-clause-ended
returns-in_err-header-clause-ended g c = λ source tells.
    let p = err_from_is_err_and c.from_residual.result c.from_residual.ensures.1 in
    rw (p.1, p.2) (λ own same k chosen. inl (c.in_err-header.ensures.count ∙ ap (λ b. count_after b (g.S.Device.failed c.args.source.now)) (sym (same_failure c.in_err-header.field-0.0) ∙ own), refl))

pub returns-in_err-header-clause-fault : goal.returns-in_err-header-clause-fault
returns-in_err-header-clause-fault g c = λ source.
    let p = err_from_is_err_and c.from_residual.result c.from_residual.ensures.1 in
    rw (p.1, p.2) (answered_refusal (g.S.Device.bytes c.args.source.now) c.args.payload (g.T.Device.size c.args.target.now) c.in_err-header.field-0.0 (c.in_err-header.ensures.refused source))

-- ---- the target is too small

pub returns-in_err-size-clause-count : goal.returns-in_err-size-clause-count
returns-in_err-size-clause-count g c =
    let p = err_from_is_err_and c.from_residual-in_err-size.result c.from_residual-in_err-size.ensures.1 in
    rw (p.1, p.2) (ends_none (is_backup_failure c.in_err-size.field-0.0) _ _ _ (ap is_backup_failure c.in_err-size.ensures.own) c.in_ok-header.ensures.count)

pub returns-in_err-size-clause-ended : goal.returns-in_err-size-clause-ended
returns-in_err-size-clause-ended g c = λ source tells.
    let p = err_from_is_err_and c.from_residual-in_err-size.result c.from_residual-in_err-size.ensures.1 in
    rw (p.1, p.2) (λ own same k chosen. absurd (false≢true (sym (ap is_backup_failure c.in_err-size.ensures.own) ∙ own)))

pub returns-in_err-size-clause-fault : goal.returns-in_err-size-clause-fault
returns-in_err-size-clause-fault g c = λ source.
    let v : List ℕ = g.S.Device.bytes c.args.source.now in
    let p = err_from_is_err_and c.from_residual-in_err-size.result c.from_residual-in_err-size.ensures.1 in
    let short = subst (IsShort v c.args.payload) c.len.ensures (c.in_err-size.ensures.short v (c.in_ok-header.ensures.read source)) in
    rw (p.1, p.2) (subst (IsAnsweredBackup v c.args.payload (g.T.Device.size c.args.target.now)) (sym c.in_err-size.ensures.own)
    (answered_short v c.args.payload (g.T.Device.size c.args.target.now) (c.in_ok-header.ensures.formed source) short))

-- ---- what is kept of an accepted volume is accepted

pub returns-in_err-judge_header-clause-count : goal.returns-in_err-judge_header-clause-count
returns-in_err-judge_header-clause-count g c =
    let p = err_from_is_err_and c.from_residual-in_err-judge_header.result c.from_residual-in_err-judge_header.ensures.1 in
    rw (p.1, p.2) (ends_none (is_backup_failure (checked_backup c.in_err-judge_header.field-0.0)) _ _ _ (no_failure c.in_err-judge_header.field-0.0 c.in_err-judge_header.ensures.device) c.in_ok-header.ensures.count)

pub returns-in_err-judge_header-clause-ended : goal.returns-in_err-judge_header-clause-ended
returns-in_err-judge_header-clause-ended g c = λ source tells.
    let p = err_from_is_err_and c.from_residual-in_err-judge_header.result c.from_residual-in_err-judge_header.ensures.1 in
    rw (p.1, p.2) (λ own same k chosen. absurd (false≢true (sym (no_failure c.in_err-judge_header.field-0.0 c.in_err-judge_header.ensures.device) ∙ own)))

pub returns-in_err-judge_header-clause-fault : goal.returns-in_err-judge_header-clause-fault
returns-in_err-judge_header-clause-fault g c = λ source.
    let v : List ℕ = g.S.Device.bytes c.args.source.now in
    let is = c.in_ok-header.ensures.read source in
    absurd (false≢true (c.in_err-judge_header.ensures.only v is (fits_elsewhere v c.args.payload c.in_ok-size.size (own_formed v c.args.payload (c.in_ok-header.ensures.formed source)) (c.in_ok-size.ensures.size v is))))

pub returns-in_err-header-clause-order : goal.returns-in_err-header-clause-order
returns-in_err-header-clause-order g c = λ source tells k size chosen is_size.
    turn_still (g.S.Device.bytes c.args.source.now) k size _ _ (g.T.Device.bytes c.args.target.now) (count_rises _ _ _ c.in_err-header.ensures.count)

pub returns-in_err-size-clause-order : goal.returns-in_err-size-clause-order
returns-in_err-size-clause-order g c = λ source tells k size chosen is_size.
    turn_still (g.S.Device.bytes c.args.source.now) k size _ _ (g.T.Device.bytes c.args.target.now) (let count = c.in_ok-header.ensures.count in omega (arith, count))

pub returns-in_err-judge_header-clause-order : goal.returns-in_err-judge_header-clause-order
returns-in_err-judge_header-clause-order g c = λ source tells k size chosen is_size.
    turn_still (g.S.Device.bytes c.args.source.now) k size _ _ (g.T.Device.bytes c.args.target.now) (let count = c.in_ok-header.ensures.count in omega (arith, count))

-- ---- a device failed

pub returns-in_err-keyslots-clause-count : goal.returns-in_err-keyslots-clause-count
returns-in_err-keyslots-clause-count g c =
    let p = err_from_is_err_and c.from_residual-in_err-keyslots.result c.from_residual-in_err-keyslots.ensures.1 in
    rw (p.1, p.2) (ends_since true _ _ _ _ _ c.in_ok-header.ensures.count c.in_err-keyslots.ensures.count)

pub returns-in_err-keyslots-clause-refused : goal.returns-in_err-keyslots-clause-refused
returns-in_err-keyslots-clause-refused g c =
    let p = err_from_is_err_and c.from_residual-in_err-keyslots.result c.from_residual-in_err-keyslots.ensures.1 in
    rw (p.1, p.2) (λ (own : true ≡ false). absurd (true≢false own))

pub returns-in_err-keyslots-clause-kept : goal.returns-in_err-keyslots-clause-kept
returns-in_err-keyslots-clause-kept g c = unchanged-then c.in_ok-header.ensures.unchanged c.write_rescue.ensures.kept

pub returns-clause-kept : goal.returns-clause-kept
returns-clause-kept g c = unchanged-then c.in_ok-header.ensures.unchanged c.write_rescue.ensures.kept

pub returns-in_err-keyslots-clause-ended : goal.returns-in_err-keyslots-clause-ended
returns-in_err-keyslots-clause-ended g c = λ source tells.
    let v : List ℕ = g.S.Device.bytes c.args.source.now in
    let w : List ℕ = g.T.Device.bytes c.write_rescue.new.target in
    let header = c.in_ok-header.header in
    let places = c.places_of-places.result in
    let laid = c.places_of-places.ensures in
    let is = c.in_ok-header.ensures.read source in
    let well = c.in_ok-header.ensures.formed source in
    let long_v : length v ≡ g.S.Device.size c.args.source.now = g.met.S.Device.sized c.args.source.now source in
    let long_w : length w ≡ g.T.Device.size c.args.target.now = g.met.T.Device.sized c.write_rescue.new.target tells ∙ c.write_rescue.ensures.size in
    let fits = c.in_ok-header.ensures.fits in
    let apart_ = apart header places laid c.args.payload (g.S.Device.size c.args.source.now) fits in
    let there = subst (AreInside places) (sym long_v) (inside header places laid c.args.payload (g.S.Device.size c.args.source.now) fits) in
    let lead = lead_within header places laid in
    let total = c.len.ensures in
    let small = c.in_ok-size.ensures.within in
    let room : c.in_ok-size.size ≤ length w = omega (arith, long_w, total, small) in
    let in_size = inside header places laid Elsewhere c.in_ok-size.size c.in_ok-judge_header.ensures.fits in
    let within = inside_larger places c.in_ok-size.size (length w) room in_size in
    let same = c.in_ok-header.ensures.unchanged.same source in
    let before = c.in_ok-header.ensures.count in
    let p = err_from_is_err_and c.from_residual-in_err-keyslots.result c.from_residual-in_err-keyslots.ensures.1 in
    rw (p.1, p.2) (λ own still k chosen.
    ended_by v c.args.payload header is places laid well apart_ there lead (g.S.Device.bytes c.accepted_header.new.device) w within (g.S.Device.tells × g.T.Device.tells) (source, tells) (g.S.Device.failed c.accepted_header.new.device) (g.S.Device.failed c.args.source.now) (g.S.Device.failed c.write_rescue.new.source) (g.T.Device.bytes c.args.target.now)
    same before (c.in_err-keyslots.ensures.ended still) k chosen)

pub returns-in_err-keyslots-clause-same : goal.returns-in_err-keyslots-clause-same
returns-in_err-keyslots-clause-same g c = λ source tells f bad.
    let v : List ℕ = g.S.Device.bytes c.args.source.now in
    let is = c.in_ok-header.ensures.read source in
    let room = c.in_ok-size.ensures.within in
    let total = c.len.ensures in
    absurd ((can_back_up v c.args.payload (g.T.Device.size c.args.target.now) c.in_ok-size.size (c.in_ok-header.ensures.formed source) (c.in_ok-size.ensures.size v is) (omega (arith, room, total))).none f bad)

pub returns-in_err-keyslots-clause-rest : goal.returns-in_err-keyslots-clause-rest
returns-in_err-keyslots-clause-rest g c = λ source tells.
    let v : List ℕ = g.S.Device.bytes c.args.source.now in
    of_backup v c.args.payload c.in_ok-size.size (c.in_ok-size.ensures.size v (c.in_ok-header.ensures.read source)) (c.write_rescue.ensures.rest tells)

pub returns-in_err-keyslots-clause-order : goal.returns-in_err-keyslots-clause-order
returns-in_err-keyslots-clause-order g c = λ source tells.
    let v : List ℕ = g.S.Device.bytes c.args.source.now in
    let w : List ℕ = g.T.Device.bytes c.write_rescue.new.target in
    let header = c.in_ok-header.header in
    let places = c.places_of-places.result in
    let laid = c.places_of-places.ensures in
    let is = c.in_ok-header.ensures.read source in
    let well = c.in_ok-header.ensures.formed source in
    let long_v : length v ≡ g.S.Device.size c.args.source.now = g.met.S.Device.sized c.args.source.now source in
    let long_w : length w ≡ g.T.Device.size c.args.target.now = g.met.T.Device.sized c.write_rescue.new.target tells ∙ c.write_rescue.ensures.size in
    let fits = c.in_ok-header.ensures.fits in
    let apart_ = apart header places laid c.args.payload (g.S.Device.size c.args.source.now) fits in
    let there = subst (AreInside places) (sym long_v) (inside header places laid c.args.payload (g.S.Device.size c.args.source.now) fits) in
    let lead = lead_within header places laid in
    let total = c.len.ensures in
    let small = c.in_ok-size.ensures.within in
    let room : c.in_ok-size.size ≤ length w = omega (arith, long_w, total, small) in
    let in_size = inside header places laid Elsewhere c.in_ok-size.size c.in_ok-judge_header.ensures.fits in
    let within = inside_larger places c.in_ok-size.size (length w) room in_size in
    let same = c.in_ok-header.ensures.unchanged.same source in
    let before = c.in_ok-header.ensures.count in
    let large : 512 ≤ c.in_ok-size.size = large_size v header is places laid c.in_ok-size.size in_size in
    rescues_in_turn v c.args.payload header is places laid well apart_ there lead c.in_ok-size.size (c.in_ok-size.ensures.size v is) in_size (g.S.Device.failed c.args.source.now) (g.S.Device.failed c.write_rescue.new.source)
    (g.T.Device.bytes c.args.target.now) w
    (subst (λ (n : ℕ). WritesReadAnew places c.in_ok-size.size v n (g.S.Device.failed c.write_rescue.new.source) (g.T.Device.bytes c.args.target.now) w) before
    (subst (λ (l : List ℕ). WritesReadAnew places c.in_ok-size.size l (g.S.Device.failed c.accepted_header.new.device) (g.S.Device.failed c.write_rescue.new.source) (g.T.Device.bytes c.args.target.now) w) same
    (c.write_rescue.ensures.order source tells large)))

pub returns-clause-same : goal.returns-clause-same
returns-clause-same g c = λ source tells f bad.
    let v : List ℕ = g.S.Device.bytes c.args.source.now in
    let is = c.in_ok-header.ensures.read source in
    let room = c.in_ok-size.ensures.within in
    let total = c.len.ensures in
    absurd ((can_back_up v c.args.payload (g.T.Device.size c.args.target.now) c.in_ok-size.size (c.in_ok-header.ensures.formed source) (c.in_ok-size.ensures.size v is) (omega (arith, room, total))).none f bad)

pub returns-clause-rest : goal.returns-clause-rest
returns-clause-rest g c = λ source tells.
    let v : List ℕ = g.S.Device.bytes c.args.source.now in
    of_backup v c.args.payload c.in_ok-size.size (c.in_ok-size.ensures.size v (c.in_ok-header.ensures.read source)) (c.write_rescue.ensures.rest tells)

pub returns-clause-order : goal.returns-clause-order
returns-clause-order g c = λ source tells.
    let v : List ℕ = g.S.Device.bytes c.args.source.now in
    let w : List ℕ = g.T.Device.bytes c.write_rescue.new.target in
    let header = c.in_ok-header.header in
    let places = c.places_of-places.result in
    let laid = c.places_of-places.ensures in
    let is = c.in_ok-header.ensures.read source in
    let well = c.in_ok-header.ensures.formed source in
    let long_v : length v ≡ g.S.Device.size c.args.source.now = g.met.S.Device.sized c.args.source.now source in
    let long_w : length w ≡ g.T.Device.size c.args.target.now = g.met.T.Device.sized c.write_rescue.new.target tells ∙ c.write_rescue.ensures.size in
    let fits = c.in_ok-header.ensures.fits in
    let apart_ = apart header places laid c.args.payload (g.S.Device.size c.args.source.now) fits in
    let there = subst (AreInside places) (sym long_v) (inside header places laid c.args.payload (g.S.Device.size c.args.source.now) fits) in
    let lead = lead_within header places laid in
    let total = c.len.ensures in
    let small = c.in_ok-size.ensures.within in
    let room : c.in_ok-size.size ≤ length w = omega (arith, long_w, total, small) in
    let in_size = inside header places laid Elsewhere c.in_ok-size.size c.in_ok-judge_header.ensures.fits in
    let within = inside_larger places c.in_ok-size.size (length w) room in_size in
    let same = c.in_ok-header.ensures.unchanged.same source in
    let before = c.in_ok-header.ensures.count in
    let large : 512 ≤ c.in_ok-size.size = large_size v header is places laid c.in_ok-size.size in_size in
    rescues_in_turn v c.args.payload header is places laid well apart_ there lead c.in_ok-size.size (c.in_ok-size.ensures.size v is) in_size (g.S.Device.failed c.args.source.now) (g.S.Device.failed c.write_rescue.new.source)
    (g.T.Device.bytes c.args.target.now) w
    (subst (λ (n : ℕ). WritesReadAnew places c.in_ok-size.size v n (g.S.Device.failed c.write_rescue.new.source) (g.T.Device.bytes c.args.target.now) w) before
    (subst (λ (l : List ℕ). WritesReadAnew places c.in_ok-size.size l (g.S.Device.failed c.accepted_header.new.device) (g.S.Device.failed c.write_rescue.new.source) (g.T.Device.bytes c.args.target.now) w) same
    (c.write_rescue.ensures.order source tells large)))

-- ---- the backup was made

pub returns-clause-faultless : goal.returns-clause-faultless
returns-clause-faultless g c = λ source.
    let v : List ℕ = g.S.Device.bytes c.args.source.now in
    let is = c.in_ok-header.ensures.read source in
    let room = c.in_ok-size.ensures.within in
    let total = c.len.ensures in
    can_back_up v c.args.payload (g.T.Device.size c.args.target.now) c.in_ok-size.size (c.in_ok-header.ensures.formed source) (c.in_ok-size.ensures.size v is) (omega (arith, room, total))

pub returns-clause-rescued : goal.returns-clause-rescued
returns-clause-rescued g c = λ source tells.
    let v : List ℕ = g.S.Device.bytes c.args.source.now in
    let w : List ℕ = g.T.Device.bytes c.write_rescue.new.target in
    let header = c.in_ok-header.header in
    let places = c.places_of-places.result in
    let laid = c.places_of-places.ensures in
    let is = c.in_ok-header.ensures.read source in
    let well = c.in_ok-header.ensures.formed source in
    let long_v : length v ≡ g.S.Device.size c.args.source.now = g.met.S.Device.sized c.args.source.now source in
    let long_w : length w ≡ g.T.Device.size c.args.target.now = g.met.T.Device.sized c.write_rescue.new.target tells ∙ c.write_rescue.ensures.size in
    let fits = c.in_ok-header.ensures.fits in
    let apart_ = apart header places laid c.args.payload (g.S.Device.size c.args.source.now) fits in
    let there = subst (AreInside places) (sym long_v) (inside header places laid c.args.payload (g.S.Device.size c.args.source.now) fits) in
    let lead = lead_within header places laid in
    let total = c.len.ensures in
    let small = c.in_ok-size.ensures.within in
    let room : c.in_ok-size.size ≤ length w = omega (arith, long_w, total, small) in
    let in_size = inside header places laid Elsewhere c.in_ok-size.size c.in_ok-judge_header.ensures.fits in
    let within = inside_larger places c.in_ok-size.size (length w) room in_size in
    let same = c.in_ok-header.ensures.unchanged.same source in
    let before = c.in_ok-header.ensures.count in
    let keyslots = c.in_ok-keyslots.keyslots in
    let rose : g.S.Device.failed c.args.source.now ≤ g.S.Device.failed c.write_rescue.new.source = (let count = c.in_ok-keyslots.ensures.count.0 in omega (arith, count, before)) in
    let k : ℕ = c.failures-after.result - c.failures-before.result in
    let after_is = c.failures-after.ensures in
    let before_is = c.failures-before.ensures in
    let left = left_since (g.S.Device.tells × g.T.Device.tells) (source, tells) places (g.S.Device.bytes c.accepted_header.new.device) v w (g.S.Device.failed c.accepted_header.new.device) (g.S.Device.failed c.args.source.now) (g.S.Device.failed c.write_rescue.new.source) keyslots same before
    c.in_ok-keyslots.ensures.rescued in
    let is_size = c.in_ok-size.ensures.size v is in
    let held = subst (λ (l : List ℕ). HoldsHeader places l w) same (c.in_ok-keyslots.ensures.header source tells) in
    subst (IsRescue v c.args.payload (g.S.Device.failed c.args.source.now) (g.S.Device.failed c.write_rescue.new.source) (g.T.Device.bytes c.args.target.now) w) (sym c.lost_of.ensures)
    (rescue_made v c.args.payload header is places laid well apart_ there lead w within (g.S.Device.failed c.args.source.now) (g.S.Device.failed c.write_rescue.new.source) keyslots left
    (g.T.Device.bytes c.args.target.now) c.in_ok-size.size is_size room (c.write_rescue.ensures.rest tells) held (c.in_ok-keyslots.ensures.lead tells) (c.in_ok-keyslots.ensures.zeros tells)
    (lost_by k keyslots)
    (marks_tell k keyslots (λ none. none_marked (Unit {0}) places v w _ _ keyslots (omega (arith, none, rose, after_is, before_is, before)) left)) (marks_told k keyslots))

pub returns-clause-backup : goal.returns-clause-backup
returns-clause-backup g c = λ source tells.
    let v : List ℕ = g.S.Device.bytes c.args.source.now in
    let w : List ℕ = g.T.Device.bytes c.write_rescue.new.target in
    let header = c.in_ok-header.header in
    let places = c.places_of-places.result in
    let laid = c.places_of-places.ensures in
    let is = c.in_ok-header.ensures.read source in
    let well = c.in_ok-header.ensures.formed source in
    let long_v : length v ≡ g.S.Device.size c.args.source.now = g.met.S.Device.sized c.args.source.now source in
    let long_w : length w ≡ g.T.Device.size c.args.target.now = g.met.T.Device.sized c.write_rescue.new.target tells ∙ c.write_rescue.ensures.size in
    let fits = c.in_ok-header.ensures.fits in
    let apart_ = apart header places laid c.args.payload (g.S.Device.size c.args.source.now) fits in
    let there = subst (AreInside places) (sym long_v) (inside header places laid c.args.payload (g.S.Device.size c.args.source.now) fits) in
    let lead = lead_within header places laid in
    let total = c.len.ensures in
    let small = c.in_ok-size.ensures.within in
    let room : c.in_ok-size.size ≤ length w = omega (arith, long_w, total, small) in
    let in_size = inside header places laid Elsewhere c.in_ok-size.size c.in_ok-judge_header.ensures.fits in
    let within = inside_larger places c.in_ok-size.size (length w) room in_size in
    let same = c.in_ok-header.ensures.unchanged.same source in
    let before = c.in_ok-header.ensures.count in
    let keyslots = c.in_ok-keyslots.keyslots in
    let rose : g.S.Device.failed c.args.source.now ≤ g.S.Device.failed c.write_rescue.new.source = (let count = c.in_ok-keyslots.ensures.count.0 in omega (arith, count, before)) in
    let k : ℕ = c.failures-after.result - c.failures-before.result in
    let after_is = c.failures-after.ensures in
    let before_is = c.failures-before.ensures in
    let left = left_since (g.S.Device.tells × g.T.Device.tells) (source, tells) places (g.S.Device.bytes c.accepted_header.new.device) v w (g.S.Device.failed c.accepted_header.new.device) (g.S.Device.failed c.args.source.now) (g.S.Device.failed c.write_rescue.new.source) keyslots same before
    c.in_ok-keyslots.ensures.rescued in
    let is_size = c.in_ok-size.ensures.size v is in
    let held = subst (λ (l : List ℕ). HoldsHeader places l w) same (c.in_ok-keyslots.ensures.header source tells) in
    λ none. rescue_whole v c.args.payload header is places laid well apart_ there lead w within (g.S.Device.failed c.args.source.now) (g.S.Device.failed c.write_rescue.new.source) keyslots left
    (g.T.Device.bytes c.args.target.now) c.in_ok-size.size is_size room (c.write_rescue.ensures.rest tells) held (c.in_ok-keyslots.ensures.lead tells) (c.in_ok-keyslots.ensures.zeros tells)
    (lost_by k keyslots)
    (marks_tell k keyslots (λ none. none_marked (Unit {0}) places v w _ _ keyslots (omega (arith, none, rose, after_is, before_is, before)) left)) (marks_told k keyslots)
    (λ n lost. subst (λ o. IsLost o n) (sym c.lost_of.ensures ∙ none) lost)

pub returns-clause-well_formed : goal.returns-clause-well_formed
returns-clause-well_formed g c = λ source tells.
    let v : List ℕ = g.S.Device.bytes c.args.source.now in
    let w : List ℕ = g.T.Device.bytes c.write_rescue.new.target in
    let header = c.in_ok-header.header in
    let places = c.places_of-places.result in
    let laid = c.places_of-places.ensures in
    let is = c.in_ok-header.ensures.read source in
    let well = c.in_ok-header.ensures.formed source in
    let long_v : length v ≡ g.S.Device.size c.args.source.now = g.met.S.Device.sized c.args.source.now source in
    let long_w : length w ≡ g.T.Device.size c.args.target.now = g.met.T.Device.sized c.write_rescue.new.target tells ∙ c.write_rescue.ensures.size in
    let fits = c.in_ok-header.ensures.fits in
    let apart_ = apart header places laid c.args.payload (g.S.Device.size c.args.source.now) fits in
    let there = subst (AreInside places) (sym long_v) (inside header places laid c.args.payload (g.S.Device.size c.args.source.now) fits) in
    let lead = lead_within header places laid in
    let total = c.len.ensures in
    let small = c.in_ok-size.ensures.within in
    let room : c.in_ok-size.size ≤ length w = omega (arith, long_w, total, small) in
    let in_size = inside header places laid Elsewhere c.in_ok-size.size c.in_ok-judge_header.ensures.fits in
    let within = inside_larger places c.in_ok-size.size (length w) room in_size in
    let same = c.in_ok-header.ensures.unchanged.same source in
    let before = c.in_ok-header.ensures.count in
    let keyslots = c.in_ok-keyslots.keyslots in
    let rose : g.S.Device.failed c.args.source.now ≤ g.S.Device.failed c.write_rescue.new.source = (let count = c.in_ok-keyslots.ensures.count.0 in omega (arith, count, before)) in
    let k : ℕ = c.failures-after.result - c.failures-before.result in
    let after_is = c.failures-after.ensures in
    let before_is = c.failures-before.ensures in
    let left = left_since (g.S.Device.tells × g.T.Device.tells) (source, tells) places (g.S.Device.bytes c.accepted_header.new.device) v w (g.S.Device.failed c.accepted_header.new.device) (g.S.Device.failed c.args.source.now) (g.S.Device.failed c.write_rescue.new.source) keyslots same before
    c.in_ok-keyslots.ensures.rescued in
    let is_size = c.in_ok-size.ensures.size v is in
    let held = subst (λ (l : List ℕ). HoldsHeader places l w) same (c.in_ok-keyslots.ensures.header source tells) in
    formed_new v c.args.payload header is places laid well apart_ there lead w within (g.S.Device.failed c.args.source.now) (g.S.Device.failed c.write_rescue.new.source) keyslots left
    (g.T.Device.bytes c.args.target.now) c.in_ok-size.size is_size room (c.write_rescue.ensures.rest tells) held (c.in_ok-keyslots.ensures.lead tells) (c.in_ok-keyslots.ensures.zeros tells)

pub returns-clause-answers : goal.returns-clause-answers
returns-clause-answers g c = λ source tells.
    let v : List ℕ = g.S.Device.bytes c.args.source.now in
    let w : List ℕ = g.T.Device.bytes c.write_rescue.new.target in
    let header = c.in_ok-header.header in
    let places = c.places_of-places.result in
    let laid = c.places_of-places.ensures in
    let is = c.in_ok-header.ensures.read source in
    let well = c.in_ok-header.ensures.formed source in
    let long_v : length v ≡ g.S.Device.size c.args.source.now = g.met.S.Device.sized c.args.source.now source in
    let long_w : length w ≡ g.T.Device.size c.args.target.now = g.met.T.Device.sized c.write_rescue.new.target tells ∙ c.write_rescue.ensures.size in
    let fits = c.in_ok-header.ensures.fits in
    let apart_ = apart header places laid c.args.payload (g.S.Device.size c.args.source.now) fits in
    let there = subst (AreInside places) (sym long_v) (inside header places laid c.args.payload (g.S.Device.size c.args.source.now) fits) in
    let lead = lead_within header places laid in
    let total = c.len.ensures in
    let small = c.in_ok-size.ensures.within in
    let room : c.in_ok-size.size ≤ length w = omega (arith, long_w, total, small) in
    let in_size = inside header places laid Elsewhere c.in_ok-size.size c.in_ok-judge_header.ensures.fits in
    let within = inside_larger places c.in_ok-size.size (length w) room in_size in
    let same = c.in_ok-header.ensures.unchanged.same source in
    let before = c.in_ok-header.ensures.count in
    let keyslots = c.in_ok-keyslots.keyslots in
    let rose : g.S.Device.failed c.args.source.now ≤ g.S.Device.failed c.write_rescue.new.source = (let count = c.in_ok-keyslots.ensures.count.0 in omega (arith, count, before)) in
    let k : ℕ = c.failures-after.result - c.failures-before.result in
    let after_is = c.failures-after.ensures in
    let before_is = c.failures-before.ensures in
    let left = left_since (g.S.Device.tells × g.T.Device.tells) (source, tells) places (g.S.Device.bytes c.accepted_header.new.device) v w (g.S.Device.failed c.accepted_header.new.device) (g.S.Device.failed c.args.source.now) (g.S.Device.failed c.write_rescue.new.source) keyslots same before
    c.in_ok-keyslots.ensures.rescued in
    let is_size = c.in_ok-size.ensures.size v is in
    let held = subst (λ (l : List ℕ). HoldsHeader places l w) same (c.in_ok-keyslots.ensures.header source tells) in
    subst (AnswersUnlessLost v w) (sym c.lost_of.ensures)
    (rescue_answers v c.args.payload header is places laid well apart_ there lead w within (g.S.Device.failed c.args.source.now) (g.S.Device.failed c.write_rescue.new.source) keyslots left
    (g.T.Device.bytes c.args.target.now) c.in_ok-size.size is_size room (c.write_rescue.ensures.rest tells) held (c.in_ok-keyslots.ensures.lead tells) (c.in_ok-keyslots.ensures.zeros tells)
    (lost_by k keyslots)
    (marks_tell k keyslots (λ none. none_marked (Unit {0}) places v w _ _ keyslots (omega (arith, none, rose, after_is, before_is, before)) left)) (marks_told k keyslots))
