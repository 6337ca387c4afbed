use Rattle.std.proofs.Common.{◌≡◌, ℕ, List, true, false, sym, ap, subst, ◌∙◌, arith}
use Rattle.std.proofs.lemmas.Bool.{false≢true, true≢false}
use Rattle.std.proofs.lemmas.Result.{err_from_is_err_and}
use Rattle.luks_area.specs.Device.{count_after, unchanged-then}
use Rattle.luks_writing.proofs.CountFacts.{counts_first, counts_none, one_failure}
use Rattle.luks_keeping.specs.BackupFaults.{checked_backup, is_backup_failure, IsAnsweredBackup, IsShort}
use Rattle.luks_keeping.specs.Places.{AreInside}
use Rattle.luks_keeping.proofs.BackupFacts.{answered_refusal, answered_short, answers_alike, backup_of, can_back_up, is_backup, no_failure, of_backup, same_failure, well_formed}
use Rattle.luks_keeping.proofs.LaidFacts.{apart, inside, lead_within}
use Rattle.luks_keeping.proofs.SizeFacts.{fits_elsewhere}
use Rattle.luks_keeping.proofs.TurnFacts.{anew_of}
use Rattle.luks_keeping.proofs.VolumeFacts.{own_formed}
use Rattle.luks_keeping.proofs.backing_up.backup.Goals as goal

pub write_backup-requires-clause-lead : goal.write_backup-requires-clause-lead
write_backup-requires-clause-lead g c = lead_within c.in_ok-header.header c.places_of-places.result c.places_of-places.ensures

pub write_backup-requires-clause-apart : goal.write_backup-requires-clause-apart
write_backup-requires-clause-apart g c = apart c.in_ok-header.header c.places_of-places.result c.places_of-places.ensures c.args.payload (g.S.Device.size c.args.source.now) c.in_ok-header.ensures.fits

pub write_backup-requires-clause-there : goal.write_backup-requires-clause-there
write_backup-requires-clause-there g c =
    subst (AreInside c.places_of-places.result) (sym c.in_ok-header.ensures.unchanged.size)
    (inside c.in_ok-header.header c.places_of-places.result c.places_of-places.ensures c.args.payload (g.S.Device.size c.args.source.now) c.in_ok-header.ensures.fits)

pub write_backup-requires-clause-within : goal.write_backup-requires-clause-within
write_backup-requires-clause-within g c = inside c.in_ok-header.header c.places_of-places.result c.places_of-places.ensures _ c.in_ok-size.size c.in_ok-judge_header.ensures.fits

-- ---- the source isn't accepted

pub returns-in_err-header-clause-count : goal.returns-in_err-header-clause-count
returns-in_err-header-clause-count g c =
    let p = err_from_is_err_and c.from_residual.result c.from_residual.ensures.1 in
    rw (p.1, p.2) (counts_first (is_backup_failure (checked_backup c.in_err-header.field-0.0)) _ _ _
    (c.in_err-header.ensures.count ∙ ap (λ b. count_after b (g.S.Device.failed c.args.source.now)) (sym (same_failure c.in_err-header.field-0.0))))

pub returns-in_err-header-clause-fault : goal.returns-in_err-header-clause-fault
returns-in_err-header-clause-fault g c = λ source.
    let p = err_from_is_err_and c.from_residual.result c.from_residual.ensures.1 in
    rw (p.1, p.2) (answered_refusal (g.S.Device.bytes c.args.source.now) c.args.payload (g.T.Device.size c.args.target.now) c.in_err-header.field-0.0 (c.in_err-header.ensures.refused source))

-- ---- the backup was made

pub returns-clause-backup : goal.returns-clause-backup
returns-clause-backup g c = λ source tells.
    let v : List ℕ = g.S.Device.bytes c.args.source.now in
    let w : List ℕ = g.T.Device.bytes c.write_backup.new.target in
    let is = c.in_ok-header.ensures.read source in
    let room = c.in_ok-size.ensures.within in
    let total = c.len.ensures in
    let made = backup_of v c.args.payload c.in_ok-header.header is c.places_of-places.result c.places_of-places.ensures c.in_ok-size.size (c.in_ok-size.ensures.size v is) (c.in_ok-header.ensures.formed source) _ (g.T.Device.bytes c.args.target.now) w
    (g.T.Device.size c.args.target.now) (c.in_ok-header.ensures.unchanged.same source) (g.met.T.Device.sized c.write_backup.new.target tells ∙ c.write_backup.ensures.size) (omega (arith, room, total))
    (c.write_backup.ensures.rest tells) (c.in_ok-write_backup.ensures.copied source tells) (c.in_ok-write_backup.ensures.lead tells) (c.in_ok-write_backup.ensures.zeros tells) in
    is_backup v c.args.payload c.in_ok-header.header c.places_of-places.result c.in_ok-size.size (g.T.Device.bytes c.args.target.now) w made

-- ---- the target is too small

pub returns-in_err-size-clause-count : goal.returns-in_err-size-clause-count
returns-in_err-size-clause-count g c =
    let p = err_from_is_err_and c.from_residual-in_err-size.result c.from_residual-in_err-size.ensures.1 in
    rw (p.1, p.2) (counts_none (is_backup_failure c.in_err-size.field-0.0) _ _ _ (ap is_backup_failure c.in_err-size.ensures.own) c.in_ok-header.ensures.count)

pub returns-in_err-size-clause-fault : goal.returns-in_err-size-clause-fault
returns-in_err-size-clause-fault g c = λ source.
    let v : List ℕ = g.S.Device.bytes c.args.source.now in
    let p = err_from_is_err_and c.from_residual-in_err-size.result c.from_residual-in_err-size.ensures.1 in
    let short = subst (IsShort v c.args.payload) c.len.ensures (c.in_err-size.ensures.short v (c.in_ok-header.ensures.read source)) in
    rw (p.1, p.2) (subst (IsAnsweredBackup v c.args.payload (g.T.Device.size c.args.target.now)) (sym c.in_err-size.ensures.own)
    (answered_short v c.args.payload (g.T.Device.size c.args.target.now) (c.in_ok-header.ensures.formed source) short))

-- ---- what is kept of an accepted volume is accepted

pub returns-in_err-judge_header-clause-count : goal.returns-in_err-judge_header-clause-count
returns-in_err-judge_header-clause-count g c =
    let p = err_from_is_err_and c.from_residual-in_err-judge_header.result c.from_residual-in_err-judge_header.ensures.1 in
    rw (p.1, p.2) (counts_none (is_backup_failure (checked_backup c.in_err-judge_header.field-0.0)) _ _ _ (no_failure c.in_err-judge_header.field-0.0 c.in_err-judge_header.ensures.device) c.in_ok-header.ensures.count)

pub returns-in_err-judge_header-clause-fault : goal.returns-in_err-judge_header-clause-fault
returns-in_err-judge_header-clause-fault g c = λ source.
    let v : List ℕ = g.S.Device.bytes c.args.source.now in
    let is = c.in_ok-header.ensures.read source in
    absurd (false≢true (c.in_err-judge_header.ensures.only v is (fits_elsewhere v c.args.payload c.in_ok-size.size (own_formed v c.args.payload (c.in_ok-header.ensures.formed source)) (c.in_ok-size.ensures.size v is))))

-- ---- the backup was written

pub returns-clause-faultless : goal.returns-clause-faultless
returns-clause-faultless g c = λ source.
    let v : List ℕ = g.S.Device.bytes c.args.source.now in
    let is = c.in_ok-header.ensures.read source in
    let room = c.in_ok-size.ensures.within in
    let total = c.len.ensures in
    can_back_up v c.args.payload (g.T.Device.size c.args.target.now) c.in_ok-size.size (c.in_ok-header.ensures.formed source) (c.in_ok-size.ensures.size v is) (omega (arith, room, total))

pub returns-clause-same : goal.returns-clause-same
returns-clause-same g c = λ source tells f bad.
    let v : List ℕ = g.S.Device.bytes c.args.source.now in
    let is = c.in_ok-header.ensures.read source in
    let room = c.in_ok-size.ensures.within in
    let total = c.len.ensures in
    absurd ((can_back_up v c.args.payload (g.T.Device.size c.args.target.now) c.in_ok-size.size (c.in_ok-header.ensures.formed source) (c.in_ok-size.ensures.size v is) (omega (arith, room, total))).none f bad)

pub returns-in_err-write_backup-clause-same : goal.returns-in_err-write_backup-clause-same
returns-in_err-write_backup-clause-same g c = λ source tells f bad.
    let v : List ℕ = g.S.Device.bytes c.args.source.now in
    let is = c.in_ok-header.ensures.read source in
    let room = c.in_ok-size.ensures.within in
    let total = c.len.ensures in
    absurd ((can_back_up v c.args.payload (g.T.Device.size c.args.target.now) c.in_ok-size.size (c.in_ok-header.ensures.formed source) (c.in_ok-size.ensures.size v is) (omega (arith, room, total))).none f bad)

pub returns-in_err-write_backup-clause-count : goal.returns-in_err-write_backup-clause-count
returns-in_err-write_backup-clause-count g c =
    let p = err_from_is_err_and c.from_residual-in_err-write_backup.result c.from_residual-in_err-write_backup.ensures.1 in
    rw (p.1, p.2) (one_failure c.in_ok-header.ensures.count c.in_err-write_backup.ensures.count)

pub returns-in_err-write_backup-clause-refused : goal.returns-in_err-write_backup-clause-refused
returns-in_err-write_backup-clause-refused g c =
    let p = err_from_is_err_and c.from_residual-in_err-write_backup.result c.from_residual-in_err-write_backup.ensures.1 in
    rw (p.1, p.2) (λ (own : true ≡ false). absurd (true≢false own))

pub returns-in_err-write_backup-clause-kept : goal.returns-in_err-write_backup-clause-kept
returns-in_err-write_backup-clause-kept g c = unchanged-then c.in_ok-header.ensures.unchanged c.in_err-write_backup.ensures.kept

pub returns-clause-kept : goal.returns-clause-kept
returns-clause-kept g c = unchanged-then c.in_ok-header.ensures.unchanged c.in_ok-write_backup.ensures.kept

pub returns-in_err-write_backup-clause-rest : goal.returns-in_err-write_backup-clause-rest
returns-in_err-write_backup-clause-rest g c = λ source tells.
    let v : List ℕ = g.S.Device.bytes c.args.source.now in
    of_backup v c.args.payload c.in_ok-size.size (c.in_ok-size.ensures.size v (c.in_ok-header.ensures.read source)) (c.write_backup.ensures.rest tells)

pub returns-clause-rest : goal.returns-clause-rest
returns-clause-rest g c = λ source tells.
    let v : List ℕ = g.S.Device.bytes c.args.source.now in
    of_backup v c.args.payload c.in_ok-size.size (c.in_ok-size.ensures.size v (c.in_ok-header.ensures.read source)) (c.write_backup.ensures.rest tells)

pub returns-clause-well_formed : goal.returns-clause-well_formed
returns-clause-well_formed g c = λ source tells.
    let v : List ℕ = g.S.Device.bytes c.args.source.now in
    let w : List ℕ = g.T.Device.bytes c.write_backup.new.target in
    let is = c.in_ok-header.ensures.read source in
    let room = c.in_ok-size.ensures.within in
    let total = c.len.ensures in
    let made = backup_of v c.args.payload c.in_ok-header.header is c.places_of-places.result c.places_of-places.ensures c.in_ok-size.size (c.in_ok-size.ensures.size v is) (c.in_ok-header.ensures.formed source) _ (g.T.Device.bytes c.args.target.now) w
    (g.T.Device.size c.args.target.now) (c.in_ok-header.ensures.unchanged.same source) (g.met.T.Device.sized c.write_backup.new.target tells ∙ c.write_backup.ensures.size) (omega (arith, room, total))
    (c.write_backup.ensures.rest tells) (c.in_ok-write_backup.ensures.copied source tells) (c.in_ok-write_backup.ensures.lead tells) (c.in_ok-write_backup.ensures.zeros tells) in
    well_formed v c.args.payload c.in_ok-header.header c.places_of-places.result c.in_ok-size.size (g.T.Device.bytes c.args.target.now) w made

pub returns-clause-answers : goal.returns-clause-answers
returns-clause-answers g c = λ source tells.
    let v : List ℕ = g.S.Device.bytes c.args.source.now in
    let w : List ℕ = g.T.Device.bytes c.write_backup.new.target in
    let is = c.in_ok-header.ensures.read source in
    let room = c.in_ok-size.ensures.within in
    let total = c.len.ensures in
    let made = backup_of v c.args.payload c.in_ok-header.header is c.places_of-places.result c.places_of-places.ensures c.in_ok-size.size (c.in_ok-size.ensures.size v is) (c.in_ok-header.ensures.formed source) _ (g.T.Device.bytes c.args.target.now) w
    (g.T.Device.size c.args.target.now) (c.in_ok-header.ensures.unchanged.same source) (g.met.T.Device.sized c.write_backup.new.target tells ∙ c.write_backup.ensures.size) (omega (arith, room, total))
    (c.write_backup.ensures.rest tells) (c.in_ok-write_backup.ensures.copied source tells) (c.in_ok-write_backup.ensures.lead tells) (c.in_ok-write_backup.ensures.zeros tells) in
    answers_alike v c.args.payload c.in_ok-header.header c.places_of-places.result c.in_ok-size.size (g.T.Device.bytes c.args.target.now) w made

pub returns-clause-order : goal.returns-clause-order
returns-clause-order g c = λ source tells.
    let v : List ℕ = g.S.Device.bytes c.args.source.now in
    let is = c.in_ok-header.ensures.read source in
    anew_of v c.in_ok-header.header is c.places_of-places.result c.places_of-places.ensures c.args.payload c.in_ok-size.size (c.in_ok-size.ensures.size v is)
    (inside c.in_ok-header.header c.places_of-places.result c.places_of-places.ensures _ c.in_ok-size.size c.in_ok-judge_header.ensures.fits)
    _ (g.T.Device.bytes c.args.target.now) (g.T.Device.bytes c.write_backup.new.target) (c.in_ok-header.ensures.unchanged.same source) (c.write_backup.ensures.order source tells)

pub returns-in_err-write_backup-clause-order : goal.returns-in_err-write_backup-clause-order
returns-in_err-write_backup-clause-order g c = λ source tells.
    let v : List ℕ = g.S.Device.bytes c.args.source.now in
    let is = c.in_ok-header.ensures.read source in
    anew_of v c.in_ok-header.header is c.places_of-places.result c.places_of-places.ensures c.args.payload c.in_ok-size.size (c.in_ok-size.ensures.size v is)
    (inside c.in_ok-header.header c.places_of-places.result c.places_of-places.ensures _ c.in_ok-size.size c.in_ok-judge_header.ensures.fits)
    _ (g.T.Device.bytes c.args.target.now) (g.T.Device.bytes c.write_backup.new.target) (c.in_ok-header.ensures.unchanged.same source) (c.write_backup.ensures.order source tells)
