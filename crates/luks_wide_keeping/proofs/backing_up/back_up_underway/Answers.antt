use Rattle.std.proofs.Common.{◌≡◌, ℕ, ◌*◌, ◌≤◌, List, length, true, false, refl, sym, ap, subst, ◌∙◌, arith}
use Rattle.std.proofs.lemmas.Bool.{true≢false}
use Rattle.std.proofs.lemmas.Result.{err_from_is_err_and}
use Rattle.luks_writing.proofs.CountFacts.{counts_none}
use Rattle.luks_reading.specs.declared.report.Data.TheVariants.{Elsewhere}
use Rattle.luks_keeping.specs.BackupFaults.{checked_backup, is_backup_failure, IsShort}
use Rattle.luks_keeping.proofs.BackupFacts.{same_failure}
use Rattle.luks_wide_keeping.specs.Backup.{IsUnderwayUnmade}
use Rattle.luks_wide_keeping.proofs.CopyFacts.{fits, least_fault}
use Rattle.luks_wide_keeping.proofs.MadeFacts.{can_back_up, has_header, made, no_memory, of_backup, reads_there, unmade_checked, unmade_short}
use Rattle.luks_wide_keeping.proofs.PlacesFacts.{apart, inside_of, lead_first, whole_region}
use Rattle.luks_wide_keeping.proofs.backing_up.back_up_underway.Goals as goal

-- ---- the places

pub write_backup-requires-clause-lead : goal.write_backup-requires-clause-lead
write_backup-requires-clause-lead g c =
    let room = c.in_ok-judge_layout.ensures.header in
    let here = c.len.ensures in
    let total = c.len-3.ensures in
    lead_first c.args.copy.now c.len-3.result c.places_of-places.result c.places_of-places.ensures (omega (arith, room, here, total))

pub write_backup-requires-clause-apart : goal.write_backup-requires-clause-apart
write_backup-requires-clause-apart g c =
    let room = c.in_ok-judge_layout.ensures.header in
    let here = c.len.ensures in
    let total = c.len-3.ensures in
    apart c.args.copy.now c.len-3.result c.places_of-places.result c.places_of-places.ensures (omega (arith, room, here, total))

pub write_backup-requires-clause-there : goal.write_backup-requires-clause-there
write_backup-requires-clause-there g c =
    let room = c.in_ok-judge_layout.ensures.header in
    let here = c.len.ensures in
    let total = c.len-3.ensures in
    inside_of c.args.copy.now c.len-3.result c.places_of-places.result c.places_of-places.ensures (omega (arith, room, here, total)) _ (omega (arith, room, here, total))

pub write_backup-requires-clause-within : goal.write_backup-requires-clause-within
write_backup-requires-clause-within g c =
    let room = c.in_ok-judge_layout.ensures.header in
    let here = c.len.ensures in
    let total = c.len-3.ensures in
    let enough : 2 * c.args.copy.now.header.hdr_size ≤ c.len-3.result = omega (arith, room, here, total) in
    let whole = whole_region c.args.copy.now c.len-3.result c.places_of-places.result c.places_of-places.ensures enough c.in_ok-size.size c.in_ok-size.ensures.whole in
    inside_of c.args.copy.now c.len-3.result c.places_of-places.result c.places_of-places.ensures enough _ (omega (arith, whole))

-- ---- the layout is refused

pub returns-in_err-judge_layout-clause-count : goal.returns-in_err-judge_layout-clause-count
returns-in_err-judge_layout-clause-count g c =
    let p = err_from_is_err_and c.from_residual.result c.from_residual.ensures.1 in
    rw (p.1, p.2) (counts_none (is_backup_failure (checked_backup c.in_err-judge_layout.field-0.0)) _ _ _ (same_failure c.in_err-judge_layout.field-0.0 ∙ c.in_err-judge_layout.ensures.own) refl)

pub returns-in_err-judge_layout-clause-fault : goal.returns-in_err-judge_layout-clause-fault
returns-in_err-judge_layout-clause-fault g c = λ source.
    let v : List ℕ = g.S.Device.bytes c.args.source.now in
    let f = c.in_err-judge_layout.field-0.0 in
    let long : c.len.result ≡ length v = c.len.ensures ∙ sym (g.met.S.Device.sized c.args.source.now source) in
    let p = err_from_is_err_and c.from_residual.result c.from_residual.ensures.1 in
    rw (p.1, p.2)
    (unmade_checked v (g.T.Device.size c.args.target.now) f c.in_err-judge_layout.ensures.own
    (least_fault v c.args.copy.now (c.requires.of source) Elsewhere (length v) f
    (rw (sym long) c.in_err-judge_layout.ensures.refused)))

-- ---- the target is too small

pub returns-in_err-size-clause-count : goal.returns-in_err-size-clause-count
returns-in_err-size-clause-count g c =
    let p = err_from_is_err_and c.from_residual-in_err-size.result c.from_residual-in_err-size.ensures.1 in
    rw (p.1, p.2) (counts_none (is_backup_failure c.in_err-size.field-0.0) _ _ _ (ap is_backup_failure c.in_err-size.ensures.own) refl)

pub returns-in_err-size-clause-fault : goal.returns-in_err-size-clause-fault
returns-in_err-size-clause-fault g c = λ source.
    let v : List ℕ = g.S.Device.bytes c.args.source.now in
    let long : c.len.result ≡ length v = c.len.ensures ∙ sym (g.met.S.Device.sized c.args.source.now source) in
    let p = err_from_is_err_and c.from_residual-in_err-size.result c.from_residual-in_err-size.ensures.1 in
    let short = subst (IsShort v Elsewhere) c.len-2.ensures (c.in_err-size.ensures.short v (c.requires.of source)) in
    rw (p.1, p.2) (subst (IsUnderwayUnmade v (g.T.Device.size c.args.target.now)) (sym c.in_err-size.ensures.own)
    (unmade_short v (g.T.Device.size c.args.target.now) (fits v c.args.copy.now (c.requires.of source) Elsewhere (length v) (rw (sym long) c.in_ok-judge_layout.ensures.fits)) short))

-- ---- the backup was written

pub returns-clause-faultless : goal.returns-clause-faultless
returns-clause-faultless g c = λ source.
    let v : List ℕ = g.S.Device.bytes c.args.source.now in
    let long : c.len.result ≡ length v = c.len.ensures ∙ sym (g.met.S.Device.sized c.args.source.now source) in
    let room = c.in_ok-size.ensures.within in
    let total = c.len-2.ensures in
    can_back_up v (g.T.Device.size c.args.target.now) c.in_ok-size.size (fits v c.args.copy.now (c.requires.of source) Elsewhere (length v) (rw (sym long) c.in_ok-judge_layout.ensures.fits))
    (c.in_ok-size.ensures.size v (c.requires.of source)) (omega (arith, room, total))

pub returns-clause-rest : goal.returns-clause-rest
returns-clause-rest g c = λ source tells payload.
    of_backup (g.S.Device.bytes c.args.source.now) c.args.copy.now (c.requires.of source) payload c.in_ok-size.size c.in_ok-size.ensures.whole (c.write_backup.ensures.rest tells)

pub returns-in_err-write_backup-clause-rest : goal.returns-in_err-write_backup-clause-rest
returns-in_err-write_backup-clause-rest g c = λ source tells payload.
    of_backup (g.S.Device.bytes c.args.source.now) c.args.copy.now (c.requires.of source) payload c.in_ok-size.size c.in_ok-size.ensures.whole (c.write_backup.ensures.rest tells)

pub returns-in_err-write_backup-clause-refused : goal.returns-in_err-write_backup-clause-refused
returns-in_err-write_backup-clause-refused g c =
    let p = err_from_is_err_and c.from_residual-in_err-write_backup.result c.from_residual-in_err-write_backup.ensures.1 in
    rw (p.1, p.2) (λ (own : true ≡ false). absurd (true≢false own))

pub returns-clause-backup : goal.returns-clause-backup
returns-clause-backup g c = λ source tells.
    let v : List ℕ = g.S.Device.bytes c.args.source.now in
    let w : List ℕ = g.T.Device.bytes c.write_backup.new.target in
    let room = c.in_ok-judge_layout.ensures.header in
    let here = c.len.ensures in
    let total = c.len-3.ensures in
    let long = g.met.S.Device.sized c.args.source.now source in
    let length_w = g.met.T.Device.sized c.write_backup.new.target tells in
    let size = c.write_backup.ensures.size in
    let within = c.in_ok-size.ensures.within in
    let target = c.len-2.ensures in
    made v c.args.copy.now (c.requires.of source) c.len-3.result c.places_of-places.result c.places_of-places.ensures (omega (arith, room, here, total))
    (g.T.Device.bytes c.args.target.now) w c.in_ok-size.size c.in_ok-size.ensures.whole (omega (arith, long, total)) (omega (arith, length_w, size, within, target))
    (c.write_backup.ensures.rest tells) (c.in_ok-write_backup.ensures.copied source tells) (c.in_ok-write_backup.ensures.lead tells) (c.in_ok-write_backup.ensures.zeros tells)

pub returns-clause-reads : goal.returns-clause-reads
returns-clause-reads g c = λ source tells other is.
    let v : List ℕ = g.S.Device.bytes c.args.source.now in
    let w : List ℕ = g.T.Device.bytes c.write_backup.new.target in
    let copy = c.args.copy.now in
    let room = c.in_ok-judge_layout.ensures.header in
    let here = c.len.ensures in
    let total = c.len-3.ensures in
    let long = g.met.S.Device.sized c.args.source.now source in
    let length_w = g.met.T.Device.sized c.write_backup.new.target tells in
    let size = c.write_backup.ensures.size in
    let within = c.in_ok-size.ensures.within in
    let target = c.len-2.ensures in
    let enough : 2 * copy.header.hdr_size ≤ c.len-3.result = omega (arith, room, here, total) in
    let whole = whole_region copy c.len-3.result c.places_of-places.result c.places_of-places.ensures enough c.in_ok-size.size c.in_ok-size.ensures.whole in
    reads_there v w copy other (c.requires.of source)
    (has_header v copy (c.requires.of source) c.len-3.result c.places_of-places.result c.places_of-places.ensures enough w (c.in_ok-write_backup.ensures.copied source tells).header (c.in_ok-write_backup.ensures.lead tells))
    (omega (arith, long, enough, total)) (omega (arith, length_w, size, within, target, whole)) is

pub returns-in_err-judge_layout-clause-no_memory : goal.returns-in_err-judge_layout-clause-no_memory
returns-in_err-judge_layout-clause-no_memory g c =
    let p = err_from_is_err_and c.from_residual.result c.from_residual.ensures.1 in
    rw (p.1, p.2) (no_memory c.in_err-judge_layout.field-0.0 c.in_err-judge_layout.ensures.no_memory)
