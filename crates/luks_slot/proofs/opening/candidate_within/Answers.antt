use Rattle.std.proofs.Common.{rules, ◌∙◌, ap}
use Rattle.std.proofs.lemmas.Result.{err_from_is_err_and}
use Rattle.luks_slot.proofs.DerivationFacts.{refusal_answered, uncounted}
use Rattle.luks_slot.proofs.OpeningFacts.{candidate_read}
use Rattle.luks_slot.proofs.opening.candidate_within.Goals as goal

pub returns-clause-value : goal.returns-clause-value
returns-clause-value g c tells =
    let plan = c.args.plan.now in
    let v = g.D.Device.bytes c.args.device.now in
    let reader = c.new-reader in
    candidate_read plan v c.args.passphrase.now reader.result.key
    c.read_candidate.new.out reader.result.area _ c.in_ok-parameters.parameters.splitter_hash
    (c.in_ok-read_candidate.ensures.value tells) c.requires.long (ap (λ a. a.start) reader.ensures.area ∙ c.stripes_area.ensures.start)
    (ap (λ a. a.len) reader.ensures.area ∙ c.stripes_area.ensures.len) c.requires.sectors
    (reader.ensures.key ∙ c.in_ok-key.ensures.key) c.in_ok-parameters.ensures.are.splitter_hash

pub returns-in_err-parameters-clause-fault : goal.returns-in_err-parameters-clause-fault
returns-in_err-parameters-clause-fault g c =
    let p = err_from_is_err_and c.from_residual.result c.from_residual.ensures.1 in
    rw (p.1, p.2) (refusal_answered c.args.allowed c.args.plan.now c.in_err-parameters.field-0.0 c.in_err-parameters.ensures.refused)

pub returns-in_err-parameters-clause-count : goal.returns-in_err-parameters-clause-count
returns-in_err-parameters-clause-count g c =
    let p = err_from_is_err_and c.from_residual.result c.from_residual.ensures.1 in
    rw (p.1, p.2) (uncounted c.args.allowed c.args.plan.now c.in_err-parameters.field-0.0 (g.D.Device.failed c.args.device.now) c.in_err-parameters.ensures.refused)
