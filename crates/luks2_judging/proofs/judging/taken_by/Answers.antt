use Rattle.std.proofs.Common.{◌≡◌, List, ℕ, length, sym, ◌∙◌}
use Rattle.std.specs.Prelude.{⊤}
use Rattle.std.proofs.lemmas.Result.{err_from_is_err_and}
use Rattle.luks_edit.specs.Endings.{refused_ends, refusing}
use Rattle.luks2_edit_laws.specs.Refused.{Refusal2}
use Rattle.luks2_judging.specs.Opened.{TakesMemoryToOpen}
use Rattle.luks2_judging.proofs.TakenFacts.{unrefused}
use Rattle.luks2_judging.proofs.judging.taken_by.Goals as goal

pub returns-in_err-areas-clause-refused : goal.returns-in_err-areas-clause-refused
returns-in_err-areas-clause-refused g c = λ tells is.
    let v = g.D.Device.bytes c.args.device.now in
    let size : length v ≡ c.len-total.result = g.met.D.Device.sized c.args.device.now tells ∙ sym c.len-total.ensures in
    let f = c.in_err-areas.field-0.0 in
    let p = err_from_is_err_and c.from_residual.result c.from_residual.ensures.1 in
    rw (p.1, p.2)
    (refused_ends (λ g. (random : List ℕ) → Refusal2 v c.args.payload c.args.edit.now random g) (TakesMemoryToOpen v c.args.edit.now) ⊤ f
    (refusing f c.in_err-areas.ensures.memory c.in_err-areas.ensures.own) (λ random. c.in_err-areas.ensures.refused v random is size))

pub returns-clause-unrefused : goal.returns-clause-unrefused
returns-clause-unrefused g c = λ tells is.
    let v = g.D.Device.bytes c.args.device.now in
    let size : length v ≡ c.len-total.result = g.met.D.Device.sized c.args.device.now tells ∙ sym c.len-total.ensures in
    unrefused c.args.copy.now v c.args.payload c.args.edit.now c.judge_with_key.result
    (c.in_ok-areas.ensures.well v is size) (c.judge_with_key.ensures.seals tells is c.args.payload (λ random. c.in_ok-areas.ensures.passed v random is size))
    (c.judge_with_key.ensures.passed tells is c.args.payload (λ random. c.in_ok-areas.ensures.passed v random is size))

pub returns-clause-refused : goal.returns-clause-refused
returns-clause-refused g c = λ tells is.
    let v = g.D.Device.bytes c.args.device.now in
    let size : length v ≡ c.len-total.result = g.met.D.Device.sized c.args.device.now tells ∙ sym c.len-total.ensures in
    c.judge_with_key.ensures.refused tells is c.args.payload (c.in_ok-areas.ensures.well v is size) (λ random. c.in_ok-areas.ensures.passed v random is size)
