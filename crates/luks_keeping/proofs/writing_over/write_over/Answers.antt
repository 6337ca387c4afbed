use Rattle.std.proofs.Common.{sym, subst, arith, ◌∙◌, inr}
use Rattle.luks_reading.proofs.CheckFacts.{on_ok}
use Rattle.luks_keeping.specs.Places.{AreInside}
use Rattle.luks_keeping.specs.SecondPlaces.{IsOfCopies}
use Rattle.luks_keeping.proofs.ErasedFacts.{lead_stays, zeros_front}
use Rattle.luks_keeping.proofs.OverFacts.{cleared_then, clearing_fails, of_begun, of_both, stays_gone}
use Rattle.luks_keeping.proofs.writing_over.write_over.Goals as goal

pub copy_places-requires-clause-lead : goal.copy_places-requires-clause-lead
copy_places-requires-clause-lead g c = (let lead = c.requires.lead in omega (arith, lead))

pub copy_places-requires-clause-within : goal.copy_places-requires-clause-within
copy_places-requires-clause-within g c = subst (AreInside c.args.places.now) (sym c.in_ok-clear.ensures.size) c.requires.within

pub returns-in_err-clear-clause-rest : goal.returns-in_err-clear-clause-rest
returns-in_err-clear-clause-rest g c = λ tells. of_begun c.args.places.now c.args.limit (c.clear.ensures.rest tells)

pub returns-in_err-clear-clause-order : goal.returns-in_err-clear-clause-order
returns-in_err-clear-clause-order g c = λ source tells. clearing_fails c.args.places.now c.args.limit _ _ _ (c.clear.ensures.rest tells) (c.clear.ensures.order tells)

pub returns-clause-rest : goal.returns-clause-rest
returns-clause-rest g c = λ tells. (
    let lead = c.requires.lead in
    of_both c.args.places.now c.args.limit (omega (arith, lead)) (c.clear.ensures.rest tells) (c.copy_places.ensures.rest tells))

pub returns-clause-order : goal.returns-clause-order
returns-clause-order g c = λ source tells. (
    let lead = c.requires.lead in
    inr (inr (
      stays_gone c.args.places.now (IsOfCopies (g.T.Device.bytes c.args.target.now) c.args.limit) (g.T.Device.bytes c.clear.new.target) (g.T.Device.bytes c.copy_places.new.target) (omega (arith, lead))
          (c.in_ok-clear.ensures.gone tells) (c.copy_places.ensures.rest tells),
      cleared_then c.args.places.now _ _ _ (c.in_ok-clear.ensures.cleared tells) (c.copy_places.ensures.order source tells),
    )))

pub returns-clause-gone : goal.returns-clause-gone
returns-clause-gone g c = λ tells. (
    let lead = c.requires.lead in
    on_ok c.copy_places.result (λ done.
    stays_gone c.args.places.now (IsOfCopies (g.T.Device.bytes c.args.target.now) c.args.limit) (g.T.Device.bytes c.clear.new.target) (g.T.Device.bytes c.copy_places.new.target) (omega (arith, lead))
    (c.in_ok-clear.ensures.gone tells) (c.copy_places.ensures.rest tells)) (c.copy_places.ensures.settled tells))

pub returns-clause-lead : goal.returns-clause-lead
returns-clause-lead g c = λ tells. (
    let lead = c.requires.lead in
    on_ok c.copy_places.result (λ done.
    lead_stays c.args.places.now (g.T.Device.bytes c.clear.new.target) (g.T.Device.bytes c.copy_places.new.target) c.requires.apart (omega (arith, lead)) (c.copy_places.ensures.rest tells)
    ∙ zeros_front (g.T.Device.bytes c.clear.new.target) c.args.places.now.lead _ (omega (arith, lead)) (c.in_ok-clear.ensures.cleared tells).first) (c.copy_places.ensures.settled tells))
