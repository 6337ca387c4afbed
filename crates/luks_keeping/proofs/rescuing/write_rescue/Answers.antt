use Rattle.std.proofs.Common.{sym, subst, arith, ◌∙◌}
use Rattle.luks_reading.proofs.CheckFacts.{on_ok}
use Rattle.luks_keeping.specs.Places.{AreInside}
use Rattle.luks_keeping.specs.SecondPlaces.{IsOfListed}
use Rattle.luks_keeping.proofs.ErasedFacts.{copied_but, lead_stays, listed_zeros, others_zero, zeros_front}
use Rattle.luks_keeping.proofs.LaidFacts.{inside_larger}
use Rattle.luks_keeping.proofs.OverFacts.{stays_gone, zeros_cleared}
use Rattle.luks_keeping.proofs.ReadFacts.{anew_none, anew_read}
use Rattle.luks_keeping.proofs.rescuing.write_rescue.Goals as goal

pub rescue_places-requires-clause-within : goal.rescue_places-requires-clause-within
rescue_places-requires-clause-within g c =
    subst (AreInside c.args.places.now) (sym c.in_ok-wipe.ensures.size) (inside_larger c.args.places.now c.args.size (g.T.Device.size c.args.target.now) c.requires.room c.requires.within)

pub returns-in_err-wipe-clause-order : goal.returns-in_err-wipe-clause-order
returns-in_err-wipe-clause-order g c = λ source tells large. anew_none c.args.places.now c.args.size (g.S.Device.bytes c.args.source.now) _ _ _ (c.wipe.ensures.order tells large)

pub returns-clause-rest : goal.returns-clause-rest
returns-clause-rest g c = λ tells.
    copied_but c.args.places.now c.args.size c.requires.within c.requires.lead (c.in_ok-wipe.ensures.rest tells) (c.rescue_places.ensures.rest tells)

pub returns-clause-order : goal.returns-clause-order
returns-clause-order g c = λ source tells large.
    anew_read c.args.places.now c.args.size (g.S.Device.bytes c.args.source.now) _ _ (g.T.Device.bytes c.args.target.now) (g.T.Device.bytes c.wipe.new.target) (g.T.Device.bytes c.rescue_places.new.target)
    (stays_gone c.args.places.now (IsOfListed c.args.size) (g.T.Device.bytes c.wipe.new.target) (g.T.Device.bytes c.rescue_places.new.target) c.requires.lead
    (listed_zeros (g.T.Device.bytes c.wipe.new.target) c.args.size (c.in_ok-wipe.ensures.zeros tells)) (c.rescue_places.ensures.rest tells))
    (zeros_cleared c.args.places.now (g.T.Device.bytes c.wipe.new.target) c.args.size c.requires.within.header (c.in_ok-wipe.ensures.zeros tells))
    (c.rescue_places.ensures.order source tells)

pub returns-clause-zeros : goal.returns-clause-zeros
returns-clause-zeros g c = λ tells.
    on_ok c.rescue_places.result (λ done.
    others_zero c.args.places.now c.args.size c.requires.within c.requires.lead (g.T.Device.bytes c.wipe.new.target) (g.T.Device.bytes c.rescue_places.new.target)
    (c.in_ok-wipe.ensures.zeros tells) (c.rescue_places.ensures.rest tells)) (c.rescue_places.ensures.settled tells)

pub returns-clause-lead : goal.returns-clause-lead
returns-clause-lead g c = λ tells.
    let within = c.requires.within.header in
    let lead = c.requires.lead in
    on_ok c.rescue_places.result (λ done.
    lead_stays c.args.places.now (g.T.Device.bytes c.wipe.new.target) (g.T.Device.bytes c.rescue_places.new.target) c.requires.apart c.requires.lead (c.rescue_places.ensures.rest tells)
    ∙ zeros_front (g.T.Device.bytes c.wipe.new.target) c.args.places.now.lead c.args.size (omega (arith, within, lead)) (c.in_ok-wipe.ensures.zeros tells)) (c.rescue_places.ensures.settled tells)
