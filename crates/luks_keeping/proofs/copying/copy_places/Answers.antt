use Rattle.std.proofs.Common.{ℕ, List, inl, subst}
use Rattle.luks_area.proofs.RangeFacts.{same_but-then}
use Rattle.luks_reading.proofs.CheckFacts.{on_ok}
use Rattle.luks_keeping.specs.Places.{CopiesHeader, HoldsHeader}
use Rattle.luks_keeping.proofs.PlaceFacts.{all_held, header_stays, of_areas, of_header, turn_header}
use Rattle.luks_keeping.proofs.copying.copy_places.Goals as goal

pub returns-in_err-copy_areas-clause-rest : goal.returns-in_err-copy_areas-clause-rest
returns-in_err-copy_areas-clause-rest g c = λ tells. of_areas c.args.places.now c.requires.apart c.requires.lead (c.copy_areas.ensures.rest tells)

pub returns-in_err-copy_areas-clause-order : goal.returns-in_err-copy_areas-clause-order
returns-in_err-copy_areas-clause-order g c = λ source tells. inl (header_stays c.args.places.now c.requires.apart _ _ (c.copy_areas.ensures.rest tells))

pub returns-clause-rest : goal.returns-clause-rest
returns-clause-rest g c = λ tells.
    same_but-then (of_areas c.args.places.now c.requires.apart c.requires.lead (c.copy_areas.ensures.rest tells))
    (of_header c.args.places.now c.requires.apart c.requires.lead (c.copy_header.ensures.rest tells))

pub returns-clause-order : goal.returns-clause-order
returns-clause-order g c = λ source tells.
    let s : List ℕ = g.S.Device.bytes c.args.source.now in
    let a : List ℕ = g.T.Device.bytes c.copy_areas.new.target in
    let w : List ℕ = g.T.Device.bytes c.copy_header.new.target in
    turn_header c.args.places.now c.requires.apart c.requires.lead s (g.T.Device.bytes c.args.target.now) a w
    (c.copy_areas.ensures.rest tells) (c.in_ok-copy_areas.ensures.copied source tells)
    (subst (λ (l : List ℕ). CopiesHeader c.args.places.now l a w) (c.in_ok-copy_areas.ensures.kept.same source) (c.copy_header.ensures.order source tells))

pub returns-clause-copied : goal.returns-clause-copied
returns-clause-copied g c = λ source tells.
    let s : List ℕ = g.S.Device.bytes c.args.source.now in
    let w : List ℕ = g.T.Device.bytes c.copy_header.new.target in
    on_ok c.copy_header.result (λ header.
    all_held c.args.places.now c.requires.apart c.requires.lead s (g.T.Device.bytes c.copy_areas.new.target) w
    (c.copy_header.ensures.rest tells) (c.in_ok-copy_areas.ensures.copied source tells)
    (subst (λ (l : List ℕ). HoldsHeader c.args.places.now l w) (c.in_ok-copy_areas.ensures.kept.same source) header))
    (c.copy_header.ensures.copied source tells)
