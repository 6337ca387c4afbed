use Rattle.std.proofs.Common.{◌≡◌, ◌-◌, ℕ, List, inl, inr, subst}
use Rattle.luks_area.specs.Ranges.{part}
use Rattle.luks_area.proofs.RangeFacts.{same_but-then}
use Rattle.luks_reading.proofs.CheckFacts.{on_ok}
use Rattle.luks_keeping.proofs.PlaceFacts.{header_held, of_first, of_second, second_stays, whole_copied}
use Rattle.luks_keeping.proofs.copying.copy_header.Goals as goal

pub returns-in_err-copy_area-clause-rest : goal.returns-in_err-copy_area-clause-rest
returns-in_err-copy_area-clause-rest g c = λ tells. of_second c.args.places.now c.requires.lead (c.copy_area.ensures.rest tells)

pub returns-in_err-copy_area-clause-order : goal.returns-in_err-copy_area-clause-order
returns-in_err-copy_area-clause-order g c = λ source tells. inl (c.copy_area.ensures.rest tells)

pub returns-clause-rest : goal.returns-clause-rest
returns-clause-rest g c = λ tells.
    same_but-then (of_second c.args.places.now c.requires.lead (c.copy_area.ensures.rest tells)) (of_first c.args.places.now c.requires.lead (c.copy_area-2.ensures.rest tells))

pub returns-clause-order : goal.returns-clause-order
returns-clause-order g c = λ source tells.
    let s : List ℕ = g.S.Device.bytes c.args.source.now in
    let b : List ℕ = g.T.Device.bytes c.copy_area.new.target in
    inr (
      same_but-then (of_second c.args.places.now c.requires.lead (c.copy_area.ensures.rest tells)) (of_first c.args.places.now c.requires.lead (c.copy_area-2.ensures.rest tells)),
      second_stays c.args.places.now c.requires.lead s b (g.T.Device.bytes c.copy_area-2.new.target) (c.copy_area-2.ensures.rest tells)
          (whole_copied s b c.args.places.now.first c.args.places.now.second (c.in_ok-copy_area.ensures.copied source tells)),
    )

pub returns-clause-copied : goal.returns-clause-copied
returns-clause-copied g c = λ source tells.
    let s : List ℕ = g.S.Device.bytes c.args.source.now in
    let b : List ℕ = g.T.Device.bytes c.copy_area.new.target in
    let w : List ℕ = g.T.Device.bytes c.copy_area-2.new.target in
    let lead : ℕ = c.args.places.now.lead in
    let first : ℕ = c.args.places.now.first in
    let second : ℕ = c.args.places.now.second in
    let there = second_stays c.args.places.now c.requires.lead s b w (c.copy_area-2.ensures.rest tells) (whole_copied s b first second (c.in_ok-copy_area.ensures.copied source tells)) in
    on_ok c.copy_area-2.result (λ begins.
    header_held c.args.places.now c.requires.lead s w there
    (subst (λ (l : List ℕ). part w lead (first - lead) ≡ part l lead (first - lead)) (c.in_ok-copy_area.ensures.copies.kept.same source)
    (whole_copied (g.S.Device.bytes c.copy_area.new.source) w lead (first - lead) begins)))
    (c.copy_area-2.ensures.copied source tells)
