use Rattle.std.proofs.Common.{◌≡◌, ℕ, List, length, arith}
use Rattle.luks_reading.proofs.CheckFacts.{on_ok}
use Rattle.luks_keeping.proofs.ClearFacts.{all_zeros, copies_listed, first_rest, first_turn, last_front, last_gone, last_rest, last_turn, places_cleared, second_rest, second_turn}
use Rattle.luks_keeping.proofs.wiping.wipe.Goals as goal

pub returns-in_err-erase-clause-rest : goal.returns-in_err-erase-clause-rest
returns-in_err-erase-clause-rest g c = λ tells. first_rest _ _ _ c.args.size c.sector_within.ensures (c.erase.ensures.rest tells)

pub returns-in_err-erase-clause-order : goal.returns-in_err-erase-clause-order
returns-in_err-erase-clause-order g c = λ tells large. first_turn _ _ _ c.args.size c.sector_within.ensures (c.erase.ensures.rest tells)

pub returns-in_err-clear_places-clause-rest : goal.returns-in_err-clear_places-clause-rest
returns-in_err-clear_places-clause-rest g c = λ tells.
    second_rest _ _ _ c.args.size c.sector_within.ensures (c.erase.ensures.rest tells) (c.in_ok-erase.ensures.zeros tells) _ (copies_listed _ _ c.args.size (c.clear_places.ensures.rest tells))

pub returns-in_err-clear_places-clause-order : goal.returns-in_err-clear_places-clause-order
returns-in_err-clear_places-clause-order g c = λ tells large.
    second_turn _ _ _ c.args.size c.sector_within.ensures (c.erase.ensures.rest tells) (c.in_ok-erase.ensures.zeros tells) _ (copies_listed _ _ c.args.size (c.clear_places.ensures.rest tells)) large

pub returns-in_err-clear_places-2-clause-rest : goal.returns-in_err-clear_places-2-clause-rest
returns-in_err-clear_places-2-clause-rest g c = λ tells.
    second_rest _ _ _ c.args.size c.sector_within.ensures (c.erase.ensures.rest tells) (c.in_ok-erase.ensures.zeros tells) _ (places_cleared _ _ _ c.args.size (c.clear_places.ensures.rest tells) (c.clear_places-2.ensures.rest tells))

pub returns-in_err-clear_places-2-clause-order : goal.returns-in_err-clear_places-2-clause-order
returns-in_err-clear_places-2-clause-order g c = λ tells large.
    second_turn _ _ _ c.args.size c.sector_within.ensures (c.erase.ensures.rest tells) (c.in_ok-erase.ensures.zeros tells) _ (places_cleared _ _ _ c.args.size (c.clear_places.ensures.rest tells) (c.clear_places-2.ensures.rest tells)) large

pub returns-clause-rest : goal.returns-clause-rest
returns-clause-rest g c = λ tells.
    last_rest _ _ _ c.args.size c.sector_within.ensures (c.erase.ensures.rest tells) (c.in_ok-erase.ensures.zeros tells) _ (places_cleared _ _ _ c.args.size (c.clear_places.ensures.rest tells) (c.clear_places-2.ensures.rest tells))
    (c.in_ok-clear_places-2.ensures.gone tells) _ (c.wipe_between.ensures.rest tells)

pub returns-clause-order : goal.returns-clause-order
returns-clause-order g c = λ tells large.
    last_turn _ _ _ c.args.size c.sector_within.ensures (c.erase.ensures.rest tells) (c.in_ok-erase.ensures.zeros tells) _ (places_cleared _ _ _ c.args.size (c.clear_places.ensures.rest tells) (c.clear_places-2.ensures.rest tells))
    (c.in_ok-clear_places-2.ensures.gone tells) _ (c.wipe_between.ensures.rest tells) large

pub returns-clause-zeros : goal.returns-clause-zeros
returns-clause-zeros g c = λ tells.
    let x : List ℕ = g.T.Device.bytes c.wipe_between.new.target in
    let long : length x ≡ g.T.Device.size c.wipe_between.new.target = g.met.T.Device.sized c.wipe_between.new.target tells in
    let within = c.requires.within in
    let one = c.in_ok-erase.ensures.size in
    let two = c.in_ok-clear_places.ensures.size in
    let three = c.in_ok-clear_places-2.ensures.size in
    let four = c.wipe_between.ensures.size in
    on_ok c.wipe_between.result (λ between.
    all_zeros x c.sector_within.result c.args.size c.sector_within.ensures (omega (arith, long, within, one, two, three, four))
    (last_front _ _ _ c.args.size c.sector_within.ensures (c.erase.ensures.rest tells) (c.in_ok-erase.ensures.zeros tells) _ (places_cleared _ _ _ c.args.size (c.clear_places.ensures.rest tells) (c.clear_places-2.ensures.rest tells))
    (c.in_ok-clear_places-2.ensures.gone tells) x (c.wipe_between.ensures.rest tells))
    (last_gone _ _ _ c.args.size c.sector_within.ensures (c.erase.ensures.rest tells) (c.in_ok-erase.ensures.zeros tells) _ (places_cleared _ _ _ c.args.size (c.clear_places.ensures.rest tells) (c.clear_places-2.ensures.rest tells))
    (c.in_ok-clear_places-2.ensures.gone tells) x (c.wipe_between.ensures.rest tells)) between) (c.wipe_between.ensures.zeros tells)
