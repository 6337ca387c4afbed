use Rattle.std.proofs.Common.{◌≡◌, suc, refl, ap₂, ◌∙◌, arith, add-one}
use Rattle.luks_older_hashes.specs.Whirlpool.{cipher, round, round_key, state_after}
use Rattle.luks_older_hashes.proofs.whirlpool.compression.cipher.Goals as goal

pub loop-r-init : goal.loop-r-init
unfolding round_key state_after
loop-r-init c = (refl, c.add-state.ensures)

pub loop-r-preserved : goal.loop-r-preserved
unfolding round_key state_after
loop-r-preserved c =
    let key = c.round-next_key.ensures ∙ ap₂ round c.loop-r.invariant.0 c.constant.ensures in
    let state = c.round-next.ensures ∙ ap₂ round c.loop-r.invariant.1 key in
    rw add-one (key, state)

pub returns : goal.returns
unfolding cipher
returns c =
    let done : c.loop-r.r ≡ 10 = omega (arith, c.loop-r.auto.r-end) in
    rw done at c.loop-r.invariant.1
