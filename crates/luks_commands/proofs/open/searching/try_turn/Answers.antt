-- The turn's keyslots before this one are passed over.
use Rattle.std.proofs.Common.{◌≡◌, ◌+◌, ◌<◌, subst, sym, arith}
use Rattle.luks_area.specs.Device.{IsUnchanged, unchanged-then}
use Rattle.luks_commands.proofs.SearchFacts.{not_of_turn, tried_of_turn, turn_ended, turn_found, TurnSoFar}
use Rattle.luks_commands.proofs.open.searching.try_turn.Goals as goal
use Rattle.luks_commands.proofs.open.searching.try_turn.Goals.{then-is_in_turn+else-opens, else-is_in_turn}

pub returns-then-opens-clause-tries : goal.returns-then-opens-clause-tries
returns-then-opens-clause-tries g c =
    let t = c.args.trial.now in
    let low : c.loop-n.n < 32 = omega arith in
    turn_found g.D.Device.tells (g.D.Device.bytes c.args.device.now) (g.D.Device.bytes c.loop-n.device) t.header.now t.allowed t.passphrase.now c.args.turn
    (g.D.Device.failed c.args.device.now) (g.D.Device.failed c.loop-n.device) (g.D.Device.failed c.opens.new.device) c.loop-n.n
    c.loop-n.invariant.unchanged.same low (sym c.if-is_in_turn.ensures) c.loop-n.invariant.far c.if-opens.ensures.tries

pub loop-n-preserved : goal.loop-n-preserved
loop-n-preserved g c =
    let t = c.args.trial.now in
    let v = g.D.Device.bytes c.args.device.now in
    elim c.if-is_in_turn.branch [
      | then-is_in_turn+else-opens w ↦ record {
        unchanged = subst (λ d. IsUnchanged g.D.Device.tells g.D.Device.size g.D.Device.bytes g.D.Device.unsettled c.args.device.now d) (sym w.device-is)
            (unchanged-then c.loop-n.invariant.unchanged w.opens.ensures.unchanged);
        far = subst (λ d. TurnSoFar g.D.Device.tells v t.header.now t.allowed t.passphrase.now c.args.turn (g.D.Device.failed c.args.device.now) (g.D.Device.failed d) (c.loop-n.n + 1))
            (sym w.device-is)
            (tried_of_turn g.D.Device.tells v (g.D.Device.bytes c.loop-n.device) t.header.now t.allowed t.passphrase.now c.args.turn
            (g.D.Device.failed c.args.device.now) (g.D.Device.failed c.loop-n.device) (g.D.Device.failed w.opens.new.device) c.loop-n.n
            c.loop-n.invariant.unchanged.same c.loop-n.invariant.far w.if-opens.ensures.tries);
      }
      | else-is_in_turn w ↦ record {
        unchanged = subst (λ d. IsUnchanged g.D.Device.tells g.D.Device.size g.D.Device.bytes g.D.Device.unsettled c.args.device.now d) (sym w.device-is) c.loop-n.invariant.unchanged;
        far = subst (λ d. TurnSoFar g.D.Device.tells v t.header.now t.allowed t.passphrase.now c.args.turn (g.D.Device.failed c.args.device.now) (g.D.Device.failed d) (c.loop-n.n + 1))
            (sym w.device-is)
            (not_of_turn g.D.Device.tells v t.header.now t.allowed t.passphrase.now c.args.turn (g.D.Device.failed c.args.device.now) (g.D.Device.failed c.loop-n.device) c.loop-n.n
            (sym w.if-is_in_turn.ensures) c.loop-n.invariant.far);
      }
    ]

pub returns-clause-tries : goal.returns-clause-tries
returns-clause-tries g c =
    let t = c.args.trial.now in
    let all : c.loop-n.n ≡ 32 = omega arith in
    turn_ended g.D.Device.tells (g.D.Device.bytes c.args.device.now) t.header.now t.allowed t.passphrase.now c.args.turn
    (g.D.Device.failed c.args.device.now) (g.D.Device.failed c.loop-n.device) c.loop-n.n all c.loop-n.invariant.far
