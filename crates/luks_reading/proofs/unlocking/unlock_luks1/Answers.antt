-- The keyslots before this one don't open, so that it is the first of the order.
use Rattle.std.proofs.Common.{◌∙◌, ◌==◌, ◌<◌, ℕ, List, Option, Some, subst, arith, below_more}
use Rattle.std.proofs.lemmas.Result.{err_from_is_err_and}
use Rattle.luks_area.specs.Device.{unchanged-then}
use Rattle.luks1_header.specs.Header1.{active_word, enabled_word, entry}
use Rattle.luks_reading.specs.Luks1Keyslots.{Luks1Opens}
use Rattle.luks_reading.specs.KeyslotsTried.{Luks1DoesNotOpen, Luks1Tried}
use Rattle.luks_reading.specs.Unlocking.{luks1_order}
use Rattle.luks_reading.proofs.KeyslotOrders.{all_shut, first_shut}
use Rattle.luks_reading.proofs.TriedKeyslots.{opened_in_use}
use Rattle.luks_reading.proofs.VolumeAnswers.{common_locked}
use Rattle.luks_reading.proofs.unlocking.unlock_luks1.Goals as goal

pub returns-in_err-common-clause-refused : goal.returns-in_err-common-clause-refused
returns-in_err-common-clause-refused g c =
    let p = err_from_is_err_and c.from_residual.result c.from_residual.ensures.1 in
    rw (p.1, p.2) (common_locked c.args.header.now c.in_err-common.field-0.0 c.in_err-common.ensures.fault)

pub returns-in-Ok-Some-clause-tries : goal.returns-in-Ok-Some-clause-tries
unfolding luks1_order
returns-in-Ok-Some-clause-tries g c = λ tells.
    let h = c.args.header.now in
    let v = g.D.Device.bytes c.args.device.now in
    let p = c.args.passphrase.now in
    let n = c.loop-n.n in
    let k = c.in-Ok-Some.key in
    let tried = subst (λ (o : Option (List ℕ)). Luks1Tried c.args.older h (g.D.Device.bytes c.loop-n.device) n p o) c.in-Ok-Some.field-0-is (c.in-Ok-Some.ensures.tried tells) in
    let opens = subst (λ (w : List ℕ). Luks1Opens c.args.older h w n p (Some k)) (c.loop-n.invariant.unchanged.same tells) tried in
    let low : n < 8 = omega arith in
    first_shut (Luks1DoesNotOpen c.args.older h v p) (λ m l. Luks1Opens c.args.older h v m p (Some l)) (λ m. active_word (entry h m) == enabled_word) 8 n k low
    (opened_in_use c.args.older h v n p (Some k) opens) opens (λ m lt on. c.loop-n.invariant.shut tells m lt)

pub loop-n-preserved : goal.loop-n-preserved
loop-n-preserved g c = record {
  unchanged = unchanged-then c.loop-n.invariant.unchanged c.try_luks1.ensures.unchanged;
  count = c.in-Ok-None.ensures.count ∙ c.loop-n.invariant.count;
  shut = λ t.
      let h = c.args.header.now in
      let v = g.D.Device.bytes c.args.device.now in
      let p = c.args.passphrase.now in
      let tried = subst (λ (o : Option (List ℕ)). Luks1Tried c.args.older h (g.D.Device.bytes c.loop-n.device) c.loop-n.n p o) c.in-Ok-None.field-0-is (c.in-Ok-None.ensures.tried t) in
      let here = subst (λ (w : List ℕ). Luks1DoesNotOpen c.args.older h w p c.loop-n.n) (c.loop-n.invariant.unchanged.same t) tried in
      below_more (λ m. Luks1DoesNotOpen c.args.older h v p m) c.loop-n.n (c.loop-n.invariant.shut t) here;
}

pub returns-clause-tries : goal.returns-clause-tries
unfolding luks1_order
returns-clause-tries g c = λ tells.
    all_shut (Luks1DoesNotOpen c.args.older c.args.header.now (g.D.Device.bytes c.args.device.now) c.args.passphrase.now)
    (λ m. active_word (entry c.args.header.now m) == enabled_word) 8 (λ m lt on. c.loop-n.invariant.shut tells m (omega arith))
