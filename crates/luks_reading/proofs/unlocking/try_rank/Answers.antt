-- The rank's keyslots before this one don't open, so that it is the first of the order.
use Rattle.std.proofs.Common.{◌≡◌, ◌∙◌, ◌<◌, ℕ, List, true, length, Option, Some, IfSome, ap, subst, sym, arith, below_more}
use Rattle.luks_area.specs.Device.{IsUnchanged, unchanged-then}
use Rattle.luks_meta.specs.Content.{content}
use Rattle.luks_reading.specs.Luks2Keyslots.{Luks2Opens}
use Rattle.luks_reading.specs.KeyslotsTried.{is_of_rank, Luks2DoesNotOpen, Luks2LacksMemory, Luks2Tried}
use Rattle.luks_reading.specs.Plans.{HasLuks2KeyBytes}
use Rattle.luks_reading.proofs.KeyslotOrders.{all_shut, first_shut}
use Rattle.luks_reading.proofs.unlocking.try_rank.Goals as goal
use Rattle.luks_reading.proofs.unlocking.try_rank.Goals.{then-is_of_rank+in-Ok-None, else-is_of_rank}

pub returns-in-Ok-Some-clause-answers : goal.returns-in-Ok-Some-clause-answers
returns-in-Ok-Some-clause-answers g c = record {
  tries = λ tells b json clear.
      let v = g.D.Device.bytes c.args.device.now in
      let p = c.args.passphrase.now in
      let n = c.loop-n.n in
      let k = c.in-Ok-Some.key in
      let tried = subst (λ (o : Option (List ℕ)). Luks2Tried c.args.allowed b json (g.D.Device.bytes c.loop-n.device) n p o) c.in-Ok-Some.field-0-is (c.in-Ok-Some.ensures.tried tells b json clear) in
      let opens = subst (λ (w : List ℕ). Luks2Opens c.args.allowed b json w n p (Some k)) (c.loop-n.invariant.unchanged.same tells) tried in
      let low : n < 32 = omega arith in
      first_shut (Luks2DoesNotOpen c.args.allowed b json v p) (λ m l. Luks2Opens c.args.allowed b json v m p (Some l)) (λ m. is_of_rank c.args.rank (content c.args.meta.now) m) 32 n k low
      (sym c.if-is_of_rank.ensures) opens (λ m lt on. c.loop-n.invariant.shut tells b json clear m lt on);
  key_bytes = subst (λ (o : Option (List ℕ)). IfSome o (λ key. HasLuks2KeyBytes (content c.args.meta.now) c.loop-n.n (length key))) c.in-Ok-Some.field-0-is c.in-Ok-Some.ensures.length;
}

pub loop-n-preserved : goal.loop-n-preserved
loop-n-preserved g c = elim c.if-is_of_rank.branch [
  | then-is_of_rank+in-Ok-None w ↦ record {
    unchanged = subst (λ d. IsUnchanged g.D.Device.tells g.D.Device.size g.D.Device.bytes g.D.Device.unsettled c.args.device.now d) (sym w.device-is)
        (unchanged-then c.loop-n.invariant.unchanged w.try_luks2.ensures.unchanged);
    count = ap g.D.Device.failed w.device-is ∙ w.in-Ok-None.ensures.count ∙ c.loop-n.invariant.count;
    shut = λ t b json clear.
        let v = g.D.Device.bytes c.args.device.now in
        let p = c.args.passphrase.now in
        let tried = subst (λ (o : Option (List ℕ)). Luks2Tried c.args.allowed b json (g.D.Device.bytes c.loop-n.device) c.loop-n.n p o) w.in-Ok-None.field-0-is (w.in-Ok-None.ensures.tried t b json clear) in
        let here = subst (λ (u : List ℕ). Luks2DoesNotOpen c.args.allowed b json u p c.loop-n.n) (c.loop-n.invariant.unchanged.same t) tried in
        below_more (λ m. is_of_rank c.args.rank (content c.args.meta.now) m ≡ true → Luks2DoesNotOpen c.args.allowed b json v p m) c.loop-n.n
        (c.loop-n.invariant.shut t b json clear) (λ on. here);
  }
  | else-is_of_rank w ↦ record {
    unchanged = subst (λ d. IsUnchanged g.D.Device.tells g.D.Device.size g.D.Device.bytes g.D.Device.unsettled c.args.device.now d) (sym w.device-is) c.loop-n.invariant.unchanged;
    count = ap g.D.Device.failed w.device-is ∙ c.loop-n.invariant.count;
    shut = λ t b json clear.
        let v = g.D.Device.bytes c.args.device.now in
        let p = c.args.passphrase.now in
        below_more (λ m. is_of_rank c.args.rank (content c.args.meta.now) m ≡ true → Luks2DoesNotOpen c.args.allowed b json v p m) c.loop-n.n
        (c.loop-n.invariant.shut t b json clear) (λ on. let off = w.if-is_of_rank.ensures in absurd (cc (off, on)));
  }
]

pub returns-clause-answers : goal.returns-clause-answers
returns-clause-answers g c = record {
  tries = λ tells b json clear.
      all_shut (Luks2DoesNotOpen c.args.allowed b json (g.D.Device.bytes c.args.device.now) c.args.passphrase.now)
      (λ m. is_of_rank c.args.rank (content c.args.meta.now) m) 32 (λ m lt on. c.loop-n.invariant.shut tells b json clear m (omega arith) on);
  key_bytes = tt;
}

pub returns-in-Err-clause-fails : goal.returns-in-Err-clause-fails
returns-in-Err-clause-fails g c = record {
  kinds = c.in-Err.ensures.fails.kinds;
  memory = λ b json clear.
      subst (λ (total : ℕ). Luks2LacksMemory c.args.allowed b json total c.in-Err.fault) c.loop-n.invariant.unchanged.size (c.in-Err.ensures.fails.memory b json clear);
  no_memory = c.in-Err.ensures.fails.no_memory;
}
