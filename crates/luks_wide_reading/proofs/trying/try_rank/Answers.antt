-- The rank's keyslots before this one don't open, so that it is the first of the order.
use Rattle.std.proofs.Common.{◌≡◌, ◌∙◌, ◌<◌, ℕ, List, true, length, Option, Some, IfSome, ap, subst, sym, arith, below_more}
use Rattle.luks_area.specs.Device.{IsUnchanged, unchanged-then}
use Rattle.luks_reading.specs.Plans.{HasLuks2KeyBytes}
use Rattle.luks_reading.proofs.KeyslotOrders.{all_shut, first_shut}
use Rattle.luks_wider.specs.Underways.{content}
use Rattle.luks_wide_reading.specs.Opening.{UnderwayOpens, UnderwayTakesMemory}
use Rattle.luks_wide_reading.specs.Trying.{is_of_rank, UnderwayStaysShut, UnderwayTried}
use Rattle.luks_wide_reading.proofs.trying.try_rank.Goals as goal
use Rattle.luks_wide_reading.proofs.trying.try_rank.Goals.{then-is_of_rank+in-Ok-None, else-is_of_rank}

pub returns-in-Ok-Some-clause-answers : goal.returns-in-Ok-Some-clause-answers
returns-in-Ok-Some-clause-answers g c = λ json holds. record {
  tries = λ tells.
      let v = g.D.Device.bytes c.args.device.now in
      let p = c.args.passphrase.now in
      let n = c.loop-n.n in
      let k = c.in-Ok-Some.key in
      let tried = subst (λ (o : Option (List ℕ)). UnderwayTried c.args.allowed json (g.D.Device.bytes c.loop-n.device) n p o) c.in-Ok-Some.field-0-is ((c.in-Ok-Some.ensures.answers json holds).tried tells) in
      let opens = subst (λ (w : List ℕ). UnderwayOpens c.args.allowed json w n p (Some k)) (c.loop-n.invariant.unchanged.same tells) tried in
      let low : n < 32 = omega arith in
      first_shut (UnderwayStaysShut c.args.allowed json v p) (λ m l. UnderwayOpens c.args.allowed json v m p (Some l)) (λ m. is_of_rank c.args.rank (content c.args.copy.now.meta) m) 32 n k low
      (sym c.if-is_of_rank.ensures) opens (λ m lt on. c.loop-n.invariant.shut tells json holds m lt on);
  memory = tt;
}

pub returns-in-Ok-Some-clause-key_bytes : goal.returns-in-Ok-Some-clause-key_bytes
returns-in-Ok-Some-clause-key_bytes g c =
    subst (λ (o : Option (List ℕ)). IfSome o (λ key. HasLuks2KeyBytes (content c.args.copy.now.meta) c.loop-n.n (length key))) c.in-Ok-Some.field-0-is c.in-Ok-Some.ensures.key_bytes

pub loop-n-preserved : goal.loop-n-preserved
loop-n-preserved g c = elim c.if-is_of_rank.branch [
  | then-is_of_rank+in-Ok-None w ↦ record {
    unchanged = subst (λ d. IsUnchanged g.D.Device.tells g.D.Device.size g.D.Device.bytes g.D.Device.unsettled c.args.device.now d) (sym w.device-is)
        (unchanged-then c.loop-n.invariant.unchanged w.try_one.ensures.unchanged);
    count = ap g.D.Device.failed w.device-is ∙ w.in-Ok-None.ensures.count ∙ c.loop-n.invariant.count;
    shut = λ t json holds.
        let v = g.D.Device.bytes c.args.device.now in
        let p = c.args.passphrase.now in
        let tried = subst (λ (o : Option (List ℕ)). UnderwayTried c.args.allowed json (g.D.Device.bytes c.loop-n.device) c.loop-n.n p o) w.in-Ok-None.field-0-is ((w.in-Ok-None.ensures.answers json holds).tried t) in
        let here = subst (λ (u : List ℕ). UnderwayStaysShut c.args.allowed json u p c.loop-n.n) (c.loop-n.invariant.unchanged.same t) tried in
        below_more (λ m. is_of_rank c.args.rank (content c.args.copy.now.meta) m ≡ true → UnderwayStaysShut c.args.allowed json v p m) c.loop-n.n
        (c.loop-n.invariant.shut t json holds) (λ on. here);
  }
  | else-is_of_rank w ↦ record {
    unchanged = subst (λ d. IsUnchanged g.D.Device.tells g.D.Device.size g.D.Device.bytes g.D.Device.unsettled c.args.device.now d) (sym w.device-is) c.loop-n.invariant.unchanged;
    count = ap g.D.Device.failed w.device-is ∙ c.loop-n.invariant.count;
    shut = λ t json holds.
        let v = g.D.Device.bytes c.args.device.now in
        let p = c.args.passphrase.now in
        below_more (λ m. is_of_rank c.args.rank (content c.args.copy.now.meta) m ≡ true → UnderwayStaysShut c.args.allowed json v p m) c.loop-n.n
        (c.loop-n.invariant.shut t json holds) (λ on. let off = w.if-is_of_rank.ensures in absurd (cc (off, on)));
  }
]

pub returns-clause-answers : goal.returns-clause-answers
returns-clause-answers g c = λ json holds. record {
  tries = λ tells.
      all_shut (UnderwayStaysShut c.args.allowed json (g.D.Device.bytes c.args.device.now) c.args.passphrase.now)
      (λ m. is_of_rank c.args.rank (content c.args.copy.now.meta) m) 32 (λ m lt on. c.loop-n.invariant.shut tells json holds m (omega arith) on);
  memory = tt;
}

pub returns-in-Err-clause-answers : goal.returns-in-Err-clause-answers
returns-in-Err-clause-answers g c = λ json holds. record {
  tries = λ tells. tt;
  memory = λ e. (
    c.loop-n.n,
    subst (λ (total : ℕ). UnderwayTakesMemory c.args.allowed json total c.loop-n.n) c.loop-n.invariant.unchanged.size ((c.in-Err.ensures.answers json holds).memory e),
  );
}
