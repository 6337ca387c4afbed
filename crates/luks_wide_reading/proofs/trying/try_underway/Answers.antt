-- The keyslots of priority 2 first, then the others.
use Rattle.std.proofs.Common.{ℕ, List, length, Option, Some, IfSome, subst}
use Rattle.std.proofs.lemmas.Result.{IfErr-weaker, IfOk-weaker}
use Rattle.luks_reading.specs.Plans.{HasLuks2KeyBytes}
use Rattle.luks_reading.proofs.KeyslotOrders.{gives_left, gives_right}
use Rattle.luks_wider.specs.Underways.{content}
use Rattle.luks_wide_reading.specs.declared.trying.Rank.TheVariants.{Preferred, Normal}
use Rattle.luks_wide_reading.specs.Opening.{UnderwayOpens, UnderwayTakesMemory}
use Rattle.luks_wide_reading.specs.Trying.{rank_order, UnderwayStaysShut, UnderwayTries}
use Rattle.luks_wide_reading.proofs.trying.try_underway.Goals as goal

pub returns-in-Ok-Some-clause-answers : goal.returns-in-Ok-Some-clause-answers
returns-in-Ok-Some-clause-answers g c = λ json holds. record {
  tries = λ tells.
      let v = g.D.Device.bytes c.args.device.now in
      let p = c.args.passphrase.now in
      let j = content c.args.copy.now.meta in
      gives_left (UnderwayStaysShut c.args.allowed json v p) (λ n k. UnderwayOpens c.args.allowed json v n p (Some k)) (rank_order Preferred j) (rank_order Normal j)
      c.in-Ok-Some.found.0 c.in-Ok-Some.found.1
      (subst (λ (o : Option (ℕ × List ℕ)). UnderwayTries c.args.allowed json v p (rank_order Preferred j) o) c.in-Ok-Some.field-0-is ((c.in-Ok-Some.ensures.answers json holds).tries tells));
  memory = tt;
}

pub returns-in-Ok-Some-clause-key_bytes : goal.returns-in-Ok-Some-clause-key_bytes
returns-in-Ok-Some-clause-key_bytes g c =
    subst (λ (o : Option (ℕ × List ℕ)). IfSome o (λ opened. HasLuks2KeyBytes (content c.args.copy.now.meta) opened.0 (length opened.1))) c.in-Ok-Some.field-0-is c.in-Ok-Some.ensures.key_bytes

pub returns-in-Ok-None-clause-answers : goal.returns-in-Ok-None-clause-answers
returns-in-Ok-None-clause-answers g c = λ json holds. record {
  tries = λ tells.
      let v = g.D.Device.bytes c.args.device.now in
      let p = c.args.passphrase.now in
      let j = content c.args.copy.now.meta in
      let shut = subst (λ (o : Option (ℕ × List ℕ)). UnderwayTries c.args.allowed json v p (rank_order Preferred j) o) c.in-Ok-None.field-0-is ((c.in-Ok-None.ensures.answers json holds).tries tells) in
      IfOk-weaker c.try_rank-in-Ok-None.result _ _ (λ found tries.
      gives_right (UnderwayStaysShut c.args.allowed json v p) (λ n k. UnderwayOpens c.args.allowed json v n p (Some k)) (rank_order Preferred j) (rank_order Normal j) found shut
      (subst (λ (w : List ℕ). UnderwayTries c.args.allowed json w p (rank_order Normal j) found) (c.in-Ok-None.ensures.unchanged.same tells) tries))
      ((c.try_rank-in-Ok-None.ensures.answers json holds).tries tells);
  memory = IfErr-weaker c.try_rank-in-Ok-None.result _ _ (λ f take e. let x = take e in
      (x.0, subst (λ (total : ℕ). UnderwayTakesMemory c.args.allowed json total x.0) c.in-Ok-None.ensures.unchanged.size x.1))
      (c.try_rank-in-Ok-None.ensures.answers json holds).memory;
}

pub returns-in-Err-clause-answers : goal.returns-in-Err-clause-answers
returns-in-Err-clause-answers g c = λ json holds. record { tries = λ tells. tt; memory = (c.in-Err.ensures.answers json holds).memory }
