-- The keyslots of priority 2 first, then the others.
use Rattle.std.proofs.Common.{ℕ, List, length, Option, IfSome, subst}
use Rattle.std.proofs.lemmas.Result.{IfOk-weaker}
use Rattle.luks_meta.specs.Content.{content}
use Rattle.luks_reading.specs.declared.unlocking.Rank.TheVariants.{Preferred, Normal}
use Rattle.luks_reading.specs.Plans.{HasLuks2KeyBytes}
use Rattle.luks_reading.specs.KeyslotsTried.{rank_order, Luks2Tries}
use Rattle.luks_reading.proofs.VolumeAnswers.{first_rank, second_rank}
use Rattle.luks_reading.proofs.unlocking.unlock_luks2.Goals as goal

pub returns-in-Ok-Some-clause-answers : goal.returns-in-Ok-Some-clause-answers
returns-in-Ok-Some-clause-answers g c = record {
  tries = λ tells b json clear.
      let v = g.D.Device.bytes c.args.device.now in
      let p = c.args.passphrase.now in
      let j = content c.args.meta.now in
      first_rank c.args.allowed b json v p j c.in-Ok-Some.found
      (subst (λ (o : Option (ℕ × List ℕ)). Luks2Tries c.args.allowed b json v p (rank_order Preferred j) o) c.in-Ok-Some.field-0-is (c.in-Ok-Some.ensures.answers.tries tells b json clear));
  key_bytes = subst (λ (o : Option (ℕ × List ℕ)). IfSome o (λ opened. HasLuks2KeyBytes (content c.args.meta.now) opened.0 (length opened.1))) c.in-Ok-Some.field-0-is c.in-Ok-Some.ensures.answers.key_bytes;
}

pub returns-in-Ok-None-clause-answers : goal.returns-in-Ok-None-clause-answers
returns-in-Ok-None-clause-answers g c = record {
  tries = λ tells b json clear.
      let v = g.D.Device.bytes c.args.device.now in
      let p = c.args.passphrase.now in
      let j = content c.args.meta.now in
      let shut = subst (λ (o : Option (ℕ × List ℕ)). Luks2Tries c.args.allowed b json v p (rank_order Preferred j) o) c.in-Ok-None.field-0-is (c.in-Ok-None.ensures.answers.tries tells b json clear) in
      IfOk-weaker c.try_rank-in-Ok-None.result _ _ (λ found tries.
      second_rank c.args.allowed b json v p j found shut (subst (λ (w : List ℕ). Luks2Tries c.args.allowed b json w p (rank_order Normal j) found) (c.in-Ok-None.ensures.unchanged.same tells) tries))
      (c.try_rank-in-Ok-None.ensures.answers.tries tells b json clear);
  key_bytes = c.try_rank-in-Ok-None.ensures.answers.key_bytes;
}
