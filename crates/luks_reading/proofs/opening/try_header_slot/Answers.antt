-- What the header that counts gives is what the volume gives.
use Rattle.std.proofs.Common.{ℕ, List, length, subst, sym, IfOk, IfSome, ◌≡◌, ◌∙◌}
use Rattle.std.proofs.lemmas.Result.{IfErr-weaker, IfOk-weaker}
use Rattle.luks1_header.specs.Bytes.{number_at}
use Rattle.luks_reading.specs.Luks1Keyslots.{Luks1Opens, Luks1Refused}
use Rattle.luks_reading.specs.Header.{IsHeader}
use Rattle.luks_reading.specs.HeaderAnswers.{IsSlotOpening}
use Rattle.luks_reading.specs.Plans.{HasKeyBytes}
use Rattle.luks_reading.proofs.KeyslotAnswers.{luks1_opens, luks1_refused}
use Rattle.luks_reading.proofs.TriedKeyslots.{luks1_own}
use Rattle.luks_reading.proofs.opening.try_header_slot.Goals as goal

pub returns-in-Luks1-clause-answers : goal.returns-in-Luks1-clause-answers
returns-in-Luks1-clause-answers g c = record {
  opens = λ tells is.
      let v = g.D.Device.bytes c.args.device.now in
      let n = c.args.n in
      let p = c.args.passphrase.now in
      let chosen = subst (IsHeader v) c.in-Luks1.is is in
      IfOk-weaker c.open_luks1.result _ _ (λ found opens.
      luks1_opens c.args.allowed v n p found chosen.0 (subst (λ (h : List ℕ). Luks1Opens c.args.allowed.older h v n p found) (c.as_slice.ensures ∙ chosen.1) opens))
      (c.open_luks1.ensures.opens tells);
  refused = λ tells is.
      let v = g.D.Device.bytes c.args.device.now in
      let n = c.args.n in
      let chosen = subst (IsHeader v) c.in-Luks1.is is in
      let long : g.D.Device.size c.args.device.now ≡ length v = sym (g.met.D.Device.sized c.args.device.now tells) in
      IfErr-weaker c.open_luks1.result _ _ (λ fault refused.
      luks1_refused c.args.allowed v n c.args.passphrase.now fault chosen.0
      (subst (λ (h : List ℕ). Luks1Refused c.args.allowed.older h (length v) n fault) (c.as_slice.ensures ∙ chosen.1)
      (subst (λ (m : ℕ). Luks1Refused c.args.allowed.older c.as_slice.result.now m n fault) long refused)))
      c.open_luks1.ensures.refused;
  key_bytes =
      subst (λ h. IfOk c.open_luks1.result (λ found. IfSome found (λ key. HasKeyBytes h c.args.n (length key)))) (sym c.in-Luks1.is)
      (subst (λ (b : List ℕ). IfOk c.open_luks1.result (λ found. IfSome found (λ key. length key ≡ number_at b 108 4))) c.as_slice.ensures c.open_luks1.ensures.length);
  memory = λ tells is.
      IfErr-weaker c.open_luks1.result _ _ (λ fault refused e. absurd (luks1_own c.args.allowed.older c.as_slice.result.now (g.D.Device.size c.args.device.now) c.args.n fault refused e))
      c.open_luks1.ensures.refused;
  no_memory = λ none.
      IfErr-weaker c.open_luks1.result _ _ (λ fault refused e. luks1_own c.args.allowed.older c.as_slice.result.now (g.D.Device.size c.args.device.now) c.args.n fault refused e)
      c.open_luks1.ensures.refused;
}

pub returns-in-Luks2-clause-answers : goal.returns-in-Luks2-clause-answers
returns-in-Luks2-clause-answers g c =
    let v = g.D.Device.bytes c.args.device.now in
    subst (λ h. IsSlotOpening g.D.Device.tells v h c.args.allowed c.args.n c.args.passphrase.now c.try_copy_slot.result) (sym c.in-Luks2.is) c.try_copy_slot.ensures.answers
