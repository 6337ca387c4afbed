-- What the header that counts gives is what the volume gives.
use Rattle.std.proofs.Common.{◌≡◌, ◌∙◌, ℕ, List, length, subst, sym, IfOk, IfSome}
use Rattle.std.proofs.lemmas.Result.{IfErr-weaker, IfOk-weaker}
use Rattle.luks1_header.specs.declared.fault.HeadFault.{HeadFault}
use Rattle.luks1_header.specs.Faults.{IsCommonFault}
use Rattle.luks1_header.specs.Bytes.{number_at}
use Rattle.luks2_header.specs.Header2.{header_at}
use Rattle.luks_meta.specs.Content.{content}
use Rattle.luks_reading.specs.Header.{json_at, IsHeader}
use Rattle.luks_reading.specs.Plans.{HasKeyBytes}
use Rattle.luks_reading.specs.KeyslotsTried.{Luks1VolumeRefused, Luks1Tries}
use Rattle.luks_reading.specs.Luks2Keyslots.{Luks2TakesMemory}
use Rattle.luks_reading.proofs.KeyslotAnswers.{luks2_takes}
use Rattle.luks_reading.proofs.ReadFaults.{cleared_copy}
use Rattle.luks_reading.proofs.VolumeAnswers.{device_locks, luks1_locked, luks1_locked_own, luks1_unlocks_as, luks2_unlocks}
use Rattle.luks_reading.proofs.unlocking.try_header.Goals as goal

pub returns-in-Luks1-clause-answers : goal.returns-in-Luks1-clause-answers
returns-in-Luks1-clause-answers g c = record {
  unlocks = λ tells is.
      let v = g.D.Device.bytes c.args.device.now in
      let p = c.args.passphrase.now in
      let chosen = subst (IsHeader v) c.in-Luks1.is is in
      let begins = c.as_slice.ensures ∙ chosen.1 in
      luks1_unlocks_as c.args.allowed v p c.unlock_luks1.result chosen.0
      (IfOk-weaker c.unlock_luks1.result _ _ (λ found clear. subst (λ (h : List ℕ). (f : HeadFault) → IsCommonFault h f → ⊥) begins clear) c.unlock_luks1.ensures.unrefused)
      (IfOk-weaker c.unlock_luks1.result _ _ (λ found tries. subst (λ (h : List ℕ). Luks1Tries c.args.allowed.older h v p found) begins tries) (c.unlock_luks1.ensures.tries tells));
  refused = λ tells is.
      let v = g.D.Device.bytes c.args.device.now in
      let chosen = subst (IsHeader v) c.in-Luks1.is is in
      IfErr-weaker c.unlock_luks1.result _ _ (λ fault locked.
      luks1_locked v fault chosen.0
      (subst (λ (h : List ℕ). Luks1VolumeRefused h fault) (c.as_slice.ensures ∙ chosen.1) locked))
      c.unlock_luks1.ensures.refused;
  key_bytes =
      subst (λ h. IfOk c.unlock_luks1.result (λ found. IfSome found (λ opened. HasKeyBytes h opened.0 (length opened.1)))) (sym c.in-Luks1.is)
      (subst (λ (b : List ℕ). IfOk c.unlock_luks1.result (λ found. IfSome found (λ opened. length opened.1 ≡ number_at b 108 4))) c.as_slice.ensures c.unlock_luks1.ensures.length);
  memory = λ tells is.
      IfErr-weaker c.unlock_luks1.result _ _ (λ fault locked e. absurd (luks1_locked_own c.as_slice.result.now fault locked e)) c.unlock_luks1.ensures.refused;
  no_memory = λ none.
      IfErr-weaker c.unlock_luks1.result _ _ (luks1_locked_own c.as_slice.result.now) c.unlock_luks1.ensures.refused;
}

pub returns-in-Luks2-clause-answers : goal.returns-in-Luks2-clause-answers
returns-in-Luks2-clause-answers g c = record {
  unlocks = λ tells is.
      let v = g.D.Device.bytes c.args.device.now in
      let p = c.args.passphrase.now in
      let copy = subst (IsHeader v) c.in-Luks2.is is in
      let o = c.in-Luks2.copy.header.hdr_offset in
      let copies = c.in-Luks2.copy.copies in
      let cleared = cleared_copy v c.in-Luks2.copy copy in
      IfOk-weaker c.unlock_luks2.result _ _ (λ found tries.
      luks2_unlocks c.args.allowed v p o copies (content c.in-Luks2.copy.meta) found copy.chosen cleared tries)
      (c.unlock_luks2.ensures.answers.tries tells (header_at v o) (json_at v o) cleared);
  refused = λ tells is.
      let v = g.D.Device.bytes c.args.device.now in
      let copy = subst (IsHeader v) c.in-Luks2.is is in
      let cleared = cleared_copy v c.in-Luks2.copy copy in
      IfErr-weaker c.unlock_luks2.result _ _ (λ fault. device_locks v fault
      (record { place = c.in-Luks2.copy.header.hdr_offset; copies = c.in-Luks2.copy.copies; chosen = copy.chosen; uuid = cleared.uuid_faultless }))
      c.unlock_luks2.ensures.fails.kinds;
  key_bytes =
      subst (λ h. IfOk c.unlock_luks2.result (λ found. IfSome found (λ opened. HasKeyBytes h opened.0 (length opened.1)))) (sym c.in-Luks2.is) c.unlock_luks2.ensures.answers.key_bytes;
  memory = λ tells is.
      let v = g.D.Device.bytes c.args.device.now in
      let copy = subst (IsHeader v) c.in-Luks2.is is in
      let o = c.in-Luks2.copy.header.hdr_offset in
      let cleared = cleared_copy v c.in-Luks2.copy copy in
      let long : g.D.Device.size c.args.device.now ≡ length v = sym (g.met.D.Device.sized c.args.device.now tells) in
      IfErr-weaker c.unlock_luks2.result _ _ (λ fault lacks e.
      let x = lacks e in (
        x.0,
        luks2_takes c.args.allowed v x.0 o c.in-Luks2.copy.copies copy.chosen
            (subst (λ (m : ℕ). Luks2TakesMemory c.args.allowed (header_at v o) (json_at v o) m x.0) long x.1),
      ))
      (c.unlock_luks2.ensures.fails.memory (header_at v o) (json_at v o) cleared);
  no_memory = c.unlock_luks2.ensures.fails.no_memory;
}
