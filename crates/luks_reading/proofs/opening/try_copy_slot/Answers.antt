-- What the copy that counts gives is what the volume gives.
use Rattle.std.proofs.Common.{ℕ, List, length, subst, sym, ◌≡◌}
use Rattle.std.proofs.lemmas.Result.{IfErr-weaker, IfOk-weaker}
use Rattle.luks2_header.specs.Header2.{header_at}
use Rattle.luks_reading.specs.Luks2Keyslots.{Luks2Refused, Luks2TakesMemory}
use Rattle.luks_reading.specs.Header.{json_at}
use Rattle.luks_reading.proofs.KeyslotAnswers.{luks2_opens, luks2_refused, luks2_takes}
use Rattle.luks_reading.proofs.ReadFaults.{cleared_copy}
use Rattle.luks_reading.proofs.opening.try_copy_slot.Goals as goal

pub returns-clause-answers : goal.returns-clause-answers
returns-clause-answers g c = record {
  opens = λ tells copy.
      let v = g.D.Device.bytes c.args.device.now in
      let o = c.args.copy.now.header.hdr_offset in
      let cleared = cleared_copy v c.args.copy.now copy in
      IfOk-weaker c.open_luks2.result _ _ (λ found opens.
      luks2_opens c.args.allowed v c.args.n c.args.passphrase.now o c.args.copy.now.copies found copy.chosen opens)
      (c.open_luks2.ensures.opens tells (header_at v o) (json_at v o) cleared);
  refused = λ tells copy.
      let v = g.D.Device.bytes c.args.device.now in
      let n = c.args.n in
      let o = c.args.copy.now.header.hdr_offset in
      let copies = c.args.copy.now.copies in
      let cleared = cleared_copy v c.args.copy.now copy in
      let long : g.D.Device.size c.args.device.now ≡ length v = sym (g.met.D.Device.sized c.args.device.now tells) in
      IfErr-weaker c.open_luks2.result _ _ (λ fault refused.
      luks2_refused c.args.allowed v n c.args.passphrase.now o copies fault copy.chosen
      (record { place = o; copies = copies; chosen = copy.chosen; uuid = cleared.uuid_faultless })
      (subst (λ (m : ℕ). Luks2Refused c.args.allowed (header_at v o) (json_at v o) m n fault) long refused))
      (c.open_luks2.ensures.refused (header_at v o) (json_at v o) cleared);
  key_bytes = c.open_luks2.ensures.length;
  memory = λ tells copy.
      let v = g.D.Device.bytes c.args.device.now in
      let n = c.args.n in
      let o = c.args.copy.now.header.hdr_offset in
      let cleared = cleared_copy v c.args.copy.now copy in
      let long : g.D.Device.size c.args.device.now ≡ length v = sym (g.met.D.Device.sized c.args.device.now tells) in
      IfErr-weaker c.open_luks2.result _ _ (λ fault refused e.
      luks2_takes c.args.allowed v n o c.args.copy.now.copies copy.chosen
      (subst (λ (m : ℕ). Luks2TakesMemory c.args.allowed (header_at v o) (json_at v o) m n) long (refused.1 e)))
      (c.open_luks2.ensures.refused (header_at v o) (json_at v o) cleared);
  no_memory = c.open_luks2.ensures.no_memory;
}
