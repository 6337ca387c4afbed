-- What the copy that counts keeps is what the volume keeps.
use Rattle.std.proofs.Common.{ℕ, length, subst, sym, ◌≡◌, ◌∙◌}
use Rattle.std.proofs.lemmas.Result.{IfErr-weaker, IfOk-weaker}
use Rattle.luks2_header.specs.Header2.{header_at}
use Rattle.luks_edit.proofs.SecretFacts.{opens_answer}
use Rattle.luks_reading.specs.Answer.{opened_to}
use Rattle.luks_reading.specs.Luks2Keyslots.{Luks2Refused}
use Rattle.luks_reading.specs.Header.{json_at}
use Rattle.luks_reading.proofs.KeyslotAnswers.{luks2_refused}
use Rattle.luks_reading.proofs.ReadFaults.{cleared_copy}
use Rattle.luks2_judging.specs.Opened.{Luks2Keeps}
use Rattle.luks2_judging.proofs.OpenerFacts.{keeps_answer, never_wanting}
use Rattle.luks2_judging.proofs.unlocking.given.Goals as goal

pub returns-in-Passphrase-clause-answers : goal.returns-in-Passphrase-clause-answers
returns-in-Passphrase-clause-answers g c =
    let v = g.D.Device.bytes c.args.device.now in
    rw c.in-Passphrase.is (record {
      gives = λ tells copy. IfOk-weaker c.try_copy_slot.result _ _
          (λ found opens. opens_answer c.args.allowed v c.args.n c.args.secret.now.bytes.now (opened_to found) opens) (c.try_copy_slot.ensures.answers.opens tells copy);
      refused_by = c.try_copy_slot.ensures.answers.refused;
      key_bytes = c.try_copy_slot.ensures.answers.key_bytes;
      memory = c.try_copy_slot.ensures.answers.memory;
      no_memory = c.try_copy_slot.ensures.answers.no_memory;
    })

pub returns-in-Key-clause-answers : goal.returns-in-Key-clause-answers
returns-in-Key-clause-answers g c =
    let v = g.D.Device.bytes c.args.device.now in
    let o = c.args.copy.now.header.hdr_offset in
    let copies = c.args.copy.now.copies in
    rw c.in-Key.is (record {
      gives = λ tells copy.
          let long : c.len.result ≡ length v = c.len.ensures ∙ sym (g.met.D.Device.sized c.args.device.now tells) in
          IfOk-weaker c.own_key_in.result _ _ (λ found keeps.
          keeps_answer c.args.allowed v c.args.n c.args.secret.now.bytes.now o copies found copy.chosen
          (subst (λ (m : ℕ). Luks2Keeps c.args.allowed (header_at v o) (json_at v o) m c.args.n c.args.secret.now.bytes.now found) long keeps))
          (c.own_key_in.ensures.gives (header_at v o) (json_at v o) (cleared_copy v c.args.copy.now copy));
      refused_by = λ tells copy.
          let cleared = cleared_copy v c.args.copy.now copy in
          let long : c.len.result ≡ length v = c.len.ensures ∙ sym (g.met.D.Device.sized c.args.device.now tells) in
          IfErr-weaker c.own_key_in.result _ _ (λ fault refused.
          luks2_refused c.args.allowed v c.args.n c.args.secret.now.bytes.now o copies fault copy.chosen
          (record { place = o; copies = copies; chosen = copy.chosen; uuid = cleared.uuid_faultless })
          (subst (λ (m : ℕ). Luks2Refused c.args.allowed (header_at v o) (json_at v o) m c.args.n fault) long refused))
          (c.own_key_in.ensures.refused (header_at v o) (json_at v o) cleared);
      key_bytes = c.own_key_in.ensures.length;
      memory = λ tells copy. IfErr-weaker c.own_key_in.result _ _ (λ fault own wants. absurd (never_wanting fault own wants)) c.own_key_in.ensures.own;
      no_memory = λ none. IfErr-weaker c.own_key_in.result _ _ (λ fault own wants. never_wanting fault own wants) c.own_key_in.ensures.own;
    })
