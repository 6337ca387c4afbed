-- A keyslot that is refused or gives no key doesn't open.
use Rattle.std.proofs.Common.{◌≡◌, ◌≢◌, ℕ, length, subst, sym}
use Rattle.luks_rules.proofs.AreaFaults.{one_value}
use Rattle.luks_meta.specs.Content.{content}
use Rattle.luks_meta.proofs.Namings.{one_digest}
use Rattle.luks_reading.specs.declared.open_fault.OpenFault.TheVariants.{Memory}
use Rattle.luks_reading.specs.KeyslotsTried.{Luks2LacksMemory}
use Rattle.luks_reading.specs.Luks2Keyslots.{Luks2Refused}
use Rattle.luks_reading.specs.PlanAnswers.{IsOfDevice}
use Rattle.luks_reading.proofs.OpenFaults.{passed_ends}
use Rattle.luks_reading.proofs.TriedKeyslots.{luks2_refused_tried, luks2_tried, passed_none}
use Rattle.luks_reading.proofs.unlocking.try_luks2.Goals as goal

pub returns-in-Ok-clause-tried : goal.returns-in-Ok-clause-tried
returns-in-Ok-clause-tried g c = λ tells b json clear.
    let j = content c.args.meta.now in
    luks2_tried c.args.allowed b json (g.D.Device.bytes c.args.device.now) c.args.n c.args.passphrase.now j c.in-Ok.found
    (record { value = λ i holds. one_value json j i clear.meta.json holds; digest = one_digest json j clear.meta c.args.n })
    (c.in-Ok.ensures.opens tells b json clear)

pub returns-in-Err-clause-tried : goal.returns-in-Err-clause-tried
returns-in-Err-clause-tried g c = λ tells b json clear.
    let v = g.D.Device.bytes c.args.device.now in
    let long : g.D.Device.size c.args.device.now ≡ length v = sym (g.met.D.Device.sized c.args.device.now tells) in
    rw c.passed_over.ensures
    (luks2_refused_tried c.args.allowed b json v c.args.n c.args.passphrase.now c.in-Err.fault
    (subst (λ (m : ℕ). Luks2Refused c.args.allowed b json m c.args.n c.in-Err.fault) long (c.in-Err.ensures.refused b json clear)))

pub returns-in-Err-clause-fails : goal.returns-in-Err-clause-fails
returns-in-Err-clause-fails g c = record {
  kinds = rw c.passed_over.ensures (passed_ends IsOfDevice c.in-Err.fault (λ e. tt) (λ e. tt));
  memory = λ b json clear.
      rw c.passed_over.ensures
      (passed_ends (Luks2LacksMemory c.args.allowed b json (g.D.Device.size c.args.device.now)) c.in-Err.fault (λ e. λ other. absurd (cc))
      (λ e. λ other. (c.args.n, (c.in-Err.ensures.refused b json clear).1 e)));
  no_memory = λ none.
      rw c.passed_over.ensures
      (passed_ends (λ f. f ≢ Memory) c.in-Err.fault (λ e. λ other. cc) (λ e. absurd (c.in-Err.ensures.no_memory none e)));
}

pub returns-in-Err-clause-length : goal.returns-in-Err-clause-length
returns-in-Err-clause-length g c = rw c.passed_over.ensures (passed_none _ c.in-Err.fault)
