-- A keyslot that is refused or gives no key doesn't open.
use Rattle.std.proofs.Common.{◌≡◌, ℕ, length, subst, sym}
use Rattle.luks_wide_reading.specs.Opening.{UnderwayRefused, UnderwayTakesMemory}
use Rattle.luks_wide_reading.proofs.UnderwayPlans.{passed_count, passed_kinds, passed_memory, passed_no_memory, passed_none, refused_tried, underway_tried}
use Rattle.luks_wide_reading.proofs.trying.try_one.Goals as goal

pub returns-in-Ok-clause-answers : goal.returns-in-Ok-clause-answers
returns-in-Ok-clause-answers g c = λ json holds.
    let x = c.in-Ok.ensures.answers json holds in
    record {
      tried = λ tells. underway_tried c.args.allowed json (g.D.Device.bytes c.args.device.now) c.args.n c.args.passphrase.now c.in-Ok.found (x.one tells) (x.opens tells);
      memory = tt;
    }

pub returns-in-Err-clause-answers : goal.returns-in-Err-clause-answers
returns-in-Err-clause-answers g c = λ json holds.
    let v = g.D.Device.bytes c.args.device.now in
    let x = c.in-Err.ensures.answers json holds in
    rw c.passed_over.ensures
    (record {
      tried = λ tells.
          let long : g.D.Device.size c.args.device.now ≡ length v = sym (g.met.D.Device.sized c.args.device.now tells) in
          refused_tried c.args.allowed json v c.args.n c.args.passphrase.now c.in-Err.fault
          (subst (λ (m : ℕ). UnderwayRefused c.args.allowed json m c.args.n c.in-Err.fault) long x.refused);
      memory = passed_memory (UnderwayTakesMemory c.args.allowed json (g.D.Device.size c.args.device.now) c.args.n) c.in-Err.fault x.refused.1;
    })

pub returns-in-Err-clause-kinds : goal.returns-in-Err-clause-kinds
returns-in-Err-clause-kinds g c = rw c.passed_over.ensures (passed_kinds c.in-Err.fault)

pub returns-in-Err-clause-key_bytes : goal.returns-in-Err-clause-key_bytes
returns-in-Err-clause-key_bytes g c = rw c.passed_over.ensures (passed_none _ c.in-Err.fault)

pub returns-in-Err-clause-no_memory : goal.returns-in-Err-clause-no_memory
returns-in-Err-clause-no_memory g c = λ none. rw c.passed_over.ensures (passed_no_memory c.in-Err.fault (c.in-Err.ensures.no_memory none))

pub returns-in-Err-clause-count : goal.returns-in-Err-clause-count
returns-in-Err-clause-count g c = rw c.passed_over.ensures (passed_count c.in-Err.fault _ _ c.in-Err.ensures.count)
