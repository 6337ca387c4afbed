use Rattle.std.proofs.Common.{◌≡◌, ◌≢◌, ◌<◌, length, inl, inr, arith, length-set, get_or-set_other, get_or-set_same}
use Rattle.std.proofs.lemmas.Bool.{cases_lt}
use Rattle.luks_converting.proofs.metadata.enabled_slots.Goals as goal

pub loop-n-preserved : goal.loop-n-preserved
loop-n-preserved c =
    let within : c.loop-n.n < length c.loop-n.slots = omega (arith, c.loop-n.invariant.eight) in
    record {
      eight = simp length-set c.loop-n.invariant.eight;
      each = λ h is k o lt. elim (cases_lt k c.loop-n.n) [
        | inl under ↦ (let other : k ≢ c.loop-n.n = (λ e. omega arith) in rw get_or-set_other (c.loop-n.invariant.each h is k o under))
        | inr over ↦ (let same : k ≡ c.loop-n.n = omega arith in rw same (rw get_or-set_same (c.enabled_slot.ensures h c.loop-n.n (omega arith) (is.slots.each c.loop-n.n _ (omega arith)))))
      ];
    }

pub returns : goal.returns
returns c = λ h is. record { eight = c.loop-n.invariant.eight; each = λ k o lt. c.loop-n.invariant.each h is k o (omega arith) }
