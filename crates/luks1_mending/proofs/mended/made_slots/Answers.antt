use Rattle.std.proofs.Common.{◌≡◌, ◌≢◌, ◌<◌, length, inl, inr, arith, length-set, get_or-set_other, get_or-set_same}
use Rattle.std.proofs.lemmas.Bool.{cases_lt}
use Rattle.luks1_mending.proofs.mended.made_slots.Goals as goal

pub loop-n-preserved : goal.loop-n-preserved
loop-n-preserved c =
    let within : c.loop-n.n < length c.loop-n.slots = omega (arith, c.loop-n.invariant.eight) in
    record {
      eight = simp length-set c.loop-n.invariant.eight;
      each = λ k s lt. elim (cases_lt k c.loop-n.n) [
        | inl under ↦ (let other : k ≢ c.loop-n.n = (λ e. omega arith) in rw get_or-set_other (c.loop-n.invariant.each k s under))
        | inr over ↦ (let same : k ≡ c.loop-n.n = omega arith in rw same (rw get_or-set_same c.made_slot.ensures))
      ];
    }
