use Rattle.std.proofs.Common.{rules, arith, refl, sym, subst, true}
use Rattle.luks_notes.specs.MemoryNotes.{IsTried}
use Rattle.luks_notes.proofs.memory.memory_note.Goals as goal
use Rattle.luks_notes.proofs.memory.memory_note.Goals.{then-argon2-allowed, else-argon2-allowed}

pub returns-clause-some : goal.returns-clause-some
returns-clause-some c = record {
  slot = refl;
  derives = search rules;
  tried = λ v is len. (c.refused_slot-2.result, c.refused_slot-2.ensures v is len, search rules);
  more = λ less. elim c.if-argon2-allowed.branch [
    | then-argon2-allowed w ↦ subst (IsTried c.args.header.now c.args.n c.args.total (record { memory = c.in_ok-argon2.argon2.kib; older = true })) (sym w.wants_more-is)
        (λ v is len. (w.refused_slot.result, w.refused_slot.ensures v is len, search rules))
    | else-argon2-allowed w ↦ absurd (omega (arith, less, w.if-argon2-allowed.false))
  ];
  enough = λ under. elim c.if-argon2-allowed.branch [
    | then-argon2-allowed w ↦ absurd (omega (arith, under, w.if-argon2-allowed.true))
    | else-argon2-allowed w ↦ grind (arith, under, w.wants_more-is, w.if-argon2-allowed.false)
  ];
}
