use Rattle.std.proofs.Common.{None, Some, ap, not, refl, sym, subst, ◌∙◌}
use Rattle.luks_slot.specs.declared.allowed.Allowed.{Allowed}
use Rattle.luks_reading.specs.Answer.{FirstRefusal, IsRefusalWithin}
use Rattle.luks_notes.specs.OlderNotes.{all_memory}
use Rattle.luks_notes.proofs.RefusalFacts.{first_of, none_first, none_of, some_first}
use Rattle.luks_notes.proofs.older_keyslot.older_note.Goals as goal

pub returns-then-is_none-clause-none : goal.returns-then-is_none-clause-none
returns-then-is_none-clause-none c = λ none unasked v is len helped.
    none_first (IsRefusalWithin c.all_memory.result v c.args.n) c.refused_slot.result (c.is_none.ensures ∙ ap not c.if-is_none.true) (c.refused_slot.ensures v is len)
    helped.fault (subst (λ (a : Allowed). FirstRefusal (IsRefusalWithin a v c.args.n) (Some helped.fault)) (sym c.all_memory.ensures) helped.without)

pub returns-then-is_some-clause-none : goal.returns-then-is_some-clause-none
returns-then-is_some-clause-none c = λ none unasked v is len helped.
    some_first (IsRefusalWithin c.all_memory-2.result v c.args.n) c.refused_slot-2.result (sym c.is_some.ensures ∙ c.if-is_some.true) (c.refused_slot-2.ensures v is len)
    (subst (λ (a : Allowed). FirstRefusal (IsRefusalWithin a v c.args.n) None) (sym c.all_memory-2.ensures) helped.tried)

pub returns-clause-some : goal.returns-clause-some
returns-clause-some c = record {
  slot = refl;
  older = λ v is len.
      let first = first_of (IsRefusalWithin c.all_memory.result v c.args.n) c.refused_slot.result (c.is_none.ensures ∙ ap not c.if-is_none.false) (c.refused_slot.ensures v is len) in
      record {
        fault = first.0;
        without = subst (λ (a : Allowed). FirstRefusal (IsRefusalWithin a v c.args.n) (Some first.0)) c.all_memory.ensures first.1;
        tried = subst (λ (a : Allowed). FirstRefusal (IsRefusalWithin a v c.args.n) None) c.all_memory-2.ensures
            (none_of (IsRefusalWithin c.all_memory-2.result v c.args.n) c.refused_slot-2.result (sym c.is_some.ensures ∙ c.if-is_some.false) (c.refused_slot-2.ensures v is len));
      };
  told = c.older_part.ensures;
}
