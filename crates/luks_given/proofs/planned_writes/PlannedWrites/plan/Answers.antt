use Rattle.std.proofs.Common.{◌≡◌, ℕ, ◌+◌, List, ◌∷◌, ◌++◌, [], inl, inr, length, subst, refl, sym, ap, ◌∙◌, arith, length-append}
use Rattle.luks_given.specs.declared.planned_writes.PlannedCall.{PlannedCall}
use Rattle.luks_given.specs.Plan.{planned_length, IsWrittenBy}
use Rattle.luks_given.proofs.PlanFacts.{furthest-more, planned_length-more, writes-more}
use Rattle.luks_given.proofs.planned_writes.PlannedWrites.plan.Goals as goal

pub invariant_of-self-else-not-add_call-clause-last : goal.invariant_of-self-else-not-add_call-clause-last
invariant_of-self-else-not-add_call-clause-last g c =
    let self = c.args.self.now in
    rw (c.if-not-add_call.ensures.calls refl) (furthest-more self.calls.items (record { at = c.args.at; len = length c.args.from.now }) self.total self.last c.requires.within)

pub invariant_of-self-else-not-add_call-clause-planned : goal.invariant_of-self-else-not-add_call-clause-planned
invariant_of-self-else-not-add_call-clause-planned g c =
    let self = c.args.self.now in
    let from : List ℕ = c.args.from.now in
    let call : PlannedCall = record { at = c.args.at; len = length from } in
    let longer : planned_length (self.calls.items ++ call ∷ []) ≡ planned_length self.calls.items + length from = planned_length-more self.calls.items call in
    let all : length (self.bytes.items ++ from) ≡ length self.bytes.items + length from = length-append self.bytes.items from in
    let counted = self.planned in
    ap planned_length (c.if-not-add_call.ensures.calls refl) ∙ omega (arith, longer, all, counted) ∙ sym (ap length (c.if-not-add_call.ensures.bytes refl))

pub invariant_of-self-else-not-add_call-clause-inside : goal.invariant_of-self-else-not-add_call-clause-inside
invariant_of-self-else-not-add_call-clause-inside g c = λ p out by_.
    let self = c.args.self.now in
    elim (writes-more self.calls.items (record { at = c.args.at; len = length c.args.from.now }) p (subst (λ calls. IsWrittenBy calls p) (c.if-not-add_call.ensures.calls refl) by_)) [
      | inl before ↦ self.inside p out before
      | inr last ↦ out (c.requires.given p last)
    ]
