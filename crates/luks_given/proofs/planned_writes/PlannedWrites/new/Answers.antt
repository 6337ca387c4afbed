use Rattle.std.proofs.Common.{◌≡◌, length, subst, sym, ap, ◌∙◌, arith}
use Rattle.luks_given.specs.Plan.{furthest, planned_length, played, IsUnflushed, IsWrittenBy}
use Rattle.luks_given.proofs.planned_writes.PlannedWrites.new.Goals as goal

pub invariant_of-result-clause-last : goal.invariant_of-result-clause-last
unfolding furthest
invariant_of-result-clause-last g c = let none : furthest c.new-calls.result.items ≡ 0 = ap furthest c.new-calls.ensures.items in omega (arith, none)

pub invariant_of-result-clause-planned : goal.invariant_of-result-clause-planned
unfolding planned_length
invariant_of-result-clause-planned g c = ap planned_length c.new-calls.ensures.items ∙ sym (ap length (c.reserve_exact.ensures.items ∙ c.new-bytes.ensures.items))

pub invariant_of-result-clause-inside : goal.invariant_of-result-clause-inside
unfolding IsWrittenBy
invariant_of-result-clause-inside g c = λ p out by_. subst (λ calls. IsWrittenBy calls p) c.new-calls.ensures.items by_

pub returns-clause-bytes : goal.returns-clause-bytes
unfolding played
returns-clause-bytes g c = ap (λ calls. played calls c.reserve_exact.new.self.items g.K.Given.bytes) c.new-calls.ensures.items

pub returns-clause-settled : goal.returns-clause-settled
unfolding IsUnflushed
returns-clause-settled g c = record { none = λ p is. subst (λ calls. IsUnflushed calls p) c.new-calls.ensures.items is }
