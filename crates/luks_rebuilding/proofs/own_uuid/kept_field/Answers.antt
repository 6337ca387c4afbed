use Rattle.std.proofs.Common.{ℕ, List, None, Some, subst}
use Rattle.luks_rebuilding.proofs.UuidFacts.{kept_own, new_own, other_own}
use Rattle.luks_rebuilding.specs.Found.{FindsUuid}
use Rattle.luks_rebuilding.proofs.own_uuid.kept_field.Goals as goal

pub returns-in-Some-clause-own : goal.returns-in-Some-clause-own
returns-in-Some-clause-own g c = λ t.
    kept_own (g.D.Device.bytes c.args.source.now) c.args.place.size c.args.place.at c.args.random.now c.in-Some.field (rw c.in-Some.is at c.in_ok-field.ensures.found t)

pub returns-in-Some-2-clause-own : goal.returns-in-Some-2-clause-own
returns-in-Some-2-clause-own g c = λ t.
    let v : List ℕ = g.D.Device.bytes c.args.source.now in
    let there = subst (λ (l : List ℕ). FindsUuid l c.other_at.result (Some c.in-Some-2.field)) (c.in_ok-field.ensures.unchanged.same t)
    (rw c.in-Some-2.is at c.in_ok-field-in-None.ensures.found t) in
    other_own v c.args.place.size c.args.place.at c.args.random.now c.in-Some-2.field (rw c.in-None.is at c.in_ok-field.ensures.found t)
    (subst (λ (o : ℕ). FindsUuid v o (Some c.in-Some-2.field)) c.other_at.ensures there)

pub returns-in-None-2-clause-own : goal.returns-in-None-2-clause-own
returns-in-None-2-clause-own g c = λ t.
    let v : List ℕ = g.D.Device.bytes c.args.source.now in
    let none = subst (λ (l : List ℕ). FindsUuid l c.other_at.result None) (c.in_ok-field.ensures.unchanged.same t)
    (rw c.in-None-2.is at c.in_ok-field-in-None.ensures.found t) in
    new_own v c.args.place.size c.args.place.at c.args.random.now c.new_field.result (rw c.in-None.is at c.in_ok-field.ensures.found t)
    (subst (λ (o : ℕ). FindsUuid v o None) c.other_at.ensures none) c.new_field.ensures
