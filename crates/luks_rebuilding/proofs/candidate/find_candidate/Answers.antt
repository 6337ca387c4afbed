use Rattle.std.proofs.Common.{◌∙◌, List, ℕ, IfErr, IfOk, None, Some, subst}
use Rattle.luks_rebuilding.specs.Found.{FindsFirst, FindsVouchedFirst, IsNotPlain}
use Rattle.luks_rebuilding.specs.declared.candidate.Candidate.{Candidate}
use Rattle.luks_rebuilding.proofs.FoundFacts.{plain_found, plain_refused, vouched_found}
use Rattle.luks_rebuilding.proofs.candidate.find_candidate.Goals as goal

pub returns-in-Some-clause-found : goal.returns-in-Some-clause-found
returns-in-Some-clause-found g c = λ t.
    let v : List ℕ = g.D.Device.bytes c.args.source.now in
    let found = rw c.in-Some.is at c.in_ok-vouched.ensures.found t in
    vouched_found v c.args.which c.in-Some.vouched (c.in_ok-pass_counting.ensures.passes t)
    (subst (λ (u : List ℕ). FindsVouchedFirst u c.args.which (Some c.in-Some.vouched)) (c.in_ok-pass_counting.ensures.unchanged.same t) found)

pub returns-in-None-clause-found : goal.returns-in-None-clause-found
returns-in-None-clause-found g c = λ t.
    let v : List ℕ = g.D.Device.bytes c.args.source.now in
    let same = c.in_ok-vouched.ensures.unchanged.same t ∙ c.in_ok-pass_counting.ensures.unchanged.same t in
    let none = rw c.in-None.is at c.in_ok-vouched.ensures.found t in
    plain_found v c.args.which (c.in_ok-pass_counting.ensures.passes t)
    (subst (λ (u : List ℕ). FindsVouchedFirst u c.args.which None) (c.in_ok-pass_counting.ensures.unchanged.same t) none)
    c.find_plain.result c.find_plain.ensures.plain
    (subst (λ (u : List ℕ). IfOk c.find_plain.result (λ (k : Candidate). FindsFirst u c.args.which.copies (Some k))) same (c.find_plain.ensures.found t))

pub returns-in-None-clause-refused : goal.returns-in-None-clause-refused
returns-in-None-clause-refused g c = λ t.
    let v : List ℕ = g.D.Device.bytes c.args.source.now in
    let same = c.in_ok-vouched.ensures.unchanged.same t ∙ c.in_ok-pass_counting.ensures.unchanged.same t in
    let none = rw c.in-None.is at c.in_ok-vouched.ensures.found t in
    plain_refused v c.args.which (c.in_ok-pass_counting.ensures.passes t)
    (subst (λ (u : List ℕ). FindsVouchedFirst u c.args.which None) (c.in_ok-pass_counting.ensures.unchanged.same t) none)
    c.find_plain.result
    (subst (λ (u : List ℕ). IfErr c.find_plain.result (IsNotPlain u c.args.which.copies)) same (c.find_plain.ensures.refused t))
