use Rattle.std.proofs.Common.{◌≡◌, ◌+◌, ◌-◌, arith, subst, take, drop}
use Rattle.luks_fragments.specs.Kinds.{HasKind}
use Rattle.luks_fragments.proofs.ObjectFacts.{one_length}
use Rattle.luks_fragments.proofs.fragment.fragment_at.Goals as goal

pub returns-in_default-2-clause-none : goal.returns-in_default-2-clause-none
returns-in_default-2-clause-none c = λ x.
    let area = c.args.area.now in
    let start = c.args.start in
    let one = one_length area start x.len c.in-Some.len x.fragment.object c.in-Some.ensures.some in
    let same : x.len ≡ start + c.in-Some.len - start = omega (arith, one) in
    let none = rw c.in_default-2.is at c.in_ok-kind.ensures.none in
    none x.kind (subst (λ n. HasKind (take n (drop start area)) x.kind) same x.fragment.is)
