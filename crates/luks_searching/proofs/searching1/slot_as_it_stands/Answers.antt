use Rattle.std.proofs.Common.{◌≡◌, ◌≤◌, length, subst, sym, arith}
use Rattle.luks_searching.specs.Headed.{GivesNoDigest, GivesOneDigest}
use Rattle.luks_searching.proofs.DigestFacts.{found_with, none_untried, none_with}
use Rattle.luks_searching.proofs.HeadedFacts.{none_as, none_at, some_of, some_so}
use Rattle.luks_searching.proofs.searching1.slot_as_it_stands.Goals as goal

pub returns-in-Some-clause-found : goal.returns-in-Some-clause-found
returns-in-Some-clause-found g c = λ tells.
    let v = g.D.Device.bytes c.args.source.now in
    let h = c.args.sought.now.header.now in
    let given = c.args.sought.now.given.now in
    let p = c.args.sought.now.passphrase.now in
    let sized : length v ≡ g.D.Device.size c.args.source.now = g.met.D.Device.sized c.args.source.now tells in
    let large = c.requires.large in
    let room : 592 ≤ length v = omega (arith, large, sized) in
    let one = subst (GivesOneDigest v h given p c.args.n) (sym c.deref.ensures.0)
    (some_of c.in_ok-digest.field-0 c.in-Some.digest (λ d. GivesOneDigest v h given p c.args.n d.items) c.in-Some.is (c.in_ok-digest.ensures.digest tells)) in
    some_so c.with_given.result _ _ (λ f is. found_with v h c.args.sought.now.long room given p c.args.n c.deref.result.now one f c.requires.numbered is) c.with_given.ensures.found

pub returns-in-Some-clause-none : goal.returns-in-Some-clause-none
returns-in-Some-clause-none g c = λ tells.
    let v = g.D.Device.bytes c.args.source.now in
    let h = c.args.sought.now.header.now in
    let given = c.args.sought.now.given.now in
    let p = c.args.sought.now.passphrase.now in
    let sized : length v ≡ g.D.Device.size c.args.source.now = g.met.D.Device.sized c.args.source.now tells in
    let large = c.requires.large in
    let room : 592 ≤ length v = omega (arith, large, sized) in
    let one = subst (GivesOneDigest v h given p c.args.n) (sym c.deref.ensures.0)
    (some_of c.in_ok-digest.field-0 c.in-Some.digest (λ d. GivesOneDigest v h given p c.args.n d.items) c.in-Some.is (c.in_ok-digest.ensures.digest tells)) in
    none_as c.with_given.result _ _ (none_with v h c.args.sought.now.long room given p c.args.n c.deref.result.now one) c.with_given.ensures.none

pub returns-in-None-clause-none : goal.returns-in-None-clause-none
returns-in-None-clause-none g c = λ tells.
    let v = g.D.Device.bytes c.args.source.now in
    let h = c.args.sought.now.header.now in
    let given = c.args.sought.now.given.now in
    let p = c.args.sought.now.passphrase.now in
    let sized : length v ≡ g.D.Device.size c.args.source.now = g.met.D.Device.sized c.args.source.now tells in
    let large = c.requires.large in
    let room : 592 ≤ length v = omega (arith, large, sized) in
    none_untried v h c.args.sought.now.long room given p c.args.n
    (none_at c.in_ok-digest.field-0 (GivesNoDigest v h given p c.args.n) c.in-None.is (c.in_ok-digest.ensures.none tells))
