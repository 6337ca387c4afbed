use Rattle.std.proofs.Common.{◌≡◌, ◌-◌, ◌∙◌, length, subst, sym}
use Rattle.luks_rebuilding.specs.Candidates.{IsPlace}
use Rattle.luks2_searching.specs.Found.{area_of, first_place, second_place, HasNoneOfBoth, IsFoundMixed}
use Rattle.luks2_searching.proofs.FoundFacts.{found_mixed, there_in}
use Rattle.luks2_searching.proofs.ResultFacts.{found_both, found_so, none_so, some_of}
use Rattle.luks2_searching.proofs.searching.mixed_with.Goals as goal

pub by_mixing-requires-clause-long : goal.by_mixing-requires-clause-long
by_mixing-requires-clause-long g c =
    subst (λ l. length l ≡ c.args.size - 4096) (sym c.deref.ensures.value)
    (some_of c.in_ok-second.field-0 c.in-Some.second (λ j. length j.items ≡ c.args.size - 4096) c.in-Some.is c.in_ok-second.ensures.long) ∙ sym c.requires.long

pub returns-in-Some-clause-there : goal.returns-in-Some-clause-there
returns-in-Some-clause-there g c =
    found_so c.by_mixing.result _ _
    (λ f x. there_in (g.D.Device.size c.args.source.now) (first_place c.args.size) c.args.first.now f c.requires.place c.requires.long x) c.by_mixing.ensures.there

pub returns-in-Some-clause-found : goal.returns-in-Some-clause-found
returns-in-Some-clause-found g c = λ tells.
    let v = g.D.Device.bytes c.args.source.now in
    let allowed = c.args.trying.now.allowed in
    let p = c.args.trying.now.passphrase.now in
    let same = c.begun_area.ensures.unchanged.same tells in
    let sized = sym (g.met.D.Device.sized c.args.source.now tells) in
    found_both c.by_mixing.result _ _ _
    (λ f there x. found_mixed allowed v p c.args.size c.args.first.now c.deref.result.now f
    (subst (λ n. IsPlace n (first_place c.args.size)) sized c.requires.place)
    (subst (λ n. IsPlace n (second_place c.args.size)) sized
    (some_of c.in_ok-second.field-0 c.in-Some.second (λ j. IsPlace (g.D.Device.size c.args.source.now) (second_place c.args.size)) c.in-Some.is c.in_ok-second.ensures.place))
    c.requires.long (c.requires.read tells)
    (c.deref.ensures.value ∙ some_of c.in_ok-second.field-0 c.in-Some.second (λ j. j.items ≡ area_of v (second_place c.args.size)) c.in-Some.is (c.in_ok-second.ensures.read tells))
    there (subst (λ w. IsFoundMixed allowed w p c.args.first.now c.deref.result.now f) same x))
    c.by_mixing.ensures.there (c.by_mixing.ensures.found tells)

pub returns-in-Some-clause-none : goal.returns-in-Some-clause-none
returns-in-Some-clause-none g c = λ tells.
    let v = g.D.Device.bytes c.args.source.now in
    let allowed = c.args.trying.now.allowed in
    let p = c.args.trying.now.passphrase.now in
    let same = c.begun_area.ensures.unchanged.same tells in
    let read = c.deref.ensures.value ∙ some_of c.in_ok-second.field-0 c.in-Some.second (λ j. j.items ≡ area_of v (second_place c.args.size)) c.in-Some.is (c.in_ok-second.ensures.read tells) in
    none_so c.by_mixing.result _ _
    (λ none begun. subst (λ j. HasNoneOfBoth allowed v p c.args.first.now j) read
    (subst (λ w. HasNoneOfBoth allowed w p c.args.first.now c.deref.result.now) same none))
    (c.by_mixing.ensures.none tells)
