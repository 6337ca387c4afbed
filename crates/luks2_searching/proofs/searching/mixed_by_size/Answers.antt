use Rattle.std.proofs.Common.{◌≡◌, ◌-◌, ◌∙◌, length, subst, sym}
use Rattle.luks_rebuilding.specs.Candidates.{IsBegun, IsPlace}
use Rattle.luks2_searching.specs.Found.{area_of, first_place, second_place, HasNoneOfBoth}
use Rattle.luks2_searching.proofs.ResultFacts.{none_so, some_of}
use Rattle.luks2_searching.proofs.searching.mixed_by_size.Goals as goal

pub mixed_with-requires-clause-place : goal.mixed_with-requires-clause-place
mixed_with-requires-clause-place g c =
    subst (λ n. IsPlace n (first_place c.args.size)) (sym c.begun_area.ensures.unchanged.size)
    (some_of c.in_ok-first.field-0 c.in-Some.first (λ j. IsPlace (g.D.Device.size c.args.source.now) (first_place c.args.size)) c.in-Some.is c.in_ok-first.ensures.place)

pub mixed_with-requires-clause-long : goal.mixed_with-requires-clause-long
mixed_with-requires-clause-long g c =
    subst (λ l. length l ≡ c.args.size - 4096) (sym c.deref.ensures.value)
    (some_of c.in_ok-first.field-0 c.in-Some.first (λ j. length j.items ≡ c.args.size - 4096) c.in-Some.is c.in_ok-first.ensures.long)

pub mixed_with-requires-clause-read : goal.mixed_with-requires-clause-read
mixed_with-requires-clause-read g c = λ tells.
    subst (λ w. c.deref.result.now ≡ area_of w (first_place c.args.size)) (sym (c.begun_area.ensures.unchanged.same tells))
    (c.deref.ensures.value ∙ some_of c.in_ok-first.field-0 c.in-Some.first (λ j. j.items ≡ area_of (g.D.Device.bytes c.args.source.now) (first_place c.args.size)) c.in-Some.is (c.in_ok-first.ensures.read tells))

pub returns-in-Some-clause-none : goal.returns-in-Some-clause-none
returns-in-Some-clause-none g c = λ tells.
    let v = g.D.Device.bytes c.args.source.now in
    let allowed = c.args.trying.now.allowed in
    let p = c.args.trying.now.passphrase.now in
    let same = c.begun_area.ensures.unchanged.same tells in
    let read = c.deref.ensures.value ∙ some_of c.in_ok-first.field-0 c.in-Some.first (λ j. j.items ≡ area_of v (first_place c.args.size)) c.in-Some.is (c.in_ok-first.ensures.read tells) in
    none_so c.mixed_with.result _ _
    (λ none one two. subst (λ j. HasNoneOfBoth allowed v p j (area_of v (second_place c.args.size))) read
    (subst (λ w. IsBegun w (second_place c.args.size) → HasNoneOfBoth allowed w p c.deref.result.now (area_of w (second_place c.args.size))) same none two))
    (c.mixed_with.ensures.none tells)
