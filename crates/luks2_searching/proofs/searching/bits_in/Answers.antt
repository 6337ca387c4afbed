use Rattle.std.proofs.Common.{◌≡◌, ◌∙◌, ◌-◌, length, subst, sym}
use Rattle.luks_rebuilding.specs.Candidates.{IsPlace}
use Rattle.luks2_searching.specs.Found.{area_of, HasNoneOfBits, IsFoundIn}
use Rattle.luks2_searching.proofs.FoundFacts.{found_in, there_in}
use Rattle.luks2_searching.proofs.ResultFacts.{found_both, found_so, none_so, some_of}
use Rattle.luks2_searching.proofs.searching.bits_in.Goals as goal

pub returns-in-Some-clause-there : goal.returns-in-Some-clause-there
returns-in-Some-clause-there g c =
    let total = g.D.Device.size c.args.source.now in
    found_so c.by_bits.result _ _
    (λ f x. there_in total c.args.place c.deref_mut.result.now f
    (some_of c.in_ok-json.field-0 c.in-Some.json (λ j. IsPlace (g.D.Device.size c.args.source.now) c.args.place) c.in-Some.is c.in_ok-json.ensures.place)
    (subst (λ l. length l ≡ c.args.place.size - 4096) (sym c.deref_mut.ensures.value)
    (some_of c.in_ok-json.field-0 c.in-Some.json (λ j. length j.items ≡ c.args.place.size - 4096) c.in-Some.is c.in_ok-json.ensures.long)) x)
    c.by_bits.ensures.there

pub returns-in-Some-clause-found : goal.returns-in-Some-clause-found
returns-in-Some-clause-found g c = λ tells.
    let v = g.D.Device.bytes c.args.source.now in
    let allowed = c.args.trying.now.allowed in
    let p = c.args.trying.now.passphrase.now in
    let json = c.deref_mut.result.now in
    let same = c.begun_area.ensures.unchanged.same tells in
    found_both c.by_bits.result _ _ _
    (λ f there x. found_in allowed v p c.args.place json f
    (subst (λ n. IsPlace n c.args.place) (sym (g.met.D.Device.sized c.args.source.now tells))
    (some_of c.in_ok-json.field-0 c.in-Some.json (λ j. IsPlace (g.D.Device.size c.args.source.now) c.args.place) c.in-Some.is c.in_ok-json.ensures.place))
    (subst (λ l. length l ≡ c.args.place.size - 4096) (sym c.deref_mut.ensures.value)
    (some_of c.in_ok-json.field-0 c.in-Some.json (λ j. length j.items ≡ c.args.place.size - 4096) c.in-Some.is c.in_ok-json.ensures.long))
    (c.deref_mut.ensures.value ∙ some_of c.in_ok-json.field-0 c.in-Some.json (λ j. j.items ≡ area_of v c.args.place) c.in-Some.is (c.in_ok-json.ensures.read tells))
    there (subst (λ w. IsFoundIn allowed w p json f) same x))
    c.by_bits.ensures.there (c.by_bits.ensures.found tells)

pub returns-in-Some-clause-none : goal.returns-in-Some-clause-none
returns-in-Some-clause-none g c = λ tells.
    let v = g.D.Device.bytes c.args.source.now in
    let allowed = c.args.trying.now.allowed in
    let p = c.args.trying.now.passphrase.now in
    let json = c.deref_mut.result.now in
    let same = c.begun_area.ensures.unchanged.same tells in
    let read = c.deref_mut.ensures.value ∙ some_of c.in_ok-json.field-0 c.in-Some.json (λ j. j.items ≡ area_of v c.args.place) c.in-Some.is (c.in_ok-json.ensures.read tells) in
    none_so c.by_bits.result _ _ (λ none begun. subst (λ j. HasNoneOfBits allowed v p j) read (subst (λ w. HasNoneOfBits allowed w p json) same none))
    (c.by_bits.ensures.none tells)
