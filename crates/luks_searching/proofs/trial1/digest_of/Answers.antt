use Rattle.std.proofs.Common.{◌≡◌, ◌<◌, ◌∙◌, length, subst, sym, arith}
use Rattle.std.proofs.lemmas.List.{get_or_default}
use Rattle.luks1_mending.specs.Made.{IsMade}
use Rattle.luks1_rebuilding.specs.Used.{any_slot}
use Rattle.luks1_rebuilding.proofs.OpeningFacts.{enabled_plan}
use Rattle.luks_searching.proofs.HeadedFacts.{err_cut, found_both, found_so, given_headed, none_so, shut_gives, stored_twenty, untried_headed}
use Rattle.luks_searching.proofs.trial1.digest_of.Goals as goal

pub digest_of_plan-requires-clause-openable : goal.digest_of_plan-requires-clause-openable
digest_of_plan-requires-clause-openable g c =
    (enabled_plan c.args.made.now c.args.n (g.D.Device.size c.args.source.now)
    (record { bytes = c.args.sought.now.header.now; given = c.args.sought.now.given.now; made = c.requires.made; as_written = c.write-written.result; written = c.write-written.ensures.written })
    c.requires.numbered _ c.in-Enabled.is c.luks1_plan-plan.result c.luks1_plan-plan.ensures.is c.luks1_plan-plan.ensures.judged).openable

pub digest_of_plan-requires-clause-inside : goal.digest_of_plan-requires-clause-inside
digest_of_plan-requires-clause-inside g c =
    (enabled_plan c.args.made.now c.args.n (g.D.Device.size c.args.source.now)
    (record { bytes = c.args.sought.now.header.now; given = c.args.sought.now.given.now; made = c.requires.made; as_written = c.write-written.result; written = c.write-written.ensures.written })
    c.requires.numbered _ c.in-Enabled.is c.luks1_plan-plan.result c.luks1_plan-plan.ensures.is c.luks1_plan-plan.ensures.judged).inside

pub returns-in-Enabled-clause-cut : goal.returns-in-Enabled-clause-cut
returns-in-Enabled-clause-cut g c = err_cut c.luks1_plan-plan.result c.digest_of_plan.new.tally c.digest_of_plan.result c.digest_of_plan.ensures.memory c.digest_of_plan.ensures.cut

pub returns-in-Enabled-clause-long : goal.returns-in-Enabled-clause-long
returns-in-Enabled-clause-long g c =
    let d = c.args.made.now in
    let n = c.args.n in
    let eight = c.requires.made.eight in
    let low = c.requires.numbered in
    let within : n < length d.slots = omega (arith, eight, low) in
    let twenty = stored_twenty c.args.sought.now.header.now (g.D.Device.size c.args.source.now) c.args.sought.now.given.now d c.requires.made c.write-written.result
    c.write-written.ensures.written n low _ (sym (get_or_default d.slots n any_slot _ within)) c.luks1_plan-plan.result c.luks1_plan-plan.ensures.is in
    found_so c.digest_of_plan.result _ _ (λ x long. long ∙ twenty) c.digest_of_plan.ensures.long

pub returns-in-Enabled-clause-digest : goal.returns-in-Enabled-clause-digest
returns-in-Enabled-clause-digest g c = λ tells.
    let d = c.args.made.now in
    let n = c.args.n in
    let h = c.args.sought.now.header.now in
    let given = c.args.sought.now.given.now in
    let v = g.D.Device.bytes c.args.source.now in
    let eight = c.requires.made.eight in
    let low = c.requires.numbered in
    let within : n < length d.slots = omega (arith, eight, low) in
    let sized : length v ≡ g.D.Device.size c.args.source.now = g.met.D.Device.sized c.args.source.now tells in
    let large = c.requires.large in
    let made : IsMade h (length v) given d = subst (λ m. IsMade h m given d) (sym sized) c.requires.made in
    let there = enabled_plan d n (g.D.Device.size c.args.source.now)
    (record { bytes = h; given = given; made = c.requires.made; as_written = c.write-written.result; written = c.write-written.ensures.written })
    low _ c.in-Enabled.is c.luks1_plan-plan.result c.luks1_plan-plan.ensures.is c.luks1_plan-plan.ensures.judged in
    let inside = there.inside in
    found_both c.digest_of_plan.result _ _ _
    (λ x tried is.
    given_headed v h c.args.sought.now.long (omega (arith, large, sized)) given d made n low c.write-written.result c.write-written.ensures.written
    _ (sym (get_or_default d.slots n any_slot _ within)) c.in-Enabled.is c.luks1_plan-plan.result c.luks1_plan-plan.ensures.is c.luks1_plan-plan.ensures.judged
    (omega (arith, inside, sized)) c.args.sought.now.passphrase.now
    x.items tried is)
    c.digest_of_plan.ensures.tried (c.digest_of_plan.ensures.digest tells)

pub returns-in-Enabled-clause-none : goal.returns-in-Enabled-clause-none
returns-in-Enabled-clause-none g c = λ tells.
    let d = c.args.made.now in
    let n = c.args.n in
    let h = c.args.sought.now.header.now in
    let given = c.args.sought.now.given.now in
    let v = g.D.Device.bytes c.args.source.now in
    let eight = c.requires.made.eight in
    let low = c.requires.numbered in
    let within : n < length d.slots = omega (arith, eight, low) in
    let sized : length v ≡ g.D.Device.size c.args.source.now = g.met.D.Device.sized c.args.source.now tells in
    let large = c.requires.large in
    let made : IsMade h (length v) given d = subst (λ m. IsMade h m given d) (sym sized) c.requires.made in
    let there = enabled_plan d n (g.D.Device.size c.args.source.now)
    (record { bytes = h; given = given; made = c.requires.made; as_written = c.write-written.result; written = c.write-written.ensures.written })
    low _ c.in-Enabled.is c.luks1_plan-plan.result c.luks1_plan-plan.ensures.is c.luks1_plan-plan.ensures.judged in
    let inside = there.inside in
    none_so c.digest_of_plan.result _ _
    (untried_headed v h c.args.sought.now.long (omega (arith, large, sized)) given d made n low c.write-written.result c.write-written.ensures.written
    _ (sym (get_or_default d.slots n any_slot _ within)) c.in-Enabled.is c.luks1_plan-plan.result c.luks1_plan-plan.ensures.is c.luks1_plan-plan.ensures.judged
    (omega (arith, inside, sized)) c.args.sought.now.passphrase.now)
    c.digest_of_plan.ensures.none

pub returns-in-Disabled-clause-none : goal.returns-in-Disabled-clause-none
returns-in-Disabled-clause-none g c = λ tells.
    let d = c.args.made.now in
    let n = c.args.n in
    let h = c.args.sought.now.header.now in
    let given = c.args.sought.now.given.now in
    let v = g.D.Device.bytes c.args.source.now in
    let eight = c.requires.made.eight in
    let low = c.requires.numbered in
    let within : n < length d.slots = omega (arith, eight, low) in
    let sized : length v ≡ g.D.Device.size c.args.source.now = g.met.D.Device.sized c.args.source.now tells in
    let large = c.requires.large in
    let made : IsMade h (length v) given d = subst (λ m. IsMade h m given d) (sym sized) c.requires.made in
    shut_gives v h given d c.args.sought.now.long (omega (arith, large, sized)) made n low
    _ (sym (get_or_default d.slots n any_slot _ within)) c.in-Disabled.is c.args.sought.now.passphrase.now
