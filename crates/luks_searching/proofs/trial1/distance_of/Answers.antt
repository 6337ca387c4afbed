use Rattle.std.proofs.Common.{◌≡◌, ◌<◌, length, subst, sym, arith}
use Rattle.std.proofs.lemmas.List.{get_or_default}
use Rattle.luks1_mending.specs.Made.{IsMade}
use Rattle.luks1_rebuilding.specs.Used.{any_slot}
use Rattle.luks1_rebuilding.proofs.OpeningFacts.{enabled_plan}
use Rattle.luks_searching.proofs.HeadedFacts.{err_cut, opens_headed, shut_headed, told_by}
use Rattle.luks_searching.proofs.trial1.distance_of.Goals as goal

pub try_plan-requires-clause-openable : goal.try_plan-requires-clause-openable
try_plan-requires-clause-openable g c =
    (enabled_plan c.args.made.now c.args.n (g.D.Device.size c.args.source.now)
    (record { bytes = c.args.sought.now.header.now; given = c.args.sought.now.given.now; made = c.requires.made; as_written = c.write-written.result; written = c.write-written.ensures.written })
    c.requires.numbered _ c.in-Enabled.is c.luks1_plan-plan.result c.luks1_plan-plan.ensures.is c.luks1_plan-plan.ensures.judged).openable

pub try_plan-requires-clause-inside : goal.try_plan-requires-clause-inside
try_plan-requires-clause-inside g c =
    (enabled_plan c.args.made.now c.args.n (g.D.Device.size c.args.source.now)
    (record { bytes = c.args.sought.now.header.now; given = c.args.sought.now.given.now; made = c.requires.made; as_written = c.write-written.result; written = c.write-written.ensures.written })
    c.requires.numbered _ c.in-Enabled.is c.luks1_plan-plan.result c.luks1_plan-plan.ensures.is c.luks1_plan-plan.ensures.judged).inside

pub returns-in-Enabled-clause-cut : goal.returns-in-Enabled-clause-cut
returns-in-Enabled-clause-cut g c = err_cut c.luks1_plan-plan.result c.try_plan.new.tally c.try_plan.result c.try_plan.ensures.memory c.try_plan.ensures.cut

pub returns-in-Enabled-clause-opens : goal.returns-in-Enabled-clause-opens
returns-in-Enabled-clause-opens g c = λ tells.
    let d = c.args.made.now in
    let n = c.args.n in
    let h = c.args.sought.now.header.now in
    let given = c.args.sought.now.given.now in
    let v = g.D.Device.bytes c.args.source.now in
    let eight = c.requires.made.eight in
    let low = c.requires.numbered in
    let within : n < length d.slots = omega (arith, eight, low) in
    let sized : length v ≡ g.D.Device.size c.args.source.now = g.met.D.Device.sized c.args.source.now tells in
    let large = c.requires.large in
    let made : IsMade h (length v) given d = subst (λ m. IsMade h m given d) (sym sized) c.requires.made in
    let there = enabled_plan d n (g.D.Device.size c.args.source.now)
    (record { bytes = h; given = given; made = c.requires.made; as_written = c.write-written.result; written = c.write-written.ensures.written })
    low _ c.in-Enabled.is c.luks1_plan-plan.result c.luks1_plan-plan.ensures.is c.luks1_plan-plan.ensures.judged in
    let inside = there.inside in
    told_by c.try_plan.result _ _
    (opens_headed v h c.args.sought.now.long (omega (arith, large, sized)) given d made n low c.write-written.result c.write-written.ensures.written
    _ (sym (get_or_default d.slots n any_slot _ within)) c.in-Enabled.is c.luks1_plan-plan.result c.luks1_plan-plan.ensures.is c.luks1_plan-plan.ensures.judged
    (omega (arith, inside, sized)) c.args.sought.now.passphrase.now)
    (c.try_plan.ensures.opens tells)

pub returns-in-Disabled-clause-opens : goal.returns-in-Disabled-clause-opens
returns-in-Disabled-clause-opens g c = λ tells.
    let d = c.args.made.now in
    let n = c.args.n in
    let h = c.args.sought.now.header.now in
    let given = c.args.sought.now.given.now in
    let v = g.D.Device.bytes c.args.source.now in
    let eight = c.requires.made.eight in
    let low = c.requires.numbered in
    let within : n < length d.slots = omega (arith, eight, low) in
    let sized : length v ≡ g.D.Device.size c.args.source.now = g.met.D.Device.sized c.args.source.now tells in
    let large = c.requires.large in
    let made : IsMade h (length v) given d = subst (λ m. IsMade h m given d) (sym sized) c.requires.made in (
      (λ e. absurd (cc)),
      (λ x. absurd (shut_headed v h given d c.args.sought.now.long (omega (arith, large, sized)) made n low
          _ (sym (get_or_default d.slots n any_slot _ within)) c.in-Disabled.is c.args.sought.now.passphrase.now x)),
    )
