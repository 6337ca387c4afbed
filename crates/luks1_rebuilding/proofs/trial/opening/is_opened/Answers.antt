use Rattle.std.proofs.Common.{◌<◌, ◌↔◌, IsTrue, length, sym, arith}
use Rattle.std.proofs.lemmas.List.{get_or_default}
use Rattle.luks1_rebuilding.specs.Used.{any_slot}
use Rattle.luks1_rebuilding.specs.Openings.{OpensBy}
use Rattle.luks1_rebuilding.specs.Tried.{IsMadeOf}
use Rattle.luks1_rebuilding.proofs.OpeningFacts.{of_each, enabled_plan, tells_opening, tells_shut}
use Rattle.luks1_rebuilding.proofs.trial.opening.is_opened.Goals as goal

pub open-requires-clause-iterations : goal.open-requires-clause-iterations
open-requires-clause-iterations g c =
    (enabled_plan c.args.made.now c.args.n (g.D.Device.size c.args.source.now) c.requires.made c.requires.numbered _ c.in-Enabled.is c.luks1_plan-plan.result
    c.luks1_plan-plan.ensures.is c.luks1_plan-plan.ensures.judged).openable.turns

pub open-requires-clause-digest_iterations : goal.open-requires-clause-digest_iterations
open-requires-clause-digest_iterations g c =
    (enabled_plan c.args.made.now c.args.n (g.D.Device.size c.args.source.now) c.requires.made c.requires.numbered _ c.in-Enabled.is c.luks1_plan-plan.result
    c.luks1_plan-plan.ensures.is c.luks1_plan-plan.ensures.judged).openable.digest_turns

pub open-requires-clause-digest_length : goal.open-requires-clause-digest_length
open-requires-clause-digest_length g c =
    (enabled_plan c.args.made.now c.args.n (g.D.Device.size c.args.source.now) c.requires.made c.requires.numbered _ c.in-Enabled.is c.luks1_plan-plan.result
    c.luks1_plan-plan.ensures.is c.luks1_plan-plan.ensures.judged).openable.digest_length

pub open-requires-clause-some_bytes : goal.open-requires-clause-some_bytes
open-requires-clause-some_bytes g c =
    (enabled_plan c.args.made.now c.args.n (g.D.Device.size c.args.source.now) c.requires.made c.requires.numbered _ c.in-Enabled.is c.luks1_plan-plan.result
    c.luks1_plan-plan.ensures.is c.luks1_plan-plan.ensures.judged).openable.some_bytes

pub open-requires-clause-at_most_128 : goal.open-requires-clause-at_most_128
open-requires-clause-at_most_128 g c =
    (enabled_plan c.args.made.now c.args.n (g.D.Device.size c.args.source.now) c.requires.made c.requires.numbered _ c.in-Enabled.is c.luks1_plan-plan.result
    c.luks1_plan-plan.ensures.is c.luks1_plan-plan.ensures.judged).openable.at_most_128

pub open-requires-clause-some_stripes : goal.open-requires-clause-some_stripes
open-requires-clause-some_stripes g c =
    (enabled_plan c.args.made.now c.args.n (g.D.Device.size c.args.source.now) c.requires.made c.requires.numbered _ c.in-Enabled.is c.luks1_plan-plan.result
    c.luks1_plan-plan.ensures.is c.luks1_plan-plan.ensures.judged).openable.some_stripes

pub open-requires-clause-sectors : goal.open-requires-clause-sectors
open-requires-clause-sectors g c =
    (enabled_plan c.args.made.now c.args.n (g.D.Device.size c.args.source.now) c.requires.made c.requires.numbered _ c.in-Enabled.is c.luks1_plan-plan.result
    c.luks1_plan-plan.ensures.is c.luks1_plan-plan.ensures.judged).openable.sectors

pub open-requires-clause-within : goal.open-requires-clause-within
open-requires-clause-within g c =
    (enabled_plan c.args.made.now c.args.n (g.D.Device.size c.args.source.now) c.requires.made c.requires.numbered _ c.in-Enabled.is c.luks1_plan-plan.result
    c.luks1_plan-plan.ensures.is c.luks1_plan-plan.ensures.judged).inside

pub returns-in-Enabled-clause-opens : goal.returns-in-Enabled-clause-opens
returns-in-Enabled-clause-opens g c = λ tells.
    let d = c.args.made.now in
    let n = c.args.n in
    let eight = c.requires.made.made.eight in
    let low = c.requires.numbered in
    let within : n < length d.slots = omega (arith, eight, low) in
    let v = g.D.Device.bytes c.args.source.now in
    of_each c.tried.result (λ given. IsMadeOf v given d) (λ b given. IsTrue b ↔ OpensBy v given c.args.passphrase.now n) (λ given made.
    tells_opening d n low c.requires.made.as_written c.requires.made.written _ (sym (get_or_default d.slots n any_slot _ within)) c.in-Enabled.is c.luks1_plan-plan.result c.luks1_plan-plan.ensures.is c.luks1_plan-plan.ensures.judged
    v given made c.args.passphrase.now c.open.result c.tried.result c.open.ensures.fault c.open.ensures.accepted (c.open.ensures.value tells) c.tried.ensures)

pub returns-in-Disabled-clause-opens : goal.returns-in-Disabled-clause-opens
returns-in-Disabled-clause-opens g c = λ tells given made.
    let d = c.args.made.now in
    let n = c.args.n in
    let eight = c.requires.made.made.eight in
    let low = c.requires.numbered in
    let within : n < length d.slots = omega (arith, eight, low) in
    tells_shut (g.D.Device.bytes c.args.source.now) given d made n low _ (sym (get_or_default d.slots n any_slot _ within)) c.in-Disabled.is c.args.passphrase.now
