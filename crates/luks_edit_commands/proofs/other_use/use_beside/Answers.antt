use Rattle.std.proofs.Common.{ℕ, List, refl, subst}
use Rattle.luks2_header.specs.Selection.{Chosen, luks2}
use Rattle.luks2_header.specs.declared.selection.Copies.{Copies}
use Rattle.luks2_header.specs.declared.selection.Copies.TheVariants.{FirstOnly, SecondOnly}
use Rattle.luks_edit_commands.proofs.OtherUseFacts.{finds_use, first_asks, no_use}
use Rattle.luks_edit_commands.proofs.other_use.use_beside.Goals as goal

pub returns-in-SecondOnly-clause-found : goal.returns-in-SecondOnly-clause-found
returns-in-SecondOnly-clause-found g c = λ tells counting.
    let v : List ℕ = g.D.Device.bytes c.args.device.now in
    let place : ℕ = c.args.header.now.hdr_offset in
    let chosen = subst (λ (k : Copies). Chosen v (luks2 place k)) c.in-SecondOnly.is counting.0 in
    finds_use v place SecondOnly place c.first_use.result chosen refl (c.first_use.ensures.found tells)

pub returns-in-FirstOnly-clause-found : goal.returns-in-FirstOnly-clause-found
returns-in-FirstOnly-clause-found g c = λ tells counting.
    let v : List ℕ = g.D.Device.bytes c.args.device.now in
    let place : ℕ = c.args.header.now.hdr_offset in
    let chosen = subst (λ (k : Copies). Chosen v (luks2 place k)) c.in-FirstOnly.is counting.0 in
    let asked = first_asks v place c.args.header.now.hdr_size c.both_places.result chosen counting.1.hdr_size c.both_places.ensures in
    finds_use v place FirstOnly c.both_places.result c.first_use-in-FirstOnly.result chosen asked (c.first_use-in-FirstOnly.ensures.found tells)

pub returns-in_default-clause-found : goal.returns-in_default-clause-found
returns-in_default-clause-found g c = λ tells counting.
    no_use (g.D.Device.bytes c.args.device.now) c.args.header.now.hdr_offset c.args.copies counting.0 c.in_default.not-SecondOnly c.in_default.not-FirstOnly
