use Rattle.std.proofs.Common.{◌/◌, ap, sym, subst}
use Rattle.luks_slot.specs.Opening.{area_bytes}
use Rattle.luks_slot.specs.Reading.{HoldsRun}
use Rattle.luks_slot.proofs.RunFacts.{plain_in_run}
use Rattle.luks_slot.proofs.area_reader.AreaReader.byte_at.Goals as goal
use Rattle.luks_slot.proofs.area_reader.AreaReader.byte_at.Goals.{then-place-eq0+in_ok-load, else-place-eq0}

pub returns-clause-value : goal.returns-clause-value
returns-clause-value g c tells =
    let reader = c.args.self.now in
    let area = area_bytes (g.D.Device.bytes c.args.device.now) reader.area in
    let held : HoldsRun reader.key area reader.area.len (c.args.place / 4096) c.if-place-eq0.self.run =
    elim c.if-place-eq0.branch [
      | then-place-eq0+in_ok-load w ↦ subst (λ r. HoldsRun reader.key area reader.area.len (c.args.place / 4096) r) (sym (ap (λ r. r.run) w.self-is)) (w.in_ok-load.ensures.value tells)
      | else-place-eq0 w ↦ subst (λ r. HoldsRun reader.key area reader.area.len (c.args.place / 4096) r) (sym (ap (λ r. r.run) w.self-is)) ((c.requires.before tells).held w.if-place-eq0.false)
    ] in
    plain_in_run reader.key area c.if-place-eq0.self.run reader.area.len c.args.place held c.requires.in_area
