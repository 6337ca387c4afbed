use Rattle.std.proofs.Common.{◌≡◌, ◌+◌, ◌*◌, ℕ, length, take, subst, arith}
use Rattle.luks_area.specs.Ranges.{part}
use Rattle.luks_modes.specs.Units.{AreMade}
use Rattle.luks_slot.specs.Ciphers.{sector_opened}
use Rattle.luks_slot.proofs.RunFacts.{run_opened}
use Rattle.luks_slot.proofs.area_reader.AreaReader.load.Goals as goal

pub returns-clause-value : goal.returns-clause-value
returns-clause-value g c tells =
    let reader = c.args.self.now in
    let area = reader.area in
    let number = c.args.number in
    let v = g.D.Device.bytes c.args.device.now in
    let run = c.read_run.new.run in
    let size : length v ≡ g.D.Device.size c.args.device.now = g.met.D.Device.sized c.args.device.now tells in
    run_opened reader.key v run area number c.requires.in_area (omega (arith, size, c.requires.within))
    (subst (λ (n : ℕ). AreMade (sector_opened reader.key) (8 * number) (part v (area.start + 4096 * number) n) (take n run)) c.run_length-len.ensures (c.in_ok-read_run.ensures.value tells))
