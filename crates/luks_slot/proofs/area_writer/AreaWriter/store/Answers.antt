use Rattle.std.proofs.Common.{◌≡◌, ◌≤◌, ◌+◌, ◌*◌, ℕ, length, take, subst, ◌∙◌, arith}
use Rattle.std.proofs.lemmas.List.{length-take-le}
use Rattle.luks_area.proofs.DeviceFacts.{touches-wider}
use Rattle.luks_area.proofs.RangeFacts.{at-inside}
use Rattle.luks_modes.specs.Units.{AreMade}
use Rattle.luks_slot.specs.Ciphers.{sector_opened}
use Rattle.luks_slot.proofs.WritingFacts.{run_alone, run_stored}
use Rattle.luks_slot.proofs.area_writer.AreaWriter.store.Goals as goal

pub returns-clause-value : goal.returns-clause-value
returns-clause-value g c tells =
    let writer = c.args.self.now in
    let number = c.args.number in
    let len = c.run_length-len.result in
    let is = c.run_length-len.ensures in
    let run = c.write_run.new.run in
    let v = g.D.Device.bytes c.args.device.now in
    let w = g.D.Device.bytes c.write_run.new.device in
    let size : length v ≡ g.D.Device.size c.args.device.now = g.met.D.Device.sized c.args.device.now tells in
    let after : length w ≡ g.D.Device.size c.write_run.new.device = g.met.D.Device.sized c.write_run.new.device tells in
    let short : len ≤ length run = omega arith in
    run_stored v w writer.key (take len run) writer.run writer.area number c.requires.in_area (omega (arith, size, c.requires.within))
    (length-take-le len run short ∙ is) (omega (arith, size, after, c.write_run.ensures.size)) (c.in_ok-write_run.ensures.wrote tells)
    (subst (λ (n : ℕ). AreMade (sector_opened writer.key) (8 * number) (take len run) (take n writer.run)) is c.write_run.ensures.sealed)

pub returns-clause-alone : goal.returns-clause-alone
returns-clause-alone g c tells =
    let writer = c.args.self.now in
    let len = c.run_length-len.result in
    let is = c.run_length-len.ensures in
    let run = c.write_run.new.run in
    let v = g.D.Device.bytes c.args.device.now in
    let size : length v ≡ g.D.Device.size c.args.device.now = g.met.D.Device.sized c.args.device.now tells in
    let short : len ≤ length run = omega arith in
    let long : length (take len run) ≡ len = length-take-le len run short in
    run_alone v (g.D.Device.bytes c.write_run.new.device) (take len run) (writer.area.start + 4096 * c.args.number)
    (omega (arith, long, is)) (omega (arith, long, is, size, c.requires.within, c.requires.in_area)) (c.in_ok-write_run.ensures.wrote tells)

pub returns-in_err-write_run-clause-touches : goal.returns-in_err-write_run-clause-touches
returns-in_err-write_run-clause-touches g c tells =
    let area = c.args.self.now.area in
    touches-wider (λ p at. at-inside area.start area.len (4096 * c.args.number) c.run_length-len.result p (omega (arith, c.run_length-len.ensures, c.requires.in_area)) at) (c.write_run.ensures.touches tells)

pub returns-clause-touches : goal.returns-clause-touches
returns-clause-touches g c tells =
    let area = c.args.self.now.area in
    touches-wider (λ p at. at-inside area.start area.len (4096 * c.args.number) c.run_length-len.result p (omega (arith, c.run_length-len.ensures, c.requires.in_area)) at) (c.write_run.ensures.touches tells)
