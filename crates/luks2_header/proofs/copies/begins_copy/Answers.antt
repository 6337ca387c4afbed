use Rattle.std.proofs.Common.{◌≡◌, ◌+◌, length, sym, ap, ◌∙◌}
use Rattle.luks_area.specs.Ranges.{part}
use Rattle.luks2_header.proofs.copies.begins_copy.Goals as goal

pub returns-then-not-is_formed-clause-unsound : goal.returns-then-not-is_formed-clause-unsound
returns-then-not-is_formed-clause-unsound g c = λ t sound.
    let total : length (g.D.Device.bytes c.args.device.now) ≡ c.len.result = g.met.D.Device.sized c.args.device.now t ∙ sym c.len.ensures in
    let form = rw (← c.requires.head t, total) at sound.form in
    c.if-not-is_formed.ensures.1 form

pub returns-clause-begun : goal.returns-clause-begun
returns-clause-begun g c = λ t it. record {
  head = c.requires.head t;
  json = c.in_ok-read_at.ensures.read t ∙ ap (λ n. part (g.D.Device.bytes c.args.device.now) (c.args.at + 4096) n) c.requires.kept;
}
