use Rattle.std.proofs.Common.{ℕ, ◌+◌, ◌≤◌, List, length, arith, sym, ap, ◌∙◌}
use Rattle.luks_area.specs.Ranges.{part}
use Rattle.luks2_header.specs.Header2.{header_at, hdr_size}
use Rattle.luks2_header.proofs.CopyFacts.{listed_at_least}
use Rattle.luks2_header.proofs.copies.begins_at.Goals as goal
use Rattle.luks2_header.proofs.copies.begins_at.Goals.{then-total-lt-WINDOW-via-then-total-lt-WINDOW, then-total-lt-WINDOW-via-else-total-lt-WINDOW+then-at-total}

pub returns-then-total-lt-WINDOW-clause-unsound : goal.returns-then-total-lt-WINDOW-clause-unsound
returns-then-total-lt-WINDOW-clause-unsound g c = λ t sound.
    let v : List ℕ = g.D.Device.bytes c.args.device.now in
    let long : 16384 ≤ hdr_size (header_at v c.args.at) = listed_at_least _ sound.form.listed in
    let inside : c.args.at + hdr_size (header_at v c.args.at) ≤ length v = sound.form.inside in
    let sized = g.met.D.Device.sized c.args.device.now t in
    elim c.then-total-lt-WINDOW.branch [
      | then-total-lt-WINDOW-via-then-total-lt-WINDOW w ↦ absurd (omega (arith, sized, long, inside))
      | then-total-lt-WINDOW-via-else-total-lt-WINDOW+then-at-total w ↦ absurd (omega (arith, sized, long, inside))
    ]

pub begins_copy-requires-clause-head : goal.begins_copy-requires-clause-head
begins_copy-requires-clause-head g c = λ t.
    c.in_ok-read_at.ensures.read t ∙ ap (part (g.D.Device.bytes c.args.device.now) c.args.at) c.requires.header
    ∙ ap (λ v. header_at v c.args.at) (sym (c.in_ok-read_at.ensures.unchanged.same t))
