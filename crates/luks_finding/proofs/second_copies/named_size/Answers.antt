use Rattle.std.proofs.Common.{◌≡◌, ℕ, List, length, sym, ap, ◌∙◌, arith}
use Rattle.luks_area.specs.Ranges.{part}
use Rattle.luks2_header.specs.Header2.{hdr_size}
use Rattle.luks_finding.proofs.second_copies.named_size.Goals as goal

pub returns-then-size-at-clause-named : goal.returns-then-size-at-clause-named
returns-then-size-at-clause-named g c = λ t.
    let v : List ℕ = g.D.Device.bytes c.args.device.now in
    let long : length v ≡ g.D.Device.size c.args.device.now = g.met.D.Device.sized c.args.device.now t in
    let read : c.read_at.new.into ≡ part v c.args.at 4096 = c.in_ok-read_at.ensures.read t in
    record {
      listed = sym c.is_listed.ensures ∙ c.if-is_listed.true;
      room = omega arith;
      whole = omega (arith, long);
      is = ap hdr_size (sym read) ∙ c.read-size.ensures.hdr_size;
    }
