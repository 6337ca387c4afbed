use Rattle.std.proofs.Common.{◌≡◌, ℕ, ap, sym, ◌∙◌, arith, subst}
use Rattle.luks_area.specs.Ranges.{IsAt, SameBut}
use Rattle.luks_writing.proofs.header_copy.write_copy.Goals as goal

pub write_summed_copy-requires-clause-json : goal.write_summed_copy-requires-clause-json
write_summed_copy-requires-clause-json g c = c.requires.json ∙ sym (ap (λ x. x.hdr_size) c.with_checksum.ensures.same)

pub write_summed_copy-requires-clause-within : goal.write_summed_copy-requires-clause-within
write_summed_copy-requires-clause-within g c =
    let place : c.with_checksum.result.hdr_offset ≡ c.args.header.now.hdr_offset = ap (λ x. x.hdr_offset) c.with_checksum.ensures.same in
    let size : c.with_checksum.result.hdr_size ≡ c.args.header.now.hdr_size = ap (λ x. x.hdr_size) c.with_checksum.ensures.same in
    let within = c.requires.within in
    omega (arith, place, size, within)

pub returns-clause-rest : goal.returns-clause-rest
returns-clause-rest g c tells =
    let was = g.D.Device.bytes c.args.device.now in
    let is = g.D.Device.bytes c.write_summed_copy.new.device in
    subst (λ (n : ℕ). SameBut (IsAt c.args.header.now.hdr_offset n) was is) (ap (λ x. x.hdr_size) c.with_checksum.ensures.same)
    (subst (λ (o : ℕ). SameBut (IsAt o c.with_checksum.result.hdr_size) was is) (ap (λ x. x.hdr_offset) c.with_checksum.ensures.same) (c.write_summed_copy.ensures.rest tells))

pub returns-clause-copy : goal.returns-clause-copy
returns-clause-copy g c tells is = c.write_summed_copy.ensures.copy tells c.args.header.now is c.with_checksum.ensures
