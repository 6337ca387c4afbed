use Rattle.std.proofs.Common.{◌≡◌, ℕ, length, arith, ◌∙◌, subst}
use Rattle.luks_area.specs.Ranges.{IsAt, SameBut}
use Rattle.luks_writing.proofs.CopyFacts.{copy_made_on}
use Rattle.luks_writing.proofs.header_copy.write_summed_copy.Goals as goal

pub returns-clause-rest : goal.returns-clause-rest
returns-clause-rest g c tells =
    subst (λ (n : ℕ). SameBut (IsAt c.args.header.now.hdr_offset n) (g.D.Device.bytes c.args.device.now) (g.D.Device.bytes c.write_both.new.device)) c.requires.json (c.write_both.ensures.rest tells)

pub returns-clause-copy : goal.returns-clause-copy
returns-clause-copy g c tells h is summed =
    let w = g.D.Device.bytes c.write_both.new.device in
    let size : length w ≡ g.D.Device.size c.args.device.now = g.met.D.Device.sized c.write_both.new.device tells ∙ c.write_both.ensures.settles.size in
    let within = c.requires.within in
    copy_made_on c.write_both.result h c.args.header.now w c.write.result c.args.json.now is c.write.ensures summed
    (omega (arith, size, within)) c.requires.json (c.write_both.ensures.head tells) (c.write_both.ensures.area tells)
