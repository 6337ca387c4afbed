use Rattle.std.proofs.Common.{ℕ, List, length}
use Rattle.luks_area.proofs.RangeFacts.{part-part}
use Rattle.luks_find_command.proofs.volume_at.VolumeAtDevice.read_at.Goals as goal

pub returns-clause-read : goal.returns-clause-read
returns-clause-read g c = λ t.
    let v : List ℕ = g.D.Device.bytes c.args.self.now.device in
    let at : ℕ = c.args.at in
    let n : ℕ = length c.args.into.now in
    rw (part-part v c.args.self.now.start c.args.self.now.len at n c.requires.within) (c.read_at.ensures.read t)
