use Rattle.std.proofs.Common.{ℕ, List, subst}
use Rattle.sha2.specs.Hashers.{Holds256}
use Rattle.luks2_header.specs.Header2.{with_zero_checksum}
use Rattle.luks2_header.proofs.BothCopiesFacts.{begun_fed}
use Rattle.luks2_header.proofs.copies.digest_of_copy.Goals as goal

pub digest_from-requires-clause-fed : goal.digest_from-requires-clause-fed
digest_from-requires-clause-fed g c = λ t.
    let P : List ℕ → Type 0 = λ m. Holds256 c.update.new.self m in
    subst P (begun_fed (g.D.Device.bytes c.args.device.now) c.args.at c.args.size c.args.head.now c.args.json.now c.requires.listed
    (rw (g.met.D.Device.sized c.args.device.now t) c.requires.within) (c.requires.begun t))
    (c.update.ensures (with_zero_checksum c.args.head.now) c.digest_of_header-hasher.ensures)
