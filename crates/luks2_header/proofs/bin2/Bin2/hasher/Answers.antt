use Rattle.std.proofs.Common.{List, ℕ, subst}
use Rattle.sha2.specs.Hashers.{Holds256}
use Rattle.luks2_header.proofs.BinaryHeaderFacts.{zeroed_same}
use Rattle.luks2_header.proofs.bin2.Bin2.hasher.Goals as goal

pub returns : goal.returns
returns c = λ b csum written.
    let H : List ℕ → Type 0 = λ m. Holds256 c.digest_of_header.result m in
    subst H (zeroed_same c.write.result b c.args.self.now csum c.write.ensures written) c.digest_of_header.ensures
