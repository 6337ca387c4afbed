use Rattle.std.proofs.Common.{◌≡◌, ℕ, List, length, refl, ap, ◌∙◌, rules, ◌++◌, replicate}
use Rattle.luks2_header.proofs.BinaryHeaderFacts.{csum_put}
use Rattle.luks2_header.proofs.bin2.Bin2.with_checksum.Goals as goal

pub returns : goal.returns
returns c = λ copy held.
    let long : length c.finalize.result ≡ 32 = (search rules) in
    let sum : c.put.new.bytes ≡ c.finalize.result ++ replicate 32 0 = csum_put _ c.finalize.result c.put.new.bytes refl long c.put.ensures in
    ap (λ (x : List ℕ). record c.args.self.now { csum = x }) (sum ∙ ap (λ (d : List ℕ). d ++ replicate 32 0) (c.finalize.ensures copy held))
