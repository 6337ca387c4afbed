use Rattle.std.proofs.Common.{◌≡◌, [], ◌++◌, ap, ◌∙◌}
use Rattle.sha2.specs.Sha256.{sha256}
use Rattle.luks_writing.proofs.ChecksumFacts.{summed_by}
use Rattle.luks_writing.proofs.checksums.with_checksum.Goals as goal

pub returns : goal.returns
returns c =
    let zeroed = c.zero_summed.result in
    let json = c.args.json.now in
    let fed : c.as_slice.result.now ≡ zeroed = c.as_slice.ensures in
    summed_by c.args.header.now c.with_digest.result zeroed json c.finalize.result c.zero_summed.ensures
    (c.finalize.ensures (c.as_slice.result.now ++ json) (c.update-2.ensures c.as_slice.result.now (c.update.ensures [] c.new-hasher.ensures)) ∙ ap (λ m. sha256 (m ++ json)) fed)
    c.with_digest.ensures
