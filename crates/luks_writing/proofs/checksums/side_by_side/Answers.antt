use Rattle.std.proofs.Common.{[], ◌++◌}
use Rattle.luks_lanes.specs.PairHasher.{HoldsPair}
use Rattle.luks_writing.proofs.ChecksumFacts.{summed_by}
use Rattle.luks_writing.proofs.checksums.side_by_side.Goals as goal

pub returns-clause-first : goal.returns-clause-first
returns-clause-first c =
    let one = c.zero_summed.result in
    let other = c.zero_summed-2.result in
    let json = c.args.json.now in
    let held : HoldsPair c.update-2.new.self (one ++ json) (other ++ json) = c.update-2.ensures one other (c.update.ensures [] [] c.new-hasher.ensures) in
    summed_by c.args.first.now c.with_digest.result one json c.finalize-digests.result.0 c.zero_summed.ensures
    (c.finalize-digests.ensures.first (one ++ json) (other ++ json) held) c.with_digest.ensures

pub returns-clause-second : goal.returns-clause-second
returns-clause-second c =
    let one = c.zero_summed.result in
    let other = c.zero_summed-2.result in
    let json = c.args.json.now in
    let held : HoldsPair c.update-2.new.self (one ++ json) (other ++ json) = c.update-2.ensures one other (c.update.ensures [] [] c.new-hasher.ensures) in
    summed_by c.args.second.now c.with_digest-2.result other json c.finalize-digests.result.1 c.zero_summed-2.ensures
    (c.finalize-digests.ensures.second (one ++ json) (other ++ json) held) c.with_digest-2.ensures
