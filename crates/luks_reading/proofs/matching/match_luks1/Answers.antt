-- The length of the key is judged once the digest is, then whether it meets the digest.
use Rattle.std.proofs.Common.{◌≡◌, length, arith}
use Rattle.luks1_header.specs.Bytes.{number_at}
use Rattle.luks_reading.specs.KeyAnswers.{luks1_says}
use Rattle.luks_reading.specs.KeyDigests.{HasLuks1Digest}
use Rattle.luks_reading.proofs.KeyFacts.{answered, length_first, luks1_asked, luks1_numbered, unknown_is_own, IsFaultless}
use Rattle.luks_reading.proofs.matching.match_luks1.Goals as goal

pub met_by-requires-clause-iterations : goal.met_by-requires-clause-iterations
met_by-requires-clause-iterations c = c.luks1_digest-plan.ensures.turns c.args.header.now c.in_ok-common.ensures.found

pub returns-then-key-common-clause-answers : goal.returns-then-key-common-clause-answers
returns-then-key-common-clause-answers c =
    let h = c.args.header.now in
    let clear : IsFaultless (luks1_says h c.args.digest) = record { heads = c.in_ok-common.ensures.faultless; metas = λ f x. x } in
    let has : HasLuks1Digest h c.args.digest 0 c.luks1_digest-plan.result =
    record { numbered = luks1_numbered c.args.digest (omega arith); is = c.luks1_digest-plan.ensures.is h c.in_ok-common.ensures.found } in
    let bytes = c.in_ok-common.ensures.found.fields.key_bytes in
    let long : length c.args.key.now ≡ number_at h 108 4 = omega (arith, bytes, c.if-key-common.true) in
    answered (luks1_says h c.args.digest) c.args.older 0 c.args.key.now c.luks1_digest-plan.result c.met_by.result
    clear (luks1_asked h c.args.digest 0 c.luks1_digest-plan.result has) long c.met_by.ensures.met c.met_by.ensures.unknown

pub returns-then-key-common-clause-own : goal.returns-then-key-common-clause-own
returns-then-key-common-clause-own c = unknown_is_own c.luks1_digest-plan.result c.args.older c.met_by.result c.met_by.ensures.unknown

pub returns-clause-answers : goal.returns-clause-answers
returns-clause-answers c =
    let h = c.args.header.now in
    let clear : IsFaultless (luks1_says h c.args.digest) = record { heads = c.in_ok-common.ensures.faultless; metas = λ f x. x } in
    let has : HasLuks1Digest h c.args.digest 0 c.luks1_digest-plan.result =
    record { numbered = luks1_numbered c.args.digest (omega arith); is = c.luks1_digest-plan.ensures.is h c.in_ok-common.ensures.found } in
    let bytes = c.in_ok-common.ensures.found.fields.key_bytes in
    length_first (luks1_says h c.args.digest) c.args.older (length c.args.key.now) 0 c.luks1_digest-plan.result
    clear (luks1_asked h c.args.digest 0 c.luks1_digest-plan.result has)
    (λ (e : length c.args.key.now ≡ number_at h 108 4). omega (arith, bytes, e, c.if-key-common.false))
