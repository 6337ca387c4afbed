-- The length of the key is the first thing that is judged, then whether it meets the digest.
use Rattle.std.proofs.Common.{length}
use Rattle.std.proofs.lemmas.Bool.{false≢true}
use Rattle.std.proofs.Common.{sym, ◌∙◌}
use Rattle.luks_meta.specs.Content.{content}
use Rattle.luks_reading.specs.KeyAnswers.{luks2_says}
use Rattle.luks_reading.specs.KeyDigests.{HasLuks2Digest, HasLuks2KeyLength}
use Rattle.luks_reading.proofs.KeyFacts.{answered, length_first, luks2_asked, luks2_faultless, luks2_unlike, unknown_is_own}
use Rattle.luks_reading.proofs.matching.match_digest.Goals as goal

pub met_by-requires-clause-iterations : goal.met_by-requires-clause-iterations
met_by-requires-clause-iterations c = c.luks2_digest-plan.ensures.turns c.requires.told.object c.requires.told.tells_members

pub met_by-requires-clause-at_most_64 : goal.met_by-requires-clause-at_most_64
met_by-requires-clause-at_most_64 c = c.luks2_digest-plan.ensures.length c.requires.told.object c.requires.told.tells_members

pub returns-then-is_key_length-clause-answers : goal.returns-then-is_key_length-clause-answers
returns-then-is_key_length-clause-answers c = λ uuid json asked clear named.
    let j = content c.args.meta.now in
    let told = c.requires.told in
    let has : HasLuks2Digest json asked c.args.number c.luks2_digest-plan.result = record {
      value = j;
      holds = clear.meta.json;
      numbered = named;
      object = told.object;
      there = told.is;
      says = c.luks2_digest-plan.ensures.says told.object told.tells_members;
    } in
    let long : HasLuks2KeyLength json c.args.number (length c.args.key.now) =
    record { value = j; holds = clear.meta.json; long = c.is_key_length.ensures.0 c.if-is_key_length.true } in
    answered (luks2_says uuid json asked) c.args.older c.args.number c.args.key.now c.luks2_digest-plan.result c.met_by.result
    (luks2_faultless uuid json j asked clear) (luks2_asked uuid json asked c.args.number c.luks2_digest-plan.result has) long
    c.met_by.ensures.met c.met_by.ensures.unknown

pub returns-then-is_key_length-clause-own : goal.returns-then-is_key_length-clause-own
returns-then-is_key_length-clause-own c = unknown_is_own c.luks2_digest-plan.result c.args.older c.met_by.result c.met_by.ensures.unknown

pub returns-clause-answers : goal.returns-clause-answers
returns-clause-answers c = λ uuid json asked clear named.
    let j = content c.args.meta.now in
    let told = c.requires.told in
    let has : HasLuks2Digest json asked c.args.number c.luks2_digest-plan.result = record {
      value = j;
      holds = clear.meta.json;
      numbered = named;
      object = told.object;
      there = told.is;
      says = c.luks2_digest-plan.ensures.says told.object told.tells_members;
    } in
    length_first (luks2_says uuid json asked) c.args.older (length c.args.key.now) c.args.number c.luks2_digest-plan.result
    (luks2_faultless uuid json j asked clear) (luks2_asked uuid json asked c.args.number c.luks2_digest-plan.result has)
    (luks2_unlike json j c.args.number (length c.args.key.now) clear.meta.json
    (λ x. false≢true (sym c.if-is_key_length.false ∙ c.is_key_length.ensures.1 x)))
