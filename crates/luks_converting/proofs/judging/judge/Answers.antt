use Rattle.std.proofs.Common.{ℕ, List, arith}
use Rattle.luks_converting.specs.Outcome.{LacksRoom}
use Rattle.luks_converting.specs.Source.{HasRoom}
use Rattle.luks_converting.proofs.RowFacts.{convertible, no_room, random_length, too_small}
use Rattle.luks_converting.proofs.SourceFacts.{source_of}
use Rattle.luks_converting.proofs.judging.judge.Goals as goal

pub returns-then-total-lt-REGION_END-clause-fault : goal.returns-then-total-lt-REGION_END-clause-fault
returns-then-total-lt-REGION_END-clause-fault c = λ v payload is.
    too_small c.args.header.now.bytes v payload c.args.total c.args.random.now is c.if-total-lt-REGION_END.true

pub returns-then-areas_end-gt-REGION_END-clause-fault : goal.returns-then-areas_end-gt-REGION_END-clause-fault
returns-then-areas_end-gt-REGION_END-clause-fault c = λ v payload is.
    let h : List ℕ = c.args.header.now.bytes in
    let end = c.areas_end.ensures h c.requires.fields in
    let past = c.if-areas_end-gt-REGION_END.true in
    let lacks : LacksRoom h = omega (arith, end, past) in
    no_room h v payload c.args.total c.args.random.now is c.if-total-lt-REGION_END.false lacks

pub returns-then-random-ne-RANDOM-clause-fault : goal.returns-then-random-ne-RANDOM-clause-fault
returns-then-random-ne-RANDOM-clause-fault c = λ v payload is.
    let h : List ℕ = c.args.header.now.bytes in
    let end = c.areas_end.ensures h c.requires.fields in
    let within = c.if-areas_end-gt-REGION_END.false in
    let room : HasRoom h = omega (arith, end, within) in
    random_length h v payload c.args.total c.args.random.now is c.if-total-lt-REGION_END.false
    (source_of h c.args.header.now.fields c.are_bytes.ensures c.requires.long c.requires.fields room) c.if-random-ne-RANDOM.true

pub returns-else-random-ne-RANDOM-clause-faultless : goal.returns-else-random-ne-RANDOM-clause-faultless
returns-else-random-ne-RANDOM-clause-faultless c = λ v payload is.
    let h : List ℕ = c.args.header.now.bytes in
    let end = c.areas_end.ensures h c.requires.fields in
    let within = c.if-areas_end-gt-REGION_END.false in
    let room : HasRoom h = omega (arith, end, within) in
    convertible h v payload c.args.total c.args.random.now is c.if-total-lt-REGION_END.false
    (source_of h c.args.header.now.fields c.are_bytes.ensures c.requires.long c.requires.fields room) c.if-random-ne-RANDOM.false

pub returns-else-random-ne-RANDOM-clause-source : goal.returns-else-random-ne-RANDOM-clause-source
returns-else-random-ne-RANDOM-clause-source c =
    let h : List ℕ = c.args.header.now.bytes in
    let end = c.areas_end.ensures h c.requires.fields in
    let within = c.if-areas_end-gt-REGION_END.false in
    let room : HasRoom h = omega (arith, end, within) in
    source_of h c.args.header.now.fields c.are_bytes.ensures c.requires.long c.requires.fields room
