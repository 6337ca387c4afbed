-- What a header's version tells is told of the volume.
use Rattle.std.proofs.Common.{subst}
use Rattle.luks_reading.specs.Header.{IsHeader}
use Rattle.luks_volume.proofs.NeedFacts.{tells_need1, tells_need2}
use Rattle.luks_volume.proofs.needing.needed_of_header.Goals as goal

pub returns-in-Luks1-clause-tells : goal.returns-in-Luks1-clause-tells
returns-in-Luks1-clause-tells c = λ v is long.
    let chosen = subst (IsHeader v) c.in-Luks1.is is in
    tells_need1 v c.args.payload c.args.edit.now chosen.0 c.needed_luks1.result (c.needed_luks1.ensures.tells v chosen long)

pub returns-in-Luks2-clause-tells : goal.returns-in-Luks2-clause-tells
returns-in-Luks2-clause-tells c = λ v is long.
    let copy = subst (IsHeader v) c.in-Luks2.is is in
    tells_need2 v c.args.payload c.args.edit.now c.in-Luks2.copy.header.hdr_offset c.in-Luks2.copy.copies copy.chosen c.needed_luks2.result
    (c.needed_luks2.ensures.tells v copy long)
