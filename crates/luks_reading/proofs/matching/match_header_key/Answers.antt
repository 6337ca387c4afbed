-- What the copy that counts gives is what the volume gives.
use Rattle.std.proofs.Common.{subst}
use Rattle.luks2_header.specs.Header2.{header_at, uuid_field}
use Rattle.luks2_header.specs.Selection.{luks2}
use Rattle.luks_reading.specs.Header.{json_at, IsHeader}
use Rattle.luks_reading.proofs.ReadFaults.{cleared_copy}
use Rattle.luks_reading.proofs.matching.match_header_key.Goals as goal

pub returns-in-Luks2-clause-answers : goal.returns-in-Luks2-clause-answers
returns-in-Luks2-clause-answers c = λ v is.
    let copy = subst (IsHeader v) c.in-Luks2.is is in
    let o = c.in-Luks2.copy.header.hdr_offset in
    record {
      choice = luks2 o c.in-Luks2.copy.copies;
      chosen = copy.chosen;
      is = c.match_luks2.ensures.answers (uuid_field (header_at v o)) (json_at v o) (cleared_copy v c.in-Luks2.copy copy);
    }
