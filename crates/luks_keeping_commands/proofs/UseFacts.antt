-- A header of the very same state has the backup's uuid.
use Rattle.std.proofs.Common.{ℕ, List}
use Rattle.luks2_header.specs.Selection.{luks2}
use Rattle.luks_wide_keeping.specs.Standings.{HasOneUuid, IsSameState}

pub same_uuid : (b t : List ℕ) → IsSameState b t → HasOneUuid b t
same_uuid b t x = record {
  place = x.place;
  copies = x.copies;
  chosen = x.chosen;
  other = luks2 x.there x.others;
  counts = x.counts;
  some = λ e. cc;
  uuid = x.uuid;
}
