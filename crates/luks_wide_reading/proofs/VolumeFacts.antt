-- What is said of a copy that was read is said of its volume.
use Rattle.std.proofs.Common.{refl}
use Rattle.std.specs.Prelude.{List, ℕ}
use Rattle.luks_reading.specs.Header.{json_at}
use Rattle.luks_wider.specs.Underways.{content}
use Rattle.luks_wide_reading.specs.declared.copy.UnderwayCopy.{UnderwayCopy}
use Rattle.luks_wide_reading.specs.Headers.{IsUnderwayCopy}
use Rattle.luks_wide_reading.specs.Volume.{CountsUnderway}

pub counts_underway : (v : List ℕ) (c : UnderwayCopy) → IsUnderwayCopy v c → CountsUnderway v (json_at v c.header.hdr_offset) (content c.meta)
counts_underway v c is = record {
  place = c.header.hdr_offset;
  copies = c.copies;
  chosen = is.chosen;
  uuid = is.uuid;
  area = refl;
  holds = is.metadata.0;
  accepted = is.metadata.1;
}
