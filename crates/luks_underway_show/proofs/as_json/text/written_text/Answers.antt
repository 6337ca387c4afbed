use Rattle.std.proofs.Common.{◌≡◌, ◌≤◌, false, Some, Result, Ok, Err, IfOk, String, Global, string_bytes}
use Rattle.serde_json.specs.Data.{Data, depth}
use Rattle.serde_json.specs.Read.{max_depth, read}
use Rattle.serde_json.specs.View.{view}
use Rattle.serde_json.specs.Written.{compact_text, has_float}
use Rattle.luks2_header.specs.declared.bin2.Bin2.{Bin2}
use Rattle.luks2_header.specs.declared.selection.Copies.{Copies}
use Rattle.luks_wider.specs.Underways.{content}
use Rattle.luks_underway_show.specs.UnderwayJson.{IsWrittenUnderway}
use Rattle.luks_underway_show.specs.UnderwayValue.{IsUnderwayValue}
use Rattle.luks_underway_show.proofs.as_json.text.written_text.Goals as goal

-- by the object that is written
written : {E : Type 0} (header : Bin2) (copies : Copies) (j d : Data) (r : Result (String Global) E) → IsUnderwayValue header copies j d
    → IfOk r (λ s. has_float d ≡ false → string_bytes s ≡ compact_text d) → IfOk r (λ s. depth d ≤ max_depth → read (string_bytes s) ≡ Some d)
    → IfOk r (λ s. IsWrittenUnderway header copies j (string_bytes s))
written header copies j d (Ok s) is compact back = record { value = d; is = is; compact = compact; back = back }
written header copies j d (Err e) is compact back = tt

pub returns : goal.returns
returns c =
    let listing = c.args.listing in
    written listing.header listing.copies (content listing.meta) (view c.in_ok-value.value) c.to_string.result c.in_ok-value.ensures c.to_string.ensures.text c.to_string.ensures.reads_back
