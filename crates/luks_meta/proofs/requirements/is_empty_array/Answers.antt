use Rattle.std.proofs.Common.{◌≤◌, length, sym}
use Rattle.serde_json.proofs.Views.{view-Array}
use Rattle.luks_meta.proofs.Requiring.{some_item}
use Rattle.luks_meta.proofs.requirements.is_empty_array.Goals as goal

pub returns-in_default-matches : goal.returns-in_default-matches
returns-in_default-matches c =
    let long : 1 ≤ length c.in-Array.items.items = rw c.as_slice.ensures.value at c.in_default-matches.len_at_least in
    rw (c.in-Array.is, view-Array c.in-Array.items) (sym (some_item _ long))
