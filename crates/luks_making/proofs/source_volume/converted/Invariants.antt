use Rattle.std.proofs.Common.{◌≡◌}
use Rattle.serde_json.specs.View.{view}
use Rattle.luks_making.specs.Converted.{converted_below, source_members}
use Rattle.luks_making.proofs.source_volume.converted.Given as goal

-- the value with the keyslots so far
abbrev pub invariant-loop-number : goal.invariant-loop-number
invariant-loop-number l = view l.value ≡ converted_below (source_members l.volume) l.number
