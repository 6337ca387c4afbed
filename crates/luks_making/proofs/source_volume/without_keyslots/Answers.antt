use Rattle.std.proofs.Common.{sym, ◌∙◌}
use Rattle.luks_making.specs.Converted.{region_size, source_members, volume_like}
use Rattle.luks_making.proofs.ConversionFacts.{below_none}
use Rattle.luks_making.proofs.MapFacts.{same_ok}
use Rattle.luks_making.proofs.StepFacts.{region_steps}
use Rattle.luks_making.proofs.source_volume.without_keyslots.Goals as goal

pub returns : goal.returns
returns c =
    let v = source_members c.args.volume.now in
    same_ok c.with_region.result _ _ (region_steps (volume_like v) (region_size v) _ _ _ c.in_ok-value.ensures c.in_ok-bare.ensures c.region_size.ensures ∙ sym (below_none v)) c.with_region.ensures
