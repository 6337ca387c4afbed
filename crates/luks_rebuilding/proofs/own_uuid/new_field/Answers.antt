use Rattle.std.proofs.Common.{ap, length, ◌∙◌}
use Rattle.luks2_header.proofs.UuidFacts.{uuid_text-length}
use Rattle.luks_rebuilding.proofs.own_uuid.new_field.Goals as goal

pub uuid_field-requires : goal.uuid_field-requires
uuid_field-requires c =
    ap length (c.as_str.ensures.value ∙ c.uuid_text.ensures) ∙ uuid_text-length c.copy_from_slice.new.self
