use Rattle.std.proofs.Common.{ap, length, ◌∙◌}
use Rattle.luks2_header.proofs.UuidFacts.{uuid_text-length}
use Rattle.luks_edit.proofs.new_uuid.uuid_field_after.Goals as goal

pub uuid_field-requires-in-Some-Random : goal.uuid_field-requires-in-Some-Random
uuid_field-requires-in-Some-Random c = ap length (c.as_str.ensures.value ∙ c.uuid_text.ensures) ∙ uuid_text-length c.first_16.result
