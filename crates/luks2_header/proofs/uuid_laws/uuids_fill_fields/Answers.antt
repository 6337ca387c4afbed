use Rattle.luks2_header.proofs.UuidFacts.{field_text, fills, uuid_text-is}
use Rattle.luks2_header.proofs.uuid_laws.uuids_fill_fields.Goals as goal

pub returns-clause-new : goal.returns-clause-new
returns-clause-new c random = uuid_text-is random

pub returns-clause-text : goal.returns-clause-text
returns-clause-text c text is = field_text text is

pub returns-clause-field : goal.returns-clause-field
returns-clause-field c text is = fills text is
