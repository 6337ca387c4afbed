use Rattle.luks_rules.specs.declared.table.Section.TheVariants.{Digests}
use Rattle.luks_meta.proofs.Namings.{section_there, section_is, object_there}
use Rattle.luks_meta.proofs.naming.digests_of.Goals as goal

pub unwrap-requires : goal.unwrap-requires
unwrap-requires c = section_there _ c.section_at.result _ c.section_at.ensures (c.requires.content.sections Digests)

pub unwrap-requires-2 : goal.unwrap-requires-2
unwrap-requires-2 c = object_there _ c.as_object.result _ c.as_object.ensures
    (section_is _ c.section_at.result c.unwrap.result _ c.section_at.ensures c.unwrap.ensures (c.requires.content.sections Digests))
