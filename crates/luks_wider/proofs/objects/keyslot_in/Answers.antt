use Rattle.std.proofs.Common.{refl}
use Rattle.serde_json.specs.View.{view}
use Rattle.luks_rules.specs.declared.table.Section.TheVariants.{Keyslots}
use Rattle.luks_underway.specs.Slots.{TellsWideKeyslot}
use Rattle.luks_meta.proofs.ObjectsRead.{told, not_missing, held}
use Rattle.luks_wider.proofs.objects.keyslot_in.Goals as goal

pub returns-in-Some-clause-some : goal.returns-in-Some-clause-some
returns-in-Some-clause-some c =
    told TellsWideKeyslot (view c.args.value.now) Keyslots c.args.number (view c.in-Some.object.now) _ c.in-Some.ensures.some.1 c.read_wide_keyslot.ensures.tells

pub returns-in-Some-clause-none : goal.returns-in-Some-clause-none
returns-in-Some-clause-none c =
    not_missing _ (view c.args.value.now) Keyslots c.args.number
    (c.read_wide_keyslot.ensures.there (c.requires.rules.keyslots c.args.number _ (held (view c.args.value.now) Keyslots c.args.number (view c.in-Some.object.now) refl c.in-Some.ensures.some)))
