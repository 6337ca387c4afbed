use Rattle.std.proofs.Common.{◌∙◌, refl, rules}
use Rattle.std.proofs.Output.{has_written_of_eq}
use Rattle.luks_rules.specs.declared.table.Section.TheVariants.{Keyslots}
use Rattle.luks_wider.specs.Underways.{content}
use Rattle.luks_underway_show.specs.KeyslotLines.{keyslot_lines}
use Rattle.luks_underway_show.proofs.KeyslotFacts.{keyslot_told}
use Rattle.luks_underway_show.proofs.ObjectFacts.{object_missing, object_there}
use Rattle.luks_underway_show.proofs.keyslots.list_keyslot.Goals as goal

pub returns : goal.returns
returns g c plain ok =
    let j = content c.args.meta.now in
    let told = c.in-Some.ensures.some in
    has_written_of_eq _ _ _ _ _
    (keyslot_told c.args.lines j c.args.n told.object c.in-Some.keyslot c.digest_of.result told.tells_members (c.digest_of.ensures told.object told.is)
    ∙ object_there (keyslot_lines c.args.lines j) j Keyslots c.args.n told.object told.is)
    (c.list_members.ensures plain ok)

pub returns-in_default : goal.returns-in_default
returns-in_default g c plain ok =
    let j = content c.args.meta.now in
    has_written_of_eq _ _ _ _ _ (object_missing (keyslot_lines c.args.lines j) j Keyslots c.args.n (c.in_default.ensures.none refl c.requires)) (search rules)
