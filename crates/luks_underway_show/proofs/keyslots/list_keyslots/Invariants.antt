use Rattle.std.specs.Fmt.{HasWritten, IsPlainFormatter}
use Rattle.luks_rules.specs.declared.table.Section.TheVariants as section
use Rattle.luks_wider.specs.Underways.{content}
use Rattle.luks_underway_show.specs.KeyslotLines.{keyslot_lines}
use Rattle.luks_underway_show.specs.Shown.{listed_below, object_listed}
use Rattle.luks_underway_show.proofs.keyslots.list_keyslots.Given as goal

abbrev pub invariant-loop-n : goal.invariant-loop-n
invariant-loop-n g l =
    IsPlainFormatter l.fn.f → HasWritten g.W.Write.write_str_gives l.fn.f (listed_below (object_listed (keyslot_lines l.lines (content l.meta)) (content l.meta) section.Keyslots) l.n) l.f
