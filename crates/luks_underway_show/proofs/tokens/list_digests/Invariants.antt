use Rattle.std.specs.Fmt.{HasWritten, IsPlainFormatter}
use Rattle.luks_rules.specs.declared.table.Section.TheVariants as section
use Rattle.luks_wider.specs.Underways.{content}
use Rattle.luks_underway_show.specs.UnderwayLines.{digest_listed}
use Rattle.luks_underway_show.specs.Shown.{listed_below, object_listed}
use Rattle.luks_underway_show.proofs.tokens.list_digests.Given as goal

abbrev pub invariant-loop-n : goal.invariant-loop-n
invariant-loop-n g l =
    IsPlainFormatter l.fn.f → HasWritten g.W.Write.write_str_gives l.fn.f (listed_below (object_listed digest_listed (content l.meta) section.Digests) l.n) l.f
