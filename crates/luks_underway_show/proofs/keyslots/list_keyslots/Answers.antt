use Rattle.std.proofs.Common.{◌≡◌, ap, arith, rules, sym}
use Rattle.std.proofs.Output.{has_written_append, has_written_of_eq}
use Rattle.luks_rules.specs.declared.table.Section.TheVariants.{Keyslots}
use Rattle.luks_wider.specs.Underways.{content}
use Rattle.luks_underway_show.specs.KeyslotLines.{keyslot_lines}
use Rattle.luks_underway_show.specs.Shown.{listed_below, object_listed}
use Rattle.luks_underway_show.proofs.Counting.{listed_more, listed_none}
use Rattle.luks_underway_show.proofs.keyslots.list_keyslots.Goals as goal

pub loop-n-init : goal.loop-n-init
loop-n-init g c plain = has_written_of_eq _ _ _ _ _ (sym (listed_none _)) (search rules)

pub loop-n-preserved : goal.loop-n-preserved
loop-n-preserved g c plain =
    let before = c.loop-n.invariant plain in
    has_written_of_eq _ _ _ _ _ (listed_more _ c.loop-n.n) (has_written_append _ _ _ _ _ _ before (c.list_keyslot.ensures before.plain (search rules)))

pub returns : goal.returns
returns g c plain ok =
    let all : c.loop-n.n ≡ 32 = omega (arith, c.loop-n-test.false, c.loop-n.auto.n-end) in
    has_written_of_eq _ _ _ _ _ (ap (listed_below (object_listed (keyslot_lines c.args.lines (content c.args.meta.now)) (content c.args.meta.now) Keyslots)) all) (c.loop-n.invariant plain)
