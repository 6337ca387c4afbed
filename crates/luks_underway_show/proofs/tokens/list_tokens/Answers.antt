use Rattle.std.proofs.Common.{◌≡◌, ap, arith, rules, sym}
use Rattle.std.proofs.Output.{has_written_append, has_written_of_eq}
use Rattle.luks_rules.specs.declared.table.Section.TheVariants.{Tokens}
use Rattle.luks_wider.specs.Underways.{content}
use Rattle.luks_underway_show.specs.UnderwayLines.{token_listed}
use Rattle.luks_underway_show.specs.Shown.{listed_below, object_listed}
use Rattle.luks_underway_show.proofs.Counting.{listed_more, listed_none}
use Rattle.luks_underway_show.proofs.tokens.list_tokens.Goals as goal

pub loop-n-init : goal.loop-n-init
loop-n-init g c plain = has_written_of_eq _ _ _ _ _ (sym (listed_none _)) (search rules)

pub loop-n-preserved : goal.loop-n-preserved
loop-n-preserved g c plain =
    let before = c.loop-n.invariant plain in
    has_written_of_eq _ _ _ _ _ (listed_more _ c.loop-n.n) (has_written_append _ _ _ _ _ _ before (c.list_token.ensures before.plain (search rules)))

pub returns : goal.returns
returns g c plain ok =
    let all : c.loop-n.n ≡ 32 = omega (arith, c.loop-n-test.false, c.loop-n.auto.n-end) in
    has_written_of_eq _ _ _ _ _ (ap (listed_below (object_listed token_listed (content c.args.meta.now) Tokens)) all) (c.loop-n.invariant plain)
