use Rattle.luks_making.proofs.MapFacts.{text_view}
use Rattle.luks_making.proofs.with.array_with.Goals as goal

pub returns : goal.returns
returns c = c.in_ok-add_item.ensures c.args.text.now (text_view _ c.args.text.now c.in_ok-from_str.ensures.ok)
