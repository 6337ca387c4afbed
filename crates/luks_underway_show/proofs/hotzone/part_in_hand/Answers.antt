use Rattle.std.proofs.Common.{refl}
use Rattle.luks_wider.specs.Underways.{content}
use Rattle.luks_underway_show.proofs.ValueFacts.{hot_there}
use Rattle.luks_underway_show.proofs.hotzone.part_in_hand.Goals as goal

pub returns-in_err-members : goal.returns-in_err-members
returns-in_err-members c =
    let first = c.in_ok-segment.ensures in
    absurd (hot_there (content c.args.meta.now) c.in_ok-segment.segment first.below first.holds (c.in_err-members.ensures.none refl))

pub returns : goal.returns
returns c = record {
  is = c.in_ok-segment.ensures;
  members = c.in_ok-members.members;
  told = c.in_ok-members.ensures.some;
  offset = refl;
  size = refl;
}
