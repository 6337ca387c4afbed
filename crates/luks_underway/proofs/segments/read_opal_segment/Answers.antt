use Rattle.std.proofs.Common.{sym}
use Rattle.serde_json.specs.View.{view}
use Rattle.luks_rules.specs.declared.table.Outer.TheVariants as outer
use Rattle.luks_rules.specs.declared.table.Member.TheVariants as name
use Rattle.luks_rules.specs.Faults.{member_at}
use Rattle.luks_rules.specs.Reading.{text_of}
use Rattle.luks_underway.proofs.Typed.{sized}
use Rattle.luks_underway.proofs.segments.read_opal_segment.Goals as goal

pub returns-clause-tells : goal.returns-clause-tells
returns-clause-tells c = record {
  offset = rw (← c.member_at.ensures) (sym c.in_ok-offset.ensures);
  size = sized (text_of (member_at (view c.args.object.now) outer.Top name.Size)) c.in_ok-size.size (sym c.in_ok-size.ensures);
  kind = c.in_ok-kind.ensures.tells;
  flags = c.requires;
}
