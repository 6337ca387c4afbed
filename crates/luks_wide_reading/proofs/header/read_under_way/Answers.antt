-- The area is judged by the rules of what is under way.
use Rattle.luks_wider.specs.Underways.{content}
use Rattle.luks_wider.proofs.WiderFacts.{is_under}
use Rattle.luks_wide_reading.proofs.WideUnread.{area_refused, underway_no_failure}
use Rattle.luks_wide_reading.proofs.header.read_under_way.Goals as goal

pub returns-in-Ok-clause-read : goal.returns-in-Ok-clause-read
returns-in-Ok-clause-read c =
    let found = c.in-Ok.ensures.found in (
      found.json,
      record {
        under_way = is_under c.args.area.now (content c.in-Ok.meta) c.requires found.json;
        rules = found.rules;
        consistent = found.consistent;
      },
    )

pub returns-in-Err-clause-refused : goal.returns-in-Err-clause-refused
returns-in-Err-clause-refused c =
    rw c.underway_unread.ensures (area_refused c.args.area.now c.args.narrow_fault.now c.in-Err.fault c.requires c.in-Err.ensures.fault)

pub returns-in-Err-clause-no_failure : goal.returns-in-Err-clause-no_failure
returns-in-Err-clause-no_failure c = rw c.underway_unread.ensures (underway_no_failure c.in-Err.fault c.args.narrow_fault.now)
