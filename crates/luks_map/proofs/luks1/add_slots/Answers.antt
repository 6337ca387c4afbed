use Rattle.std.proofs.Common.{◌<◌, ◌≤◌, ◌++◌, ap, ◌∙◌, sym, arith, append-nil, length}
use Rattle.std.proofs.lemmas.List.{take_all}
use Rattle.luks_map.specs.Luks1Rows.{slot_rows}
use Rattle.luks_map.proofs.RowFacts.{next_slot}
use Rattle.luks_map.proofs.luks1.add_slots.Goals as goal

pub loop-n-init : goal.loop-n-init
loop-n-init c = (λ eight. sym (append-nil c.args.rows.now.items), c.requires)

pub push-requires : goal.push-requires
push-requires c = let count = c.loop-n.invariant.1 in let lt = c.loop-n-test.true in (omega arith, omega (arith, count, lt))

pub loop-n-preserved : goal.loop-n-preserved
loop-n-preserved c =
    let lt = c.loop-n-test.true in
    let header = c.args.header.now in
    let count = c.loop-n.invariant.1 in (
      λ eight.
          let within : c.loop-n.n < length header.slots = omega (arith, lt, eight) in
          rw (c.push.ensures.items, c.slot_row.ensures)
          (next_slot c.args.rows.now.items c.loop-n.rows.items header.common.key_bytes c.loop-n.n header.slots _ within (c.loop-n.invariant.0 eight)),
      c.push.ensures.len ∙ omega (arith, count),
    )

pub returns-clause-rows : goal.returns-clause-rows
returns-clause-rows c = λ eight.
    let past = c.loop-n-test.false in
    let header = c.args.header.now in
    let all : length header.slots ≤ c.loop-n.n = omega (arith, past, eight) in
    c.loop-n.invariant.0 eight ∙ ap (λ l. c.args.rows.now.items ++ slot_rows header.common.key_bytes 0 l) (take_all _ _ all)

pub returns-clause-count : goal.returns-clause-count
returns-clause-count c =
    let count = c.loop-n.invariant.1 in
    let past = c.loop-n-test.false in
    let end = c.loop-n.auto.n-end in
    omega (arith, count, past, end)
