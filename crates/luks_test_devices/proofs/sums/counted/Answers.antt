use Rattle.std.proofs.Common.{length, ap, rules}
use Rattle.luks_test_devices.specs.Numbers.{counted_from}
use Rattle.luks_test_devices.proofs.Counting.{counted_more}
use Rattle.luks_test_devices.proofs.sums.counted.Goals as goal

pub loop-i-init : goal.loop-i-init
unfolding counted_from
loop-i-init c = record {
  bytes = c.in_ok-bytes.ensures.items;
  len = ap length c.in_ok-bytes.ensures.items;
}

pub loop-i-preserved : goal.loop-i-preserved
loop-i-preserved c = record {
  bytes = counted_more c.args.from c.loop-i.i c.loop-i.invariant.bytes c.sum_modulo_251.ensures c.in_ok-push.ensures.items;
  len = search rules;
}
