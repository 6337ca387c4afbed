use Rattle.std.proofs.Common.{arith, refl, sym, ◌∙◌, subst}
use Rattle.luks_area.specs.Device.{unchanged-same, unchanged-then}
use Rattle.luks_notes.proofs.SizeFacts.{listed_first, listed_later, sizes_listed, AreListed}
use Rattle.luks_notes.proofs.further.say_sizes.Goals as goal

pub loop-left-init : goal.loop-left-init
loop-left-init g c = record {
  unchanged = unchanged-same _;
  count = refl;
  of_command = c.requires.of_command;
  more = omega arith;
  listed = subst AreListed (sym c.as_slice-left.ensures) sizes_listed;
}

pub say_size-requires-clause-listed : goal.say_size-requires-clause-listed
say_size-requires-clause-listed g c = listed_first c.loop-left.left.now _ c.in-len1-up.len_at_least c.loop-left.invariant.listed

pub loop-left-preserved : goal.loop-left-preserved
loop-left-preserved g c =
    let before = c.loop-left.invariant.more in
    let after = c.in_ok-say_size.ensures.more in
    record {
      unchanged = unchanged-then c.loop-left.invariant.unchanged c.in_ok-say_size.ensures.unchanged;
      count = c.in_ok-say_size.ensures.count ∙ c.loop-left.invariant.count;
      of_command = c.in_ok-say_size.ensures.of_command;
      more = omega (arith, before, after);
      listed = listed_later c.loop-left.left.now c.loop-left.invariant.listed;
    }
