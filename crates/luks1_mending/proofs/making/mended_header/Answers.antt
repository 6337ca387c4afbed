use Rattle.std.proofs.Common.{ℕ, slice_index_or, subst}
use Rattle.luks1_mending.specs.Mended.{IsMadeSlot}
use Rattle.luks1_mending.proofs.HeaderFacts.{made_header}
use Rattle.luks1_mending.proofs.making.mended_header.Goals as goal

pub returns-clause-made : goal.returns-clause-made
returns-clause-made c = record {
  common = c.common_of.ensures;
  eight = c.made_slots.ensures.eight;
  slots = λ n s lt.
      subst (λ (k : ℕ). IsMadeSlot c.args.header.now k c.args.total n (slice_index_or c.made_slots.result n s)) c.in_ok-key_bytes.ensures.is (c.made_slots.ensures.each n s lt);
}

pub returns-clause-header : goal.returns-clause-header
returns-clause-header c = made_header c.args.header.now c.args.total c.args.given.now (record { common = c.common_of.result; slots = c.made_slots.result }) (returns-clause-made c)
