use Rattle.std.proofs.Common.{ℕ, List, subst}
use Rattle.luks2_editing.specs.NewCopy.{IsNewHeader}
use Rattle.luks2_editing.proofs.writing.new_headers.Goals as goal

pub returns-clause-other : goal.returns-clause-other
returns-clause-other c = record {
  header = c.new_header-first.result;
  fields = subst (λ (s : List ℕ). IsNewHeader c.args.chosen.now c.args.other c.args.texts s c.new_header-first.result) c.copy_salt.ensures c.new_header-first.ensures;
  summed = c.with_checksums.ensures.first;
}

pub returns-clause-own : goal.returns-clause-own
returns-clause-own c = record {
  header = c.new_header-second.result;
  fields = subst (λ (s : List ℕ). IsNewHeader c.args.chosen.now c.args.chosen.now.hdr_offset c.args.texts s c.new_header-second.result) c.copy_salt-2.ensures c.new_header-second.ensures;
  summed = c.with_checksums.ensures.second;
}
