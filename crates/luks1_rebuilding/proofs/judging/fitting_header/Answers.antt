use Rattle.std.proofs.Common.{ℕ, List, inr, subst, sym}
use Rattle.luks1_header.specs.Written.{WritesLuks1}
use Rattle.luks1_rebuilding.proofs.judging.fitting_header.Goals as goal

pub returns-in-Err-clause-refused : goal.returns-in-Err-clause-refused
returns-in-Err-clause-refused c = inr (record {
  large = c.if-total-lt-LEAST_TARGET.false;
  bytes = c.as_slice.result.now;
  written = subst (λ (b : List ℕ). WritesLuks1 b c.args.fields) (sym c.as_slice.ensures) c.write-bytes.ensures.written;
  fault = c.in-Err.fault;
  first = c.in-Err.ensures.refused;
  is = c.target_fault.ensures;
})
