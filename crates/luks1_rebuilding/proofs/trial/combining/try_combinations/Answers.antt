use Rattle.std.proofs.Common.{◌≡◌, ◌∙◌, ℕ, List, length, IfNone, IfSome, subst, sym, below_more}
use Rattle.std.proofs.lemmas.Result.{err_from_is_err_and}
use Rattle.luks_area.specs.Device.{unchanged-then}
use Rattle.luks_area.specs.First.{IsLeast}
use Rattle.luks1_rebuilding.proofs.RebuiltFacts.{moved}
use Rattle.luks1_rebuilding.specs.KeyAreas.{header_of}
use Rattle.luks1_rebuilding.specs.RebuildFaults.{rebuild_key}
use Rattle.luks1_rebuilding.specs.declared.rebuild_fault.Rebuild1Fault.{Rebuild1Fault as TheFault}
use Rattle.luks1_rebuilding.specs.TrialFaults.{IsFaultOfAll}
use Rattle.luks1_rebuilding.specs.Openings.{IsOpeningAt, OpensNoneAt, OpensNoneBelow}
use Rattle.luks1_rebuilding.proofs.JudgingFacts.{answered}
use Rattle.luks1_rebuilding.proofs.trial.combining.try_combinations.Goals as goal

pub returns-in_err-judge-clause-fault : goal.returns-in_err-judge-clause-fault
returns-in_err-judge-clause-fault g c = λ tells.
    let v : List ℕ = g.D.Device.bytes c.args.source.now in
    let given = c.args.given.now in
    let sized : length v ≡ g.D.Device.size c.args.source.now = g.met.D.Device.sized c.args.source.now tells in
    let long : length v ≡ c.len.result = sized ∙ sym (c.len.ensures ∙ c.in_ok-bytes.ensures.unchanged.size) in
    let head : c.as_slice-header.result.now ≡ header_of v = c.as_slice-header.ensures ∙ c.in_ok-bytes.ensures.bytes tells in
    let p = err_from_is_err_and c.from_residual-in_err-judge.result c.from_residual-in_err-judge.ensures.1 in
    let least =
    moved (λ h n. IsLeast rebuild_key (IsFaultOfAll h n given) c.in_err-judge.field-0.0) c.as_slice-header.result.now (header_of v) c.len.result (length v) head (sym long) c.in_err-judge.ensures.fault in
    rw (p.1, p.2) (answered v given c.in_err-judge.field-0.0 c.in_err-judge.ensures.own least)

pub returns-in-Some-clause-faultless : goal.returns-in-Some-clause-faultless
returns-in-Some-clause-faultless g c = λ tells.
    let v : List ℕ = g.D.Device.bytes c.args.source.now in
    let given = c.args.given.now in
    let sized : length v ≡ g.D.Device.size c.args.source.now = g.met.D.Device.sized c.args.source.now tells in
    let long : length v ≡ c.len.result = sized ∙ sym (c.len.ensures ∙ c.in_ok-bytes.ensures.unchanged.size) in
    let head : c.as_slice-header.result.now ≡ header_of v = c.as_slice-header.ensures ∙ c.in_ok-bytes.ensures.bytes tells in
    moved (λ h n. (f : TheFault) → IsFaultOfAll h n given f → ⊥) c.as_slice-header.result.now (header_of v) c.len.result (length v) head (sym long) c.in_ok-judge.ensures.faultless

pub returns-in-Some-clause-first : goal.returns-in-Some-clause-first
returns-in-Some-clause-first g c = λ tells.
    let given = c.args.given.now in
    let p = c.args.passphrase.now in
    let n = c.loop-number.number in
    let before = c.in_ok-bytes.ensures.unchanged.same tells in
    let same = c.loop-number.invariant.unchanged.same tells ∙ before in
    let here = subst (λ o. IfSome o (IsOpeningAt (g.D.Device.bytes c.loop-number.source) given p n)) c.in-Some.is (c.in_ok-opening.ensures.opens tells) in
    record {
      number = n;
      is = subst (λ w. IsOpeningAt w given p n c.in-Some.opening) same here;
      first = subst (λ w. OpensNoneBelow w given p n) before (c.loop-number.invariant.shut tells);
    }

pub loop-number-preserved : goal.loop-number-preserved
loop-number-preserved g c = record {
  unchanged = unchanged-then c.loop-number.invariant.unchanged c.try_number.ensures.unchanged;
  count = c.in_ok-opening.ensures.count ∙ c.loop-number.invariant.count;
  shut = λ tells.
      let given = c.args.given.now in
      let p = c.args.passphrase.now in
      let n = c.loop-number.number in
      let v = g.D.Device.bytes c.first_bytes.new.source in
      let none = subst (λ o. IfNone o (OpensNoneAt (g.D.Device.bytes c.loop-number.source) given p n)) c.in-None.is (c.in_ok-opening.ensures.none tells) in
      below_more (λ m. OpensNoneAt v given p m) n (c.loop-number.invariant.shut tells) (subst (λ w. OpensNoneAt w given p n) (c.loop-number.invariant.unchanged.same tells) none);
}
