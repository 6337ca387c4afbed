use Rattle.std.proofs.Common.{◌≡◌, ℕ, ◌+◌, ◌-◌, ◌∙◌, inl, inr, subst, sym, arith}
use Rattle.std.proofs.lemmas.Bool.{cases_eq}
use Rattle.luks_area.specs.Device.{unchanged-then}
use Rattle.luks_searching.specs.Headed.{OpensHeaded}
use Rattle.luks_trials.specs.Turned.{turned}
use Rattle.luks_trials.proofs.OptionFacts.{none_of}
use Rattle.luks_trials.proofs.TallyFacts.{counts_then}
use Rattle.luks_searching.proofs.fields1.turned_in.Goals as goal

pub loop-behind-preserved : goal.loop-behind-preserved
loop-behind-preserved g c = record {
  unchanged = unchanged-then c.loop-behind.invariant.unchanged c.turned_at.ensures.unchanged;
  count = c.in_ok-found.ensures.count ∙ c.loop-behind.invariant.count;
  counts = counts_then c.loop-behind.invariant.counts c.turned_at.ensures.counts;
  shut = λ tells place bit below from low x.
      let h = c.args.sought.now.header.now in
      let given = c.args.sought.now.given.now in
      let p = c.args.sought.now.passphrase.now in
      let same = c.loop-behind.invariant.unchanged.same tells in
      let start = c.start-start.ensures.value in
      let len = c.len.ensures in
      let last : ℕ = ((c.start-start.result + c.len.result) - 1) - c.loop-behind.behind in
      let none = none_of c.in_ok-found.found _ c.in_default.is (c.in_ok-found.ensures.none tells) in
      elim (cases_eq (place + (c.loop-behind.behind + 1)) (c.start-start.result + c.len.result)) [
        | inl e ↦
            let is : place ≡ last = omega (arith, e) in
            none bit low (subst (λ w. OpensHeaded w (turned h last bit) given p c.args.n) (sym same)
            (subst (λ (q : ℕ). OpensHeaded (g.D.Device.bytes c.args.source.now) (turned h q bit) given p c.args.n) is x))
        | inr other ↦ c.loop-behind.invariant.shut tells place bit below (omega (arith, other, from, start, len)) low x
      ];
}

pub returns-clause-none : goal.returns-clause-none
returns-clause-none g c = λ tells place bit of low x.
    let first = of.0 in
    let ended = c.loop-behind-test.false in
    let len = c.len-behind-end.ensures in
    c.loop-behind.invariant.shut tells place bit of.1 (omega (arith, first, ended, len)) low x
