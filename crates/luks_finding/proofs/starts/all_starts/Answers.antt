use Rattle.std.proofs.Common.{◌≡◌, ℕ, ◌<◌, List, [], ◌∷◌, ◌++◌, append_assoc, sym, ap, ◌∙◌, subst, arith}
use Rattle.std.proofs.lemmas.List.{append-nil}
use Rattle.luks_area.specs.Device.{unchanged-then}
use Rattle.luks_finding.specs.Finding.{looks_from, AreStartsBetween, HasNoSignFrom}
use Rattle.luks_finding.proofs.ListFacts.{starts-all, starts-join}
use Rattle.luks_finding.proofs.starts.all_starts.Goals as goal

pub loop-starts-preserved-in-Continue-branch-4 : goal.loop-starts-preserved-in-Continue-branch-4
loop-starts-preserved-in-Continue-branch-4 g c = record {
  unchanged = unchanged-then c.loop-starts.invariant.unchanged c.in_ok-start.ensures.unchanged;
  count = c.in_ok-start.ensures.count ∙ c.loop-starts.invariant.count;
  told = λ t.
      let v : List ℕ = g.D.Device.bytes c.args.device.now in
      let list : List ℕ = c.loop-starts.starts.items in
      let more : List ℕ = c.in-Start.start ∷ [] in
      let from : ℕ = looks_from c.loop-starts.finding in
      let next : ℕ = looks_from c.step.new.self in
      let N : List ℕ → Type 0 = λ w. AreStartsBetween w from next more in
      let B : List ℕ → Type 0 = λ l. AreStartsBetween v 0 next l in
      let goes = rw c.in-Start.is at c.in_ok-start.ensures.goes_on in
      let further : from < next = goes.0 in
      let told = rw c.in-Start.is at c.in_ok-start.ensures.next t in
      subst B (sym c.in_ok-put-in-Start.ensures)
      (starts-join v 0 from next list more (omega arith) (omega (arith, further)) (c.loop-starts.invariant.told t) (subst N (c.loop-starts.invariant.unchanged.same t) told));
}

pub loop-starts-preserved-in-Continue-branch-6 : goal.loop-starts-preserved-in-Continue-branch-6
loop-starts-preserved-in-Continue-branch-6 g c = record {
  unchanged = unchanged-then c.loop-starts.invariant.unchanged c.in_ok-start.ensures.unchanged;
  count = c.in_ok-start.ensures.count ∙ c.loop-starts.invariant.count;
  told = λ t.
      let v : List ℕ = g.D.Device.bytes c.args.device.now in
      let list : List ℕ = c.loop-starts.starts.items in
      let more : List ℕ = c.in-Two.first ∷ c.in-Two.second ∷ [] in
      let from : ℕ = looks_from c.loop-starts.finding in
      let next : ℕ = looks_from c.step.new.self in
      let N : List ℕ → Type 0 = λ w. AreStartsBetween w from next more in
      let B : List ℕ → Type 0 = λ l. AreStartsBetween v 0 next l in
      let goes = rw c.in-Two.is at c.in_ok-start.ensures.goes_on in
      let further : from < next = goes.0 in
      let told = rw c.in-Two.is at c.in_ok-start.ensures.next t in
      let items : c.put-in-Two-2.new.starts.items ≡ list ++ more =
      c.in_ok-put-in-Two-2.ensures ∙ ap (λ l. l ++ c.in-Two.second ∷ []) c.in_ok-put-in-Two.ensures
      ∙ append_assoc list (c.in-Two.first ∷ []) (c.in-Two.second ∷ []) in
      subst B (sym items)
      (starts-join v 0 from next list more (omega arith) (omega (arith, further)) (c.loop-starts.invariant.told t) (subst N (c.loop-starts.invariant.unchanged.same t) told));
}

pub loop-starts-preserved : goal.loop-starts-preserved
loop-starts-preserved g c = record {
  unchanged = unchanged-then c.loop-starts.invariant.unchanged c.in_ok-start.ensures.unchanged;
  count = c.in_ok-start.ensures.count ∙ c.loop-starts.invariant.count;
  told = λ t.
      let v : List ℕ = g.D.Device.bytes c.args.device.now in
      let list : List ℕ = c.loop-starts.starts.items in
      let from : ℕ = looks_from c.loop-starts.finding in
      let next : ℕ = looks_from c.step.new.self in
      let N : List ℕ → Type 0 = λ w. AreStartsBetween w from next [] in
      let B : List ℕ → Type 0 = λ l. AreStartsBetween v 0 next l in
      let goes = rw c.in-On.is at c.in_ok-start.ensures.goes_on in
      let further : from < next = goes.0 in
      let told = rw c.in-On.is at c.in_ok-start.ensures.next t in
      subst B (append-nil list)
      (starts-join v 0 from next list [] (omega arith) (omega (arith, further)) (c.loop-starts.invariant.told t) (subst N (c.loop-starts.invariant.unchanged.same t) told));
}

pub returns-in-End-clause-found : goal.returns-in-End-clause-found
returns-in-End-clause-found g c = λ t.
    let v : List ℕ = g.D.Device.bytes c.args.device.now in
    let list : List ℕ = c.loop-starts.starts.items in
    let from : ℕ = looks_from c.loop-starts.finding in
    let N : List ℕ → Type 0 = λ w. HasNoSignFrom w from in
    let told = rw c.in-End.is at c.in_ok-start.ensures.next t in
    starts-all v from list (c.loop-starts.invariant.told t) (subst N (c.loop-starts.invariant.unchanged.same t) told)
