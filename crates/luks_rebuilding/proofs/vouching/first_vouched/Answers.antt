use Rattle.std.proofs.Common.{◌≡◌, ◌/◌, ℕ, List, refl, sym, ap, ◌∙◌, subst, Some, None}
use Rattle.std.proofs.lemmas.Result.{err_from_is_err_and}
use Rattle.luks_area.specs.Device.{unchanged-same, unchanged-then}
use Rattle.luks_rebuilding.specs.Found.{BreaksVouchedAt, FindsVouchedAt, FindsVouchedFirst}
use Rattle.luks_rebuilding.specs.Shares.{whole, IsShare}
use Rattle.luks_rebuilding.proofs.ShareFacts.{share_of}
use Rattle.luks_rebuilding.proofs.VouchFacts.{copies_after, first_found, none_first, none_there, seeks_after, seeks_all, seeks_none, tried_broken, vouched_stands, HasVouched}
use Rattle.luks_rebuilding.proofs.vouching.first_vouched.Goals as goal

pub loop-copy-init : goal.loop-copy-init
loop-copy-init g c = record {
  unchanged = unchanged-same _;
  count = refl;
  copies = c.in_ok-left.ensures.copies;
  seeks = λ t. seeks_all (g.D.Device.bytes c.args.source.now) (g.D.Device.bytes c.standing_copies.new.source) (λ u. HasVouched u c.args.which) c.in_ok-left.left.items
      (λ u. vouched_stands u c.args.which) (c.in_ok-left.ensures.unchanged.same t) (c.in_ok-left.ensures.standing t);
}

pub vouched_at-requires-clause-half : goal.vouched_at-requires-clause-half
vouched_at-requires-clause-half g c = (c.loop-copy.invariant.copies c.in-Some.copy c.in-Some.ensures.taken.is).half

pub vouched_at-requires-clause-share : goal.vouched_at-requires-clause-share
vouched_at-requires-clause-share g c = λ t.
    let v : List ℕ = g.D.Device.bytes c.args.source.now in
    let same : g.D.Device.bytes c.loop-copy.source ≡ v = c.loop-copy.invariant.unchanged.same t ∙ c.in_ok-left.ensures.unchanged.same t in
    let is = c.share-most.ensures.share ∙ ap (λ k. whole c.args.which.effort / k) c.len.ensures.value in
    subst (λ (u : List ℕ). IsShare u c.args.which.effort c.share-most.result) (sym same)
    (share_of v c.in_ok-left.left.items c.args.which.effort c.share-most.result (c.in_ok-left.ensures.standing t) is)

pub returns-in_err-found-clause-broken : goal.returns-in_err-found-clause-broken
returns-in_err-found-clause-broken g c = λ t.
    let p = err_from_is_err_and c.from_residual-in_err-found.result c.from_residual-in_err-found.ensures.1 in
    let same = c.loop-copy.invariant.unchanged.same t ∙ c.in_ok-left.ensures.unchanged.same t in
    let B : List ℕ → Type 0 = λ v. BreaksVouchedAt v c.args.which c.in-Some.copy.place c.in_err-found.field-0.0 in
    rw (p.1, p.2) (tried_broken _ c.args.which c.in-Some.copy.place c.in_err-found.field-0.0 (subst B same (c.in_err-found.ensures.broken t)))

pub returns-in-Some-2-clause-found : goal.returns-in-Some-2-clause-found
returns-in-Some-2-clause-found g c = λ t.
    let w : List ℕ = g.D.Device.bytes c.standing_copies.new.source in
    let F : List ℕ → Type 0 = λ u. FindsVouchedAt u c.args.which c.in-Some.copy.place (Some c.in-Some-2.found) in
    let found = rw c.in-Some-2.is at c.in_ok-found.ensures.found t in
    subst (λ (u : List ℕ). FindsVouchedFirst u c.args.which (Some c.in-Some-2.found)) (c.in_ok-left.ensures.unchanged.same t)
    (first_found w c.args.which c.loop-copy.left.items c.take_first.new.left.items c.in-Some.copy c.in-Some-2.found c.in-Some.ensures.taken
    (c.loop-copy.invariant.seeks t) (subst F (c.loop-copy.invariant.unchanged.same t) found))

pub loop-copy-preserved : goal.loop-copy-preserved
loop-copy-preserved g c = record {
  unchanged = unchanged-then c.loop-copy.invariant.unchanged c.in_ok-found.ensures.unchanged;
  count = c.in_ok-found.ensures.count ∙ c.loop-copy.invariant.count;
  copies = copies_after c.loop-copy.left.items c.take_first.new.left.items c.in-Some.copy c.in-Some.ensures.taken c.loop-copy.invariant.copies;
  seeks = λ t.
      let w : List ℕ = g.D.Device.bytes c.standing_copies.new.source in
      let F : List ℕ → Type 0 = λ u. FindsVouchedAt u c.args.which c.in-Some.copy.place None in
      let none = rw c.in_default-2.is at c.in_ok-found.ensures.found t in
      seeks_after w (HasVouched w c.args.which) c.loop-copy.left.items c.take_first.new.left.items c.in-Some.copy c.in-Some.ensures.taken
      (none_there w c.args.which c.in-Some.copy.place (subst F (c.loop-copy.invariant.unchanged.same t) none)) (c.loop-copy.invariant.seeks t);
}

pub returns-clause-found : goal.returns-clause-found
returns-clause-found g c = λ t.
    let w : List ℕ = g.D.Device.bytes c.standing_copies.new.source in
    subst (λ (u : List ℕ). FindsVouchedFirst u c.args.which None) (c.in_ok-left.ensures.unchanged.same t)
    (none_first w c.args.which (seeks_none w (HasVouched w c.args.which) c.loop-copy.left.items (c.in_default.ensures.none refl) (c.loop-copy.invariant.seeks t)))
