use Rattle.std.proofs.Common.{◌≡◌, ◌/◌, ℕ, List, refl, sym, ap, ◌∙◌, subst, None}
use Rattle.std.proofs.lemmas.Bool.{false≢true}
use Rattle.std.proofs.lemmas.Result.{err_from_is_err_and}
use Rattle.luks_area.specs.Device.{unchanged-same, unchanged-then}
use Rattle.luks_rebuilding.specs.Found.{BreaksVouchedAt}
use Rattle.luks_rebuilding.specs.Shares.{whole, IsShare}
use Rattle.luks_rebuilding.specs.Untried.{FindsUntried, IsUntried}
use Rattle.luks_rebuilding.proofs.ShareFacts.{share_of}
use Rattle.luks_rebuilding.proofs.VouchFacts.{copies_after, seeks_after, seeks_all, seeks_none, tried_broken}
use Rattle.luks_rebuilding.proofs.untried.find_untried.Goals as goal

pub loop-copy-init : goal.loop-copy-init
loop-copy-init g c = record {
  unchanged = unchanged-same _;
  count = refl;
  copies = c.in_ok-left.ensures.copies;
  seeks = λ t. seeks_all (g.D.Device.bytes c.args.source.now) (g.D.Device.bytes c.standing_copies.new.source) (λ u. IsUntried u c.args.which) c.in_ok-left.left.items
      (λ u place is. is.cut_short.0) (c.in_ok-left.ensures.unchanged.same t) (c.in_ok-left.ensures.standing t);
}

pub is_untried-requires-clause-half : goal.is_untried-requires-clause-half
is_untried-requires-clause-half g c = (c.loop-copy.invariant.copies c.in-Some.copy c.in-Some.ensures.taken.is).half

pub is_untried-requires-clause-share : goal.is_untried-requires-clause-share
is_untried-requires-clause-share g c = λ t.
    let v : List ℕ = g.D.Device.bytes c.args.source.now in
    let same : g.D.Device.bytes c.loop-copy.source ≡ v = c.loop-copy.invariant.unchanged.same t ∙ c.in_ok-left.ensures.unchanged.same t in
    let is = c.share-most.ensures.share ∙ ap (λ k. whole c.args.which.effort / k) c.len.ensures.value in
    subst (λ (u : List ℕ). IsShare u c.args.which.effort c.share-most.result) (sym same)
    (share_of v c.in_ok-left.left.items c.args.which.effort c.share-most.result (c.in_ok-left.ensures.standing t) is)

pub returns-in_err-is_untried-clause-broken : goal.returns-in_err-is_untried-clause-broken
returns-in_err-is_untried-clause-broken g c = λ t.
    let p = err_from_is_err_and c.from_residual-in_err-is_untried.result c.from_residual-in_err-is_untried.ensures.1 in
    let same = c.loop-copy.invariant.unchanged.same t ∙ c.in_ok-left.ensures.unchanged.same t in
    let B : List ℕ → Type 0 = λ v. BreaksVouchedAt v c.args.which c.in-Some.copy.place c.in_err-is_untried.field-0.0 in
    rw (p.1, p.2) (tried_broken _ c.args.which c.in-Some.copy.place c.in_err-is_untried.field-0.0 (subst B same (c.in_err-is_untried.ensures.broken t)))

pub loop-copy-preserved : goal.loop-copy-preserved
loop-copy-preserved g c = record {
  unchanged = unchanged-then c.loop-copy.invariant.unchanged c.in_ok-is_untried.ensures.unchanged;
  count = c.in_ok-is_untried.ensures.count ∙ c.loop-copy.invariant.count;
  copies = copies_after c.loop-copy.left.items c.take_first.new.left.items c.in-Some.copy c.in-Some.ensures.taken c.loop-copy.invariant.copies;
  seeks = λ t.
      let w : List ℕ = g.D.Device.bytes c.standing_copies.new.source in
      let U : List ℕ → Type 0 = λ u. IsUntried u c.args.which c.in-Some.copy.place in
      seeks_after w (IsUntried w c.args.which) c.loop-copy.left.items c.take_first.new.left.items c.in-Some.copy c.in-Some.ensures.taken
      (λ is. false≢true (sym c.if-branch.false ∙ (c.in_ok-is_untried.ensures.told t).1 (subst U (sym (c.loop-copy.invariant.unchanged.same t)) is))) (c.loop-copy.invariant.seeks t);
}

pub returns-clause-found : goal.returns-clause-found
returns-clause-found g c = λ t.
    let w : List ℕ = g.D.Device.bytes c.standing_copies.new.source in
    subst (λ (u : List ℕ). FindsUntried u c.args.which None) (c.in_ok-left.ensures.unchanged.same t)
    (seeks_none w (IsUntried w c.args.which) c.loop-copy.left.items (c.in_default.ensures.none refl) (c.loop-copy.invariant.seeks t))
