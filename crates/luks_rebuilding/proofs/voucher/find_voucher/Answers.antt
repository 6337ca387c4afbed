use Rattle.std.proofs.Common.{ℕ, List, refl, sym, ◌∙◌, subst, None}
use Rattle.std.proofs.lemmas.Bool.{false≢true}
use Rattle.luks_area.specs.Device.{unchanged-same, unchanged-then}
use Rattle.luks_area.specs.First.{IsLeast}
use Rattle.luks_rebuilding.specs.Vouchers.{copy_key, FindsVoucher, IsVoucher}
use Rattle.luks_rebuilding.proofs.VouchFacts.{copies_after, left_first, seeks_after, seeks_all, seeks_none}
use Rattle.luks_rebuilding.proofs.voucher.find_voucher.Goals as goal

pub loop-copy-init : goal.loop-copy-init
loop-copy-init g c = record {
  unchanged = unchanged-same _;
  count = refl;
  copies = c.in_ok-left.ensures.copies;
  seeks = λ t. seeks_all (g.D.Device.bytes c.args.source.now) (g.D.Device.bytes c.standing_copies.new.source) (λ u. IsVoucher u c.args.copies c.args.json.now) c.in_ok-left.left.items
      (λ u place is. is.met.0) (c.in_ok-left.ensures.unchanged.same t) (c.in_ok-left.ensures.standing t);
}

pub is_voucher-requires-clause-half : goal.is_voucher-requires-clause-half
is_voucher-requires-clause-half g c = (c.loop-copy.invariant.copies c.in-Some.copy c.in-Some.ensures.taken.is).half

pub returns-then-branch-clause-found : goal.returns-then-branch-clause-found
returns-then-branch-clause-found g c = λ t.
    let w : List ℕ = g.D.Device.bytes c.standing_copies.new.source in
    let V : List ℕ → Type 0 = λ u. IsVoucher u c.args.copies c.args.json.now c.in-Some.copy.place in
    let is : V w = subst V (c.loop-copy.invariant.unchanged.same t) ((c.in_ok-is_voucher.ensures.told t).0 c.if-branch.true) in
    let seeks = c.loop-copy.invariant.seeks t in
    subst (λ (u : List ℕ). IsLeast (copy_key u) (IsVoucher u c.args.copies c.args.json.now) c.in-Some.copy.place) (c.in_ok-left.ensures.unchanged.same t) (
      is,
      left_first w (IsVoucher w c.args.copies c.args.json.now) c.loop-copy.left.items c.take_first.new.left.items c.in-Some.copy c.in-Some.ensures.taken
          (seeks.told c.in-Some.copy c.in-Some.ensures.taken.is) seeks.each,
    )

pub loop-copy-preserved : goal.loop-copy-preserved
loop-copy-preserved g c = record {
  unchanged = unchanged-then c.loop-copy.invariant.unchanged c.in_ok-is_voucher.ensures.unchanged;
  count = c.in_ok-is_voucher.ensures.count ∙ c.loop-copy.invariant.count;
  copies = copies_after c.loop-copy.left.items c.take_first.new.left.items c.in-Some.copy c.in-Some.ensures.taken c.loop-copy.invariant.copies;
  seeks = λ t.
      let w : List ℕ = g.D.Device.bytes c.standing_copies.new.source in
      let V : List ℕ → Type 0 = λ u. IsVoucher u c.args.copies c.args.json.now c.in-Some.copy.place in
      seeks_after w (IsVoucher w c.args.copies c.args.json.now) c.loop-copy.left.items c.take_first.new.left.items c.in-Some.copy c.in-Some.ensures.taken
      (λ is. false≢true (sym c.if-branch.false ∙ (c.in_ok-is_voucher.ensures.told t).1 (subst V (sym (c.loop-copy.invariant.unchanged.same t)) is))) (c.loop-copy.invariant.seeks t);
}

pub returns-clause-found : goal.returns-clause-found
returns-clause-found g c = λ t.
    let w : List ℕ = g.D.Device.bytes c.standing_copies.new.source in
    subst (λ (u : List ℕ). FindsVoucher u c.args.copies c.args.json.now None) (c.in_ok-left.ensures.unchanged.same t)
    (seeks_none w (IsVoucher w c.args.copies c.args.json.now) c.loop-copy.left.items (c.in_default.ensures.none refl) (c.loop-copy.invariant.seeks t))
