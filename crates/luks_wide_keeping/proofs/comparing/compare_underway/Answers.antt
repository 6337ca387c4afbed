use Rattle.std.proofs.Common.{◌≡◌, ◌≢◌, ◌<◌, ℕ, List, length, inl, inr, subst, ◌∙◌, arith, length-set, get_or-set_other, get_or-set_same}
use Rattle.std.proofs.lemmas.Bool.{cases_lt}
use Rattle.luks_area.specs.Device.{unchanged-then}
use Rattle.luks_keeping.specs.declared.comparison.Keeping.{Keeping}
use Rattle.luks_wider.specs.Underways.{content}
use Rattle.luks_wide_keeping.specs.Compared.{IsKeptSo}
use Rattle.luks_wide_keeping.proofs.comparing.compare_underway.Goals as goal

pub loop-n-preserved : goal.loop-n-preserved
loop-n-preserved g c =
    let b : List ℕ = g.B.Device.bytes c.args.backup.now in
    let t : List ℕ = g.T.Device.bytes c.args.target.now in
    let r : Keeping = c.in_ok-keyslots.field-0 in
    let within : c.loop-n.n < length c.loop-n.keyslots = omega (arith, c.loop-n.invariant.long) in
    record {
      kept = unchanged-then c.loop-n.invariant.kept c.in_ok-keyslots.ensures.kept;
      unchanged = unchanged-then c.loop-n.invariant.unchanged c.in_ok-keyslots.ensures.unchanged;
      backup_count = c.in_ok-keyslots.ensures.count.0 ∙ c.loop-n.invariant.backup_count;
      count = c.in_ok-keyslots.ensures.count.1 ∙ c.loop-n.invariant.count;
      long = simp length-set c.loop-n.invariant.long;
      before = λ source tells k lt. elim (cases_lt k c.loop-n.n) [
        | inl under ↦ (let other : k ≢ c.loop-n.n = (λ e. omega arith) in rw get_or-set_other (c.loop-n.invariant.before source tells k under))
        | inr over ↦ (
            let same : k ≡ c.loop-n.n = omega arith in
            let own : IsKeptSo b t (content c.args.copy.now.meta) c.loop-n.n r =
            subst (λ (l : List ℕ). IsKeptSo l t (content c.args.copy.now.meta) c.loop-n.n r) (c.loop-n.invariant.kept.same source)
            (subst (λ (l : List ℕ). IsKeptSo (g.B.Device.bytes c.loop-n.backup) l (content c.args.copy.now.meta) c.loop-n.n r) (c.loop-n.invariant.unchanged.same tells)
            (c.in_ok-keyslots.ensures.kept_so source tells)) in
            rw same (rw get_or-set_same own))
      ];
    }

pub returns-clause-compared : goal.returns-clause-compared
returns-clause-compared g c = λ source tells. record {
  long = c.loop-n.invariant.long;
  each = λ n low. c.loop-n.invariant.before source tells n (omega (arith, low));
}
