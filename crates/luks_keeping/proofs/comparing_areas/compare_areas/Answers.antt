use Rattle.std.proofs.Common.{◌≡◌, ◌≢◌, ◌<◌, ℕ, List, None, length, slice_index_or, inl, inr, refl, sym, subst, ◌∙◌, arith, length-set, get_or-set_other, get_or-set_same}
use Rattle.std.proofs.lemmas.Bool.{cases_lt}
use Rattle.luks_area.specs.Device.{unchanged-then}
use Rattle.luks_keeping.specs.AreasCompared.{IsJudgedBy}
use Rattle.luks_keeping.specs.Places.{AreInside}
use Rattle.luks_keeping.specs.declared.comparison.Keeping.{Keeping}
use Rattle.luks_keeping.specs.declared.comparison.Keeping.TheVariants.{Absent}
use Rattle.luks_keeping.proofs.CompareFacts.{in_full, own_within}
use Rattle.luks_keeping.proofs.comparing_areas.compare_areas.Goals as goal

pub judged-requires-clause-here : goal.judged-requires-clause-here
judged-requires-clause-here g c =
    own_within c.args.held.now.places (g.B.Device.size c.loop-n.backup) c.loop-n.n (omega arith)
    (subst (AreInside c.args.held.now.places) (sym c.loop-n.invariant.kept.size) c.requires.backup_within.inside)

pub judged-requires-clause-there : goal.judged-requires-clause-there
judged-requires-clause-there g c =
    own_within c.args.there.now.places (g.T.Device.size c.loop-n.target) c.loop-n.n (omega arith)
    (subst (AreInside c.args.there.now.places) (sym c.loop-n.invariant.unchanged.size) c.requires.volume_within.inside)

pub loop-n-preserved : goal.loop-n-preserved
loop-n-preserved g c =
    let v : List ℕ = g.B.Device.bytes c.args.backup.now in
    let w : List ℕ = g.T.Device.bytes c.args.target.now in
    let now : List ℕ = g.T.Device.bytes c.loop-n.target in
    let r : Keeping = c.in_ok-keyslots.field-0 in
    let within : c.loop-n.n < length c.loop-n.keyslots = omega (arith, c.loop-n.invariant.long) in
    record {
      kept = unchanged-then c.loop-n.invariant.kept c.in_ok-keyslots.ensures.kept;
      unchanged = unchanged-then c.loop-n.invariant.unchanged c.in_ok-keyslots.ensures.unchanged;
      backup_count = c.in_ok-keyslots.ensures.count.0 ∙ c.loop-n.invariant.backup_count;
      count = c.in_ok-keyslots.ensures.count.1 ∙ c.loop-n.invariant.count;
      long = simp length-set c.loop-n.invariant.long;
      before = λ source tells k lt. elim (cases_lt k c.loop-n.n) [
        | inl under ↦ (let other : k ≢ c.loop-n.n = (λ e. omega arith) in rw get_or-set_other (c.loop-n.invariant.before source tells k under))
        | inr over ↦ (
            let same : k ≡ c.loop-n.n = omega arith in
            let own : IsJudgedBy (slice_index_or c.compare-salts.result.keyslots c.loop-n.n Absent) (slice_index_or c.args.held.now.places.areas c.loop-n.n None)
            (slice_index_or c.args.there.now.places.areas c.loop-n.n None) v w r =
            subst (λ (l : List ℕ). IsJudgedBy (slice_index_or c.compare-salts.result.keyslots c.loop-n.n Absent) (slice_index_or c.args.held.now.places.areas c.loop-n.n None)
            (slice_index_or c.args.there.now.places.areas c.loop-n.n None) l w r) (c.loop-n.invariant.kept.same source)
            (subst (λ (l : List ℕ). IsJudgedBy (slice_index_or c.compare-salts.result.keyslots c.loop-n.n Absent) (slice_index_or c.args.held.now.places.areas c.loop-n.n None)
            (slice_index_or c.args.there.now.places.areas c.loop-n.n None) (g.B.Device.bytes c.loop-n.backup) l r) (c.loop-n.invariant.unchanged.same tells)
            (subst (λ (s : Keeping). IsJudgedBy s (slice_index_or c.args.held.now.places.areas c.loop-n.n None)
            (slice_index_or c.args.there.now.places.areas c.loop-n.n None) (g.B.Device.bytes c.loop-n.backup) now r) (c.loop-n.invariant.after c.loop-n.n (omega arith))
            (c.in_ok-keyslots.ensures.judged source tells))) in
            rw same (rw get_or-set_same own))
      ];
      after = λ k le. (let other : k ≢ c.loop-n.n = (λ e. omega arith) in rw get_or-set_other (c.loop-n.invariant.after k (omega (arith, le))));
    }

pub returns-clause-compared : goal.returns-clause-compared
returns-clause-compared g c = λ source tells x y.
    in_full (g.B.Device.bytes c.args.backup.now) (g.T.Device.bytes c.args.target.now) x.header y.header x.is_header y.is_header c.args.held.now.places c.args.there.now.places
    x.is.laid y.is.laid c.compare-salts.result _ (c.compare-salts.ensures (g.B.Device.bytes c.args.backup.now) (g.T.Device.bytes c.args.target.now) x y) refl
    (λ n low. c.loop-n.invariant.before source tells n (omega (arith, low)))
