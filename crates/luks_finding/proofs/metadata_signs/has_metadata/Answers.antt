use Rattle.std.proofs.Common.{◌≡◌, ℕ, ◌+◌, ◌*◌, List, refl, sym, ◌∙◌, subst}
use Rattle.std.proofs.lemmas.Bool.{false≢true}
use Rattle.luks_area.specs.Ranges.{part}
use Rattle.luks_finding.specs.Starts.{other_magic, IsExplained}
use Rattle.luks_finding.proofs.metadata_signs.has_metadata.Goals as goal

pub returns-then-not-branch-2-clause-has : goal.returns-then-not-branch-2-clause-has
returns-then-not-branch-2-clause-has g c = λ t. (
  λ f. absurd (false≢true f),
  λ has.
      let O : List ℕ → Type 0 = λ w. part w (512 * c.args.sector + c.args.place.at) 6 ≡ other_magic c.args.place.at → ⊥ in
      absurd (false≢true (sym c.if-not-branch-2.true ∙ (c.in_ok-is_own.ensures.own t).1 (subst O (sym (c.in_ok-is_whole.ensures.unchanged.same t)) has.own))),
)

pub returns-then-branch-clause-has : goal.returns-then-branch-clause-has
returns-then-branch-clause-has g c = λ t. (
  λ f. absurd (false≢true f),
  λ has.
      let E : List ℕ → Type 0 = λ w. IsExplained w (512 * c.args.sector) c.args.place in
      absurd (has.unexplained (subst E (c.in_ok-is_own.ensures.unchanged.same t ∙ c.in_ok-is_whole.ensures.unchanged.same t) ((c.in_ok-is_explained.ensures.explained t).0 c.if-branch.true))),
)

pub returns-clause-has : goal.returns-clause-has
returns-clause-has g c = λ t.
    let O : List ℕ → Type 0 = λ w. part w (512 * c.args.sector + c.args.place.at) 6 ≡ other_magic c.args.place.at → ⊥ in
    let E : List ℕ → Type 0 = λ w. IsExplained w (512 * c.args.sector) c.args.place in
    let same = c.in_ok-is_own.ensures.unchanged.same t ∙ c.in_ok-is_whole.ensures.unchanged.same t in (
      λ yes. record {
        whole = (c.in_ok-is_whole.ensures.whole t).0 c.if-not-branch.false;
        own = subst O (c.in_ok-is_whole.ensures.unchanged.same t) ((c.in_ok-is_own.ensures.own t).0 c.if-not-branch-2.false);
        unexplained = λ is. false≢true (sym c.if-branch.false ∙ (c.in_ok-is_explained.ensures.explained t).1 (subst E (sym same) is));
      },
      λ has. refl,
    )
