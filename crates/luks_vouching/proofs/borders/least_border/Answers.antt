use Rattle.std.proofs.Common.{◌≡◌, ℕ, ◌+◌, ◌-◌, ◌*◌, ◌/◌, ◌≤◌, List, [], ◌++◌, inl, inr, length, take, drop, sym, ap, ◌∙◌, arith, subst, append_assoc}
use Rattle.std.proofs.lemmas.Bool.{cases_Bool, cases_lt, false≢true}
use Rattle.std.proofs.lemmas.List.{append-nil, take_all, take_rest}
use Rattle.sha2.specs.Hashers.{Holds256}
use Rattle.sha2.specs.Sha256.{sha256}
use Rattle.luks_vouching.specs.Composed.{bordered, differing_before, sector}
use Rattle.luks_vouching.specs.Tried.{IsNear}
use Rattle.luks_vouching.proofs.BorderFacts.{border_all, no_border, no_border_before}
use Rattle.luks_vouching.proofs.BoundFacts.{before_le, before_no, before_yes, border_same}
use Rattle.luks_vouching.proofs.SectorFacts.{next_front}
use Rattle.luks_vouching.proofs.SearchFacts.{MeetsAfter}
use Rattle.luks_vouching.proofs.borders.least_border.Goals as goal
use Rattle.luks_vouching.proofs.borders.least_border.Goals.{then-is_new, else-is_new, else-borders_may-via-then-borders_may+else-is_met-2, else-borders_may-via-else-borders_may}

-- the bytes of the next sector, as they are fed
next_sector : (front : List ℕ) (n : ℕ) → take (n * 512 + 512 - n * 512) (drop (n * 512) front) ≡ sector front n
next_sector front n =
    let size : n * 512 + 512 - n * 512 ≡ 512 = omega arith in
    let at : n * 512 ≡ 512 * n = omega arith in
    ap (λ m. take m (drop (n * 512) front)) size ∙ ap (λ p. take 512 (drop p front)) at

more_fed : (done front : List ℕ) (n : ℕ) → (done ++ take (512 * n) front) ++ take (n * 512 + 512 - n * 512) (drop (n * 512) front) ≡ done ++ take (512 * (n + 1)) front
more_fed done front n =
    ap (λ l. (done ++ take (512 * n) front) ++ l) (next_sector front n)
    ∙ append_assoc done (take (512 * n) front) (sector front n) ∙ ap (λ l. done ++ l) (sym (next_front front n))

rest_fed : (done front rest : List ℕ) (n : ℕ) → (done ++ take (512 * n) front) ++ take (length rest - n * 512) (drop (n * 512) rest) ≡ done ++ bordered front rest n
rest_fed done front rest n =
    let at : n * 512 ≡ 512 * n = omega arith in
    ap (λ l. (done ++ take (512 * n) front) ++ l) (take_rest rest (n * 512) ∙ ap (λ p. drop p rest) at)
    ∙ append_assoc done (take (512 * n) front) (drop (512 * n) rest)

few : (a b : List ℕ) (n passed : ℕ) → n ≤ length a / 512 → passed ≡ differing_before a b n → passed ≤ length a
few a b n passed inside is =
    let le = before_le a b n in
    omega (arith, inside, is, le)

-- a border that is too far
too_far : (most : ℕ) (a b : List ℕ) (n passed : ℕ) → passed ≡ differing_before a b n → ((2 + 2 * (passed + 1)) * length a ≤ most → ⊥) → IsNear most a b n → ⊥
too_far most a b n passed is far near = far (subst (λ k. (2 + 2 * (k + 1)) * length a ≤ most) (sym is) near)

pub borders_may-requires-clause-inside : goal.borders_may-requires-clause-inside
borders_may-requires-clause-inside c = few c.args.front.now c.args.rest.now c.loop-n.n c.loop-n.passed (omega arith) c.loop-n.invariant.passed

pub borders_may-requires-2-clause-inside : goal.borders_may-requires-2-clause-inside
borders_may-requires-2-clause-inside c = few c.args.front.now c.args.rest.now c.loop-n.n c.loop-n.passed (omega arith) c.loop-n.invariant.passed

pub overflow_add-passed : goal.overflow_add-passed
overflow_add-passed c =
    let le = before_le c.args.front.now c.args.rest.now c.loop-n.n in
    let is = c.loop-n.invariant.passed in
    omega (arith, le, is)

pub returns-then-not-borders_may-clause-none : goal.returns-then-not-borders_may-clause-none
returns-then-not-borders_may-clause-none c = λ done held is.
    no_border_before c.args.front.now c.args.rest.now c.requires.long c.args.most (MeetsAfter c.args.sum.now done) c.loop-n.n
    (too_far c.args.most c.args.front.now c.args.rest.now c.loop-n.n c.loop-n.passed c.loop-n.invariant.passed (λ le. false≢true (c.if-not-borders_may.ensures.1 le)))
    (c.loop-n.invariant.none done held)

pub loop-n-preserved : goal.loop-n-preserved
loop-n-preserved c =
    let a : List ℕ = c.args.front.now in
    let b : List ℕ = c.args.rest.now in
    let n : ℕ = c.loop-n.n in
    let none_here : (done : List ℕ) → Holds256 c.args.hasher.now done → MeetsAfter c.args.sum.now done (bordered a b n) → ⊥ = λ done held met. elim (cases_Bool c.loop-n.is_new) [
      | inl new ↦
          c.is_met.ensures.not_met (done ++ take (512 * n) a) (c.loop-n.invariant.fed done held) c.if-is_met.false new
          (met ∙ ap sha256 (sym (rest_fed done a b n)))
      | inr old ↦ c.loop-n.invariant.same old done held met
    ] in
    record {
      fed = λ done held. subst (Holds256 c.update.new.self) (more_fed done a n)
          (c.update.ensures (done ++ take (512 * n) a) (c.loop-n.invariant.fed done held));
      passed = elim c.if-is_new.branch [
        | then-is_new w ↦
            let more = before_yes a b n (sym c.differ-is_new.ensures ∙ w.if-is_new.true) in
            let is = w.passed-is in
            let so_far = c.loop-n.invariant.passed in
            omega (arith, more, is, so_far)
        | else-is_new w ↦
            let same = before_no a b n (sym c.differ-is_new.ensures ∙ w.if-is_new.false) in
            let is = w.passed-is in
            let so_far = c.loop-n.invariant.passed in
            omega (arith, same, is, so_far)
      ];
      none = λ done held m below met. elim (cases_lt m n) [
        | inl before ↦ c.loop-n.invariant.none done held m before met
        | inr past ↦
            let here : m ≡ n = omega (arith, below, past) in
            none_here done held (subst (λ k. MeetsAfter c.args.sum.now done (bordered a b k)) here met)
      ];
      same = λ old done held met. none_here done held
          (subst (MeetsAfter c.args.sum.now done) (border_same a b n (sym c.differ-is_new.ensures ∙ old)) met);
    }

-- at the end nothing of the rest is left
all_fed : (front rest : List ℕ) (n : ℕ) → length rest ≡ length front → length front ≤ 512 * n → take (512 * n) front ++ [] ≡ front
all_fed front rest n long past = append-nil (take (512 * n) front) ∙ take_all (512 * n) front past

pub returns-else-borders_may-clause-none : goal.returns-else-borders_may-clause-none
returns-else-borders_may-clause-none c = λ done held is.
    let a : List ℕ = c.args.front.now in
    let b : List ℕ = c.args.rest.now in
    let n : ℕ = c.loop-n.n in
    let end : 512 * n ≡ length a = let whole = c.requires.whole in let past = c.loop-n-test.false in let within = c.loop-n.auto.n-end in omega (arith, whole, past, within) in
    elim c.else-borders_may.branch [
      | else-borders_may-via-then-borders_may+else-is_met-2 w ↦
          no_border a b c.requires.long c.args.most (MeetsAfter c.args.sum.now done) n end (c.loop-n.invariant.none done held) (λ met. elim (cases_Bool c.loop-n.is_new) [
            | inl new ↦
                w.is_met-then-borders_may.ensures.not_met (done ++ take (512 * n) a) (c.loop-n.invariant.fed done held) w.if-is_met-2.false new
                (met ∙ ap (λ l. sha256 (done ++ l)) (sym (all_fed a b n c.requires.long (omega (arith, end)))) ∙ ap sha256 (sym (append_assoc done (take (512 * n) a) [])))
            | inr old ↦ c.loop-n.invariant.same old done held (subst (MeetsAfter c.args.sum.now done) (sym (border_all a b c.requires.long n (omega (arith, end)))) met)
          ])
      | else-borders_may-via-else-borders_may w ↦
          no_border_before a b c.requires.long c.args.most (MeetsAfter c.args.sum.now done) n
          (too_far c.args.most a b n c.loop-n.passed c.loop-n.invariant.passed (λ le. false≢true (sym w.if-borders_may.false ∙ c.borders_may-2.ensures.1 le)))
          (c.loop-n.invariant.none done held)
    ]
