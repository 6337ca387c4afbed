-- Compositions by one border.
use Rattle.std.proofs.Common.{◌≡◌, ℕ, ◌+◌, ◌-◌, ◌*◌, ◌<◌, ◌≤◌, List, ◌++◌, inl, inr, length, take, drop, sym, ap, ◌∙◌, arith, subst, length-append, length-drop}
use Rattle.std.proofs.lemmas.Bool.{cases_lt}
use Rattle.std.proofs.lemmas.List.{append-nil, drop_all, drop-append-le, length-take-le, take_all, take-append-le}
use Rattle.std.proofs.Math.Seq.{drop-append-add}
use Rattle.luks_vouching.specs.Composed.{bordered, sector, IsComposed}
use Rattle.luks_vouching.specs.Tried.{HasNoBorder, IsNear}
use Rattle.luks_vouching.proofs.BoundFacts.{near_before}
use Rattle.luks_vouching.proofs.SectorFacts.{composed_own, sector_drop, sector_take}

module _ (front rest : List ℕ) (long : length rest ≡ length front) where
  -- a border at the end, or past it
  pub border_all : (n : ℕ) → length front ≤ 512 * n → bordered front rest n ≡ front
  border_all n past =
      ap (λ l. l ++ drop (512 * n) rest) (take_all (512 * n) front past)
      ∙ ap (λ l. front ++ l) (drop_all (512 * n) rest (omega (arith, long, past))) ∙ append-nil front

  pub length-bordered : (n : ℕ) → 512 * n ≤ length front → length (bordered front rest n) ≡ length front
  length-bordered n inside =
      let both : length (bordered front rest n) ≡ length (take (512 * n) front) + length (drop (512 * n) rest) = length-append (take (512 * n) front) (drop (512 * n) rest) in
      let one : length (take (512 * n) front) ≡ 512 * n = length-take-le (512 * n) front inside in
      let two : length (drop (512 * n) rest) ≡ length rest - 512 * n = length-drop (512 * n) rest in
      omega (arith, both, one, two, long, inside)

  before_border : (n k : ℕ) → 512 * n ≤ length front → k < n → sector (bordered front rest n) k ≡ sector front k
  before_border n k inside below =
      let one : length (take (512 * n) front) ≡ 512 * n = length-take-le (512 * n) front inside in
      let cut : drop (512 * k) (bordered front rest n) ≡ drop (512 * k) (take (512 * n) front) ++ drop (512 * n) rest =
      drop-append-le (512 * k) (take (512 * n) front) (drop (512 * n) rest) (omega (arith, one, below)) in
      let left : length (drop (512 * k) (take (512 * n) front)) ≡ length (take (512 * n) front) - 512 * k = length-drop (512 * k) (take (512 * n) front) in
      ap (take 512) cut ∙ take-append-le 512 (drop (512 * k) (take (512 * n) front)) (drop (512 * n) rest) (omega (arith, left, one, below))
      ∙ sector_take front n k below

  behind_border : (n k : ℕ) → 512 * n ≤ length front → n ≤ k → sector (bordered front rest n) k ≡ sector rest k
  behind_border n k inside past =
      let one : length (take (512 * n) front) ≡ 512 * n = length-take-le (512 * n) front inside in
      let at : 512 * k ≡ length (take (512 * n) front) + 512 * (k - n) = omega (arith, one, past) in
      let there : n + (k - n) ≡ k = omega (arith, past) in
      ap (λ p. take 512 (drop p (bordered front rest n))) at
      ∙ ap (take 512) (drop-append-add (take (512 * n) front) (drop (512 * n) rest) (512 * (k - n)))
      ∙ sector_drop rest n (k - n) ∙ ap (sector rest) there

  -- it is a composition
  pub bordered_composed : (n : ℕ) → IsComposed front rest (bordered front rest n)
  bordered_composed n = elim (cases_lt (length front) (512 * n)) [
    | inl past ↦ subst (IsComposed front rest) (sym (border_all n (omega (arith, past)))) (composed_own front rest long)
    | inr within ↦ record {
      as_first = length-bordered n within;
      as_second = length-bordered n within ∙ sym long;
      each = λ k lt. elim (cases_lt k n) [
        | inl below ↦ inl (before_border n k within below)
        | inr behind ↦ inr (behind_border n k within behind)
      ];
    }
  ]

  -- where none of the borders before one that isn't near enough meets the checksum, none that is does
  pub no_border_before : (most : ℕ) (meets : List ℕ → Type 0) (n : ℕ) → (IsNear most front rest n → ⊥)
      → ((m : ℕ) → m < n → meets (bordered front rest m) → ⊥) → HasNoBorder most front rest meets
  no_border_before most meets n far before m near met = elim (cases_lt m n) [
    | inl below ↦ before m below met
    | inr past ↦ far (near_before front rest most n m past near)
  ]

  -- where none of the borders up to the end meets the checksum none does
  pub no_border : (most : ℕ) (meets : List ℕ → Type 0) (count : ℕ) → 512 * count ≡ length front
      → ((m : ℕ) → m < count → meets (bordered front rest m) → ⊥) → (meets front → ⊥) → HasNoBorder most front rest meets
  no_border most meets count whole before at_end n near met = elim (cases_lt n count) [
    | inl below ↦ before n below met
    | inr past ↦ at_end (subst meets (border_all n (omega (arith, whole, past))) met)
  ]

  -- the least border that meets it
  pub least_border_at : (meets : List ℕ → Type 0) (n : ℕ) → ((m : ℕ) → m < n → meets (bordered front rest m) → ⊥)
      → (m : ℕ) → meets (bordered front rest m) → n ≤ m
  least_border_at meets n before m met = elim (cases_lt m n) [
    | inl below ↦ absurd (before m below met)
    | inr past ↦ past
  ]
