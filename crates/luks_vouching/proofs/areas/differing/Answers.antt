use Rattle.std.proofs.Common.{◌≡◌, ℕ, ◌+◌, ◌<◌, length, not, take, true, false, Bool, sym, ap, ◌∙◌, arith}
use Rattle.std.specs.List.{count_by, range_with_len}
use Rattle.std.specs.Str.{bytes_eq}
use Rattle.std.proofs.lemmas.List.{take_all}
use Rattle.std.proofs.lemmas.List.FromFn.{get_or-range_with_len, length-range_with_len}
use Rattle.std.proofs.lemmas.List.Sums.{count_by_more_no, count_by_more_yes}
use Rattle.luks_vouching.specs.Composed.{sector, sector_count}
use Rattle.luks_vouching.proofs.areas.differing.Goals as goal
use Rattle.luks_vouching.proofs.areas.differing.Goals.{then-differ, else-differ}

-- one more number of a range is counted, or not
counted_yes : (p : ℕ → Bool) (n k : ℕ) → k < n → p k ≡ true → count_by p (take (k + 1) (range_with_len 0 n)) ≡ count_by p (take k (range_with_len 0 n)) + 1
counted_yes p n k below passes =
    let long : length (range_with_len 0 n) ≡ n = length-range_with_len 0 n in
    let at : 0 + k ≡ k = omega arith in
    count_by_more_yes p (range_with_len 0 n) k 0 (omega (arith, long, below)) (ap p (get_or-range_with_len 0 n k 0 below ∙ at) ∙ passes)

counted_no : (p : ℕ → Bool) (n k : ℕ) → k < n → p k ≡ false → count_by p (take (k + 1) (range_with_len 0 n)) ≡ count_by p (take k (range_with_len 0 n))
counted_no p n k below fails =
    let long : length (range_with_len 0 n) ≡ n = length-range_with_len 0 n in
    let at : 0 + k ≡ k = omega arith in
    count_by_more_no p (range_with_len 0 n) k 0 (omega (arith, long, below)) (ap p (get_or-range_with_len 0 n k 0 below ∙ at) ∙ fails)

pub loop-k-preserved : goal.loop-k-preserved
loop-k-preserved c =
    let p : ℕ → Bool = λ k. not (bytes_eq (sector c.args.first.now k) (sector c.args.second.now k)) in
    let n : ℕ = sector_count c.args.first.now in
    let so_far : c.loop-k.count ≡ count_by p (take c.loop-k.k (range_with_len 0 n)) = c.loop-k.invariant in
    let below : c.loop-k.k < n = omega arith in
    elim c.if-differ.branch [
      | then-differ w ↦
          let more = counted_yes p n c.loop-k.k below (sym c.differ.ensures ∙ w.if-differ.true) in
          let count = w.count-is in
          omega (arith, so_far, more, count)
      | else-differ w ↦
          let same = counted_no p n c.loop-k.k below (sym c.differ.ensures ∙ w.if-differ.false) in
          w.count-is ∙ so_far ∙ sym same
    ]

pub returns : goal.returns
returns c =
    let p : ℕ → Bool = λ k. not (bytes_eq (sector c.args.first.now k) (sector c.args.second.now k)) in
    let n : ℕ = sector_count c.args.first.now in
    let long : length (range_with_len 0 n) ≡ n = length-range_with_len 0 n in
    c.loop-k.invariant ∙ ap (count_by p) (take_all c.loop-k.k (range_with_len 0 n) (omega (arith, long)))
