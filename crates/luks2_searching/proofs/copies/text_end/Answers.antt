use Rattle.std.proofs.Common.{◌≡◌, ℕ, ◌≤◌, ◌==◌, List, length, not, inl, inr, Bool, Some, None, sym, ◌∙◌, arith}
use Rattle.std.specs.List.{position, position_or_len}
use Rattle.std.proofs.lemmas.Bool.{cases_lt, cond_below}
use Rattle.std.proofs.lemmas.List.Sums.{prefix_len-le-length}
use Rattle.std.proofs.lemmas.Option.{cond_some}
use Rattle.luks2_searching.proofs.copies.text_end.Goals as goal

-- where none passes, that is the end
none_passes : (p : ℕ → Bool) (xs : List ℕ) → position p xs ≡ None → length xs ≡ position_or_len p xs
none_passes p xs e =
    let n : ℕ = position_or_len p xs in
    let inside : position_or_len p xs ≤ length xs = prefix_len-le-length (λ x. not (p x)) xs in
    elim (cases_lt n (length xs)) [
      | inl below ↦
          let some : Some (position_or_len p xs) ≡ None = cond_below n (length xs) (Some n) None below ∙ e in
          absurd cc
      | inr past ↦ omega (arith, past, inside)
    ]

pub returns-in-Some-clause-end : goal.returns-in-Some-clause-end
returns-in-Some-clause-end c = sym (cond_some _ _ _ (sym c.in-Some.ensures)).1

pub returns-in-None-clause-end : goal.returns-in-None-clause-end
returns-in-None-clause-end c = none_passes (λ k. k == 0) c.args.area.now (sym c.in-None.ensures)
