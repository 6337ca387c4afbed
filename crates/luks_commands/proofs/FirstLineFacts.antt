-- The first line of what was read through the first newline.
use Rattle.std.proofs.Common.{◌≡◌, ◌==◌, if◌then◌else◌, ℕ, ◌∷◌, List, [], Bool, true, false, cond, not, suc, ◌+◌, arith, take, Option, Some, None, option_map, IfSome, inl, inr, refl, ap, ◌∙◌, sym, ◌++◌}
use Rattle.std.proofs.lemmas.Bool.{cases_Bool}
use Rattle.std.specs.List.{position_or_len}
use Rattle.std.specs.Io.BufRead.{take_through}
use Rattle.std.specs.Io.Buffered.{reader_buffer, reader_capacity, reader_inner, reader_remaining}
use Rattle.std.specs.Io.KnownBytes.{prepend_known}
use Rattle.std.specs.declared.io.buffered.BufReader.{BufReader}
use Rattle.luks_commands.specs.FirstLine.{first_line}

at_newline : (x : ℕ) (xs : List ℕ) → (x == 10) ≡ true → first_line (x ∷ xs) ≡ []
at_newline x xs is = ap (λ b. take (cond (not b) (1 + position_or_len (λ c. c == 10) xs) 0) (x ∷ xs)) is

before_newline : (x : ℕ) (xs : List ℕ) → (x == 10) ≡ false → first_line (x ∷ xs) ≡ x ∷ first_line xs
before_newline x xs is =
    let n = position_or_len (λ c. c == 10) xs in
    let more : 1 + n ≡ suc n = omega arith in
    ap (λ b. take (cond (not b) (1 + n) 0) (x ∷ xs)) is ∙ ap (λ k. take k (x ∷ xs)) more

read_so : (x : ℕ) (xs : List ℕ) (b : Bool) → (x == 10) ≡ b → take_through 10 (x ∷ xs) ≡ (if b then x ∷ [] else x ∷ take_through 10 xs)
read_so x xs b is = ap (λ b. if b then x ∷ [] else x ∷ take_through 10 xs) is

-- what is read through the newline has the same first line
pub first_line_through : (xs : List ℕ) → first_line (take_through 10 xs) ≡ first_line xs
first_line_through [] = refl
first_line_through (x ∷ xs) = elim (cases_Bool (x == 10)) [
  | inl is ↦ ap first_line (read_so x xs true is) ∙ at_newline x [] is ∙ sym (at_newline x xs is)
  | inr is ↦ ap first_line (read_so x xs false is) ∙ before_newline x (take_through 10 xs) is ∙ ap (λ l. x ∷ l) (first_line_through xs) ∙ sym (before_newline x xs is)
]

pub line_of : (known : Option (List ℕ)) (old ys line : List ℕ) → old ≡ [] → IfSome (option_map (take 65537) known) (λ xs. ys ≡ old ++ take_through 10 xs)
    → line ≡ first_line ys → IfSome known (λ xs. line ≡ first_line (take 65537 xs))
line_of None old ys line none read cut = read
line_of (Some xs) old ys line none read cut =
    cut ∙ ap first_line (read ∙ ap (λ b. b ++ take_through 10 (take 65537 xs)) none) ∙ first_line_through (take 65537 xs)

nothing_before : (known : Option (List ℕ)) → prepend_known [] known ≡ known
nothing_before None = refl
nothing_before (Some xs) = refl

-- a reader that has buffered nothing has what its inner reader has
pub unbuffered : {T A : Type 0} (remaining : T → Option (List ℕ)) (r : BufReader T A) (inner : T) → reader_capacity r ≡ 1 → reader_buffer r ≡ []
    → reader_inner r ≡ inner → reader_remaining remaining r ≡ remaining inner
unbuffered remaining r inner capacity empty is =
    ap (λ n. if n == 0 then None else prepend_known (reader_buffer r) (remaining r.inner)) capacity
    ∙ ap (λ b. prepend_known b (remaining r.inner)) empty
    ∙ ap (λ i. prepend_known [] (remaining i)) is
    ∙ nothing_before (remaining inner)
