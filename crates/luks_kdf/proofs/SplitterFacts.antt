-- Facts about splitting and merging.
use Rattle.std.proofs.Common.{◌≡◌, ℕ, zero, suc, ◌+◌, ◌-◌, ◌*◌, ◌≤◌, List, [], ◌++◌, length, take, drop, ◌/◌, refl, ap, sym, ◌∙◌, arith, add-one, length-append}
use borrow.Rule.Slice.PartMut.{put_mid}
use Rattle.std.proofs.Math.Nat.{mul-div_cancel}
use Rattle.std.proofs.lemmas.List.{append-nil, drop_at, drop_all, drop-append-le, length-drop, length-replicate, take_all, take_at, take-append-le}
use Rattle.luks_kdf.specs.Xor.{xor_bytes}
use Rattle.luks_kdf.specs.Splitter.{block_at, diffuse, stripe_at, mixed, merge, split, Splits, TakesIn, UndoesSplit}
use Rattle.luks_kdf.proofs.XorFacts.{length-xor_bytes, xor_bytes-twice}
use Rattle.luks_kdf.proofs.DiffuseFacts.{length-block_at, length-diffuse}

-- the number of stripes of a row
pub count-stripes : (k len n : ℕ) → 1 ≤ k → len ≡ n * k → len / k ≡ n
count-stripes k len n some whole = ap (λ l. l / k) whole ∙ mul-div_cancel n some

-- a whole stripe has the key's length
length-stripe_at : (k : ℕ) (stripes : List ℕ) (i : ℕ) → (i + 1) * k ≤ length stripes
    → length (stripe_at k stripes i) ≡ k
unfolding stripe_at
length-stripe_at k stripes i inside = omega (arith, length-block_at k stripes i, inside)

-- what follows a stripe doesn't change it
stripe_at-append : (k : ℕ) (xs ys : List ℕ) (i : ℕ) → (i + 1) * k ≤ length xs
    → stripe_at k (xs ++ ys) i ≡ stripe_at k xs i
unfolding stripe_at block_at
stripe_at-append k xs ys i inside =
    let begins : i * k ≤ length xs = omega (arith, inside) in
    let reaches : k ≤ length (drop (i * k) xs) = omega (arith, length-drop (i * k) xs, inside) in
    rw (drop-append-le, take-append-le) refl

-- the last of a row
stripe_at-last : (k : ℕ) (xs last : List ℕ) (i : ℕ) → length xs ≡ i * k → length last ≡ k
    → stripe_at k (xs ++ last) i ≡ last
unfolding stripe_at block_at
stripe_at-last k xs last i before whole =
    rw (drop_at xs last (i * k) before) (take_all k last (omega (arith, whole)))

length-mixed : (hash : List ℕ → List ℕ) (size : ℕ) → ((m : List ℕ) → length (hash m) ≡ size)
    → 1 ≤ size → (k : ℕ) (stripes : List ℕ) (i : ℕ) → i * k ≤ length stripes
    → length (mixed hash size k stripes i) ≡ k
unfolding mixed
length-mixed hash size digests some k stripes zero inside = length-replicate k 0
length-mixed hash size digests some k stripes (suc i) inside =
    let before = length-mixed hash size digests some k stripes i (omega (arith, inside)) in
    let next = length-stripe_at k stripes i (omega (arith, inside)) in
    length-diffuse hash size digests some _ ∙ length-xor_bytes _ _ (before ∙ sym next) ∙ before

-- the running block depends on the stripes so far alone
mixed-append : (hash : List ℕ → List ℕ) (size k : ℕ) (xs ys : List ℕ) (i : ℕ) → i * k ≤ length xs
    → mixed hash size k (xs ++ ys) i ≡ mixed hash size k xs i
unfolding mixed
mixed-append hash size k xs ys zero inside = refl
mixed-append hash size k xs ys (suc i) inside =
    let before = mixed-append hash size k xs ys i (omega (arith, inside)) in
    let next = stripe_at-append k xs ys i (omega (arith, inside)) in
    rw (before, next) refl

-- merging gives back the key that was split
pub merge-last : (hash : List ℕ → List ℕ) (size : ℕ) → ((m : List ℕ) → length (hash m) ≡ size) → 1 ≤ size
    → (key random last : List ℕ) (i : ℕ) → length random ≡ i * length key
    → last ≡ xor_bytes (mixed hash size (length key) random i) key
    → merge hash size (length key) (i + 1) (random ++ last) ≡ key
unfolding merge
merge-last hash size digests some key random last i whole is_last =
    let k = length key in
    let block = mixed hash size k random i in
    let block_length : length block ≡ k =
    length-mixed hash size digests some k random i (omega (arith, whole)) in
    let last_length : length last ≡ k = ap length is_last ∙ length-xor_bytes block key block_length ∙ block_length in
    let count : i + 1 - 1 ≡ i = omega arith in
    let front = mixed-append hash size k random last i (omega (arith, whole)) in
    let end = stripe_at-last k random last i whole last_length in
    rw (count, front, end, is_last) (xor_bytes-twice block key block_length)

-- merging undoes splitting
pub merge-split : (hash : List ℕ → List ℕ) (size : ℕ) → ((m : List ℕ) → length (hash m) ≡ size) → 1 ≤ size → UndoesSplit hash size
unfolding split
merge-split hash size digests some key random n whole =
    let count : n + 1 - 1 ≡ n = omega arith in
    rw count (merge-last hash size digests some key random _ n whole refl)

-- one stripe more
pub takes_in : (hash : List ℕ → List ℕ) (size : ℕ) → ((m : List ℕ) → length (hash m) ≡ size) → 1 ≤ size
    → (before stripe after : List ℕ) → length before ≡ length stripe
    → after ≡ diffuse hash size (xor_bytes before stripe) → TakesIn hash size before stripe after
unfolding mixed
takes_in hash size digests some before stripe after same is_after =
    record {
      step = is_after;
      len = ap length is_after ∙ length-diffuse hash size digests some _ ∙ length-xor_bytes before stripe same;
      in_turn = λ k i stripes is_before is_stripe. rw (add-one, ← is_before, ← is_stripe) is_after;
    }

-- the stripes that hold a key, once the last is written after the random ones
pub splits : (hash : List ℕ → List ℕ) (size : ℕ) → ((m : List ℕ) → length (hash m) ≡ size) → 1 ≤ size
    → (key random last : List ℕ) (i : ℕ) → 1 ≤ length key → length random ≡ i * length key
    → last ≡ xor_bytes (mixed hash size (length key) random i) key
    → Splits hash size key random (random ++ last)
unfolding split
splits hash size digests some key random last i some_bytes whole is_last =
    let k = length key in
    let block = mixed hash size k random i in
    let block_length : length block ≡ k =
    length-mixed hash size digests some k random i (omega (arith, whole)) in
    let last_length : length last ≡ k = ap length is_last ∙ length-xor_bytes block key block_length ∙ block_length in
    let len = length (random ++ last) in
    let row : len ≡ (i + 1) * k = omega (arith, length-append random last, whole, last_length) in
    let count : (n : ℕ) → len ≡ n * k → i + 1 ≡ n =
    λ n is_len. sym (count-stripes k len (i + 1) some_bytes row) ∙ count-stripes k len n some_bytes is_len in
    let less : i + 1 - 1 ≡ i = omega arith in
    record {
      value = λ n is_len.
          ap (λ l. random ++ l) is_last
          ∙ ap (λ j. random ++ xor_bytes (mixed hash size k random j) key) (sym less ∙ ap (λ j. j - 1) (count n is_len));
      merges_back = λ n is_len.
          ap (λ j. merge hash size k j (random ++ last)) (sym (count n is_len))
          ∙ merge-last hash size digests some key random last i whole is_last;
    }

-- a stripe as it is cut out of its row
pub stripe_at-cut : (k : ℕ) (stripes : List ℕ) (i : ℕ)
    → take ((i + 1) * k - i * k) (drop (i * k) stripes) ≡ stripe_at k stripes i
unfolding stripe_at block_at
stripe_at-cut k stripes i =
    let whole : (i + 1) * k - i * k ≡ k = omega arith in ap (λ n. take n (drop (i * k) stripes)) whole

-- the last stripe is all that is left
pub stripe_at-left : (k : ℕ) (stripes : List ℕ) (i at : ℕ) → at ≡ i * k → length stripes ≡ (i + 1) * k
    → take (length stripes - at) (drop at stripes) ≡ stripe_at k stripes i
unfolding stripe_at block_at
stripe_at-left k stripes i at is_at whole =
    let left : length stripes - i * k ≡ k = omega (arith, whole) in
    ap (λ n. take (length stripes - n) (drop n stripes)) is_at ∙ ap (λ n. take n (drop (i * k) stripes)) left

-- a row of some bytes has some stripes
pub some-stripes : (k len n : ℕ) → 1 ≤ len → len ≡ n * k → 1 ≤ n
some-stripes k len zero some whole = omega (arith, some, whole)
some-stripes k len (suc n) some whole = omega arith

-- the random stripes with the last one written after them
pub put_mid-last : (random copy rest last : List ℕ) → copy ≡ random
    → put_mid (length random) (length (copy ++ rest) - length random) (copy ++ rest) last ≡ random ++ last
put_mid-last random copy rest last copied =
    let reaches : length copy ≡ length random = ap length copied in
    let front : take (length random) (copy ++ rest) ≡ random = take_at copy rest _ reaches ∙ copied in
    let left : drop (length random) (copy ++ rest) ≡ rest = drop_at copy rest _ reaches in
    let none : drop (length (copy ++ rest) - length random) rest ≡ [] =
    drop_all _ rest (omega (arith, length-append copy rest, reaches)) in
    rw (front, left, none, append-nil) refl
