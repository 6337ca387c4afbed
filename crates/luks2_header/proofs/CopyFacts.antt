-- Facts on the bytes of a copy: its size, and its windows one after another.
use Rattle.std.proofs.Common.{◌≡◌, ℕ, ◌+◌, ◌-◌, ◌≤◌, ◌==◌, nat_le, List, [], ◌∷◌, ◌++◌, length, take, drop, replicate, Bool, true, inl, inr, arith, lit≤, refl, sym, ap, ◌∙◌, length-append, length-take-le, length-drop}
use Rattle.std.specs.List.{list_all}
use Rattle.std.proofs.lemmas.Bool.{or_cases, and_parts, eqb-true, leb-true, false≢true}
use Rattle.std.proofs.lemmas.List.{take-take, drop-drop, drop-take, length-replicate, take_all}
use Rattle.std.proofs.Math.Seq.{take-add, take-append-add, drop-append-add}
use Rattle.sha2.specs.Sha256.{sha256}
use Rattle.luks_area.specs.Ranges.{part, written}
use Rattle.luks_area.proofs.RangeFacts.{length-part_inside, part-part, part-add, part-whole, length-written, part-written, written-written}
use Rattle.luks2_header.specs.Header2.{header_at, hdr_size, copy_at, with_zero_checksum}
use Rattle.luks2_header.specs.SoundCopies.{kept_at}
use Rattle.luks2_header.specs.Sizes.{listed_sizes, is_among, IsListed}

-- what passes for each number of a list passes for one of them
pub among_pass : (test : ℕ → Bool) (sizes : List ℕ) (n : ℕ) → list_all test sizes ≡ true → is_among n sizes ≡ true → test n ≡ true
among_pass test [] n every among = absurd (false≢true among)
among_pass test (size ∷ sizes) n every among =
    elim (or_cases (size == n) (is_among n sizes) among) [
      | inl here ↦ (let same : size ≡ n = eqb-true size n here in rw (← same) ((and_parts (test size) (list_all test sizes) every).0))
      | inr later ↦ among_pass test sizes n ((and_parts (test size) (list_all test sizes) every).1) later
    ]

-- a listed size is the least one at least
pub listed_at_least : (n : ℕ) → IsListed n → 16384 ≤ n
listed_at_least n listed = leb-true 16384 n (among_pass (λ m. nat_le 16384 m) listed_sizes n refl listed)

-- the first window of a copy without its sum
pub first_window : (copy : List ℕ) → 4096 ≤ length copy → take 4096 (with_zero_checksum copy) ≡ with_zero_checksum (take 4096 copy)
first_window copy long =
    let front : List ℕ = take 448 copy ++ replicate 64 0 in
    let size : length front ≡ 512 = length-append (take 448 copy) (replicate 64 0) ∙ (omega (arith, length-take-le 448 copy, length-replicate {A = ℕ} 64 0)) in
    let cut : take (length front + 3584) (front ++ drop 512 copy) ≡ front ++ take 3584 (drop 512 copy) = take-append-add front (drop 512 copy) 3584 in
    let amount : length front + 3584 ≡ 4096 = omega arith in
    ap (λ k. take k (front ++ drop 512 copy)) (sym amount) ∙ cut
    ∙ ap (λ xs. front ++ xs) (sym (drop-take 512 3584 copy))
    ∙ ap (λ xs. (xs ++ replicate 64 0) ++ drop 512 (take 4096 copy)) (sym (take-take 448 4096 copy (omega arith)))

-- a later window of a copy is the copy's own
pub later_window : (copy : List ℕ) (n m : ℕ) → 512 ≤ n → n + m ≤ length copy
    → take (n + m) (with_zero_checksum copy) ≡ take n (with_zero_checksum copy) ++ part copy n m
later_window copy n m past within =
    let front : List ℕ = take 448 copy ++ replicate 64 0 in
    let size : length front ≡ 512 = length-append (take 448 copy) (replicate 64 0) ∙ (omega (arith, length-take-le 448 copy, length-replicate {A = ℕ} 64 0)) in
    let amount : n ≡ length front + (n - 512) = omega arith in
    let after : drop n (with_zero_checksum copy) ≡ drop n copy =
    ap (λ k. drop k (front ++ drop 512 copy)) amount ∙ drop-append-add front (drop 512 copy) (n - 512)
    ∙ drop-drop (n - 512) 512 copy ∙ ap (λ k. drop k copy) (omega arith) in
    take-add n m (with_zero_checksum copy) ∙ ap (λ xs. take n (with_zero_checksum copy) ++ take m xs) after

-- all windows of a copy
pub all_windows : (copy : List ℕ) (n : ℕ) → 512 ≤ n → length copy ≡ n → take n (with_zero_checksum copy) ≡ with_zero_checksum copy
all_windows copy n past size =
    let front : List ℕ = take 448 copy ++ replicate 64 0 in
    let first : length front ≡ 512 = length-append (take 448 copy) (replicate 64 0) ∙ (omega (arith, length-take-le 448 copy, length-replicate {A = ℕ} 64 0)) in
    let whole : length (with_zero_checksum copy) ≤ n = rw (length-append front (drop 512 copy), length-drop 512 copy) (omega arith) in
    take_all n (with_zero_checksum copy) whole

-- a header that was read in two pieces
pub joined_header : (v zeros begun rest : List ℕ) → length zeros ≡ 4096 → length begun ≡ 592 → length rest ≡ 3504
    → begun ≡ part v 0 592 → rest ≡ part v 592 3504 → written (written zeros 0 begun) 592 rest ≡ header_at v 0
joined_header v zeros begun rest all front back begun_is rest_is =
    let w : List ℕ = written zeros 0 (begun ++ rest) in
    let both : length (begun ++ rest) ≡ 4096 = length-append begun rest ∙ (omega (arith, front, back)) in
    let long : length w ≡ length (begun ++ rest) = length-written zeros 0 (begun ++ rest) (omega (arith, all, both)) ∙ all ∙ sym both in
    let place : 592 ≡ 0 + length begun = omega (arith, front) in
    ap (λ n. written (written zeros 0 begun) n rest) place
    ∙ written-written zeros 0 begun rest (omega (arith, all, front, back))
    ∙ sym (part-whole w) ∙ ap (λ n. part w 0 n) long
    ∙ part-written zeros 0 (begun ++ rest) (omega (arith, all, both))
    ∙ ap (λ xs. xs ++ rest) begun_is ∙ ap (λ xs. part v 0 592 ++ xs) rest_is ∙ sym (part-add v 0 592 3504)

-- what a hasher holds after the first window
pub first_fed : (v : List ℕ) (at size : ℕ) → 4096 ≤ size → at + size ≤ length v
    → with_zero_checksum (header_at v at) ≡ take 4096 (with_zero_checksum (part v at size))
first_fed v at size long within =
    sym (first_window (part v at size) (rw (length-part_inside v at size within) long)
    ∙ ap with_zero_checksum (take-take 4096 size (drop at v) long))

-- what a hasher holds after the first window and the bytes behind it that are kept
pub kept_fed : (v : List ℕ) (at size : ℕ) → 16384 ≤ size → at + size ≤ length v
    → with_zero_checksum (header_at v at) ++ kept_at v at ≡ take 16384 (with_zero_checksum (part v at size))
kept_fed v at size long inside =
    let copy : List ℕ = part v at size in
    let own : part copy 4096 12288 ≡ kept_at v at = part-part v at size 4096 12288 long in
    ap (λ xs. xs ++ kept_at v at) (first_fed v at size (omega arith) inside)
    ∙ ap (λ xs. take 4096 (with_zero_checksum copy) ++ xs) (sym own)
    ∙ sym (later_window copy 4096 12288 (lit≤ tt) (rw (length-part_inside v at size inside) long))

-- what a hasher holds after a window of m bytes more
pub later_fed : (v : List ℕ) (at size n m : ℕ) → 512 ≤ n → n + m ≤ size → at + size ≤ length v
    → take n (with_zero_checksum (part v at size)) ++ part v (at + n) m ≡ take (n + m) (with_zero_checksum (part v at size))
later_fed v at size n m past within inside =
    let copy : List ℕ = part v at size in
    let own : part copy n m ≡ part v (at + n) m = part-part v at size n m within in
    sym (later_window copy n m past (rw (length-part_inside v at size inside) within)
    ∙ ap (λ xs. take n (with_zero_checksum copy) ++ xs) own)

-- what a hasher holds after all windows
pub all_fed : (v : List ℕ) (at size n : ℕ) → 512 ≤ size → n ≡ size → at + size ≤ length v
    → take n (with_zero_checksum (part v at size)) ≡ with_zero_checksum (part v at size)
all_fed v at size n long whole inside =
    ap (λ k. take k (with_zero_checksum (part v at size))) whole ∙ all_windows (part v at size) size long (length-part_inside v at size inside)

-- the digest that was taken is that of the copy
pub digest_is : (v after head digest : List ℕ) (at size : ℕ) → head ≡ header_at v at → after ≡ v → hdr_size head ≡ size
    → digest ≡ sha256 (with_zero_checksum (part after at size)) → digest ≡ sha256 (with_zero_checksum (copy_at v at))
digest_is v after head digest at size head_is same size_is taken =
    taken ∙ ap (λ w. sha256 (with_zero_checksum (part w at size))) same
    ∙ ap (λ n. sha256 (with_zero_checksum (part v at n))) (sym size_is ∙ ap hdr_size head_is)
