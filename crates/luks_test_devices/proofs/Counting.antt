-- Bytes that count, one after another.
use Rattle.std.proofs.Common.{◌≡◌, ℕ, ◌+◌, ◌%◌, List, [], ◌∷◌, ◌++◌, sym, ap, ◌∙◌, arith}
use Rattle.std.proofs.lemmas.List.FromFn.{map-range_with_len_more}
use Rattle.luks_test_devices.specs.Numbers.{counted_from}

-- the next byte is the next number's
pub counted_more : {old new : List ℕ} {byte : ℕ} (first n : ℕ) → old ≡ counted_from first n → byte ≡ (first + n) % 251
    → new ≡ old ++ byte ∷ [] → new ≡ counted_from first (n + 1)
unfolding counted_from
counted_more {old} {new} {byte} first n before next after =
    after ∙ ap (λ l. l ++ byte ∷ []) before
    ∙ ap (λ b. counted_from first n ++ b ∷ []) next
    ∙ sym (map-range_with_len_more (λ i. (first + i) % 251) 0 n n (omega arith))
