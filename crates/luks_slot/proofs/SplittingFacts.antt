-- How many stripes are in a row, and where.
use Rattle.std.proofs.Common.{◌≡◌, ℕ, ◌+◌, ◌-◌, ◌*◌, ◌/◌, ◌≤◌, List, take, drop, ap, ◌∙◌, arith, refl}
use Rattle.std.proofs.Math.Nat.{mul-div_cancel}
use Rattle.luks_kdf.specs.Splitter.{block_at, merge, mixed, stripe_at}
use Rattle.luks_kdf.specs.Xor.{xor_bytes}

-- a stripe is cut out of the row where it stands
pub stripe_at-cut : (k : ℕ) (stripes : List ℕ) (i : ℕ)
    → take ((i + 1) * k - i * k) (drop (i * k) stripes) ≡ stripe_at k stripes i
unfolding stripe_at block_at
stripe_at-cut k stripes i =
    let whole : (i + 1) * k - i * k ≡ k = omega arith in ap (λ n. take n (drop (i * k) stripes)) whole

-- n stripes of k bytes are n times k bytes
pub count-stripes : (k len n : ℕ) → 1 ≤ k → len ≡ n * k → len / k ≡ n
count-stripes k len n some whole = ap (λ l. l / k) whole ∙ mul-div_cancel n some

-- the running block before the last stripe, xored with that, is the key
pub merges : (hash : List ℕ → List ℕ) (size k n i : ℕ) (stripes block last out : List ℕ) → i + 1 ≡ n
    → block ≡ mixed hash size k stripes i → last ≡ stripe_at k stripes i → out ≡ xor_bytes block last
    → out ≡ merge hash size k n stripes
unfolding merge
merges hash size k n i stripes block last out more is_block is_last is =
    let before : n - 1 ≡ i = omega (arith, more) in rw (is, is_block, is_last, before) refl
