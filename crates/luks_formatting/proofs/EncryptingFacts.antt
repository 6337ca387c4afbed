-- What follows of the cipher of a new volume, and of how long its key is.
use Rattle.std.proofs.Common.{◌≡◌, ℕ, ◌+◌, ◌*◌, ◌<◌, ◌≤◌, length, Bool, true, false, arith, refl, inl, inr, lit≤}
use Rattle.std.specs.Prelude.{◌==◌, ◌||◌}
use Rattle.std.proofs.lemmas.Bool.{cases_eq, eqb-true, false≢true, ne_eqb}
use Rattle.std.proofs.lemmas.Nat.{mul-le}
use Rattle.luks_area.specs.Text.{is_plain, text_of}
use Rattle.luks_slot.specs.Refusal.{is_allowed_cipher, is_key_size}
use Rattle.luks_slot.specs.declared.plan.AreaCipher.{AreaCipher}
use Rattle.luks_slot.specs.declared.plan.AreaCipher.TheVariants.{Apart, Whole}
use Rattle.luks_formatting.specs.declared.new_cipher.NewCipher.{NewCipher}
use Rattle.luks_formatting.specs.declared.new_cipher.NewCipher.TheVariants.{XtsPlain64, XtsPlain, CbcEssiv, CbcPlain64, CbcPlain}
use Rattle.luks_formatting.specs.Encrypting.{block_bytes, cipher_text, is_older, mode_of, takes_key, used_bytes}
use Rattle.luks_formatting.specs.NewHeader1.{IsNewCipher1}
use Rattle.luks_formatting.specs.NewHeader2.{IsNewCipher2}

-- ---- its text

pub mode_whole : (c : NewCipher) → text_of (mode_of c) ≡ mode_of c
mode_whole XtsPlain64 = refl
mode_whole XtsPlain = refl
mode_whole CbcEssiv = refl
mode_whole CbcPlain64 = refl
mode_whole CbcPlain = refl

pub mode_plain : (c : NewCipher) → is_plain (mode_of c) ≡ true
mode_plain XtsPlain64 = refl
mode_plain XtsPlain = refl
mode_plain CbcEssiv = refl
mode_plain CbcPlain64 = refl
mode_plain CbcPlain = refl

pub cipher_short : (c : NewCipher) → length (cipher_text c) ≤ 20
cipher_short XtsPlain64 = lit≤ tt
cipher_short XtsPlain = lit≤ tt
cipher_short CbcEssiv = lit≤ tt
cipher_short CbcPlain64 = lit≤ tt
cipher_short CbcPlain = lit≤ tt

-- ---- how long its keys are

pub record AreSizes (k : ℕ) : Type 0 where
  pub low : 16 ≤ k
  pub high : k ≤ 64

two_sizes : (k : ℕ) → (k == 32 || k == 64) ≡ true → AreSizes k
two_sizes k is = elim (cases_eq k 32) [
  | inl same ↦ record { low = omega (arith, same); high = omega (arith, same) }
  | inr other ↦ (
      let no : (k == 32) ≡ false = ne_eqb k 32 other in
      let same : k ≡ 64 = eqb-true k 64 (rw no at is) in
      record { low = omega (arith, same); high = omega (arith, same) })
]

three_sizes : (k : ℕ) → (k == 16 || k == 24 || k == 32) ≡ true → AreSizes k
three_sizes k is = elim (cases_eq k 16) [
  | inl same ↦ record { low = omega (arith, same); high = omega (arith, same) }
  | inr first ↦ elim (cases_eq k 24) [
    | inl same ↦ record { low = omega (arith, same); high = omega (arith, same) }
    | inr second ↦ (
        let no : (k == 16) ≡ false = ne_eqb k 16 first in
        let nor : (k == 24) ≡ false = ne_eqb k 24 second in
        let same : k ≡ 32 = eqb-true k 32 (rw (no, nor) at is) in
        record { low = omega (arith, same); high = omega (arith, same) })
  ]
]

pub sizes : (c : NewCipher) (k : ℕ) → takes_key c k ≡ true → AreSizes k
sizes XtsPlain64 k is = two_sizes k is
sizes XtsPlain k is = two_sizes k is
sizes CbcEssiv k is = three_sizes k is
sizes CbcPlain64 k is = three_sizes k is
sizes CbcPlain k is = three_sizes k is

-- the sectors that are used lie in the whole blocks, and these end before the region does
pub used_inside : (k : ℕ) → used_bytes k ≤ block_bytes k
used_inside k = omega arith

pub block_most : (k : ℕ) → k ≤ 64 → block_bytes k ≤ 258048
block_most k high = omega (arith, high)

pub used_most : (k : ℕ) → k ≤ 64 → used_bytes k ≤ 256000
used_most k high = omega (arith, high)

pub used_least : (k : ℕ) → 16 ≤ k → 64000 ≤ used_bytes k
used_least k low = omega (arith, low)

-- ---- key areas that follow each other in steps of so many sectors

-- each begins before the eighth, or with it
pub step_most : (s n : ℕ) → n < 8 → (8 + n * s) * 512 ≤ (8 + 7 * s) * 512
step_most s n lt = let high = mul-le n s 7 s (omega (arith, lt)) (omega arith) in omega (arith, high)

-- a later one begins where an earlier one ends, or behind
pub step_apart : (s u m n : ℕ) → u ≤ s * 512 → m < n → (8 + m * s) * 512 + u ≤ (8 + n * s) * 512
step_apart s u m n fits lt = let high = mul-le (m + 1) s n s (omega (arith, lt)) (omega arith) in omega (arith, high, fits)

-- ---- what opening makes of it

-- an area's cipher is accepted where this one is, and takes the keys that this one does
pub record Opens (c : NewCipher) (cipher : AreaCipher) : Type 0 where
  pub accepted : (older : Bool) → (is_older c ≡ true → older ≡ true) → is_allowed_cipher older cipher ≡ true
  pub sized : (n : ℕ) → is_key_size cipher n ≡ takes_key c n

accepted1 : (c : NewCipher) (cipher : AreaCipher) → IsNewCipher1 c cipher → (older : Bool) → (is_older c ≡ true → older ≡ true) → is_allowed_cipher older cipher ≡ true
accepted1 c (Whole text) is older may = absurd is
accepted1 XtsPlain64 (Apart name mode) is true may = rw (is.0, is.1) refl
accepted1 XtsPlain64 (Apart name mode) is false may = rw (is.0, is.1) refl
accepted1 XtsPlain (Apart name mode) is true may = rw (is.0, is.1) refl
accepted1 XtsPlain (Apart name mode) is false may = rw (is.0, is.1) refl
accepted1 CbcEssiv (Apart name mode) is true may = rw (is.0, is.1) refl
accepted1 CbcEssiv (Apart name mode) is false may = absurd (false≢true (may refl))
accepted1 CbcPlain64 (Apart name mode) is true may = rw (is.0, is.1) refl
accepted1 CbcPlain64 (Apart name mode) is false may = absurd (false≢true (may refl))
accepted1 CbcPlain (Apart name mode) is true may = rw (is.0, is.1) refl
accepted1 CbcPlain (Apart name mode) is false may = absurd (false≢true (may refl))

sized1 : (c : NewCipher) (cipher : AreaCipher) → IsNewCipher1 c cipher → (n : ℕ) → is_key_size cipher n ≡ takes_key c n
sized1 c (Whole text) is n = absurd is
sized1 c (Apart name mode) is n = rw (is.0, is.1) refl

pub opens1 : (c : NewCipher) (cipher : AreaCipher) → IsNewCipher1 c cipher → Opens c cipher
opens1 c cipher is = record { accepted = accepted1 c cipher is; sized = sized1 c cipher is }

accepted2 : (c : NewCipher) (cipher : AreaCipher) → IsNewCipher2 c cipher → (older : Bool) → (is_older c ≡ true → older ≡ true) → is_allowed_cipher older cipher ≡ true
accepted2 c (Apart name mode) is older may = absurd is
accepted2 XtsPlain64 (Whole text) is true may = rw is refl
accepted2 XtsPlain64 (Whole text) is false may = rw is refl
accepted2 XtsPlain (Whole text) is true may = rw is refl
accepted2 XtsPlain (Whole text) is false may = rw is refl
accepted2 CbcEssiv (Whole text) is true may = rw is refl
accepted2 CbcEssiv (Whole text) is false may = absurd (false≢true (may refl))
accepted2 CbcPlain64 (Whole text) is true may = rw is refl
accepted2 CbcPlain64 (Whole text) is false may = absurd (false≢true (may refl))
accepted2 CbcPlain (Whole text) is true may = rw is refl
accepted2 CbcPlain (Whole text) is false may = absurd (false≢true (may refl))

sized2 : (c : NewCipher) (cipher : AreaCipher) → IsNewCipher2 c cipher → (n : ℕ) → is_key_size cipher n ≡ takes_key c n
sized2 c (Apart name mode) is n = absurd is
sized2 c (Whole text) is n = rw is refl

pub opens2 : (c : NewCipher) (cipher : AreaCipher) → IsNewCipher2 c cipher → Opens c cipher
opens2 c cipher is = record { accepted = accepted2 c cipher is; sized = sized2 c cipher is }
