-- The keyslots that a digest names, number by number.
use Rattle.std.proofs.Common.{◌≡◌, ℕ, ◌+◌, ◌<◌, ◌≤◌, below_more, arith}
use Rattle.serde_json.specs.Data.{Data as Value}
use Rattle.luks_making.specs.Naming.{IsDigestOf}
use Rattle.luks2_judging.specs.Judged.{IsOnlyName}

-- of the keyslots below `m` the digest names `slot` at most
abbrev pub OnlyBelow : Value → ℕ → ℕ → ℕ → Type 0
OnlyBelow j digest slot m = (k : ℕ) → k < m → IsDigestOf j k digest → k ≡ slot

pub only_more : (j : Value) (digest slot n : ℕ) → OnlyBelow j digest slot n → (IsDigestOf j n digest → n ≡ slot) → OnlyBelow j digest slot (n + 1)
only_more j digest slot n all here = below_more (λ k. IsDigestOf j k digest → k ≡ slot) n all here

pub only_all : (j : Value) (digest slot end : ℕ) → 32 ≤ end → OnlyBelow j digest slot end → IsOnlyName j digest slot
only_all j digest slot end past all n names = let low = names.named in all n (omega (arith, past, low)) names
