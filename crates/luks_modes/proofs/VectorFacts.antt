-- The IVs of a key.
use Rattle.std.proofs.Common.{◌≡◌, ℕ, ◌%◌, ◌^◌, ◌<◌, List, sym, subst, ap, ◌∙◌, arith}
use Rattle.std.specs.Int.{w128, to_le_bytes}
use Rattle.sha2.specs.Sha256.{sha256}
use Rattle.luks_aes.specs.Aes.{Aes}
use Rattle.luks_modes.specs.Cbc.{iv_of}
use Rattle.luks_modes.specs.Vectors.{are_of, kind_of}
use Rattle.luks_modes.specs.declared.vectors.Ivs.{Ivs}
use Rattle.luks_modes.specs.declared.vectors.Ivs.TheVariants.{Essiv}

-- the IV of a key whose hash is another key
pub essiv_iv : (ivs : Ivs) (hashed key : List ℕ) (sector : ℕ) → sector < 2 ^ 64 → ivs ≡ Essiv hashed → are_of ivs key
    → Aes hashed (to_le_bytes w128 sector) ≡ iv_of (kind_of ivs) key sector
essiv_iv ivs hashed key sector low is made =
    let of : hashed ≡ sha256 key = subst (λ v. are_of v key) is made in
    let same : sector ≡ sector % 2 ^ 64 = omega (arith, low) in
    ap (λ k. Aes k (to_le_bytes w128 sector)) of
    ∙ ap (λ n. Aes (sha256 key) (to_le_bytes w128 n)) same
    ∙ sym (ap (λ v. iv_of (kind_of v) key sector) is)
