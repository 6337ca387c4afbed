-- A decrypted sector is as long as the sector.
use Rattle.std.proofs.Common.{◌≡◌, ℕ, zero, suc, ◌*◌, ◌/◌, ◌∙◌, List, length, arith, length-append, refl, ap}
use Rattle.luks_modes.specs.Cbc.{CbcOpen, CbcKeyOf, opened_from, plain_block}
use Rattle.luks_modes.specs.Xts.{XtsOpen, xor_block, opened_block, opened_under, joined}
use Rattle.luks_slot.specs.declared.cipher.AreaKey.{AreaKey}
use Rattle.luks_slot.specs.declared.cipher.AreaKey.TheVariants.{Xts, Cbc}
use Rattle.luks_slot.specs.Ciphers.{sector_opened}

length-opened_block : (key : List ℕ) (unit j : ℕ) (block : List ℕ) → length (opened_block key unit j block) ≡ 16
unfolding opened_block opened_under xor_block
length-opened_block key unit j block = refl

length-joined : (f : ℕ → List ℕ) → ((j : ℕ) → length (f j) ≡ 16) → (n : ℕ) → length (joined f n) ≡ n * 16
unfolding joined
length-joined f each zero = refl
length-joined f each (suc n) =
    let before = length-joined f each n in
    let last = each n in
    let both = length-append (joined f n) (f n) in
    omega (arith, before, last, both)

length-XtsOpen : (key : List ℕ) (unit : ℕ) (bytes : List ℕ) → length bytes ≡ 512 → length (XtsOpen key unit bytes) ≡ 512
unfolding XtsOpen
length-XtsOpen key unit bytes whole =
    length-joined _ (λ j. length-opened_block key unit j _) (length bytes / 16) ∙ ap (λ n. n / 16 * 16) whole

length-plain_block : (key iv cipher : List ℕ) (j : ℕ) → length (plain_block key iv cipher j) ≡ 16
unfolding plain_block xor_block
length-plain_block key iv cipher j = refl

length-CbcOpen : (key : CbcKeyOf) (sector : ℕ) (bytes : List ℕ) → length bytes ≡ 512 → length (CbcOpen key sector bytes) ≡ 512
unfolding opened_from
length-CbcOpen key sector bytes whole =
    length-joined _ (λ j. length-plain_block _ _ _ j) (length bytes / 16) ∙ ap (λ n. n / 16 * 16) whole

pub length-sector_opened : (key : AreaKey) (i : ℕ) (bytes : List ℕ) → length bytes ≡ 512 → length (sector_opened key i bytes) ≡ 512
length-sector_opened (Xts key) = length-XtsOpen key
length-sector_opened (Cbc key) = length-CbcOpen key
