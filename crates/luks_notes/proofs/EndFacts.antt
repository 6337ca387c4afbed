-- How large a header is.
use Rattle.std.proofs.Common.{ℕ, ◌≤◌, nat_le, refl}
use Rattle.std.proofs.lemmas.Bool.{leb-true}
use Rattle.luks2_header.specs.Sizes.{IsListed, listed_sizes}
use Rattle.luks2_header.proofs.CopyFacts.{among_pass}

-- a listed size is the largest one at most
pub listed_at_most : (n : ℕ) → IsListed n → n ≤ 0x400000
listed_at_most n listed = leb-true n 0x400000 (among_pass (λ m. nat_le m 0x400000) listed_sizes n refl listed)
