-- What a contract sees of a hasher of two messages: both of them.
use Rattle.std.specs.Prelude.{◌≡◌, ℕ, ◌/◌, ◌%◌, ◌^◌, List, length}
use Rattle.sha2.specs.Sha256.{hash_after, initial_hash_256}
use Rattle.luks_lanes.specs.declared.pair_hasher.PairHasher.{PairHasher}

-- the hasher holds two messages, of one length, in whole blocks, and has taken in each of them
pub record HoldsPair (s : PairHasher) (a b : List ℕ) : Type 0 where
  pub whole : length a % 64 ≡ 0
  pub alike : length b ≡ length a
  pub total : s.total ≡ length a % 2 ^ 64
  pub first : s.first ≡ hash_after initial_hash_256 a (length a / 64)
  pub second : s.second ≡ hash_after initial_hash_256 b (length b / 64)
