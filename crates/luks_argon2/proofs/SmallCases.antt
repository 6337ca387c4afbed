-- The definitions on small cases.
use Rattle.std.proofs.Common.{refl}
use Rattle.luks_argon2.specs.Blake2b.{add64, blake2b, block_words, columns_mixed, compress, diagonals_mixed, digest_bytes, final_hash, folded_all, hash_after, initial, mix, rounds, sigma, working, xor_rotate}
use Rattle.luks_argon2.specs.Laws.{DigestOfAbc, IndexesFirstBlocks, IndexesLaterBlocks}
use Rattle.luks_argon2.specs.Indexing.{place_in_window, reference, reference_lane, window_length}

-- the digest of "abc" (RFC 7693, appendix A)
pub digest_of_abc : DigestOfAbc
unfolding blake2b digest_bytes final_hash compress folded_all hash_after initial rounds diagonals_mixed mix add64 columns_mixed working block_words sigma xor_rotate
digest_of_abc = refl

-- references in the first segment
pub first_blocks : IndexesFirstBlocks
unfolding reference reference_lane window_length place_in_window
first_blocks = (refl, refl)

-- references in a later pass
pub later_blocks : IndexesLaterBlocks
unfolding reference reference_lane window_length place_in_window
later_blocks = (refl, refl, refl)
