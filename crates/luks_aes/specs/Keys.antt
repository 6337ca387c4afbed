-- What a key holds beside its bytes.
use Rattle.std.specs.Prelude.{◌≡◌, ℕ, ◌+◌, ◌*◌, ◌<◌, ◌≤◌, ◌⊎◌, List, length, take, slice_index}
use Rattle.luks_aes.specs.Aes.{schedule, key_words, cipher, inverse_cipher, Aes, AesInverse}
use Rattle.luks_aes.specs.Planes.{AreKeyPlanes}

-- the key's bytes, at the front of the words
abbrev pub key_bytes : ℕ → List ℕ → List ℕ
key_bytes nk words = take (4 * nk) words

-- the words are the whole schedule of the key at their front, of `nk` words
pub record IsExpanded (nk : ℕ) (words : List ℕ) : Type 0 where
  pub known_size : (nk ≡ 4) ⊎ ((nk ≡ 6) ⊎ (nk ≡ 8))
  pub long : length words ≡ 240
  pub bytes : (k : ℕ) → slice_index words k < 256
  pub expanded : take (16 * nk + 112) words ≡ schedule nk (key_bytes nk words) (3 * nk + 28)

-- these planes are those of the round keys of a key
pub record IsInPlanes (key : List ℕ) (keys : List (List (List ℕ))) : Type 0 where
  pub count : length keys ≡ 15
  pub words : List ℕ
  pub planes : AreKeyPlanes keys words
  pub small : key_words key + 7 ≤ 15
  pub sealed : (s : List ℕ) → cipher words (key_words key + 5) s ≡ Aes key s
  pub opened : (s : List ℕ) → inverse_cipher words (key_words key + 5) s ≡ AesInverse key s
