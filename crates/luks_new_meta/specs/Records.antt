-- What the readers tell of a value that an edit made, beside what they told of the old one.
use Rattle.std.specs.Prelude.{◌≡◌, ◌≢◌, ◌↔◌, ◌==◌, ℕ, List, [], ◌∷◌, ◌++◌, ◌<◌, not, Option, Some, None}
use Rattle.std.specs.List.{filter}
use Rattle.serde_json.specs.Data.{Data}
use Rattle.luks_rules.specs.declared.table.Section.TheVariants.{Digests, Keyslots, Segments, Tokens}
use Rattle.luks_making.specs.declared.amended.Priority.{Priority}
use Rattle.luks_making.specs.Amended.{priority_number}
use Rattle.luks_meta.specs.declared.configuration.Config.{Config}
use Rattle.luks_meta.specs.declared.digests.Digest.{Digest}
use Rattle.luks_meta.specs.declared.keyslots.Keyslot.{Keyslot}
use Rattle.luks_meta.specs.declared.segments.Segment.{Segment}
use Rattle.luks_meta.specs.declared.tokens.Token.{Token}
use Rattle.luks_meta.specs.Objects.{IsConfig, IsMissing, IsObject}
use Rattle.luks_meta.specs.Says.{TellsDigest, TellsKeyslot, TellsSegment, TellsToken}

-- the two digests are equal, except for the keyslots that they name
pub record SameDigest (k l : Digest) : Type 0 where
  pub hash : l.hash.now ≡ k.hash.now
  pub iterations : l.iterations ≡ k.iterations
  pub salt : l.salt.items ≡ k.salt.items
  pub digest : l.digest.items ≡ k.digest.items
  pub segments : l.segments.items ≡ k.segments.items

-- of an edit of the keyslot `n`: of each other keyslot, each segment and `config` the same is
-- told, and of each digest and token the same except for its keyslots
pub record KeepsRecords (n : ℕ) (old new : Data) : Type 0 where
  pub keyslots : (m : ℕ) (k : Keyslot) → m ≢ n
      → IsObject TellsKeyslot old Keyslots m k ↔ IsObject TellsKeyslot new Keyslots m k
  pub no_keyslot : (m : ℕ) → m ≢ n → IsMissing old Keyslots m ↔ IsMissing new Keyslots m
  pub segments : (m : ℕ) (k : Segment)
      → IsObject TellsSegment old Segments m k ↔ IsObject TellsSegment new Segments m k
  pub no_segment : (m : ℕ) → IsMissing old Segments m ↔ IsMissing new Segments m
  pub config : (k : Config) → IsConfig old k ↔ IsConfig new k
  pub digests : (m : ℕ) (k l : Digest) → IsObject TellsDigest old Digests m k
      → IsObject TellsDigest new Digests m l → SameDigest k l
  pub tokens : (m : ℕ) (k l : Token) → IsObject TellsToken old Tokens m k
      → IsObject TellsToken new Tokens m l → l.kind.now ≡ k.kind.now

-- the numbers without `n`, in their order
abbrev pub others : ℕ → List ℕ → List ℕ
others n = filter (λ i. not (i == n))

-- the keyslot `n` is out of what each digest and token names, so one that doesn't name it is told
-- the same
pub record LosesNumber (n : ℕ) (old new : Data) : Type 0 where
  pub digests : (m : ℕ) (k l : Digest) → IsObject TellsDigest old Digests m k
      → IsObject TellsDigest new Digests m l → l.keyslots.items ≡ others n k.keyslots.items
  pub tokens : (m : ℕ) (k l : Token) → IsObject TellsToken old Tokens m k
      → IsObject TellsToken new Tokens m l → l.keyslots.items ≡ others n k.keyslots.items

-- no keyslot is told, and none that a digest or token names; of each segment and `config` the same is
-- told, and of each digest and token the same except for its keyslots
pub record LosesNumbers (old new : Data) : Type 0 where
  pub keyslots : (n : ℕ) → IsMissing new Keyslots n
  pub digests : (m : ℕ) (k l : Digest) → IsObject TellsDigest old Digests m k
      → IsObject TellsDigest new Digests m l → SameDigest k l × (l.keyslots.items ≡ [])
  pub tokens : (m : ℕ) (k l : Token) → IsObject TellsToken old Tokens m k
      → IsObject TellsToken new Tokens m l → (l.kind.now ≡ k.kind.now) × (l.keyslots.items ≡ [])
  pub segments : (m : ℕ) (k : Segment)
      → IsObject TellsSegment old Segments m k ↔ IsObject TellsSegment new Segments m k
  pub no_segment : (m : ℕ) → IsMissing old Segments m ↔ IsMissing new Segments m
  pub config : (k : Config) → IsConfig old k ↔ IsConfig new k

-- the digest `m` names the keyslot `n` last, and of each other digest and each token the same is
-- told
pub record GainsNumber (n m : ℕ) (old new : Data) : Type 0 where
  pub digest : (k l : Digest) → IsObject TellsDigest old Digests m k
      → IsObject TellsDigest new Digests m l → l.keyslots.items ≡ k.keyslots.items ++ n ∷ []
  pub digests : (i : ℕ) (k : Digest) → i ≢ m
      → IsObject TellsDigest old Digests i k ↔ IsObject TellsDigest new Digests i k
  pub tokens : (i : ℕ) (k : Token)
      → IsObject TellsToken old Tokens i k ↔ IsObject TellsToken new Tokens i k

-- of each digest and token the same is told
pub record KeepsNumbers (old new : Data) : Type 0 where
  pub digests : (i : ℕ) (k : Digest)
      → IsObject TellsDigest old Digests i k ↔ IsObject TellsDigest new Digests i k
  pub tokens : (i : ℕ) (k : Token)
      → IsObject TellsToken old Tokens i k ↔ IsObject TellsToken new Tokens i k

-- of a keyslot and a token that may be named: of each other keyslot and token, each digest, each segment
-- and `config` the same is told, and the keyslot is there as it was
pub record KeepsTold (slot token : Option ℕ) (old new : Data) : Type 0 where
  pub keyslots : (m : ℕ) (k : Keyslot) → slot ≢ Some m
      → IsObject TellsKeyslot old Keyslots m k ↔ IsObject TellsKeyslot new Keyslots m k
  pub no_keyslot : (m : ℕ) → IsMissing old Keyslots m ↔ IsMissing new Keyslots m
  pub tokens : (m : ℕ) (k : Token) → token ≢ Some m
      → IsObject TellsToken old Tokens m k ↔ IsObject TellsToken new Tokens m k
  pub no_token : (m : ℕ) → token ≢ Some m → IsMissing old Tokens m ↔ IsMissing new Tokens m
  pub digests : (m : ℕ) (k : Digest)
      → IsObject TellsDigest old Digests m k ↔ IsObject TellsDigest new Digests m k
  pub segments : (m : ℕ) (k : Segment)
      → IsObject TellsSegment old Segments m k ↔ IsObject TellsSegment new Segments m k
  pub config : (k : Config) → IsConfig old k ↔ IsConfig new k

-- the keyslot with another priority
abbrev pub with_own_priority : Option ℕ → Keyslot → Keyslot
with_own_priority p k =
    record { key_size = k.key_size; priority = p; af = k.af; area = k.area; kdf = k.kdf }

-- of the keyslot `n` the same is told except for its priority, and of all else the same
pub record KeepsButPriority (n : ℕ) (p : Priority) (old new : Data) : Type 0 where
  pub keyslot : (k : Keyslot) → n < 32 → IsObject TellsKeyslot old Keyslots n k
      → IsObject TellsKeyslot new Keyslots n (with_own_priority (priority_number p) k)
  pub rest : KeepsTold (Some n) None old new
