-- The plan of keyslot 0 of a new volume: it isn't refused, and the volume key meets its digest.
use Rattle.std.proofs.Common.{◌≡◌, ◌≤◌, ℕ, ◌*◌, ◌-◌, ◌^◌, List, length, Bool, true, false, true≢false, Option, None, Some, bytes_eq, refl, sym, ap, subst, ◌∙◌, arith}
use Rattle.std.specs.Prelude.{◌||◌, nat_lt, IfSome}
use Rattle.std.proofs.lemmas.Bool.{ltb-false}
use Rattle.std.proofs.lemmas.Bool.Decides.{nat_tests}
use Rattle.std.proofs.lemmas.Slice.Eq.{bytes_eq-Decides}
use Rattle.luks_area.specs.Text.{is_plain, text_of}
use Rattle.luks_area.specs.declared.area.Area.{Area}
use Rattle.luks_kdf.specs.Derivation.{pbkdf2}
use Rattle.luks_kdf.specs.Names.{each_passes, name_of, named}
use Rattle.luks_kdf.specs.KeyslotNames.{keyslot_block_size, keyslot_digest}
use Rattle.luks_kdf.specs.declared.hash_name.HashName.{HashName}
use Rattle.luks_kdf.specs.declared.keyslot_hash.KeyslotHash.{KeyslotHash}
use Rattle.luks_kdf.specs.declared.keyslot_hash.KeyslotHash.TheVariants.{Standard}
use Rattle.luks_making.specs.Keyslots.{by_pbkdf2}
use Rattle.luks_making.specs.declared.derivation.Argon2Costs.{Argon2Costs}
use Rattle.luks_slot.specs.declared.plan.Argon2Kind.{Argon2Kind}
use Rattle.luks_slot.specs.declared.plan.Argon2Kind.TheVariants.{I, Id}
use Rattle.luks_slot.specs.declared.plan.Derivation.{Derivation}
use Rattle.luks_slot.specs.declared.plan.Derivation.TheVariants.{Pbkdf2, Argon2}
use Rattle.luks_slot.specs.declared.plan.DigestPlan.{DigestPlan}
use Rattle.luks_slot.specs.declared.plan.SlotPlan.{SlotPlan}
use Rattle.luks_slot.specs.declared.allowed.Allowed.{Allowed}
use Rattle.luks_slot.specs.Opening.{derived, hash_by_name, meets_digest, HasIterations}
use Rattle.luks_slot.specs.Refusal.{is_argon2, is_argon2_refused, is_known_derivation, is_known_hash, slot_refusal_within}
use Rattle.luks_reading.specs.declared.format.Format.{Format}
use Rattle.luks_making.specs.declared.derivation.NewDerivation.{NewDerivation}
use Rattle.luks_making.specs.declared.derivation.NewDerivation.TheVariants as by
use Rattle.luks_making.specs.Derivations.{costs_beyond, memory_by, takes_memory, IsMakeable}
use Rattle.luks_formatting.specs.Deriving.{slot_derivation, IsArgon2Plan, IsDerivedBy}
use Rattle.luks_formatting.specs.NewPlan.{key_digest, IsNewDerivation, IsNewDigest, IsNewPlanBy, IsSealable, IsSealableWithin}
use Rattle.luks_formatting.specs.RandomBytes.{digest_salt}
use Rattle.luks_slot.specs.Allowance.{without_memory}
use Rattle.luks_formatting.specs.declared.new_cipher.NewCipher.{NewCipher}
use Rattle.luks_formatting.specs.Encrypting.{is_older, takes_key}
use Rattle.luks_formatting.proofs.EncryptingFacts.{Opens}
use Rattle.luks_formatting.specs.Given.{key_of}
use Rattle.luks_formatting.specs.declared.given.Given.{Given}

-- the names of the hashes
pub by_name : (hash : HashName) → hash_by_name (name_of hash) ≡ Standard hash
by_name hash = rw (named hash) refl

pub name_plain : (hash : HashName) → is_plain (name_of hash) ≡ true
name_plain = each_passes (λ h. is_plain (name_of h)) refl

pub name_whole : (hash : HashName) → text_of (name_of hash) ≡ name_of hash
name_whole hash =
    let same = each_passes (λ h. bytes_eq (text_of (name_of h)) (name_of h)) refl hash in
    (bytes_eq-Decides (text_of (name_of hash)) (name_of hash)).0 same

-- each is known, whether older ones are accepted or not
hash_known : (older : Bool) (hash : HashName) → is_known_hash older (name_of hash) ≡ true
hash_known true hash = rw (named hash) refl
hash_known false hash = rw (named hash) refl

-- the derivation
pub some_iterations : (format : Format) (salt : List ℕ) (d : Derivation) → 1 ≤ format.iterations → IsNewDerivation format salt d → HasIterations d
some_iterations format salt (Pbkdf2 hash iterations own) some is = subst (λ (n : ℕ). 1 ≤ n) (sym is.1) some
some_iterations format salt (Argon2 c) some is = absurd is

pub not_argon2 : (format : Format) (salt : List ℕ) (d : Derivation) → IsNewDerivation format salt d → is_argon2 d ≡ false
not_argon2 format salt (Pbkdf2 hash iterations own) is = refl
not_argon2 format salt (Argon2 c) is = absurd is

-- ---- of what is chosen

-- costs that aren't beyond what is allowed are refused for no salt of 32 bytes
costs_within : (allowed m c salt : ℕ) → salt ≡ 32 → (nat_lt allowed m || nat_lt m (8 * c) || nat_lt c 1 || nat_lt (2 ^ 24 - 1) c) ≡ false
    → (nat_lt allowed m || nat_lt m (8 * c) || nat_lt c 1 || nat_lt (2 ^ 24 - 1) c || nat_lt salt 8) ≡ false
costs_within allowed m c salt long ok = grind (arith, nat_tests)

argon2_within : (allowed : ℕ) (kind : Argon2Kind) (costs : Argon2Costs) (salt : List ℕ) (d : Derivation) → length salt ≡ 32 → costs_beyond allowed costs ≡ false
    → IsArgon2Plan kind costs salt d → is_argon2_refused allowed d ≡ false
argon2_within allowed kind costs salt (Pbkdf2 hash iterations own) long ok is = absurd is
argon2_within allowed kind costs salt (Argon2 c) long ok is = rw (is.memory, is.cpus, is.own_salt) (costs_within allowed costs.memory costs.cpus (length salt) long ok)

argon2_known : (older : Bool) (kind : Argon2Kind) (costs : Argon2Costs) (salt : List ℕ) (d : Derivation) → IsArgon2Plan kind costs salt d → is_known_derivation older d ≡ true
argon2_known older kind costs salt (Pbkdf2 hash iterations own) is = absurd is
argon2_known older kind costs salt (Argon2 c) is = refl

some_pass : (time : ℕ) → nat_lt time 1 ≡ false → 1 ≤ time
some_pass time few = ltb-false time 1 few

argon2_turns : (kind : Argon2Kind) (costs : Argon2Costs) (salt : List ℕ) (d : Derivation) → length salt ≡ 32 → nat_lt costs.time 1 ≡ false → IsArgon2Plan kind costs salt d → HasIterations d
argon2_turns kind costs salt (Pbkdf2 hash iterations own) long few is = absurd is
argon2_turns kind costs salt (Argon2 c) long few is =
    let time = is.time in
    let pass = some_pass costs.time few in
    let own : length c.salt.now ≡ 32 = ap length is.own_salt ∙ long in
    (omega (arith, time, pass), omega (arith, own))

pbkdf2_turns : (h : List ℕ) (n : ℕ) (salt : List ℕ) (d : Derivation) → 1 ≤ n → IsDerivedBy (by_pbkdf2 h n) salt d → HasIterations d
pbkdf2_turns h n salt (Pbkdf2 hash iterations own) some is = subst (λ (k : ℕ). 1 ≤ k) (sym is.1) some
pbkdf2_turns h n salt (Argon2 c) some is = absurd is

pub pbkdf2_within : (allowed : ℕ) (h : List ℕ) (n : ℕ) (salt : List ℕ) (d : Derivation) → IsDerivedBy (by_pbkdf2 h n) salt d → is_argon2_refused allowed d ≡ false
pbkdf2_within allowed h n salt (Pbkdf2 hash iterations own) is = refl
pbkdf2_within allowed h n salt (Argon2 c) is = absurd is

pbkdf2_here : (h : List ℕ) (n : ℕ) (salt : List ℕ) (d : Derivation) → IsDerivedBy (by_pbkdf2 h n) salt d → is_argon2 d ≡ false
pbkdf2_here h n salt (Pbkdf2 hash iterations own) is = refl
pbkdf2_here h n salt (Argon2 c) is = absurd is

pbkdf2_known : (older : Bool) (hash : HashName) (n : ℕ) (salt : List ℕ) (d : Derivation) → IsDerivedBy (by_pbkdf2 (name_of hash) n) salt d → is_known_derivation older d ≡ true
pbkdf2_known older hash n salt (Pbkdf2 own_hash iterations own) is = subst (λ (h : List ℕ). is_known_hash older h ≡ true) (sym is.0) (hash_known older hash)
pbkdf2_known older hash n salt (Argon2 c) is = absurd is

module _ (format : Format) (salt : List ℕ) (d : Derivation) where
  chosen_known : (older : Bool) (chosen : Option NewDerivation) → IsDerivedBy (slot_derivation format chosen) salt d → is_known_derivation older d ≡ true
  chosen_known older None is = pbkdf2_known older format.hash format.iterations salt d is
  chosen_known older (Some (by.Pbkdf2 n)) is = pbkdf2_known older format.hash n salt d is
  chosen_known older (Some (by.Argon2i costs)) is = argon2_known older I costs salt d is
  chosen_known older (Some (by.Argon2id costs)) is = argon2_known older Id costs salt d is

  chosen_here : (chosen : Option NewDerivation) → takes_memory chosen ≡ false → IsDerivedBy (slot_derivation format chosen) salt d → is_argon2 d ≡ false
  chosen_here None here is = pbkdf2_here (name_of format.hash) format.iterations salt d is
  chosen_here (Some (by.Pbkdf2 n)) here is = pbkdf2_here (name_of format.hash) n salt d is
  chosen_here (Some (by.Argon2i costs)) here is = absurd (true≢false here)
  chosen_here (Some (by.Argon2id costs)) here is = absurd (true≢false here)

  module _ (allowed : ℕ) (long : length salt ≡ 32) where
    chosen_within : (chosen : Option NewDerivation) → IfSome chosen (IsMakeable allowed) → IsDerivedBy (slot_derivation format chosen) salt d → is_argon2_refused allowed d ≡ false
    chosen_within None can is = pbkdf2_within allowed (name_of format.hash) format.iterations salt d is
    chosen_within (Some (by.Pbkdf2 n)) can is = pbkdf2_within allowed (name_of format.hash) n salt d is
    chosen_within (Some (by.Argon2i costs)) can is = argon2_within allowed I costs salt d long can.within is
    chosen_within (Some (by.Argon2id costs)) can is = argon2_within allowed Id costs salt d long can.within is

    pub chosen_turns : (chosen : Option NewDerivation) → 1 ≤ format.iterations → IfSome chosen (IsMakeable allowed) → IsDerivedBy (slot_derivation format chosen) salt d → HasIterations d
    chosen_turns None some can is = pbkdf2_turns (name_of format.hash) format.iterations salt d some is
    chosen_turns (Some (by.Pbkdf2 n)) some can is =
        let high : 1000 ≤ n = ltb-false n 1000 can.turns in
        pbkdf2_turns (name_of format.hash) n salt d (omega (arith, high)) is
    chosen_turns (Some (by.Argon2i costs)) some can is = argon2_turns I costs salt d long can.turns is
    chosen_turns (Some (by.Argon2id costs)) some can is = argon2_turns Id costs salt d long can.turns is

-- what may be made where some memory is allowed may be where as much is as it takes
costs_enough : (allowed more m c : ℕ) → m ≤ more → (nat_lt allowed m || nat_lt m (8 * c) || nat_lt c 1 || nat_lt (2 ^ 24 - 1) c) ≡ false
    → (nat_lt more m || nat_lt m (8 * c) || nat_lt c 1 || nat_lt (2 ^ 24 - 1) c) ≡ false
costs_enough allowed more m c enough ok = grind (arith, nat_tests)

pub makeable_enough : (format : Format) (allowed memory : ℕ) (chosen : Option NewDerivation) → IfSome chosen (IsMakeable allowed) → memory_by (slot_derivation format chosen) ≤ memory
    → IfSome chosen (IsMakeable memory)
makeable_enough format allowed memory None can enough = can
makeable_enough format allowed memory (Some (by.Pbkdf2 n)) can enough = record { turns = can.turns; within = refl }
makeable_enough format allowed memory (Some (by.Argon2i costs)) can enough = record { turns = can.turns; within = costs_enough allowed memory costs.memory costs.cpus enough can.within }
makeable_enough format allowed memory (Some (by.Argon2id costs)) can enough = record { turns = can.turns; within = costs_enough allowed memory costs.memory costs.cpus enough can.within }

-- what takes no memory may be made where none is allowed
makeable_here : (allowed : ℕ) (chosen : Option NewDerivation) → takes_memory chosen ≡ false → IfSome chosen (IsMakeable allowed) → IfSome chosen (IsMakeable 0)
makeable_here allowed None here can = can
makeable_here allowed (Some (by.Pbkdf2 n)) here can = record { turns = can.turns; within = refl }
makeable_here allowed (Some (by.Argon2i costs)) here can = absurd (true≢false here)
makeable_here allowed (Some (by.Argon2id costs)) here can = absurd (true≢false here)

module _ (format : Format) (chosen : Option NewDerivation) (c : NewCipher) (k : ℕ) (salt : List ℕ) (area : Area) (digest stored : List ℕ) (plan : SlotPlan)
    (new : IsNewPlanBy (slot_derivation format chosen) format k salt area digest stored plan) (opens : Opens c plan.cipher) (takes : takes_key c k ≡ true) where
  -- a new plan isn't refused where Argon2 isn't, and older ciphers are accepted if its own is one
  pub unrefused_by : (allowed : Allowed) → (is_older c ≡ true → allowed.older ≡ true) → is_argon2_refused allowed.memory plan.derivation ≡ false → slot_refusal_within allowed plan ≡ None
  unrefused_by allowed may within =
      rw (
        within,
        opens.accepted allowed.older may,
        chosen_known format salt plan.derivation allowed.older chosen new.derivation,
        new.splitter_hash,
        new.digest.hash,
        hash_known allowed.older format.hash,
        new.area_key_bytes,
        opens.sized k,
        takes,
      ) refl

  -- so where what is chosen may be made
  pub unrefused_chosen : (allowed : Allowed) → (is_older c ≡ true → allowed.older ≡ true) → length salt ≡ 32 → IfSome chosen (IsMakeable allowed.memory) → slot_refusal_within allowed plan ≡ None
  unrefused_chosen allowed may long can = unrefused_by allowed may (chosen_within format salt plan.derivation allowed.memory long chosen can new.derivation)

  -- and a key of k bytes is sealed by it
  pub sealable_chosen : (allowed : Allowed) → allowed.older ≡ true → 1 ≤ format.iterations → length salt ≡ 32 → IfSome chosen (IsMakeable allowed.memory) → IsSealableWithin allowed k plan
  sealable_chosen allowed older some long can = record {
    unrefused = unrefused_chosen allowed (λ is. older) long can;
    iterations = chosen_turns format salt plan.derivation allowed.memory long chosen some can new.derivation;
    key_bytes = new.key_bytes;
    stripes = new.stripes;
  }

  -- with no memory, where it isn't Argon2
  pub sealable_here : (allowed : ℕ) → 1 ≤ format.iterations → length salt ≡ 32 → IfSome chosen (IsMakeable allowed) → takes_memory chosen ≡ false → IsSealable k plan
  sealable_here allowed some long can here = record {
    within = sealable_chosen (without_memory true) refl some long (makeable_here allowed chosen here can);
    here = chosen_here format salt plan.derivation chosen here new.derivation;
  }

-- the digest that was made of the key is met by it
pub key_meets : (given : Given) (format : Format) (random : List ℕ) (len : ℕ) (digest : DigestPlan) → IsNewDigest format (digest_salt given.key_bytes random) (key_digest given format random len) digest
    → length (key_digest given format random len) ≡ len → meets_digest digest (key_of given random) ≡ true
unfolding meets_digest
key_meets given format random len digest new long =
    let made : derived (name_of format.hash) (key_of given random) (digest_salt given.key_bytes random) format.iterations len ≡ key_digest given format random len =
    ap (λ (h : KeyslotHash). pbkdf2 (keyslot_digest h) (keyslot_block_size h) (key_of given random) (digest_salt given.key_bytes random) format.iterations len) (by_name format.hash) in
    rw (new.hash, new.own_salt, new.iterations, new.own_stored, long, made) ((bytes_eq-Decides (key_digest given format random len) (key_digest given format random len)).1 refl)
