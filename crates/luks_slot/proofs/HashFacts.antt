-- The hash that a text names.
use Rattle.std.proofs.Common.{◌≡◌, List, ℕ, Some, None, refl, ap, true, false}
use Rattle.std.specs.Prelude.{Bool, Option, is_some, option_map, ◌||◌}
use Rattle.std.specs.Option.{option_or}
use Rattle.std.specs.Prelude.{unwrap_or}
use Rattle.luks_kdf.specs.declared.hash_name.HashName.{HashName}
use Rattle.luks_kdf.specs.declared.hash_name.HashName.TheVariants.{Sha1}
use Rattle.luks_kdf.specs.declared.older_hash.OlderHash.{OlderHash}
use Rattle.luks_kdf.specs.declared.keyslot_hash.KeyslotHash.{KeyslotHash}
use Rattle.luks_kdf.specs.declared.keyslot_hash.KeyslotHash.TheVariants.{Standard, Older}
use Rattle.luks_kdf.specs.KeyslotNames.{keyslot_hash_named, named_with_older, older_hash_named}
use Rattle.luks_kdf.specs.Names.{hash_named}
use Rattle.luks_slot.specs.Opening.{hash_by_name}
use Rattle.luks_slot.specs.Refusal.{is_known_hash}

some_standard : (o : Option HashName) → is_some (option_map Standard o) ≡ is_some o
some_standard (Some h) = refl
some_standard None = refl

some_older : (o : Option OlderHash) → is_some (option_map Older o) ≡ is_some o
some_older (Some h) = refl
some_older None = refl

some_either : (o : Option HashName) (p : Option OlderHash) → is_some (option_or (option_map Standard o) (option_map Older p)) ≡ (is_some o || is_some p)
some_either (Some h) p = refl
some_either None p = some_older p

-- a text names a hash where it is known
pub hash_known : (older : Bool) (name : List ℕ) → is_some (keyslot_hash_named older name) ≡ is_known_hash older name
hash_known false name = some_standard (hash_named name)
hash_known true name = some_either (hash_named name) (older_hash_named name)

-- the hash that it names
pub hash_found : (older : Bool) (name : List ℕ) (hash : KeyslotHash) → keyslot_hash_named older name ≡ Some hash → hash_by_name name ≡ hash
hash_found false name hash is = ap (λ o. unwrap_or o (Standard Sha1)) (named_with_older name hash is)
hash_found true name hash is = ap (λ o. unwrap_or o (Standard Sha1)) is
