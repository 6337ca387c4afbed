-- What is allowed to a passphrase.
use Rattle.std.specs.Prelude.{Bool, false}
use Rattle.luks_slot.specs.declared.allowed.Allowed.{Allowed}

-- nothing: neither memory, nor older ciphers and hashes
abbrev pub none_allowed : Allowed
none_allowed = record { memory = 0; older = false }

-- no memory; whether older ciphers and hashes
abbrev pub without_memory : Bool → Allowed
without_memory older = record { memory = 0; older = older }
