-- What a caller asks by numbers.
use Rattle.std.specs.Prelude.{ℕ, ◌==◌, not, Bool, true, false}
use Rattle.luks_slot.specs.declared.allowed.Allowed.{Allowed}
use Rattle.luks_reading.specs.declared.report.Data.{Data}
use Rattle.luks_reading.specs.declared.report.Data.TheVariants.{Here, Elsewhere}

-- where the payload lies
abbrev pub payload_of : Bool → Data
payload_of true = Elsewhere
payload_of false = Here

-- what is allowed to a passphrase: so many KiB, and older ciphers and hashes where the number isn't 0
abbrev pub allowed_of : ℕ → ℕ → Allowed
allowed_of memory older = record { memory = memory; older = not (older == 0) }
