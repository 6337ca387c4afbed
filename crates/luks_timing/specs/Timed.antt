-- A command with costs of its new keyslot that take a wanted time, in the place of those that it is given. Which time they take no definition
-- says; all else is as it was, and the costs lie within bounds.
use Rattle.std.specs.Prelude.{◌≡◌, ℕ, ◌≤◌, min, Option, None, Some, ⊤}
use Rattle.luks_timing.specs.declared.fault.CostFault.{CostFault}
use Rattle.luks_timing.specs.declared.fault.CostFault.TheVariants.{Clock, Memory}
use Rattle.luks_request.specs.declared.derivation.AskedArgon2.{AskedArgon2}
use Rattle.luks_request.specs.declared.derivation.AskedKdf.{AskedKdf}
use Rattle.luks_request.specs.declared.derivation.AskedKdf.TheVariants.{Pbkdf2, Argon2}
use Rattle.luks_request.specs.declared.request.Command.{Command}
use Rattle.luks_request.specs.declared.request.Command.TheVariants.{Edit, Format}
use Rattle.luks_request.specs.declared.request.EditRequest.{EditRequest}
use Rattle.luks_request.specs.declared.request.EditRequest.TheVariants.{Add, AddByKey, Change}
use Rattle.luks_request.specs.declared.request.Making.{Making}
use Rattle.luks_request.specs.declared.request.NewVersion.{NewVersion}
use Rattle.luks_request.specs.declared.request.NewVersion.TheVariants.{Luks1, Luks2}

-- of Argon2 the passes are chosen, at least 4, and of the memory as much as is asked for or less, but 64 MiB
pub record AreTimed (asked timed : AskedArgon2) : Type 0 where
  pub kind : timed.kind ≡ asked.kind
  pub lanes : timed.lanes ≡ asked.lanes
  pub passes : 4 ≤ timed.passes
  pub least : min 64 asked.memory ≤ timed.memory
  pub most : timed.memory ≤ asked.memory

-- it can be timed: within the MiB that are allowed, with 1 to 4 lanes
pub record CanBeTimed (allowed : ℕ) (asked : AskedArgon2) : Type 0 where
  pub memory : (1 ≤ asked.memory) × (asked.memory ≤ allowed)
  pub lanes : (1 ≤ asked.lanes) × (asked.lanes ≤ 4)

-- of PBKDF2 the iterations are chosen, at least 1000; Argon2 that can't be timed stays as it is
abbrev pub IsTimedKdf : ℕ → AskedKdf → AskedKdf → Type 0
IsTimedKdf allowed (Pbkdf2 iterations) (Pbkdf2 timed) = 1000 ≤ timed
IsTimedKdf allowed (Argon2 asked) (Argon2 timed) =
    (CanBeTimed allowed asked → AreTimed asked timed) × ((CanBeTimed allowed asked → ⊥) → timed ≡ asked)
IsTimedKdf allowed asked timed = ⊥

-- an edit keeps all but the costs of a derivation that it asks for
abbrev pub IsTimedEdit : EditRequest → EditRequest → Type 0
IsTimedEdit (Add by_ opener memory older new to iterations (Some kdf)) timed =
    (chosen : AskedKdf) × IsTimedKdf memory kdf chosen × (timed ≡ Add by_ opener memory older new to iterations (Some chosen))
IsTimedEdit (AddByKey key memory older new to iterations (Some kdf)) timed =
    (chosen : AskedKdf) × IsTimedKdf memory kdf chosen × (timed ≡ AddByKey key memory older new to iterations (Some chosen))
IsTimedEdit (Change slot opener memory older new iterations (Some kdf)) timed =
    (chosen : AskedKdf) × IsTimedKdf memory kdf chosen × (timed ≡ Change slot opener memory older new iterations (Some chosen))
IsTimedEdit request timed = timed ≡ request

-- what keyslot 0 of a new volume is asked to derive by: without a word on it PBKDF2, by the digest's iterations
abbrev pub kdf_or : ℕ → Option AskedKdf → AskedKdf
kdf_or iterations None = Pbkdf2 iterations
kdf_or iterations (Some kdf) = kdf

-- of LUKS1 the format's iterations are chosen alone, which are those of the keyslot and of the digest
abbrev pub IsTimedOf : NewVersion → Making → Option AskedKdf → Type 0
IsTimedOf Luks1 making timed = timed ≡ making.kdf
IsTimedOf Luks2 making timed = (chosen : AskedKdf) × IsTimedKdf making.memory (kdf_or making.format.iterations making.kdf) chosen × (timed ≡ Some chosen)

pub record IsTimedMaking (making timed : Making) : Type 0 where
  pub passphrase : timed.passphrase ≡ making.passphrase
  pub random : timed.random ≡ making.random
  pub version : timed.version ≡ making.version
  pub hash : timed.format.hash ≡ making.format.hash
  pub iterations : 1000 ≤ timed.format.iterations
  pub kdf : IsTimedOf making.version making timed.kdf
  pub memory : timed.memory ≡ making.memory
  pub older : timed.older ≡ making.older
  pub payload : timed.payload ≡ making.payload
  pub given : timed.given ≡ making.given
  pub over : timed.over ≡ making.over

-- a command that makes no keyslot stays as it is
abbrev pub IsTimed : Command → Command → Type 0
IsTimed (Edit editing) timed =
    (request : EditRequest) × IsTimedEdit editing.request request
    × (timed ≡ Edit (record { request = request; random = editing.random; payload = editing.payload; over = editing.over }))
IsTimed (Format making) timed = (made : Making) × IsTimedMaking making made × (timed ≡ Format made)
IsTimed command timed = timed ≡ command

-- ---- why no costs are found

-- the costs of this derivation are timed: by the clock, and of Argon2 with memory
abbrev pub TimesArgon2 : ℕ → AskedKdf → Type 0
TimesArgon2 allowed (Pbkdf2 iterations) = ⊥
TimesArgon2 allowed (Argon2 asked) = CanBeTimed allowed asked

abbrev pub TimesKdf : ℕ → AskedKdf → Type 0
TimesKdf allowed (Pbkdf2 iterations) = ⊤
TimesKdf allowed (Argon2 asked) = CanBeTimed allowed asked

-- the clock's fault comes only where something is timed, and a failed allocation where Argon2 is
abbrev pub IsKdfFault : ℕ → AskedKdf → CostFault → Type 0
IsKdfFault allowed kdf (Clock error) = TimesKdf allowed kdf
IsKdfFault allowed kdf Memory = TimesArgon2 allowed kdf

-- of an edit: none where it asks for no derivation
abbrev pub IsEditCostFault : EditRequest → CostFault → Type 0
IsEditCostFault (Add by_ opener memory older new to iterations (Some kdf)) f = IsKdfFault memory kdf f
IsEditCostFault (AddByKey key memory older new to iterations (Some kdf)) f = IsKdfFault memory kdf f
IsEditCostFault (Change slot opener memory older new iterations (Some kdf)) f = IsKdfFault memory kdf f
IsEditCostFault request f = ⊥

-- of a new volume, of which the iterations of a digest are timed always
abbrev pub IsMakingCostFault : NewVersion → Making → CostFault → Type 0
IsMakingCostFault version making (Clock error) = ⊤
IsMakingCostFault Luks1 making Memory = ⊥
IsMakingCostFault Luks2 making Memory = TimesArgon2 making.memory (kdf_or making.format.iterations making.kdf)

-- of a command: none where it makes no keyslot
abbrev pub IsCostFault : Command → CostFault → Type 0
IsCostFault (Edit editing) f = IsEditCostFault editing.request f
IsCostFault (Format making) f = IsMakingCostFault making.version making f
IsCostFault command f = ⊥
