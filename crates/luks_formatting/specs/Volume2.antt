-- A new LUKS2 volume that is to be made, in the words of what is left.
use Rattle.std.specs.Prelude.{ℕ, List, Option, MatchOption}
use Rattle.std.specs.Borrow.{Bor}
use Rattle.luks_kdf.specs.Names.{digest_size_of}
use Rattle.luks_making.specs.WrittenArea.{IsWrittenArea}
use Rattle.luks_slot.specs.declared.plan.SlotPlan.{SlotPlan}
use Rattle.luks_reading.specs.declared.format.Format.{Format}
use Rattle.luks_making.specs.declared.derivation.NewDerivation.{NewDerivation}
use Rattle.luks_formatting.specs.declared.volume2.Volume.{Volume}
use Rattle.luks_formatting.specs.Deriving.{slot_derivation}
use Rattle.luks_formatting.specs.Formatted2.{HasAllButFirst2As, HasKeyArea2As, IsFormatted2As}
use Rattle.luks_formatting.specs.NewHeader2.{area2, json_size, new_metadata, FitsMetadataAs, IsNewCipher2}
use Rattle.luks_formatting.specs.NewPlan.{key_digest, IsNewPlanBy, IsSealable, IsSealedAhead}
use Rattle.luks_formatting.specs.RandomBytes.{digest_salt, random_stripes, slot_place2, slot_salt}
use Rattle.luks_formatting.specs.Given.{key_of}
use Rattle.luks_formatting.specs.declared.given.Given.{Given}

abbrev pub Fits : Volume → Type 0
Fits v = FitsMetadataAs v.given.now v.format.now v.chosen v.random.now

abbrev pub HasArea : Volume → List ℕ → Type 0
HasArea v json = IsWrittenArea json_size (new_metadata v.given.now v.format.now v.chosen v.random.now) json

-- the plan of keyslot 0
pub record HasPlan (given : Given) (format : Format) (chosen : Option NewDerivation) (random : List ℕ) (plan : SlotPlan) : Type 0 where
  pub is : IsNewPlanBy (slot_derivation format chosen) format given.key_bytes (slot_salt (slot_place2 given.key_bytes) random) (area2 given.key_bytes) (digest_salt given.key_bytes random)
      (key_digest given format random (digest_size_of format.hash)) plan
  pub cipher : IsNewCipher2 given.cipher plan.cipher

-- the key area was sealed ahead, or can be sealed with no memory
abbrev pub IsReady : Volume → SlotPlan → Option (Bor (List ℕ)) → Type 0
IsReady v plan ahead =
    MatchOption ahead (IsSealable v.given.now.key_bytes plan)
    (λ bytes. IsSealedAhead v.given.now.key_bytes plan v.passphrase.bytes.now (key_of v.given.now v.random.now)
    (random_stripes v.given.now.key_bytes (slot_place2 v.given.now.key_bytes) v.random.now) bytes.now)

abbrev pub HasKeyArea : Volume → List ℕ → Type 0
HasKeyArea v new = HasKeyArea2As v.given.now v.format.now v.chosen v.passphrase.bytes.now v.random.now new

abbrev pub HasAllButFirst : Volume → List ℕ → Type 0
HasAllButFirst v new = HasAllButFirst2As v.given.now v.format.now v.chosen v.passphrase.bytes.now v.random.now new

abbrev pub IsMade : Volume → List ℕ → List ℕ → Type 0
IsMade v old new = IsFormatted2As v.given.now v.format.now v.chosen v.passphrase.bytes.now v.random.now old new
