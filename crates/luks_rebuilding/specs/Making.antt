-- A header that is made of metadata that was found for the volume `v`, whatever its own metadata is.
use Rattle.std.specs.Prelude.{◌≡◌, ◌≢◌, ◌⊎◌, ℕ, List, length, replicate, Option, false, ⊤}
use Rattle.luks_area.specs.Area.{IsAreaFault}
use Rattle.luks_area.specs.First.{IsLeast}
use Rattle.luks_json.specs.AreaText.{JsonText}
use Rattle.luks_meta.specs.MetaFault.{IsMetaFault}
use Rattle.luks_rules.specs.declared.fault.MetaFault.{MetaFault}
use Rattle.luks_rebuilding.specs.Candidates.{Source}
use Rattle.luks_rebuilding.specs.KeyAreas.{EndsBeforeRegion, HasHeaderArea}
use Rattle.luks_rebuilding.specs.Outcome.{IsNoUuid}
use Rattle.luks_rebuilding.specs.RebuildFaults.{rebuild_key}
use Rattle.luks_rebuilding.specs.Rebuilt.{random_size, FirstIsLast}
use Rattle.luks_rebuilding.specs.declared.place.Place.{Place}
use Rattle.luks_rebuilding.specs.declared.rebuild_fault.RebuildFault.{RebuildFault}
use Rattle.luks_rebuilding.specs.declared.rebuild_fault.RebuildFault.TheVariants.{Counts, NoMetadata, Area, TooSmall, Uuid, RandomLength, Memory, Device}

-- the JSON area, as that of the copy at the place; no checksum vouches for it, so label and subsystem are empty
abbrev pub source_with : List ℕ → Place → Source
source_with json place = record {
  size = place.size;
  at = place.at;
  json = json;
  vouched = false;
  number = 0;
  seqid = 1;
  label = replicate 48 0;
  subsystem = replicate 48 0;
}

-- the JSON area isn't metadata that is accepted
abbrev pub HasMetaFault : List ℕ → Type 0
HasMetaFault json = (f : MetaFault) × IsMetaFault json f

-- the faults of making a header of this source on a target of `total` bytes; whether another header counts is no matter
abbrev pub IsMakingFault : List ℕ → Source → Option (List ℕ) → ℕ → List ℕ → RebuildFault → Type 0
IsMakingFault v source given total random Counts = ⊥
IsMakingFault v source given total random NoMetadata = HasMetaFault source.json
IsMakingFault v source given total random (Area f) = IsAreaFault (HasHeaderArea v source) (length v) f
IsMakingFault v source given total random TooSmall = EndsBeforeRegion total source
IsMakingFault v source given total random Uuid = IsNoUuid given
IsMakingFault v source given total random RandomLength = length random ≢ random_size
IsMakingFault v source given total random Memory = ⊥
IsMakingFault v source given total random Device = ⊥

-- none of the faults stands
pub record IsMakeable (v : List ℕ) (source : Source) (given : Option (List ℕ)) (total : ℕ) (random : List ℕ) : Type 0 where
  pub none : (f : RebuildFault) → IsMakingFault v source given total random f → ⊥

-- the answer is the first of the faults; or memory was refused, where a text is in the JSON area; or a device failed
abbrev pub IsAnsweredMaking : List ℕ → Source → Option (List ℕ) → ℕ → List ℕ → RebuildFault → Type 0
IsAnsweredMaking v source given total random Memory = (text : List ℕ) × JsonText source.json text
IsAnsweredMaking v source given total random Device = ⊤
IsAnsweredMaking v source given total random f = IsLeast rebuild_key (IsMakingFault v source given total random) f

-- what may be left at any time: nothing has changed, or the first copy is written last
abbrev pub MakesFirstLast : List ℕ → Option (List ℕ) → List ℕ → List ℕ → List ℕ → Source → Type 0
MakesFirstLast v given random old new source = (new ≡ old) ⊎ FirstIsLast v given random old new source
