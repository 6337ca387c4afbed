-- Whose checksum vouches for metadata that is known.
use Rattle.std.specs.Prelude.{ℕ, ◌-◌, List, ◌∷◌, Option, Some, None}
use Rattle.luks_area.specs.First.{IsLeast}
use Rattle.luks2_header.specs.Header2.{header_at, seqid}
use Rattle.luks_vouching.specs.Vouched.{IsMetAt}
use Rattle.luks_rebuilding.specs.Candidates.{place_key, IsAsked}
use Rattle.luks_rebuilding.specs.declared.place.Copies.{Copies}
use Rattle.luks_rebuilding.specs.declared.place.Place.{Place}

-- the copy is one that is asked for, and its checksum is met by this JSON area
pub record IsVoucher (v : List ℕ) (copies : Copies) (json : List ℕ) (place : Place) : Type 0 where
  pub asked : IsAsked copies place
  pub met : IsMetAt v place.size place.at json

-- the order of the copies: the highest sequence number first, then that of the candidates
abbrev pub copy_key : List ℕ → Place → List ℕ
copy_key v place = (0xFFFF_FFFF_FFFF_FFFF - seqid (header_at v place.at)) ∷ place_key place

-- the first of them, if there is one
abbrev pub FindsVoucher : List ℕ → Copies → List ℕ → Option Place → Type 0
FindsVoucher v copies json None = (place : Place) → IsVoucher v copies json place → ⊥
FindsVoucher v copies json (Some place) = IsLeast (copy_key v) (IsVoucher v copies json) place
