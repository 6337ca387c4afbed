-- Metadata that is made of fragments is found at the place of the shortest header.
use Rattle.std.proofs.Common.{◌≡◌, ℕ, ◌+◌, ◌≤◌, List, Option, length, inl, refl, ap}
use Rattle.luks_rebuilding.specs.Candidates.{IsPlace}
use Rattle.luks_slot.specs.declared.allowed.Allowed.{Allowed}
use Rattle.luks_piecing.specs.Pieced.{IsPieced}
use Rattle.luks_piecing.specs.declared.given.GivenSegment.{GivenSegment}
use Rattle.luks_piecing.specs.declared.joining.Pieced.{Pieced}
use Rattle.luks2_searching.specs.Found.{first_place, shortest, IsFound2}
use Rattle.luks2_searching.specs.declared.found.Change2.TheVariants.{Fragments}
use Rattle.luks2_searching.specs.declared.found.Found2.{Found2}

abbrev pub as_found : Pieced → Found2
as_found f = record { json = f.json; place = first_place shortest; slot = f.slot; change = Fragments f.keyslot f.digest f.segment }

pub shortest_there : (total : ℕ) → shortest ≤ total → IsPlace total (first_place shortest)
shortest_there total enough = record { listed = refl; first_or_second = inl refl; inside = enough }

pub pieced_found : (allowed : Allowed) (given : Option GivenSegment) (v p : List ℕ) (f : Pieced) → shortest ≤ length v → length f.json.items ≡ 12288
    → IsPieced allowed given v p f → IsFound2 allowed given v p (as_found f)
pieced_found allowed given v p f enough long x = record {
  place = shortest_there (length v) enough;
  long = ap (λ (n : ℕ). 4096 + n) long;
  changed = record { first = refl; made = x.made };
  opens = x.opens;
}
