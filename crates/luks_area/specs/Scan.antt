-- Words of the scans in `fit`: tests that compute, and the first hit of a list. Private contracts
-- cite them; `fit` itself speaks of sets of areas alone.
use Rattle.std.specs.Prelude.{ℕ, ◌+◌, Bool, ◌&&◌, nat_lt, List, [], ◌∷◌, Option, None, Some}
use Rattle.std.specs.List.{find}
use Rattle.luks_area.specs.declared.area.Area.{Area}
use Rattle.luks_area.specs.declared.area.AreaFault.{AreaFault}
use Rattle.luks_area.specs.declared.area.AreaFault.TheVariants.{Overlap}
use Rattle.luks_area.specs.declared.areas.Entry.{Entry}

-- the area runs past the end of a volume of `total` bytes
abbrev pub is_outside : ℕ → Area → Bool
is_outside total a = nat_lt total (a.start + a.len)

-- neither area is empty, and each begins before the other ends
abbrev pub do_meet : Area → Area → Bool
do_meet a b = nat_lt 0 a.len && nat_lt 0 b.len && nat_lt a.start (b.start + b.len) && nat_lt b.start (a.start + a.len)

abbrev pub pair_or : Entry → Option Entry → Option AreaFault → Option AreaFault
pair_or e None rest = rest
pair_or e (Some later) rest = Some (Overlap e.name later.name)

-- the first entry that meets a later one, with the first that it meets
abbrev pub first_pair : List Entry → Option AreaFault
first_pair [] = None
first_pair (e ∷ es) = pair_or e (find (λ l. do_meet e.area l.area) es) (first_pair es)
