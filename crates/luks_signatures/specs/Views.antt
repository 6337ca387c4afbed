-- The program's table as that of the definition: words of private contracts.
use Rattle.std.specs.Prelude.{◌≡◌, ℕ, Bool, true, ◌&&◌, nat_le, List, map, length}
use Rattle.std.specs.List.{list_all}
use Rattle.luks_signatures.specs.Signatures.{Row}
use Rattle.luks_signatures.specs.Signatures as definition
use Rattle.luks_signatures.specs.declared.table.Mark.{Mark}
use Rattle.luks_signatures.specs.declared.table.Mark.TheVariants.{Bytes, Uberblock, Partition, EmptyTable}
use Rattle.luks_signatures.specs.declared.table.Row.{Row as TableRow}

abbrev pub mark_of : Mark → definition.Mark
mark_of (Bytes place bytes) = definition.Bytes place bytes.now
mark_of Uberblock = definition.Uberblock
mark_of Partition = definition.Partition
mark_of EmptyTable = definition.EmptyTable

abbrev pub row_of : TableRow → Row
row_of r = record { mark = mark_of r.mark; shows = r.shows }

-- the bytes of a mark are some and at most 32
abbrev pub is_short : Mark → Bool
is_short (Bytes place bytes) = nat_le 1 (length bytes.now) && nat_le (length bytes.now) 32
is_short Uberblock = true
is_short Partition = true
is_short EmptyTable = true

abbrev pub are_short : List TableRow → Bool
are_short rows = list_all (λ r. is_short r.mark) rows
