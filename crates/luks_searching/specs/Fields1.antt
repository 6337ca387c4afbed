-- The fields of a LUKS1 header of which bits are turned (LUKS1 On-Disk Format 1.2.3, "The partition header").
use Rattle.std.specs.Prelude.{ℕ, ◌+◌, ◌*◌}
use Rattle.luks_area.specs.Ranges.{IsAt}
use Rattle.luks1_header.specs.Header1.{common_size, entry_size}
use Rattle.luks_searching.specs.declared.fields1.Field.{Field}
use Rattle.luks_searching.specs.declared.fields1.Field.TheVariants.{KeyBytes, DigestSalt, State, SaltAndArea, DigestIterations, Iterations}

-- where the entry of the keyslot `n` begins
abbrev pub entry_at : ℕ → ℕ
entry_at n = common_size + entry_size * n

-- where a field begins that the keyslot `n` opens by, and how many bytes it has
abbrev pub start_of : Field → ℕ → ℕ
start_of KeyBytes n = 108
start_of DigestSalt n = 132
start_of DigestIterations n = 164
start_of State n = entry_at n
start_of Iterations n = entry_at n + 4
start_of SaltAndArea n = entry_at n + 8

abbrev pub len_of : Field → ℕ
len_of KeyBytes = 4
len_of DigestSalt = 32
len_of DigestIterations = 4
len_of State = 4
len_of Iterations = 4
len_of SaltAndArea = 40

-- the byte place is of the field, or of any
abbrev pub IsOfField : Field → ℕ → ℕ → Type 0
IsOfField field n place = IsAt (start_of field n) (len_of field) place

abbrev pub IsSearched : ℕ → ℕ → Type 0
IsSearched n place = (field : Field) × IsOfField field n place
