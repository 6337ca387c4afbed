-- A volume with another LUKS1 header in place of its first 592 bytes.
use Rattle.std.specs.Prelude.{ℕ, List, ◌++◌, drop}
use Rattle.luks1_header.specs.Header1.{luks1_size}

-- the volume `v` with the header `h`
abbrev pub headed : List ℕ → List ℕ → List ℕ
headed v h = h ++ drop luks1_size v
