-- The first line of a file.
use Rattle.std.specs.Prelude.{ℕ, List, ◌==◌}
use Rattle.std.specs.List.{before_first}

-- what precedes the first newline, the byte 0x0A, or all where there is none
abbrev pub first_line : List ℕ → List ℕ
first_line bytes = before_first (λ c. c == 10) bytes
