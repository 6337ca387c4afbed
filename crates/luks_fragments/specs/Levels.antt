-- What one byte adds to the braces: words of private contracts.
use Rattle.std.specs.Prelude.{ℕ, ◌==◌, cond}

abbrev pub opens : ℕ → ℕ
opens b = cond (b == 0x7B) 1 0

abbrev pub closes : ℕ → ℕ
closes b = cond (b == 0x7D) 1 0
