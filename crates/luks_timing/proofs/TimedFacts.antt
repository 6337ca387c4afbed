-- Costs of Argon2 in whole MiB.
use Rattle.std.proofs.Common.{ℕ, ◌*◌, ◌/◌, ◌^◌, ◌-◌, ◌≤◌, min, arith}

-- the memory between the bounds in KiB lies between those in MiB
pub in_mib : (asked memory : ℕ) → min 65536 (min (asked * 1024) (2 ^ 32 - 1)) ≤ memory → memory ≤ min (asked * 1024) (2 ^ 32 - 1)
    → (min 64 asked ≤ memory / 1024) × (memory / 1024 ≤ asked)
in_mib asked memory least most = (omega (arith, least, most), omega (arith, least, most))
