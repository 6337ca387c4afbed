-- The program's exit statuses.
use Rattle.std.specs.Prelude.{◌≡◌, ℕ, ◌⊎◌}
use Rattle.luks_commands.specs.declared.answers.Status.{Status}
use Rattle.luks_commands.specs.declared.answers.Status.TheVariants.{Done, Refused, NotInStep, Fault}

-- what a command may end with: 2 isn't among them, since it tells of a wrong command line
abbrev pub IsExitStatus : ℕ → Type 0
IsExitStatus n = (n ≡ 0) ⊎ (n ≡ 1) ⊎ (n ≡ 3) ⊎ (n ≡ 4)

abbrev pub exit_status : Status → ℕ
exit_status Done = 0
exit_status Refused = 1
exit_status NotInStep = 3
exit_status Fault = 4
