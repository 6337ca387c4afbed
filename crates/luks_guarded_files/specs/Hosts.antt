-- The system that a program runs on.
use Rattle.std.specs.Prelude.{Option}
use Rattle.luks_guarded_files.specs.declared.host.Host.{Host}
use Rattle.luks_guarded_files.specs.declared.system.Answers.{Answers}
use Rattle.luks_guarded_files.specs.declared.system.Found.{Found}

-- the answers to the two locks that were asked for last
abbrev pub answers_of : {R : Type 0} → Host R → Answers
answers_of host = host.answers

-- what was told of a file last
abbrev pub found_of : {R : Type 0} → Host R → Option Found
found_of host = host.found
