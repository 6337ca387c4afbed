use Rattle.luks_c_headers.specs.KeepAnswers.{TellsKeyslots}
use Rattle.luks_c_headers.proofs.comparing.tell_keyslots.Given as goal

-- the numbers of the keyslots before this one are told
abbrev pub invariant-loop-n : goal.invariant-loop-n
invariant-loop-n l = TellsKeyslots l.states l.n l.fn.keyslots l.keyslots
