-- What `open` answers of a key.
use Rattle.std.proofs.Common.{◌≡◌, ◌≢◌, Bool, true, false, Result, Ok, Err, sym, subst}
use Rattle.luks_reading.specs.declared.key_fault.KeyFault.{KeyFault}
use Rattle.luks_reading.specs.declared.key_fault.KeyFault.TheVariants.{Head, Meta, NoSuchDigest, KeyLength, Hash, Device, Memory}
use Rattle.luks_reading.specs.declared.matching.KeyMatch.{KeyMatch}
use Rattle.luks_commands.specs.declared.answers.Answer.{Answer}
use Rattle.luks_commands.specs.declared.answers.Status.TheVariants.{NotInStep}
use Rattle.luks_commands.specs.Answer.{answer_status}
use Rattle.luks_commands.specs.KeyAnswers.{key_answer, matching_answer}

matching_kinds : (matches : Bool) → answer_status (matching_answer matches) ≢ NotInStep
matching_kinds true e = cc
matching_kinds false e = cc

judged_kinds : (judged : Result KeyMatch KeyFault) → answer_status (key_answer judged) ≢ NotInStep
judged_kinds (Ok found) e = matching_kinds found.matches e
judged_kinds (Err (Head f)) e = cc
judged_kinds (Err (Meta f)) e = cc
judged_kinds (Err NoSuchDigest) e = cc
judged_kinds (Err KeyLength) e = cc
judged_kinds (Err Hash) e = cc
judged_kinds (Err Device) e = cc
judged_kinds (Err Memory) e = cc

-- copies that aren't in step are none of it
pub key_kinds : (judged : Result KeyMatch KeyFault) (a : Answer) → a ≡ key_answer judged → answer_status a ≢ NotInStep
key_kinds judged a is = subst (λ x. answer_status x ≢ NotInStep) (sym is) (judged_kinds judged)
