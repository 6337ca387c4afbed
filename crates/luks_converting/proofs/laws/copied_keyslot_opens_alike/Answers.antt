use Rattle.std.proofs.Common.{sym, ◌∙◌}
use Rattle.luks_slot.specs.Allowance.{none_allowed}
use Rattle.luks_reading.proofs.MemoryFacts.{refusal_at_zero}
use Rattle.luks_converting.proofs.CopiedFacts.{same_key, still_unrefused}
use Rattle.luks_converting.proofs.laws.copied_keyslot_opens_alike.Goals as goal

pub returns-clause-key : goal.returns-clause-key
returns-clause-key c a b area copy passphrase x same = same_key a b area copy passphrase x same

pub returns-clause-unrefused : goal.returns-clause-unrefused
returns-clause-unrefused c a b x none =
    sym (refusal_at_zero b) ∙ still_unrefused none_allowed a b x (refusal_at_zero a ∙ none)

pub returns-clause-allowed : goal.returns-clause-allowed
returns-clause-allowed c allowed a b x none = still_unrefused allowed a b x none
