use Rattle.std.proofs.Common.{◌≡◌, ◌≤◌, ◌*◌, ℕ, true, List, Option, IfErr, OnOk, subst}
use Rattle.luks_area.specs.Ranges.{SameBut}
use Rattle.std.proofs.lemmas.Result.{on_ok_weaker}
use Rattle.luks_reading.specs.Answer.{AnswerWithin, opens}
use Rattle.luks_reading.specs.Checked.{WellFormed}
use Rattle.luks_reading.specs.declared.report.Data.TheVariants.{Here}
use Rattle.luks_making.specs.Derivations.{memory_by}
use Rattle.luks_formatting.specs.Deriving.{allowed_for, slot_derivation}
use Rattle.luks_formatting.specs.FormatFaults.{IsAnsweredFault, IsAnsweredFaultOrMemory, IsFormat1FaultAs, IsFormat2FaultAs}
use Rattle.luks_formatting.specs.Formatted1.{IsFormatted1As}
use Rattle.luks_formatting.specs.Formatted2.{IsFormatted2As}
use Rattle.luks_formatting.specs.Encrypting.{is_older}
use Rattle.luks_formatting.specs.Given.{key_of, IsBefore}
use Rattle.luks_formatting.specs.NewHeader1.{payload_sector}
use Rattle.luks_formatting.specs.NewHeader2.{segment_start}
use Rattle.luks_formatting.specs.declared.given.Given.{Given}
use Rattle.luks_making.specs.declared.derivation.NewDerivation.{NewDerivation}
use Rattle.luks_commands.specs.Chosen.{chosen_of}
use Rattle.luks_commands.specs.Formatting.{given_of, OpensNew}
use Rattle.luks_slot.specs.declared.allowed.Allowed.{Allowed}
use Rattle.luks_commands.specs.OpenAnswers.{kib_of}
use Rattle.luks_commands.proofs.FormatFacts.{made, made1_fault, made_fault, same_by, same_or_memory_by}
use Rattle.luks_request.specs.declared.request.NewVersion.TheVariants.{Luks1, Luks2}
use Rattle.luks_commands.proofs.format.make.Goals as goal

pub returns-in-Luks1-clause-made : goal.returns-in-Luks1-clause-made
returns-in-Luks1-clause-made g c = λ tells.
    let making = c.args.making.now in
    let key = c.args.key in
    let p = c.args.passphrase.now in
    let random = c.args.random.now in
    let old = g.D.Device.bytes c.args.device.now in
    let new = g.D.Device.bytes c.format1_as.new.device in
    let is = c.given_of-given.ensures in
    made c.format1_as.result making key Luks1 p random old new c.in-Luks1.is
    (subst (λ (given : Given). OnOk c.format1_as.result (IsFormatted1As given making.format p random old new)) is (c.format1_as.ensures.formatted tells))
    (subst (λ (given : Given). OnOk c.format1_as.result (WellFormed new given.payload)) is (c.format1_as.ensures.well_formed tells))
    (on_ok_weaker c.format1_as.result (λ opened allowed enough may. opened allowed may)
    (subst (λ (given : Given). OnOk c.format1_as.result ((allowed : Allowed) → (is_older given.cipher ≡ true → allowed.older ≡ true)
    → AnswerWithin allowed new 0 p (opens (key_of given random)))) is (c.format1_as.ensures.opens tells)))
    (subst (λ (given : Given). given.payload ≡ Here → SameBut (IsBefore (512 * payload_sector given)) old new) is (c.format1_as.ensures.payload tells))

pub returns-in-Luks1-clause-refused : goal.returns-in-Luks1-clause-refused
returns-in-Luks1-clause-refused g c = λ tells. same_by c.format1_as.result _ c.format1_as.ensures.fault (c.format1_as.ensures.same tells)

pub returns-in-Luks1-clause-fault : goal.returns-in-Luks1-clause-fault
returns-in-Luks1-clause-fault g c =
    let making = c.args.making.now in
    let random = c.args.random.now in
    let total = g.D.Device.size c.args.device.now in
    made1_fault c.format1_as.result making c.args.key c.args.passphrase.now total random c.in-Luks1.is
    (subst (λ (given : Given). IfErr c.format1_as.result (IsAnsweredFault (IsFormat1FaultAs given making.older total making.format random))) c.given_of-given.ensures c.format1_as.ensures.fault)

pub returns-in-Luks2-clause-made : goal.returns-in-Luks2-clause-made
returns-in-Luks2-clause-made g c = λ tells.
    let making = c.args.making.now in
    let key = c.args.key in
    let p = c.args.passphrase.now in
    let random = c.args.random.now in
    let old = g.D.Device.bytes c.args.device.now in
    let new = g.D.Device.bytes c.format2_as.new.device in
    let is = c.given_of-given.ensures in
    let made_so : OnOk c.format2_as.result (IsFormatted2As (given_of making key) making.format c.chosen_of-chosen.result p random old new) =
    subst (λ (given : Given). OnOk c.format2_as.result (IsFormatted2As given making.format c.chosen_of-chosen.result p random old new)) is (c.format2_as.ensures.formatted tells) in
    let formatted : OnOk c.format2_as.result (IsFormatted2As (given_of making key) making.format (chosen_of making.kdf) p random old new) =
    subst (λ (chosen : Option NewDerivation). OnOk c.format2_as.result (IsFormatted2As (given_of making key) making.format chosen p random old new)) c.chosen_of-chosen.ensures made_so in
    let opened_so : OnOk c.format2_as.result ((allowed : Allowed) → memory_by (slot_derivation making.format c.chosen_of-chosen.result) ≤ allowed.memory
    → (is_older (given_of making key).cipher ≡ true → allowed.older ≡ true) → AnswerWithin allowed new 0 p (opens (key_of (given_of making key) random))) =
    subst (λ (given : Given). OnOk c.format2_as.result ((allowed : Allowed) → memory_by (slot_derivation making.format c.chosen_of-chosen.result) ≤ allowed.memory
    → (is_older given.cipher ≡ true → allowed.older ≡ true) → AnswerWithin allowed new 0 p (opens (key_of given random)))) is (c.format2_as.ensures.opens tells) in
    let opened : OnOk c.format2_as.result (OpensNew Luks2 making new p (key_of (given_of making key) random)) =
    subst (λ (chosen : Option NewDerivation). OnOk c.format2_as.result ((allowed : Allowed) → memory_by (slot_derivation making.format chosen) ≤ allowed.memory
    → (is_older (given_of making key).cipher ≡ true → allowed.older ≡ true) → AnswerWithin allowed new 0 p (opens (key_of (given_of making key) random)))) c.chosen_of-chosen.ensures opened_so in
    made c.format2_as.result making key Luks2 p random old new c.in-Luks2.is formatted
    (subst (λ (given : Given). OnOk c.format2_as.result (WellFormed new given.payload)) is (c.format2_as.ensures.well_formed tells)) opened
    (subst (λ (given : Given). given.payload ≡ Here → SameBut (IsBefore (segment_start given)) old new) is (c.format2_as.ensures.payload tells))

pub returns-in-Luks2-clause-refused : goal.returns-in-Luks2-clause-refused
returns-in-Luks2-clause-refused g c = λ tells.
    same_or_memory_by c.format2_as.result _ c.format2_as.ensures.fault (c.format2_as.ensures.same tells) (c.format2_as.ensures.memory tells)

pub returns-in-Luks2-clause-fault : goal.returns-in-Luks2-clause-fault
returns-in-Luks2-clause-fault g c =
    let making = c.args.making.now in
    let key = c.args.key in
    let p = c.args.passphrase.now in
    let random = c.args.random.now in
    let total = g.D.Device.size c.args.device.now in
    let chosen = c.chosen_of-chosen.result in
    let given_so : IfErr c.format2_as.result (IsAnsweredFaultOrMemory (IsFormat2FaultAs (given_of making key) c.allowed_of.result.older chosen (allowed_for c.allowed_of.result.memory p) total making.format random)) =
    subst (λ (given : Given). IfErr c.format2_as.result (IsAnsweredFaultOrMemory (IsFormat2FaultAs given c.allowed_of.result.older chosen (allowed_for c.allowed_of.result.memory p) total making.format random))) c.given_of-given.ensures c.format2_as.ensures.fault in
    let allowed : IfErr c.format2_as.result (IsAnsweredFaultOrMemory (IsFormat2FaultAs (given_of making key) making.older chosen (allowed_for (kib_of making.memory) p) total making.format random)) =
    subst (λ (a : Allowed). IfErr c.format2_as.result (IsAnsweredFaultOrMemory (IsFormat2FaultAs (given_of making key) a.older chosen (allowed_for a.memory p) total making.format random))) c.allowed_of.ensures given_so in
    let held : IfErr c.format2_as.result (IsAnsweredFaultOrMemory (IsFormat2FaultAs (given_of making key) making.older (chosen_of making.kdf) (allowed_for (kib_of making.memory) p) total making.format random)) =
    subst (λ (chosen : Option NewDerivation). IfErr c.format2_as.result (IsAnsweredFaultOrMemory (IsFormat2FaultAs (given_of making key) making.older chosen (allowed_for (kib_of making.memory) p) total making.format random))) c.chosen_of-chosen.ensures allowed in
    made_fault c.format2_as.result making key p total random c.in-Luks2.is held
