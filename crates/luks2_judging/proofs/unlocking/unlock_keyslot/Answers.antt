use Rattle.std.proofs.Common.{◌≡◌, ◌∙◌, subst, sym}
use Rattle.luks_meta.specs.Content.{content}
use Rattle.luks_slot.specs.declared.allowed.Allowed.{Allowed}
use Rattle.luks_edit.specs.Secrets.{AnswersTo}
use Rattle.luks_reading.specs.declared.open_fault.OpenFault.TheVariants.{Memory}
use Rattle.luks_reading.specs.Answer.{IsRefusedByWithin, no_key, opened_to, opens, TakesMemory}
use Rattle.luks2_judging.proofs.ChosenFacts.{metadata_of}
use Rattle.luks2_judging.proofs.OpenerFacts.{locked_by, opens_by, unopened_by, wanting_of}
use Rattle.luks2_judging.proofs.unlocking.unlock_keyslot.Goals as goal

pub returns-in-Some-clause-opened : goal.returns-in-Some-clause-opened
returns-in-Some-clause-opened g c = λ tells is e same asked.
    let v = g.D.Device.bytes c.args.device.now in
    let secret = c.args.secret.now in
    opens_by v e c.args.n secret asked c.in-Some.key
    (subst (λ (m : Allowed). AnswersTo secret.kind m v c.args.n secret.bytes.now (opens c.in-Some.key)) (sym same)
    (subst (λ o. AnswersTo secret.kind c.args.allowed v c.args.n secret.bytes.now (opened_to o)) c.in-Some.is (c.in-Ok.ensures.answers.gives tells is)))

pub returns-in-None-clause-refused : goal.returns-in-None-clause-refused
returns-in-None-clause-refused g c = λ tells is payload e well same asked there.
    let v = g.D.Device.bytes c.args.device.now in
    let copy = c.args.copy.now in
    let secret = c.args.secret.now in
    rw c.lock_fault.ensures.is
    (locked_by v e c.args.n secret asked copy.header.hdr_offset (content copy.meta) (metadata_of v copy is) c.key_bytes.result c.key_bytes.ensures
    (subst (λ (m : Allowed). AnswersTo secret.kind m v c.args.n secret.bytes.now no_key) (sym same)
    (subst (λ o. AnswersTo secret.kind c.args.allowed v c.args.n secret.bytes.now (opened_to o)) c.in-None.is (c.in-Ok.ensures.answers.gives tells is))))

pub returns-in-Err-clause-refused : goal.returns-in-Err-clause-refused
returns-in-Err-clause-refused g c = λ tells is payload e well same asked there.
    let v = g.D.Device.bytes c.args.device.now in
    let copy = c.args.copy.now in
    let secret = c.args.secret.now in
    rw c.unopened.ensures
    (unopened_by v e c.args.n secret asked copy.header.hdr_offset (content copy.meta) (metadata_of v copy is) payload well there
    c.in-Err.fault (subst (λ (m : Allowed). IsRefusedByWithin m v c.args.n secret.bytes.now c.in-Err.fault) (sym same) (c.in-Err.ensures.answers.refused_by tells is))
    (subst (λ (m : Allowed). c.in-Err.fault ≡ Memory → TakesMemory m v c.args.n) (sym same) (c.in-Err.ensures.answers.memory tells is)))

pub returns-in-Err-clause-memory : goal.returns-in-Err-clause-memory
returns-in-Err-clause-memory g c = λ tells is wants.
    c.in-Err.ensures.answers.memory tells is (wanting_of c.args.n c.in-Err.fault (sym c.unopened.ensures ∙ wants))
