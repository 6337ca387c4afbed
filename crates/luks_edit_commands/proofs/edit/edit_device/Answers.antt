use Rattle.std.proofs.Common.{Ok, Err, ap, refl, sym, subst, ◌∙◌}
use Rattle.luks_reading.specs.Checked.{WellFormed}
use Rattle.luks_commands.specs.declared.answers.Status.TheVariants.{Done}
use Rattle.luks_commands.specs.Answer.{answer_status}
use Rattle.luks_edit_commands.specs.EditAnswers.{IsEditAnswer}
use Rattle.luks_edit_commands.specs.Editing.{given_words, lacking_random}
use Rattle.luks_commands.specs.Files.{IsUnreadRandom}
use Rattle.luks_edit_commands.proofs.EditAnswerFacts.{answers_done, answers_fault, answers_randomless, answers_unseen, edit_fails, holds_back_unseen, unbarred, unseen_fails}
use Rattle.luks_volume.specs.Edits.{NamedSlots}
use Rattle.luks_edit.specs.Kept.{Keeps}
use Rattle.luks_edit_commands.proofs.EditFacts.{AreFirstOf, kept_once, named_asked, never_failed, says_fault, says_made, says_unseen, spared_edit, spared_once, taken_as}
use Rattle.luks_edit_commands.proofs.edit.edit_device.Goals as goal

pub returns-in-Err-clause-says : goal.returns-in-Err-clause-says
returns-in-Err-clause-says g c = λ tells.
    says_unseen c.args.editing.now.payload _ _ (answer_status c.not_begun.result) (given_words c.args.editing.now c.args.old.now c.args.new.now (AreFirstOf g.N.Read.remaining c.args.random.now)) c.in-Err.unseen
    (c.look_at_volume.ensures.unchanged.same tells) (c.in-Err.ensures.unseen tells) (ap answer_status c.not_begun.ensures.answer)

pub returns-in-Err-clause-answers : goal.returns-in-Err-clause-answers
returns-in-Err-clause-answers g c =
    let lacks = lacking_random (λ count. IsUnreadRandom count c.args.random.now) in
    subst (IsEditAnswer g.D.Device.tells c.args.editing.now.payload (given_words c.args.editing.now c.args.old.now c.args.new.now (AreFirstOf g.N.Read.remaining c.args.random.now)) lacks _ _ _ _) (sym c.not_begun.ensures.answer)
    (answers_unseen g.D.Device.tells c.args.editing.now.payload lacks _ _ _ _ (given_words c.args.editing.now c.args.old.now c.args.new.now (AreFirstOf g.N.Read.remaining c.args.random.now)) c.in-Err.unseen c.in-Err.ensures.count
    c.look_at_volume.ensures.unchanged.same c.in-Err.ensures.unseen)

pub returns-in-Ok-apply_of_header-clause-says : goal.returns-in-Ok-apply_of_header-clause-says
returns-in-Ok-apply_of_header-clause-says g c = λ tells.
    says_made c.args.editing.now.payload _ _ Done (given_words c.args.editing.now c.args.old.now c.args.new.now (AreFirstOf g.N.Read.remaining c.args.random.now)) c.in-Ok.seen.edit (c.in-Ok.ensures.asked tells) _ (c.look_at_volume.ensures.unchanged.same tells) c.in-Ok.seen.needed _
    (c.in-Ok.ensures.tells tells) (taken_as g.N.Read.remaining c.args.random.now c.in-Ok.seen.needed c.as_slice.ensures.value c.in-Ok-random_bytes.ensures.taken) c.in-Ok-apply_of_header.made (c.in-Ok-apply_of_header.ensures.applied tells).replies refl

pub returns-in-Ok-apply_of_header-clause-answers : goal.returns-in-Ok-apply_of_header-clause-answers
returns-in-Ok-apply_of_header-clause-answers g c =
    answers_done g.D.Device.tells c.args.editing.now.payload (lacking_random (λ count. IsUnreadRandom count c.args.random.now)) _ _ _ _ (given_words c.args.editing.now c.args.old.now c.args.new.now (AreFirstOf g.N.Read.remaining c.args.random.now))
    c.in-Ok.seen.edit c.in-Ok.ensures.asked c.in-Ok.seen.needed c.in-Ok.ensures.tells _ c.look_at_volume.ensures.unchanged.same _
    (taken_as g.N.Read.remaining c.args.random.now c.in-Ok.seen.needed c.as_slice.ensures.value c.in-Ok-random_bytes.ensures.taken) c.in-Ok-apply_of_header.made _ (sym c.told_slot.ensures)
    (c.in-Ok-apply_of_header.ensures.count ∙ c.in-Ok.ensures.count) (λ tells. (c.in-Ok-apply_of_header.ensures.applied tells).replies)

pub returns-clause-says : goal.returns-clause-says
returns-clause-says g c = λ tells.
    says_fault c.args.editing.now.payload _ _ (answer_status c.not_done.result) (given_words c.args.editing.now c.args.old.now c.args.new.now (AreFirstOf g.N.Read.remaining c.args.random.now)) c.in-Ok.seen.edit (c.in-Ok.ensures.asked tells) _ (c.look_at_volume.ensures.unchanged.same tells) c.in-Ok.seen.needed _
    (c.in-Ok.ensures.tells tells) (taken_as g.N.Read.remaining c.args.random.now c.in-Ok.seen.needed c.as_slice.ensures.value c.in-Ok-random_bytes.ensures.taken) c.in-Err-apply_of_header.fault (c.in-Err-apply_of_header.ensures.applied tells).replies (ap answer_status c.not_done.ensures.answer)

pub returns-clause-answers : goal.returns-clause-answers
returns-clause-answers g c =
    let lacks = lacking_random (λ count. IsUnreadRandom count c.args.random.now) in
    subst (IsEditAnswer g.D.Device.tells c.args.editing.now.payload (given_words c.args.editing.now c.args.old.now c.args.new.now (AreFirstOf g.N.Read.remaining c.args.random.now)) lacks _ _ _ _) (sym c.not_done.ensures.answer)
    (answers_fault g.D.Device.tells c.args.editing.now.payload lacks _ _ _ _ (given_words c.args.editing.now c.args.old.now c.args.new.now (AreFirstOf g.N.Read.remaining c.args.random.now))
    c.in-Ok.seen.edit c.in-Ok.ensures.asked c.in-Ok.seen.needed c.in-Ok.ensures.tells _ c.look_at_volume.ensures.unchanged.same _
    (taken_as g.N.Read.remaining c.args.random.now c.in-Ok.seen.needed c.as_slice.ensures.value c.in-Ok-random_bytes.ensures.taken) c.in-Err-apply_of_header.fault (rw c.in-Ok.ensures.count at c.in-Err-apply_of_header.ensures.count)
    (λ tells. (c.in-Err-apply_of_header.ensures.applied tells).replies))

pub returns-in-Ok-apply_of_header-clause-spared : goal.returns-in-Ok-apply_of_header-clause-spared
returns-in-Ok-apply_of_header-clause-spared g c = λ tells well apart.
    let same = c.look_at_volume.ensures.unchanged.same tells in
    let well_met = subst (λ u. WellFormed u c.args.editing.now.payload) (sym same) well in
    absurd (never_failed c.in-Ok-apply_of_header.made (spared_once _ _ _ c.in-Ok.seen.edit _ _ _ _ c.in-Ok-apply_of_header.ensures.count (λ e. apart (e ∙ c.in-Ok.ensures.count)) ((c.in-Ok-apply_of_header.ensures.applied tells).spared well_met)).0)

pub returns-clause-spared : goal.returns-clause-spared
returns-clause-spared g c = λ tells well apart.
    let same = c.look_at_volume.ensures.unchanged.same tells in
    let well_met = subst (λ u. WellFormed u c.args.editing.now.payload) (sym same) well in
    spared_edit c.args.editing.now.payload _ _ _ (given_words c.args.editing.now c.args.old.now c.args.new.now (AreFirstOf g.N.Read.remaining c.args.random.now)) c.in-Ok.seen.edit (c.in-Ok.ensures.asked tells) same c.in-Ok.seen.needed _ (c.in-Ok.ensures.tells tells) (taken_as g.N.Read.remaining c.args.random.now c.in-Ok.seen.needed c.as_slice.ensures.value c.in-Ok-random_bytes.ensures.taken)
    c.in-Err-apply_of_header.fault (c.in-Err-apply_of_header.ensures.applied tells).replies
    (spared_once _ _ _ c.in-Ok.seen.edit _ _ _ _ c.in-Err-apply_of_header.ensures.count (λ e. apart (e ∙ c.in-Ok.ensures.count)) ((c.in-Err-apply_of_header.ensures.applied tells).spared well_met))

pub returns-in-Err-clause-failure : goal.returns-in-Err-clause-failure
returns-in-Err-clause-failure g c = λ apart. unseen_fails _ _ c.in-Err.unseen c.not_begun.result c.not_begun.ensures.answer c.in-Err.ensures.count apart

pub returns-clause-failure : goal.returns-clause-failure
returns-clause-failure g c = λ apart.
    edit_fails _ _ c.in-Err-apply_of_header.fault c.not_done.result c.not_done.ensures.answer c.in-Err-apply_of_header.ensures.count (λ e. apart (e ∙ c.in-Ok.ensures.count))

pub returns-in-Err-random_bytes-clause-answers : goal.returns-in-Err-random_bytes-clause-answers
returns-in-Err-random_bytes-clause-answers g c =
    answers_randomless g.D.Device.tells c.args.editing.now.payload (lacking_random (λ count. IsUnreadRandom count c.args.random.now)) _ _ _ _ (given_words c.args.editing.now c.args.old.now c.args.new.now (AreFirstOf g.N.Read.remaining c.args.random.now))
    c.in-Ok.seen.edit c.in-Ok.ensures.asked c.in-Ok.seen.needed c.in-Ok.ensures.tells c.in-Err-random_bytes.fault c.unread.result c.unread.ensures.answer c.in-Ok.ensures.count
    c.look_at_volume.ensures.unchanged.same c.in-Err-random_bytes.ensures.unread

pub returns-in-Err-clause-over : goal.returns-in-Err-clause-over
returns-in-Err-clause-over g c = λ tells.
    holds_back_unseen c.args.editing.now.over _ _ c.in-Err.unseen c.not_begun.result c.not_begun.ensures.answer (c.look_at_volume.ensures.unchanged.same tells)
    (c.in-Err.ensures.barred tells)

pub returns-in-Err-random_bytes-clause-over : goal.returns-in-Err-random_bytes-clause-over
returns-in-Err-random_bytes-clause-over g c = λ tells. unbarred _ _ _ _ (c.in-Ok.ensures.barred tells)

pub returns-in-Ok-apply_of_header-clause-over : goal.returns-in-Ok-apply_of_header-clause-over
returns-in-Ok-apply_of_header-clause-over g c = λ tells not u has. absurd (c.in-Ok.ensures.barred tells not u has)

pub returns-clause-over : goal.returns-clause-over
returns-clause-over g c = λ tells. unbarred _ _ _ _ (c.in-Ok.ensures.barred tells)

pub returns-in-Ok-apply_of_header-clause-keeps : goal.returns-in-Ok-apply_of_header-clause-keeps
returns-in-Ok-apply_of_header-clause-keeps g c = λ tells well fine.
    let same = c.look_at_volume.ensures.unchanged.same tells in
    let well_met = subst (λ u. WellFormed u c.args.editing.now.payload) (sym same) well in
    let kept = subst (λ u. Keeps c.args.editing.now.payload (NamedSlots u c.in-Ok.seen.edit) u (g.D.Device.bytes c.apply_of_header.new.device)) same
    (kept_once _ _ (g.D.Device.bytes c.apply_of_header.new.device) c.in-Ok.seen.edit (Ok c.in-Ok-apply_of_header.made) _ _ c.in-Ok-apply_of_header.ensures.count (fine ∙ sym c.in-Ok.ensures.count)
    ((c.in-Ok-apply_of_header.ensures.applied tells).keeps well_met)) in
    named_asked c.args.editing.now _ _ _ _ c.in-Ok.seen.edit (c.in-Ok.ensures.asked tells) kept

pub returns-clause-keeps : goal.returns-clause-keeps
returns-clause-keeps g c = λ tells well fine.
    let same = c.look_at_volume.ensures.unchanged.same tells in
    let well_met = subst (λ u. WellFormed u c.args.editing.now.payload) (sym same) well in
    let kept = subst (λ u. Keeps c.args.editing.now.payload (NamedSlots u c.in-Ok.seen.edit) u (g.D.Device.bytes c.apply_of_header.new.device)) same
    (kept_once _ _ (g.D.Device.bytes c.apply_of_header.new.device) c.in-Ok.seen.edit (Err c.in-Err-apply_of_header.fault) _ _ c.in-Err-apply_of_header.ensures.count (fine ∙ sym c.in-Ok.ensures.count)
    ((c.in-Err-apply_of_header.ensures.applied tells).keeps well_met)) in
    named_asked c.args.editing.now _ _ _ _ c.in-Ok.seen.edit (c.in-Ok.ensures.asked tells) kept
