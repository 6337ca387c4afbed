use Rattle.std.proofs.Common.{◌≡◌, List, ℕ, sym, subst, refl, inl, inr, IfSome}
use Rattle.luks_edit.specs.declared.edit.Edit.{Edit}
use Rattle.luks_edit.specs.declared.edit_fault.EditFault.{EditFault}
use Rattle.luks_request.specs.Named.{edit_new_of, edit_passphrase_of}
use Rattle.luks_edit_commands.specs.Editing.{given_by, given_words, IsAsked, IsMissed, lacking_by, lacking_random}
use Rattle.luks_commands.specs.Files.{AreFirstBytes, IsUnreadRandom, IsWhole}
use Rattle.luks_edit_commands.proofs.EditAnswerFacts.{answers_as, answers_wordless, err_holds, holds_back_wordless, named_as, wordless_as, wordless_kinds, wordless_undone}
use Rattle.luks_edit_commands.proofs.EditFacts.{left_same, says_wordless, asked_of, missed_of, says_as, some_as, spared_as}
use Rattle.luks_edit_commands.proofs.edit.run.Goals as goal

pub returns-clause-left : goal.returns-clause-left
returns-clause-left g c =
    let request = c.args.editing.now.request in
    let IsOld : List ℕ → Type 0 = IsWhole g.R.Read.remaining c.args.inputs.now.passphrase in
    let IsNew : List ℕ → Type 0 = IsWhole g.R.Read.remaining c.args.inputs.now.new_passphrase in
    let HasRandom : ℕ → List ℕ → Type 0 = λ count. AreFirstBytes count g.N.Read.remaining c.args.inputs.now.random in
    let p = c.as_slice-passphrase.result.now in
    let q = c.as_slice.result.now in
    let old : IfSome (edit_passphrase_of request) (λ name. IsOld p) =
    some_as (λ name. name.now) c.passphrase.result (edit_passphrase_of request) (IsOld p) c.passphrase.ensures
    (subst (λ x. IfSome c.passphrase.result (λ name. IsOld x)) (sym c.as_slice-passphrase.ensures.value) c.in-Ok.ensures.whole) in
    let fresh : IfSome (edit_new_of request) (λ name. IsNew q) =
    some_as (λ name. name.now) c.new_passphrase.result (edit_new_of request) (IsNew q) c.new_passphrase.ensures
    (subst (λ x. IfSome c.new_passphrase.result (λ name. IsNew x)) (sym c.as_slice.ensures.value) c.in-Ok-words.ensures.whole) in
    let v = g.D.Device.bytes c.in-Ok-volume.device in
    let asks : (e : Edit) → IsAsked v request (λ x. x ≡ p) (λ x. x ≡ q) e → IsAsked v request IsOld IsNew e =
    λ e is. asked_of v request IsOld IsNew p q e old fresh is in
    let misses : (f : EditFault) → IsMissed c.args.editing.now.payload request (λ x. x ≡ p) v f → IsMissed c.args.editing.now.payload request IsOld v f =
    λ f is. missed_of c.args.editing.now.payload v request IsOld p old f is in
    rw c.in-Ok-volume.is (record {
      size = c.edit_device.ensures.size;
      said = λ tells. says_as c.args.editing.now.payload (given_words c.args.editing.now p q HasRandom)
          (given_by c.args.editing.now g.R.Read.remaining g.N.Read.remaining c.args.inputs.now) _ _ _ _ _ _ asks misses (λ n b is. is) (λ is. absurd is) refl (λ is. is) (λ is. is)
          (c.edit_device.ensures.says tells);
    })

pub returns-clause-keeps : goal.returns-clause-keeps
returns-clause-keeps g c = rw c.in-Ok-volume.is (λ tells well same. c.edit_device.ensures.keeps tells well same)

pub returns-clause-spared : goal.returns-clause-spared
returns-clause-spared g c =
    let request = c.args.editing.now.request in
    let IsOld : List ℕ → Type 0 = IsWhole g.R.Read.remaining c.args.inputs.now.passphrase in
    let IsNew : List ℕ → Type 0 = IsWhole g.R.Read.remaining c.args.inputs.now.new_passphrase in
    let HasRandom : ℕ → List ℕ → Type 0 = λ count. AreFirstBytes count g.N.Read.remaining c.args.inputs.now.random in
    let p = c.as_slice-passphrase.result.now in
    let q = c.as_slice.result.now in
    let old : IfSome (edit_passphrase_of request) (λ name. IsOld p) =
    some_as (λ name. name.now) c.passphrase.result (edit_passphrase_of request) (IsOld p) c.passphrase.ensures
    (subst (λ x. IfSome c.passphrase.result (λ name. IsOld x)) (sym c.as_slice-passphrase.ensures.value) c.in-Ok.ensures.whole) in
    let fresh : IfSome (edit_new_of request) (λ name. IsNew q) =
    some_as (λ name. name.now) c.new_passphrase.result (edit_new_of request) (IsNew q) c.new_passphrase.ensures
    (subst (λ x. IfSome c.new_passphrase.result (λ name. IsNew x)) (sym c.as_slice.ensures.value) c.in-Ok-words.ensures.whole) in
    let v = g.D.Device.bytes c.in-Ok-volume.device in
    let asks : (e : Edit) → IsAsked v request (λ x. x ≡ p) (λ x. x ≡ q) e → IsAsked v request IsOld IsNew e =
    λ e is. asked_of v request IsOld IsNew p q e old fresh is in
    rw c.in-Ok-volume.is (λ tells well apart.
    spared_as c.args.editing.now.payload (given_words c.args.editing.now p q HasRandom) (given_by c.args.editing.now g.R.Read.remaining g.N.Read.remaining c.args.inputs.now) _ _
    asks (λ n b is. is) (c.edit_device.ensures.spared tells well apart))

pub returns-clause-answers : goal.returns-clause-answers
returns-clause-answers g c =
    let request = c.args.editing.now.request in
    let IsOld : List ℕ → Type 0 = IsWhole g.R.Read.remaining c.args.inputs.now.passphrase in
    let IsNew : List ℕ → Type 0 = IsWhole g.R.Read.remaining c.args.inputs.now.new_passphrase in
    let HasRandom : ℕ → List ℕ → Type 0 = λ count. AreFirstBytes count g.N.Read.remaining c.args.inputs.now.random in
    let p = c.as_slice-passphrase.result.now in
    let q = c.as_slice.result.now in
    let old : IfSome (edit_passphrase_of request) (λ name. IsOld p) =
    some_as (λ name. name.now) c.passphrase.result (edit_passphrase_of request) (IsOld p) c.passphrase.ensures
    (subst (λ x. IfSome c.passphrase.result (λ name. IsOld x)) (sym c.as_slice-passphrase.ensures.value) c.in-Ok.ensures.whole) in
    let fresh : IfSome (edit_new_of request) (λ name. IsNew q) =
    some_as (λ name. name.now) c.new_passphrase.result (edit_new_of request) (IsNew q) c.new_passphrase.ensures
    (subst (λ x. IfSome c.new_passphrase.result (λ name. IsNew x)) (sym c.as_slice.ensures.value) c.in-Ok-words.ensures.whole) in
    let v = g.D.Device.bytes c.in-Ok-volume.device in
    let asks : (e : Edit) → IsAsked v request (λ x. x ≡ p) (λ x. x ≡ q) e → IsAsked v request IsOld IsNew e =
    λ e is. asked_of v request IsOld IsNew p q e old fresh is in
    let misses : (f : EditFault) → IsMissed c.args.editing.now.payload request (λ x. x ≡ p) v f → IsMissed c.args.editing.now.payload request IsOld v f =
    λ f is. missed_of c.args.editing.now.payload v request IsOld p old f is in
    rw c.in-Ok-volume.is
    (answers_as g.D.Device.tells c.args.editing.now.payload (given_words c.args.editing.now p q HasRandom) (given_by c.args.editing.now g.R.Read.remaining g.N.Read.remaining c.args.inputs.now)
    (lacking_random (λ count. IsUnreadRandom count c.args.inputs.now.random)) (lacking_by request c.args.inputs.now)
    _ _ _ _ asks misses (λ e m. refl) (λ n b is. is) (λ is. absurd is) refl (λ f is. absurd is) (λ n f is. is) c.edit_device.result c.edit_device.ensures.answers)

pub returns-in-Err-clause-left : goal.returns-in-Err-clause-left
returns-in-Err-clause-left g c =
    let given = given_by c.args.editing.now g.R.Read.remaining g.N.Read.remaining c.args.inputs.now in
    let lacks = lacking_by c.args.editing.now.request c.args.inputs.now in
    left_same g.D.Device.tells g.D.Device.size g.D.Device.bytes _
    (λ v. says_wordless c.args.editing.now.payload given lacks.words v v c.in-Err.answer refl (wordless_as _ _ _ lacks.words c.in-Err.answer (λ long. inl (named_as (λ name. name.now) c.passphrase.result (edit_passphrase_of c.args.editing.now.request) _ c.passphrase.ensures long))
    (λ f unread. inl (named_as (λ name. name.now) c.passphrase.result (edit_passphrase_of c.args.editing.now.request) _ c.passphrase.ensures unread)) c.in-Err.ensures.wordless)) c.args.inputs.now.volume

pub returns-in-Err-clause-answers : goal.returns-in-Err-clause-answers
returns-in-Err-clause-answers g c =
    let given = given_by c.args.editing.now g.R.Read.remaining g.N.Read.remaining c.args.inputs.now in
    let lacks = lacking_by c.args.editing.now.request c.args.inputs.now in
    answers_wordless g.D.Device.tells g.D.Device.bytes g.D.Device.failed c.args.editing.now.payload given lacks c.args.inputs.now.volume c.in-Err.answer
    (wordless_as _ _ _ lacks.words c.in-Err.answer (λ long. inl (named_as (λ name. name.now) c.passphrase.result (edit_passphrase_of c.args.editing.now.request) _ c.passphrase.ensures long))
    (λ f unread. inl (named_as (λ name. name.now) c.passphrase.result (edit_passphrase_of c.args.editing.now.request) _ c.passphrase.ensures unread)) c.in-Err.ensures.wordless)

pub returns-in-Err-clause-kinds : goal.returns-in-Err-clause-kinds
returns-in-Err-clause-kinds g c = wordless_kinds _ _ c.in-Err.answer c.in-Err.ensures.wordless

pub returns-in-Err-clause-unread : goal.returns-in-Err-clause-unread
returns-in-Err-clause-unread g c = err_holds c.args.inputs.now.volume _ (wordless_undone _ _ c.in-Err.answer c.in-Err.ensures.wordless)

pub returns-in-Err-words-clause-left : goal.returns-in-Err-words-clause-left
returns-in-Err-words-clause-left g c =
    let given = given_by c.args.editing.now g.R.Read.remaining g.N.Read.remaining c.args.inputs.now in
    let lacks = lacking_by c.args.editing.now.request c.args.inputs.now in
    left_same g.D.Device.tells g.D.Device.size g.D.Device.bytes _
    (λ v. says_wordless c.args.editing.now.payload given lacks.words v v c.in-Err-words.answer refl (wordless_as _ _ _ lacks.words c.in-Err-words.answer (λ long. inr (named_as (λ name. name.now) c.new_passphrase.result (edit_new_of c.args.editing.now.request) _ c.new_passphrase.ensures long))
    (λ f unread. inr (named_as (λ name. name.now) c.new_passphrase.result (edit_new_of c.args.editing.now.request) _ c.new_passphrase.ensures unread)) c.in-Err-words.ensures.wordless)) c.args.inputs.now.volume

pub returns-in-Err-words-clause-answers : goal.returns-in-Err-words-clause-answers
returns-in-Err-words-clause-answers g c =
    let given = given_by c.args.editing.now g.R.Read.remaining g.N.Read.remaining c.args.inputs.now in
    let lacks = lacking_by c.args.editing.now.request c.args.inputs.now in
    answers_wordless g.D.Device.tells g.D.Device.bytes g.D.Device.failed c.args.editing.now.payload given lacks c.args.inputs.now.volume c.in-Err-words.answer
    (wordless_as _ _ _ lacks.words c.in-Err-words.answer (λ long. inr (named_as (λ name. name.now) c.new_passphrase.result (edit_new_of c.args.editing.now.request) _ c.new_passphrase.ensures long))
    (λ f unread. inr (named_as (λ name. name.now) c.new_passphrase.result (edit_new_of c.args.editing.now.request) _ c.new_passphrase.ensures unread)) c.in-Err-words.ensures.wordless)

pub returns-in-Err-words-clause-kinds : goal.returns-in-Err-words-clause-kinds
returns-in-Err-words-clause-kinds g c = wordless_kinds _ _ c.in-Err-words.answer c.in-Err-words.ensures.wordless

pub returns-in-Err-words-clause-unread : goal.returns-in-Err-words-clause-unread
returns-in-Err-words-clause-unread g c = err_holds c.args.inputs.now.volume _ (wordless_undone _ _ c.in-Err-words.answer c.in-Err-words.ensures.wordless)

pub returns-clause-over : goal.returns-clause-over
returns-clause-over g c = rw c.in-Ok-volume.is c.edit_device.ensures.over

pub returns-in-Err-clause-over : goal.returns-in-Err-clause-over
returns-in-Err-clause-over g c =
    holds_back_wordless g.D.Device.tells g.D.Device.bytes c.args.editing.now.over _ _ c.args.inputs.now.volume c.in-Err.answer c.in-Err.ensures.wordless

pub returns-in-Err-words-clause-over : goal.returns-in-Err-words-clause-over
returns-in-Err-words-clause-over g c =
    holds_back_wordless g.D.Device.tells g.D.Device.bytes c.args.editing.now.over _ _ c.args.inputs.now.volume c.in-Err-words.answer c.in-Err-words.ensures.wordless

pub returns-clause-failure : goal.returns-clause-failure
returns-clause-failure g c = rw c.in-Ok-volume.is (λ failed. c.edit_device.ensures.failure failed)
