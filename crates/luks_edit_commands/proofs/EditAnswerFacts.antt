-- What the commands that edit answer, by what they met.
use Rattle.std.proofs.Common.{◌≡◌, ◌≢◌, ◌⊎◌, ℕ, List, Result, Ok, Err, IfErr, Bool, false, ap, inl, inr, refl, ◌∙◌, sym, subst, Option, Some, None, option_map}
use Rattle.luks_area.specs.Device.{count_after}
use Rattle.luks_reading.specs.declared.report.Data.{Data}
use Rattle.luks_edit.specs.declared.edit.Done.{Done as Made}
use Rattle.luks_edit.specs.declared.edit.Edit.{Edit}
use Rattle.luks_edit.specs.declared.edit_fault.EditFault.{EditFault}
use Rattle.luks_edit.specs.declared.edit_fault.EditFault.TheVariants as fault
use Rattle.luks_edit.specs.EditFaults.{is_edit_failure}
use Rattle.luks_reading.specs.Header.{NeedsMetadata}
use Rattle.luks_volume.specs.Edits.{Replies}
use Rattle.luks_volume.specs.Needed.{NeedsRandom}
use Rattle.luks_commands.specs.declared.answers.Answer.{Answer}
use Rattle.luks_commands.specs.declared.answers.Answer.TheVariants as answer
use Rattle.luks_commands.specs.declared.answers.Refusal.TheVariants as refusal
use Rattle.luks_commands.specs.declared.inputs.InputFault.{InputFault}
use Rattle.luks_commands.specs.declared.inputs.InputFault.TheVariants.{Absent, Unreadable, NoMemory}
use Rattle.luks_commands.specs.declared.answers.Status.TheVariants.{Done, Refused, NotInStep, Fault}
use Rattle.luks_commands.specs.Answer.{answer_status, edit_fault_answer, IsWordless, unread_answer}
use Rattle.luks_edit_commands.specs.EditAnswers.{AnswersEdit, IsEditAnswer, LacksFile}
use Rattle.luks_signatures.specs.declared.other_use.OtherUse.{OtherUse}
use Rattle.luks_edit_commands.specs.declared.edit.seen.Unseen.{Unseen}
use Rattle.luks_edit_commands.specs.declared.edit.seen.Unseen.TheVariants.{Untold, Used}
use Rattle.luks_edit_commands.specs.OtherUses.{Bars, HasOtherUse, HoldsBack, HoldsBackVolume, IsBarred, is_unseen_failure, unseen_answer}
use Rattle.luks_edit_commands.specs.Editing.{Given, IsFirstSeen, IsUnseen, Lacking, UnlessOutside}
use Rattle.luks_commands.specs.Files.{OfNamed}
use Rattle.luks_commands.proofs.EndFacts.{unread_is_fault}
use Rattle.luks_edit_commands.proofs.EditFacts.{replied_as, run_replied}

module _ (tells : Type 0) (payload : Data) (lacks : Lacking) (v w : List ℕ) (before after : ℕ) where
  -- what lacking a file is answered by
  abbrev Lacks : Given → InputFault → Type 0
  Lacks given f = (a : Answer) → unread_answer f ≡ a → LacksFile tells payload given lacks v a

  unread_alone : (given : Given) (f : InputFault) → after ≡ before → (tells → w ≡ v) → Lacks given f → IsEditAnswer tells payload given lacks v w before after (unread_answer f)
  unread_alone given Absent count same lacking = inr (count, same, lacking answer.DeviceFault refl)
  unread_alone given (Unreadable reason) count same lacking = inr (count, same, lacking answer.DeviceFault refl)
  unread_alone given NoMemory count same lacking = (count, same, inl (lacking answer.NoMemory refl))

  -- a file that the edit needs can't be read
  answers_unread : (given : Given) (f : InputFault) (a : Answer) → a ≡ unread_answer f → after ≡ before → (tells → w ≡ v) → Lacks given f
      → IsEditAnswer tells payload given lacks v w before after a
  answers_unread given f a is count same lacking =
      subst (IsEditAnswer tells payload given lacks v w before after) (sym is) (unread_alone given f count same lacking)

  module _ (given : Given) where
    -- how many random bytes the edit takes isn't told
    answers_untold : (f : EditFault) → after ≡ count_after (is_edit_failure f) before → (tells → w ≡ v) → (tells → UnlessOutside v (λ g. given.misses v g ⊎ IsFirstSeen payload (given.asks v) v g) f)
        → IsEditAnswer tells payload given lacks v w before after (edit_fault_answer f)
    answers_untold fault.Device count same is = inl count
    answers_untold fault.Memory count same is = (count, same, inr is)
    answers_untold f count same is = (count, λ t. inl (same t, is t))

    -- nothing is seen of it
    pub answers_unseen : (unseen : Unseen) → after ≡ count_after (is_unseen_failure unseen) before → (tells → w ≡ v) → (tells → IsUnseen payload (given.asks v) (given.misses v) given.over v unseen)
        → IsEditAnswer tells payload given lacks v w before after (unseen_answer unseen)
    answers_unseen (Untold f) count same is = answers_untold f count same is
    answers_unseen (Used found) count same is = (count, λ t. (same t, is t))

    module _ (e : Edit) (asked : tells → given.asks v e) (count : ℕ) (needs : tells → NeedsRandom v payload e count) where
      -- the random bytes can't be read
      pub answers_randomless : (f : InputFault) (a : Answer) → a ≡ unread_answer f → after ≡ before
          → (tells → w ≡ v) → lacks.random count f → IsEditAnswer tells payload given lacks v w before after a
      answers_randomless f a is counted same unread = answers_unread given f a is counted same (λ said answered.
          inr (λ t. record { edit = e; asked = asked t; count = count; needs = needs t; fault = f; unread = unread; answered = answered }))

      module _ (u : List ℕ) (unchanged : tells → u ≡ v) (random : List ℕ) (taken : given.has_random count random) where
        -- a fault ended it
        pub answers_fault : (f : EditFault) → after ≡ count_after (is_edit_failure f) before → (tells → Replies payload u e random (Err f) w)
            → IsEditAnswer tells payload given lacks v w before after (edit_fault_answer f)
        answers_fault fault.Device counted is = inl counted
        answers_fault fault.Memory counted is = (counted, λ t. (is t).1 ∙ unchanged t, inr (λ t. subst NeedsMetadata (unchanged t) (is t).0))
        answers_fault f counted is = (
          counted,
          λ t. inr (run_replied payload v w given e (asked t) u (unchanged t) count random (needs t) taken (Err f) (is t)),
        )

        -- it is done
        pub answers_done : (made : Made) (slot : Option ℕ) → given.told e made.slot ≡ slot → after ≡ before → (tells → Replies payload u e random (Ok made) w)
            → IsEditAnswer tells payload given lacks v w before after (answer.Done slot)
        unfolding run_replied
        answers_done made slot told counted is = (
          counted,
          λ t. record {
            made = made;
            replied = run_replied payload v w given e (asked t) u (unchanged t) count random (needs t) taken (Ok made) (is t);
            told = told;
          },
        )

-- a file that is lacked so, is lacked otherwise
lacks_as : (tells : Type 0) (payload : Data) (given other : Given) (lacks more : Lacking) (v : List ℕ) (a : Answer) → ((e : Edit) → given.asks v e → other.asks v e)
    → ((f : InputFault) → lacks.words f → more.words f) → ((n : ℕ) (f : InputFault) → lacks.random n f → more.random n f)
    → LacksFile tells payload given lacks v a → LacksFile tells payload other more v a
lacks_as tells payload given other lacks more v a asks words random (inl x) = inl (x.0, words x.0 x.1, x.2)
lacks_as tells payload given other lacks more v a asks words random (inr x) = inr (λ t. let y = x t in record {
  edit = y.edit;
  asked = asks y.edit y.asked;
  count = y.count;
  needs = y.needs;
  fault = y.fault;
  unread = random y.count y.fault y.unread;
  answered = y.answered;
})

-- what refused an edit early that is given so, refuses one that is given otherwise
early_as : (payload : Data) (given other : Given) (v : List ℕ) (f : EditFault) → ((e : Edit) → given.asks v e → other.asks v e)
    → ((f : EditFault) → given.misses v f → other.misses v f) → given.misses v f ⊎ IsFirstSeen payload (given.asks v) v f → other.misses v f ⊎ IsFirstSeen payload (other.asks v) v f
early_as payload given other v f asks misses (inl missed) = inl (misses f missed)
early_as payload given other v f asks misses (inr x) = inr (record { edit = x.edit; asked = asks x.edit x.asked; first = x.first })

-- what is answered of an edit that is given so, is answered of one that is given otherwise
pub answers_as : (tells : Type 0) (payload : Data) (given other : Given) (lacks more : Lacking) (v w : List ℕ) (before after : ℕ) → ((e : Edit) → given.asks v e → other.asks v e)
    → ((f : EditFault) → given.misses v f → other.misses v f) → ((e : Edit) (m : Option ℕ) → given.told e m ≡ other.told e m) → ((n : ℕ) (b : List ℕ) → given.has_random n b → other.has_random n b) → (given.is_long → other.is_long) → given.over ≡ other.over → ((f : InputFault) → lacks.words f → more.words f) → ((n : ℕ) (f : InputFault) → lacks.random n f → more.random n f) → (a : Answer)
    → IsEditAnswer tells payload given lacks v w before after a → IsEditAnswer tells payload other more v w before after a
unfolding replied_as
answers_as tells payload given other lacks more v w before after asks misses told has long over words random (answer.Done slot) x = (
  x.0,
  λ t.
      let y = x.1 t in record { made = y.made; replied = replied_as payload given other v w (Ok y.made) asks has y.replied; told = sym (told y.replied.edit y.made.slot) ∙ y.told },
)
answers_as tells payload given other lacks more v w before after asks misses told has long over words random (answer.Refused refusal.LongPassphrase) x = (x.0, x.1, long x.2)
answers_as tells payload given other lacks more v w before after asks misses told has long over words random (answer.Refused (refusal.OtherUse found)) x =
    (x.0, λ t. let y = x.1 t in (y.0, (sym over ∙ y.1.0, y.1.1)))
answers_as tells payload given other lacks more v w before after asks misses told has long over words random (answer.Refused (refusal.Edit fault.Device)) x = x
answers_as tells payload given other lacks more v w before after asks misses told has long over words random (answer.Refused (refusal.Edit fault.Memory)) x = x
answers_as tells payload given other lacks more v w before after asks misses told has long over words random (answer.Refused (refusal.Edit f)) x = (
  x.0,
  λ t. elim (x.1 t) [
    | inl y ↦ inl (y.0, early_as payload given other v f asks misses y.1)
    | inr y ↦ inr (replied_as payload given other v w (Err f) asks has y)
  ],
)
answers_as tells payload given other lacks more v w before after asks misses told has long over words random answer.DeviceFault x = elim x [
  | inl failed ↦ inl failed
  | inr y ↦ inr (y.0, y.1, lacks_as tells payload given other lacks more v answer.DeviceFault asks words random y.2)
]
answers_as tells payload given other lacks more v w before after asks misses told has long over words random answer.NoMemory x = (
  x.0,
  x.1,
  elim x.2 [
    | inl y ↦ inl (lacks_as tells payload given other lacks more v answer.NoMemory asks words random y)
    | inr metadata ↦ inr metadata
  ],
)
answers_as tells payload given other lacks more v w before after asks misses told has long over words random a x = absurd x

-- ---- over devices

-- what holds of a file that has a name
pub named_as : {A B : Type 0} (f : A → B) (o : Option A) (named : Option B) (P : Type 0) → option_map f o ≡ named → OfNamed o P → OfNamed named P
named_as {A} {B} f None named P is held = absurd held
named_as {A} {B} f (Some x) named P is held = subst (λ (y : Option B). OfNamed y P) is held

-- a command without a passphrase, or without one of two
pub wordless_as : (A B : Type 0) (U W : InputFault → Type 0) (a : Answer) → (A → B) → ((f : InputFault) → U f → W f) → IsWordless A U a → IsWordless B W a
wordless_as A B U W a of unread (inl x) = inl (x.0, of x.1)
wordless_as A B U W a of unread (inr x) = inr (x.0, unread x.0 x.1, x.2)

wordless_answer : {D : Type 0} (tells : Type 0) (bytes : D → List ℕ) (failed : D → ℕ) (payload : Data) (given : Given) (lacks : Lacking) (d : D) (f : InputFault)
    → lacks.words f → AnswersEdit tells bytes failed payload given lacks (Ok d) (Ok d) (unread_answer f)
wordless_answer {D} tells bytes failed payload given lacks d Absent unread = inr (refl, λ t. refl, inl (Absent, unread, refl))
wordless_answer {D} tells bytes failed payload given lacks d (Unreadable reason) unread = inr (refl, λ t. refl, inl (Unreadable reason, unread, refl))
wordless_answer {D} tells bytes failed payload given lacks d NoMemory unread = (refl, λ t. refl, inl (inl (NoMemory, unread, refl)))

-- it makes no call on the volume
pub answers_wordless : {D : Type 0} (tells : Type 0) (bytes : D → List ℕ) (failed : D → ℕ) (payload : Data) (given : Given) (lacks : Lacking)
    (volume : Result D InputFault) (a : Answer) → IsWordless given.is_long lacks.words a → AnswersEdit tells bytes failed payload given lacks volume volume a
answers_wordless {D} tells bytes failed payload given lacks (Err f) a is = inl is
answers_wordless {D} tells bytes failed payload given lacks (Ok d) a (inl x) =
    subst (AnswersEdit tells bytes failed payload given lacks (Ok d) (Ok d)) (sym x.0) (refl, λ t. refl, x.1)
answers_wordless {D} tells bytes failed payload given lacks (Ok d) a (inr x) =
    subst (AnswersEdit tells bytes failed payload given lacks (Ok d) (Ok d)) (sym x.2) (wordless_answer tells bytes failed payload given lacks d x.0 x.1)

-- no fault says how the copies of a header stand
pub edit_kinds : (f : EditFault) → answer_status (edit_fault_answer f) ≢ NotInStep
edit_kinds fault.Memory = λ e. cc
edit_kinds fault.Device = λ e. cc
edit_kinds f = λ e. cc

pub unseen_kinds : (unseen : Unseen) → answer_status (unseen_answer unseen) ≢ NotInStep
unseen_kinds (Untold f) = edit_kinds f
unseen_kinds (Used found) = λ e. cc

-- where a device call failed, the command ends as at a fault
pub edit_fails : (before after : ℕ) (f : EditFault) (a : Answer) → a ≡ edit_fault_answer f → after ≡ count_after (is_edit_failure f) before
    → (after ≡ before → ⊥) → answer_status a ≡ Fault
edit_fails before after fault.Memory a is count apart = ap answer_status is
edit_fails before after fault.Device a is count apart = ap answer_status is
edit_fails before after f a is count apart = absurd (apart count)

pub unseen_fails : (before after : ℕ) (unseen : Unseen) (a : Answer) → a ≡ unseen_answer unseen → after ≡ count_after (is_unseen_failure unseen) before
    → (after ≡ before → ⊥) → answer_status a ≡ Fault
unseen_fails before after (Untold f) a is count apart = edit_fails before after f a is count apart
unseen_fails before after (Used found) a is count apart = absurd (apart count)

-- ---- another use of the disk

-- a command whose files can't be read holds back
held_unread : (u : OtherUse) (f : InputFault) → IsBarred u (unread_answer f)
held_unread u Absent = tt
held_unread u (Unreadable reason) = tt
held_unread u NoMemory = tt

held_wordless : (A : Type 0) (U : InputFault → Type 0) (u : OtherUse) (a : Answer) → IsWordless A U a → IsBarred u a
held_wordless A U u a (inl x) = subst (IsBarred u) (sym x.0) tt
held_wordless A U u a (inr x) = subst (IsBarred u) (sym x.2) (held_unread u x.0)

pub holds_back_wordless : {D : Type 0} (tells : Type 0) (bytes : D → List ℕ) (over : Bool) (A : Type 0) (U : InputFault → Type 0) (volume : Result D InputFault)
    (a : Answer) → IsWordless A U a → HoldsBackVolume tells bytes over volume volume a
holds_back_wordless {D} tells bytes over A U (Ok d) a is = λ t not u has. (refl, held_wordless A U u a is)
holds_back_wordless {D} tells bytes over A U (Err f) a is = tt

-- an edit of which something was seen isn't barred
pub unbarred : (over : Bool) (v w : List ℕ) (a : Answer) → Bars over v None → HoldsBack over v w a
unbarred over v w a none = λ not u has. absurd (none not u has)

-- one of which nothing was seen answers why
pub holds_back_unseen : (over : Bool) (v w : List ℕ) (unseen : Unseen) (a : Answer) → a ≡ unseen_answer unseen → w ≡ v
    → (over ≡ false → (u : OtherUse) → HasOtherUse v u → IsBarred u (unseen_answer unseen)) → HoldsBack over v w a
holds_back_unseen over v w unseen a is same barred = λ not u has. (same, subst (IsBarred u) (sym is) (barred not u has))

-- a command without a passphrase isn't done
pub wordless_undone : (A : Type 0) (U : InputFault → Type 0) (a : Answer) → IsWordless A U a → answer_status a ≢ Done
wordless_undone A U a (inl x) = λ e. let y : Refused ≡ Done = sym (ap answer_status x.0) ∙ e in cc
wordless_undone A U a (inr x) = λ e. let y : Fault ≡ Done = sym (ap answer_status x.2 ∙ unread_is_fault x.0) ∙ e in cc

-- nor does it tell how the copies of a header stand
pub wordless_kinds : (A : Type 0) (U : InputFault → Type 0) (a : Answer) → IsWordless A U a → answer_status a ≢ NotInStep
wordless_kinds A U a (inl x) = λ e. let y : Refused ≡ NotInStep = sym (ap answer_status x.0) ∙ e in cc
wordless_kinds A U a (inr x) = λ e. let y : Fault ≡ NotInStep = sym (ap answer_status x.2 ∙ unread_is_fault x.0) ∙ e in cc

-- what holds holds where there is no volume
pub err_holds : {D : Type 0} (volume : Result D InputFault) (P : Type 0) → P → IfErr volume (λ _. P)
err_holds (Ok d) P holds = tt
err_holds (Err f) P holds = holds
