-- What an edit that makes a keyslot replies, from what was judged of it.
use Rattle.std.proofs.Common.{◌≡◌, ℕ, List, length, true, subst, refl, sym, ap, ◌∙◌, arith, inr, Option, Some, None, Result, Ok, Err, MatchResult}
use Rattle.luks_area.specs.Ranges.{part}
use Rattle.luks1_header.specs.Header1.{active_word, disabled_word, enabled_word, entry}
use Rattle.std.proofs.lemmas.Bool.{both_ways}
use Rattle.luks_making.specs.Derivations.{asked_few_turns, takes_memory}
use Rattle.luks_making.specs.declared.derivation.AskedDerivation.{AskedDerivation}
use Rattle.luks_slot.specs.Allowance.{without_memory}
use Rattle.luks_slot.specs.declared.fault.SlotFault.{SlotFault}
use Rattle.luks_reading.specs.declared.report.Data.{Data}
use Rattle.luks_edit.specs.declared.edit.Edit.{Edit}
use Rattle.luks_edit.specs.declared.edit.Opener.{Opener}
use Rattle.luks_edit.specs.declared.edit.Opener.TheVariants.{Keyslot, Key}
use Rattle.luks_edit.specs.declared.deed.Deed.TheVariants.{Seal}
use Rattle.luks_edit.specs.declared.deed.Sealed.{Sealed}
use Rattle.luks_edit.specs.declared.edit_fault.EditFault.{EditFault}
use Rattle.luks_edit.specs.declared.edit_fault.EditFault.TheVariants as fault
use Rattle.luks_edit.specs.Asked.{allowed_of, ChoosesArgon2, deed_of, HasFewIterations, MatchOpener, opener_at, Wants}
use Rattle.luks_edit.specs.NewUuids.{HasBadUuid}
use Rattle.luks_edit.proofs.RowFacts.{Passed, first_of_row, next}
use Rattle.luks1_edits.specs.Accepted.{AreAllThere, IsHeaderOf, IsIterated, IsMisnamed, IsNewFault, IsNewFree, IsNewRefused, IsOpenedBy, IsUnopened, IsUnusable, IsUsable}
use Rattle.luks1_edits.specs.Edited.{IsNewKeyslot, number_asked, Opens1}
use Rattle.luks1_edits.specs.Leftovers.{IsSealedFirst, IsTorn1}
use Rattle.luks1_edits.specs.Refused.{HasNoFree, IsEditFault1, IsLabel, IsLast, IsTaken, IsTakenFor, IsUnrefused1, keyslot_need, LacksFree, Need1, NeedsFor}
use Rattle.luks1_edits.specs.Replies.{EndsBy1}
use Rattle.luks1_edits.specs.Steps.{HasRefusedKeyslot, IsKeyslotMade, IsUnmade}
use Rattle.luks1_edits.proofs.AnswerFacts.{SameFront}
use Rattle.luks1_edits.proofs.EditedFacts.{new_once}
use Rattle.luks1_edits.proofs.KeyFacts.{planned_of}
use Rattle.luks1_edits.proofs.MadeKeyslotFacts.{same_refusal, same_terms}
use Rattle.luks1_edits.proofs.RowFacts.{alone, IsOpener, opener_passed, past_argon2, past_label, past_new, past_uuid, unrefused}

-- the edit has its key of the opener, and makes the keyslot `to`, or the least free
pub record IsMaking (v : List ℕ) (e : Edit) (o : Opener) (to : Option ℕ) (asked : AskedDerivation) : Type 0 where
  pub opening : IsOpener v e o
  pub wants : (n : ℕ) → MatchOpener o (λ slot secret. n ≡ slot) (λ key. ⊥) → Wants e n
  pub taken_is : IsTakenFor v to → IsTaken v e
  pub taken_only : IsTaken v e → IsTakenFor v to
  pub free_is : LacksFree v to → HasNoFree v e
  pub free_only : HasNoFree v e → LacksFree v to
  pub not_last : IsLast v e → ⊥
  pub no_label : IsLabel e → ⊥
  pub good_uuid : HasBadUuid e → ⊥
  pub few_is : asked_few_turns asked ≡ true → HasFewIterations e
  pub few_only : HasFewIterations e → asked_few_turns asked ≡ true
  pub argon2_is : takes_memory asked.chosen ≡ true → ChoosesArgon2 e
  pub argon2_only : ChoosesArgon2 e → takes_memory asked.chosen ≡ true
  pub need : (k : ℕ) → NeedsFor v (IsNewKeyslot v to) k → Need1 v e k
  pub need_only : (k : ℕ) → Need1 v e k → NeedsFor v (IsNewKeyslot v to) k

-- each edit does that seals a key
pub making : (v : List ℕ) (e : Edit) (s : Sealed) → deed_of e ≡ Seal s → IsMaking v e (opener_at s.place) (number_asked s.place) s.derivation
making v e s is = record {
  opening = alone v e (opener_at s.place) (rw is refl) (rw is refl) (λ m y. rw is at y) (λ y. rw is at y);
  wants = λ n y. rw is y;
  taken_is = λ y. rw is y;
  taken_only = λ y. rw is at y;
  free_is = λ y. rw is y;
  free_only = λ y. rw is at y;
  not_last = λ y. rw is at y;
  no_label = λ y. rw is at y;
  good_uuid = λ y. rw is at y;
  few_is = λ y. rw is y;
  few_only = λ y. rw is at y;
  argon2_is = λ y. rw is y;
  argon2_only = λ y. rw is at y;
  need = λ k y. rw is y;
  need_only = λ k y. rw is at y;
}

-- its keyslots are there, or that of the opener isn't
unusable_misnamed : {v : List ℕ} {e : Edit} {to : Option ℕ} {asked : AskedDerivation} (o : Opener) → IsMaking v e o to asked → (f : EditFault) → IsUnusable v o f → IsMisnamed v e f
unusable_misnamed (Keyslot slot secret) is fault.NoSuchSlot unused = record { slot = slot; wanted = is.wants slot refl; unused = unused }
unusable_misnamed (Key key) is fault.NoSuchSlot bad = absurd bad
unusable_misnamed o is f bad = absurd bad

pub making_judged : {v : List ℕ} {e : Edit} {to : Option ℕ} {asked : AskedDerivation} {A : Type 0} (o : Opener) → IsMaking v e o to asked → (result : Result A EditFault)
    → MatchResult result (λ _. IsUsable v o) (IsUnusable v o) → MatchResult result (λ _. AreAllThere v e) (IsMisnamed v e)
making_judged o is (Ok a) x = is.opening.all x
making_judged o is (Err f) x = unusable_misnamed o is f x

-- so that of the opener of an edit that has all is
pub making_usable : {v : List ℕ} {e : Edit} {to : Option ℕ} {asked : AskedDerivation} (o : Opener) → IsMaking v e o to asked → AreAllThere v e → IsUsable v o
making_usable (Keyslot slot secret) is all = all.there slot (is.wants slot refl)
making_usable (Key key) is all = tt

-- a keyslot that is free isn't taken
pub free_untaken : (v : List ℕ) (to : Option ℕ) (n : ℕ) → IsNewFree v to n → IsTakenFor v to → ⊥
free_untaken v (Some t) n new taken =
    let two : enabled_word ≡ disabled_word = sym taken.1 ∙ ap (λ k. active_word (entry v k)) (sym new.is_new) ∙ new.free.1 in
    omega (arith, two)
free_untaken v None n new taken = taken

pub free_found : (v : List ℕ) (to : Option ℕ) (n : ℕ) → IsNewFree v to n → LacksFree v to → ⊥
free_found v (Some t) n new none = let low = new.free.0 in let same = new.is_new in omega (arith, low, same, none)
free_found v None n new none = none n new.free

-- a keyslot of the number asked for is there, taken or free
pub taken_excludes : (v : List ℕ) (to : Option ℕ) → IsTakenFor v to → LacksFree v to → ⊥
taken_excludes v (Some t) used over = let low = used.0 in omega (arith, low, over)
taken_excludes v None used over = used

-- no keyslot of the header is refused by its plan where a key is given
not_refused : (h : List ℕ) (payload : Data) (v : List ℕ) (o : Opener) (key : List ℕ) (f : SlotFault) → IsHeaderOf h payload v
    → Opens1 v o key → HasRefusedKeyslot (allowed_of o).older h f → ⊥
not_refused h payload v o key f of x bad =
    let y = planned_of v of.chosen (without_memory (allowed_of o).older) o key x in
    let front : SameFront (part v 0 592) h = record { parts = λ o l within. ap (λ b. part b o l) (sym of.begins) } in
    let terms = same_terms (part v 0 592) h (entry (part v 0 592) y.slot) bad.bytes y.plan bad.plan front y.is.is bad.is in
    let two : None ≡ Some f = sym y.accepted ∙ same_refusal (without_memory (allowed_of o).older) y.plan bad.plan terms ∙ bad.refused in
    cc

module _ (v : List ℕ) (payload : Data) (e : Edit) (r : List ℕ) (o : Opener) (key : List ℕ) (to : Option ℕ) (asked : AskedDerivation) (is : IsMaking v e o to asked)
    (h : List ℕ) (of : IsHeaderOf h payload v) (usable : IsUsable v o) (opened : IsOpenedBy v o key) where
  before : Passed (IsEditFault1 v payload e r) 8
  before = opener_passed v payload e r of.faultless of.chosen o is.opening usable key opened

  -- none can be made
  pub none_made : (w : List ℕ) (f : EditFault) → w ≡ v → IsNewFault v to f → EndsBy1 payload v e r f w
  none_made w fault.SlotTaken same bad = (first_of_row (IsEditFault1 v payload e r) fault.SlotTaken refl before (is.taken_is bad), same)
  none_made w fault.NoFreeSlot same bad = (
    let s = IsEditFault1 v payload e r in
        first_of_row s fault.NoFreeSlot refl (next s fault.SlotTaken refl before (λ taken. taken_excludes v to (is.taken_only taken) bad)) (is.free_is bad),
    same,
  )
  none_made w f same bad = absurd bad

  module _ (n : ℕ) (new : IsNewFree v to n) where
    made_passed : Passed (IsEditFault1 v payload e r) 11
    made_passed = past_new v payload e r before (λ bad. free_untaken v to n new (is.taken_only bad)) (λ bad. free_found v to n new (is.free_only bad))

    need_is : (k : ℕ) → Need1 v e k → k ≡ keyslot_need v n
    need_is k needs = let x = is.need_only k needs in x.count ∙ ap (keyslot_need v) (new_once v to x.slot n x.is new.is_new)

    enough_passed : IsIterated asked → Passed (IsEditFault1 v payload e r) 23
    enough_passed x =
        let iterated = past_argon2 v payload e r made_passed is.not_last (λ few. both_ways _ x.turns (is.few_only few)) (λ argon2. both_ways _ x.own (is.argon2_only argon2)) in
        past_uuid v payload e r (past_label v payload e r iterated is.no_label) is.good_uuid

    -- its iterations, its derivation or the random bytes are refused
    pub new_refused : (w : List ℕ) (f : EditFault) → w ≡ v → IsNewRefused v n asked r f → EndsBy1 payload v e r f w
    new_refused w fault.Iterations same few = (
      let s = IsEditFault1 v payload e r in
          first_of_row s fault.Iterations refl (next s fault.LastSlot refl made_passed is.not_last) (is.few_is few),
      same,
    )
    new_refused w fault.Argon2 same bad = (
      let s = IsEditFault1 v payload e r in
          first_of_row s fault.Argon2 refl
          (next s fault.Iterations refl (next s fault.LastSlot refl made_passed is.not_last) (λ few. both_ways _ bad.turns (is.few_only few))) (is.argon2_is bad.own),
      same,
    )
    new_refused w fault.RandomLength same bad = (
      first_of_row (IsEditFault1 v payload e r) fault.RandomLength refl (enough_passed bad.iterated)
          (record { need = keyslot_need v n; is = is.need (keyslot_need v n) (record { slot = n; is = new.is_new; count = refl }); other = bad.other }),
      same,
    )
    new_refused w f same bad = absurd bad

    module _ (iterated : IsIterated asked) (counted : length r ≡ keyslot_need v n) where
      pub making_unrefused : IsUnrefused1 v payload e r
      making_unrefused = unrefused v payload e r (enough_passed iterated) (λ bad. bad.other (counted ∙ sym (need_is bad.need bad.is)))

      -- the keyslot wasn't made
      pub unmade_ends : (w : List ℕ) (f : EditFault) → IsTorn1 v e r w → IsUnmade (allowed_of o).older h f → EndsBy1 payload v e r f w
      unmade_ends w (fault.Slot f) torn bad = absurd (not_refused h payload v o key f of opened.opened bad)
      unmade_ends w fault.Device torn bad = inr (making_unrefused, torn)
      unmade_ends w f torn bad = absurd bad

-- ---- the same of an equal volume

pub header_of_same : {h : List ℕ} {payload : Data} {u v : List ℕ} → u ≡ v → IsHeaderOf h payload v → IsHeaderOf h payload u
header_of_same {h} {payload} {u} {v} same x = subst (λ k. IsHeaderOf h payload k) (sym same) x

pub made_same : {u v w p key random : List ℕ} {n iterations : ℕ} → u ≡ v → IsKeyslotMade u n iterations p key random w → IsKeyslotMade v n iterations p key random w
made_same {u} {v} {w} {p} {key} {random} {n} {iterations} same x = subst (λ k. IsKeyslotMade k n iterations p key random w) same x

pub torn_same : {u v w p key random : List ℕ} {n iterations : ℕ} → u ≡ v → IsSealedFirst u n iterations p key random w → IsSealedFirst v n iterations p key random w
torn_same {u} {v} {w} {p} {key} {random} {n} {iterations} same x = subst (λ k. IsSealedFirst k n iterations p key random w) same x

-- ---- the same of an equal opener

pub own_usable : (v : List ℕ) {a b : Opener} → a ≡ b → IsUsable v b → IsUsable v a
own_usable v same x = subst (λ o. IsUsable v o) (sym same) x

pub own_opened : {v key : List ℕ} {a b : Opener} → a ≡ b → IsOpenedBy v a key → IsOpenedBy v b key
own_opened {v} {key} same x = subst (λ o. IsOpenedBy v o key) same x

pub own_unopened : (v : List ℕ) (f : EditFault) {a b : Opener} → a ≡ b → IsUnopened v a f → IsUnopened v b f
own_unopened v f same x = subst (λ o. IsUnopened v o f) same x
