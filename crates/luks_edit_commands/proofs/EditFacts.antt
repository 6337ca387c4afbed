-- What an edit leaves of a volume, by how the command ended.
use Rattle.std.proofs.Common.{◌≡◌, ◌≢◌, ℕ, List, Bool, Option, Some, None, IfSome, Result, Ok, Err, option_map, refl, sym, ap, ◌∙◌, ◌⊎◌, ◌+◌, subst, inl, inr, arith}
use Rattle.luks_area.specs.Device.{CountsFailure}
use Rattle.luks_area.specs.declared.area.AreaName.{AreaName}
use Rattle.luks_area.specs.declared.area.AreaName.TheVariants.{Slot, Segment}
use Rattle.luks_reading.specs.declared.report.Data.{Data}
use Rattle.luks_reading.specs.Checked.{WellFormed}
use Rattle.serde_json.specs.Data.{Data as Value}
use Rattle.serde_json.specs.View.{view}
use Rattle.luks_making.specs.declared.amended.Change.TheVariants as change
use Rattle.luks_edit.specs.declared.edit.Done.{Done as Made}
use Rattle.luks_edit.specs.declared.edit.Edit.{Edit}
use Rattle.luks_edit.specs.declared.edit.Edit.TheVariants as edit
use Rattle.luks_edit.specs.declared.edit.Secret.{Secret}
use Rattle.luks_edit.specs.declared.edit_fault.EditFault.{EditFault}
use Rattle.luks_edit.specs.declared.edit_fault.EditFault.TheVariants as fault
use Rattle.luks_edit.specs.EditFaults.{is_edit_failure}
use Rattle.luks_edit.specs.Kept.{Keeps, KeepsArea, KeepsSlot}
use Rattle.luks_edit.specs.Ran.{IsCompleted, IsFailure, Reply}
use Rattle.luks_volume.specs.Edits.{NamedSlots, Refusal, Replies}
use Rattle.luks_volume.specs.Needed.{NeedsRandom}
use Rattle.luks_volume.specs.Outcome.{Spares}
use Rattle.luks_request.specs.declared.request.EditRequest.{EditRequest}
use Rattle.luks_request.specs.declared.request.EditRequest.TheVariants.{Add, AddByKey, Change, Remove, Erase, Repair, Label, Uuid, Priority, AddToken, RemoveToken}
use Rattle.luks_request.specs.Named.{edit_new_of, edit_passphrase_of}
use Rattle.luks_request.specs.declared.request.Editing.{Editing}
use Rattle.luks_request.specs.declared.request.OpenerFile.{OpenerFile}
use Rattle.luks_commands.specs.declared.answers.Answer.{Answer}
use Rattle.luks_commands.specs.declared.answers.Status.{Status}
use Rattle.luks_commands.specs.declared.answers.Status.TheVariants.{Done, Refused, Fault}
use Rattle.luks_commands.specs.Answer.{answer_status, edit_fault_answer, IsWordless}
use Rattle.luks_edit_commands.specs.declared.edit.seen.Unseen.{Unseen}
use Rattle.luks_edit_commands.specs.declared.edit.seen.Unseen.TheVariants.{Untold, Used}
use Rattle.luks_edit_commands.specs.OtherUses.{unseen_answer}
use Rattle.luks_edit_commands.specs.Editing.{Given, HasNoText, HasText, IsAsked, IsFirstSeen, IsMissed, IsRefused, IsRefusedAtOnce, IsRefusedLate, IsRefusedUnfound, IsReplied, IsSecret, IsUnseen}
use Rattle.luks_edit_commands.specs.Editing.{KeepsUnnamed, Misses, NamesSlot, SaysEdit, SparesEdit, UnlessOutside, WhereFailed}
use Rattle.luks_commands.specs.declared.inputs.InputFault.{InputFault}
use Rattle.luks_commands.specs.Files.{AreFirstBytes, LeavesVolume}
use Rattle.luks_commands.proofs.EndFacts.{unread_is_fault}

-- ---- what is kept

-- what fewer names keep, more names keep
pub keeps_fewer : (payload : Data) (named more : ℕ → Type 0) (v w : List ℕ) → ((n : ℕ) → named n → more n) → Keeps payload named v w → Keeps payload more v w
keeps_fewer payload named more v w of x = record {
  size = x.size;
  well = x.well;
  segments = x.segments;
  slots = λ n not. x.slots n (λ is. not (of n is));
}

area_same : (payload : Data) (n : AreaName) (v : List ℕ) → KeepsArea payload n v v
area_same payload n v = record { same = λ a. ((λ is. is), (λ is. is)); bytes = λ a is. refl }

slot_same : (payload : Data) (n : ℕ) (v : List ℕ) → KeepsSlot payload n v v
slot_same payload n v = record {
  area = area_same payload (Slot n) v;
  entry = λ b. ((λ is. is), (λ is. is));
  value = λ d. ((λ is. is), (λ is. is));
  answers = λ allowed p a. ((λ is. is), (λ is. is));
}

-- a volume keeps itself
kept_same : (payload : Data) (named : ℕ → Type 0) (v : List ℕ) → WellFormed v payload → Keeps payload named v v
kept_same payload named v well = record {
  size = refl;
  well = well;
  segments = λ n. area_same payload (Segment n) v;
  slots = λ n not. slot_same payload n v;
}

-- where the count of failures didn't rise, the reply isn't the device's failure
unfailed : (reply : Reply) (f f' : ℕ) → CountsFailure is_edit_failure reply f f' → f' ≡ f → IsFailure reply → ⊥
unfailed (Ok made) f f' count same is = is
unfailed (Err fault.Device) f f' count same is = let rises : f' ≡ f + 1 = count in omega (arith, rises, same)
unfailed (Err g) f f' count same is = is

-- an edit in which the device didn't fail keeps what it doesn't name
pub kept_once : (payload : Data) (v w : List ℕ) (e : Edit) (reply : Reply) (f f' : ℕ) → CountsFailure is_edit_failure reply f f' → f' ≡ f
    → ((IsFailure reply → ⊥) → Keeps payload (λ n. IsCompleted reply × NamedSlots v e n) v w) → Keeps payload (NamedSlots v e) v w
kept_once payload v w e reply f f' count same keeps =
    keeps_fewer payload (λ n. IsCompleted reply × NamedSlots v e n) (NamedSlots v e) v w (λ n is. is.1) (keeps (unfailed reply f f' count same))

-- one in which it failed says so, and what it left is what it spares
pub spared_once : (payload : Data) (v w : List ℕ) (e : Edit) (random : List ℕ) (reply : Reply) (f f' : ℕ) → CountsFailure is_edit_failure reply f f'
    → (f' ≡ f → ⊥) → (IsFailure reply → Spares v payload e random w) → (reply ≡ Err fault.Device) × Spares v payload e random w
spared_once payload v w e random (Ok made) f f' count apart spares = absurd (apart count)
spared_once payload v w e random (Err fault.Device) f f' count apart spares = (refl, spares tt)
spared_once payload v w e random (Err g) f f' count apart spares = absurd (apart count)

-- ---- how the edit ended

-- how the command ends by this fault
abbrev pub ended_by : EditFault → Status
ended_by f = answer_status (edit_fault_answer f)

abbrev pub ended_in : EditFault → Reply
ended_in f = Err f

abbrev pub made_in : Made → Reply
made_in made = Ok made

-- an edit that was completed isn't one that the device failed in
pub never_failed : (made : Made) → made_in made ≡ ended_in fault.Device → ⊥
never_failed made is = cc

no_refusal : Fault ≡ Refused → ⊥
no_refusal is = cc

-- a fault that the command is refused by leaves the volume as it was, and is the edit's refusal
pub refused_by : (payload : Data) (v w : List ℕ) (e : Edit) (random : List ℕ) (f : EditFault) → Replies payload v e random (Err f) w
    → ended_by f ≡ Refused → (w ≡ v) × Refusal v payload e random f
refused_by payload v w e random fault.Memory is refused = absurd (no_refusal refused)
refused_by payload v w e random fault.Device is refused = absurd (no_refusal refused)
refused_by payload v w e random f is refused = (is.1, is.0)

-- ---- what the command tells, by how it ended

-- how a command ended isn't how it didn't
not_so : (ended is other : Status) → ended ≡ is → is ≢ other → ended ≡ other → ⊥
not_so ended is other told apart same = apart (sym told ∙ same)

so : (ended is other : Status) → ended ≡ is → ended ≡ other → is ≡ other
so ended is other told same = sym told ∙ same

never_done : (f : EditFault) → ended_by f ≡ Done → ⊥
never_done fault.Memory is = cc
never_done fault.Device is = cc
never_done f is = cc

-- the edit was run
unfoldable pub run_replied : (payload : Data) (v w : List ℕ) (given : Given) (e : Edit) → given.asks v e → (u : List ℕ) → u ≡ v → (count : ℕ) (random : List ℕ)
    → NeedsRandom v payload e count → given.has_random count random → (reply : Reply) → Replies payload u e random reply w
    → IsReplied payload given v w reply
run_replied payload v w given e asked u unchanged count random needs taken reply is = record {
  edit = e;
  asked = asked;
  count = count;
  needs = needs;
  random = random;
  taken = taken;
  replies = subst (λ x. Replies payload x e random reply w) unchanged is;
}

module _ (payload : Data) (v w : List ℕ) (ended : Status) (given : Given) where
  -- a file couldn't be read
  pub says_unread : w ≡ v → ended ≡ Fault → SaysEdit payload given v w (ended ≡ Done) (ended ≡ Refused)
  says_unread same told = record {
    done = λ is. absurd (not_so ended Fault Done told (λ e. cc) is);
    refused = λ is. absurd (not_so ended Fault Refused told (λ e. cc) is);
    rest = inl same;
  }

  -- what refused it before a keyslot was opened that is named
  refused_early : (f : EditFault) → given.misses v f ⊎ IsFirstSeen payload (given.asks v) v f → IsRefusedUnfound given v ⊎ IsRefusedAtOnce payload given v ⊎ IsRefusedLate payload given v
  refused_early f (inl missed) = inl (record { fault = f; missed = missed })
  refused_early f (inr x) = inr (inl (record { edit = x.edit; asked = x.asked; fault = f; first = x.first }))

  refused_untold : (f : EditFault) → UnlessOutside v (λ g. given.misses v g ⊎ IsFirstSeen payload (given.asks v) v g) f → ended_by f ≡ Refused
      → IsRefusedUnfound given v ⊎ IsRefusedAtOnce payload given v ⊎ IsRefusedLate payload given v
  refused_untold fault.Memory is refused = absurd (no_refusal refused)
  refused_untold fault.Device is refused = absurd (no_refusal refused)
  refused_untold f is refused = refused_early f is

  -- nothing was seen of it
  pub says_unseen : (unseen : Unseen) → w ≡ v → IsUnseen payload (given.asks v) (given.misses v) given.over v unseen → ended ≡ answer_status (unseen_answer unseen)
      → SaysEdit payload given v w (ended ≡ Done) (ended ≡ Refused)
  says_unseen (Untold f) same is told = record {
    done = λ d. absurd (never_done f (so ended (ended_by f) Done told d));
    refused = λ r. (same, inr (inr (refused_untold f is (so ended (ended_by f) Refused told r))));
    rest = inl same;
  }
  says_unseen (Used found) same is told = record {
    done = λ d. absurd (not_so ended Refused Done told (λ e. cc) d);
    refused = λ r. (same, inr (inl (record { found = found; barred = is })));
    rest = inl same;
  }

  module _ (e : Edit) (asked : given.asks v e) (u : List ℕ) (unchanged : u ≡ v) (count : ℕ) (random : List ℕ) (needs : NeedsRandom v payload e count) (taken : given.has_random count random) where
    replied : (reply : Reply) → Replies payload u e random reply w → IsReplied payload given v w reply
    replied reply is = run_replied payload v w given e asked u unchanged count random needs taken reply is

    -- the edit was completed
    pub says_made : (made : Made) → Replies payload u e random (Ok made) w → ended ≡ Done
        → SaysEdit payload given v w (ended ≡ Done) (ended ≡ Refused)
    says_made made is told = record {
      done = λ _. record { done = made; replied = replied (Ok made) is };
      refused = λ same. absurd (not_so ended Done Refused told (λ e. cc) same);
      rest = inr (Ok made, replied (Ok made) is);
    }

    -- a fault ended it
    pub says_fault : (f : EditFault) → Replies payload u e random (Err f) w → ended ≡ ended_by f
        → SaysEdit payload given v w (ended ≡ Done) (ended ≡ Refused)
    says_fault f is told = record {
      done = λ same. absurd (never_done f (so ended (ended_by f) Done told same));
      refused = λ same. let by = refused_by payload u w e random f is (so ended (ended_by f) Refused told same) in (
        by.0 ∙ unchanged,
        inr (inr (inr (inr (record {
          edit = e;
          asked = asked;
          count = count;
          needs = needs;
          random = random;
          taken = taken;
          fault = f;
          first = subst (λ x. Refusal x payload e random f) unchanged by.1;
        })))),
      );
      rest = inr (Err f, replied (Err f) is);
    }

-- there is no passphrase
pub says_wordless : (payload : Data) (given : Given) (unread : InputFault → Type 0) (v w : List ℕ) (a : Answer) → w ≡ v → IsWordless given.is_long unread a
    → SaysEdit payload given v w (answer_status a ≡ Done) (answer_status a ≡ Refused)
says_wordless payload given unread v w a same (inl x) = record {
  done = λ e. absurd (not_so (answer_status a) Refused Done (ap answer_status x.0) (λ d. cc) e);
  refused = λ e. (same, inl x.1);
  rest = inl same;
}
says_wordless payload given unread v w a same (inr x) = says_unread payload v w (answer_status a) given same (ap answer_status x.2 ∙ unread_is_fault x.0)

-- the random bytes are the first of their file
abbrev pub AreFirstOf : {N : Type 0} → (N → Option (List ℕ)) → Result N InputFault → ℕ → List ℕ → Type 0
AreFirstOf remaining random = λ count. AreFirstBytes count remaining random

-- a slice of them is too
pub taken_as : {N : Type 0} (remaining : N → Option (List ℕ)) (random : Result N InputFault) (count : ℕ) {slice bytes : List ℕ} → slice ≡ bytes
    → AreFirstBytes count remaining random bytes → AreFirstOf remaining random count slice
taken_as remaining random count is taken = subst (AreFirstOf remaining random count) (sym is) taken

-- what is told of an edit that is given so, is told of one that is given otherwise
unfoldable pub replied_as : (payload : Data) (given other : Given) (v w : List ℕ) (reply : Reply) → ((e : Edit) → given.asks v e → other.asks v e)
    → ((n : ℕ) (b : List ℕ) → given.has_random n b → other.has_random n b) → IsReplied payload given v w reply → IsReplied payload other v w reply
replied_as payload given other v w reply asks has x = record {
  edit = x.edit;
  asked = asks x.edit x.asked;
  count = x.count;
  needs = x.needs;
  random = x.random;
  taken = has x.count x.random x.taken;
  replies = x.replies;
}

refused_as : (payload : Data) (given other : Given) (v : List ℕ) → ((e : Edit) → given.asks v e → other.asks v e) → ((f : EditFault) → given.misses v f → other.misses v f)
    → ((n : ℕ) (b : List ℕ) → given.has_random n b → other.has_random n b) → (given.is_long → other.is_long) → given.over ≡ other.over → IsRefused payload given v → IsRefused payload other v
refused_as payload given other v asks misses has long over (inl is) = inl (long is)
refused_as payload given other v asks misses has long over (inr (inl x)) = inr (inl (record { found = x.found; barred = (sym over ∙ x.barred.0, x.barred.1) }))
refused_as payload given other v asks misses has long over (inr (inr (inl x))) = inr (inr (inl (record { fault = x.fault; missed = misses x.fault x.missed })))
refused_as payload given other v asks misses has long over (inr (inr (inr (inl x)))) = inr (inr (inr (inl (record {
  edit = x.edit;
  asked = asks x.edit x.asked;
  fault = x.fault;
  first = x.first;
}))))
refused_as payload given other v asks misses has long over (inr (inr (inr (inr x)))) = inr (inr (inr (inr (record {
  edit = x.edit;
  asked = asks x.edit x.asked;
  count = x.count;
  needs = x.needs;
  random = x.random;
  taken = has x.count x.random x.taken;
  fault = x.fault;
  first = x.first;
}))))

pub says_as : (payload : Data) (given other : Given) (v w : List ℕ) (D R D' R' : Type 0) → ((e : Edit) → given.asks v e → other.asks v e) → ((f : EditFault) → given.misses v f → other.misses v f)
    → ((n : ℕ) (b : List ℕ) → given.has_random n b → other.has_random n b) → (given.is_long → other.is_long) → given.over ≡ other.over → (D' → D) → (R' → R)
    → SaysEdit payload given v w D R → SaysEdit payload other v w D' R'
says_as payload given other v w D R D' R' asks misses has long over of_done of_refused x = record {
  done = λ is. let c = x.done (of_done is) in record { done = c.done; replied = replied_as payload given other v w (Ok c.done) asks has c.replied };
  refused = λ is. let r = x.refused (of_refused is) in (r.0, refused_as payload given other v asks misses has long over r.1);
  rest = elim x.rest [
    | inl same ↦ inl same
    | inr y ↦ inr (y.0, replied_as payload given other v w y.0 asks has y.1)
  ];
}

-- what is spared by an edit that is given so, is spared by one that is given otherwise
pub spared_as : (payload : Data) (given other : Given) (v w : List ℕ) → ((e : Edit) → given.asks v e → other.asks v e)
    → ((n : ℕ) (b : List ℕ) → given.has_random n b → other.has_random n b) → SparesEdit payload given v w → SparesEdit payload other v w
unfolding replied_as
spared_as payload given other v w asks has (inl same) = inl same
spared_as payload given other v w asks has (inr x) = inr (record { replied = replied_as payload given other v w (Err fault.Device) asks has x.replied; spares = x.spares })

-- where the device failed in the edit that was run, its reply and what it spares are those of the command
pub spared_edit : (payload : Data) (v u w : List ℕ) (given : Given) (e : Edit) → given.asks v e → u ≡ v → (count : ℕ) (random : List ℕ)
    → NeedsRandom v payload e count → given.has_random count random → (f : EditFault) → Replies payload u e random (Err f) w
    → (ended_in f ≡ Err fault.Device) × Spares u payload e random w → SparesEdit payload given v w
spared_edit payload v u w given e asked unchanged count random needs taken f by x = inr (record {
  replied = record {
    edit = e;
    asked = asked;
    count = count;
    needs = needs;
    random = random;
    taken = taken;
    replies = subst (λ r. Replies payload v e random r w) x.0 (subst (λ y. Replies payload y e random (Err f) w) unchanged by);
  };
  spares = subst (λ y. Spares y payload e random w) unchanged x.1;
})

-- ---- what is asked for

-- the secret has the bytes that its file has
secret_of : (opener : OpenerFile) (memory : ℕ) (older : Bool) (IsOld : List ℕ → Type 0) (p : List ℕ) (s : Secret) → IsOld p → IsSecret opener memory older (λ x. x ≡ p) s → IsSecret opener memory older IsOld s
secret_of opener memory older IsOld p s old is = record { kind_is = is.kind_is; words = subst IsOld (sym is.words) old; allowed = is.allowed }

-- whatever they are
secret_somehow : (opener : OpenerFile) (memory : ℕ) (older : Bool) (IsOld : List ℕ → Type 0) (s : Secret) → IsSecret opener memory older IsOld s → IsSecret opener memory older (λ p. Unit {0}) s
secret_somehow opener memory older IsOld s is = record { kind_is = is.kind_is; words = tt; allowed = is.allowed }

-- the text of a token is that of its file
text_of : (IsOld : List ℕ → Type 0) (p : List ℕ) (j : Value) → IsOld p → HasText (λ x. x ≡ p) j → HasText IsOld j
text_of IsOld p j old is = record { text = is.text; words = subst IsOld (sym is.words) old; utf8 = is.utf8; reads = is.reads }

-- and so where it is none
no_text_of : (IsOld : List ℕ → Type 0) (p : List ℕ) → IsOld p → HasNoText (λ x. x ≡ p) → HasNoText IsOld
no_text_of IsOld p old is = record { text = is.text; words = subst IsOld (sym is.words) old; bad = is.bad }

-- the passphrases are those that the files have, where the edit needs them
pub asked_of : (v : List ℕ) (request : EditRequest) (IsOld IsNew : List ℕ → Type 0) (p q : List ℕ) (e : Edit) → IfSome (edit_passphrase_of request) (λ name. IsOld p)
    → IfSome (edit_new_of request) (λ name. IsNew q) → IsAsked v request (λ x. x ≡ p) (λ x. x ≡ q) e → IsAsked v request IsOld IsNew e
asked_of v (Add by_ opener memory older new to iterations kdf) IsOld IsNew p q (edit.Add b o n t i d) old fresh is =
    (is.0, secret_of opener memory older IsOld p o old is.1, subst IsNew (sym is.2) fresh, is.3, is.4, is.5)
asked_of v (AddByKey key memory older new to iterations kdf) IsOld IsNew p q (edit.AddByKey k n t i d) old fresh is =
    (subst IsOld (sym is.0) old, is.1, subst IsNew (sym is.2) fresh, is.3, is.4, is.5)
asked_of v (Change slot opener memory older new iterations kdf) IsOld IsNew p q (edit.Change s o n i d) old fresh is =
    (is.0, secret_of opener memory older IsOld p o old is.1, subst IsNew (sym is.2) fresh, is.3, is.4)
asked_of v (Remove slot by_ opener memory older) IsOld IsNew p q (edit.Remove s b o) old fresh is = (is.0, is.1, secret_of opener memory older IsOld p o old is.2)
asked_of v Erase IsOld IsNew p q edit.Erase old fresh is = is
asked_of v Repair IsOld IsNew p q edit.Repair old fresh is = is
asked_of v (Label text subsystem) IsOld IsNew p q (edit.Label t s) old fresh is = is
asked_of v (Uuid text) IsOld IsNew p q (edit.Uuid u) old fresh is = is
asked_of v (Priority slot priority) IsOld IsNew p q (edit.Amend (change.Priority s r)) old fresh is = is
asked_of v (AddToken token to) IsOld IsNew p q (edit.Amend (change.AddToken t value)) old fresh is = (is.0, text_of IsOld p (view value.now) old is.1)
asked_of v (RemoveToken number) IsOld IsNew p q (edit.Amend (change.RemoveToken n)) old fresh is = is
asked_of v (Add by_ opener memory older new to iterations kdf) IsOld IsNew p q e old fresh is = absurd is
asked_of v (AddByKey key memory older new to iterations kdf) IsOld IsNew p q e old fresh is = absurd is
asked_of v (Change slot opener memory older new iterations kdf) IsOld IsNew p q e old fresh is = absurd is
asked_of v (Remove slot by_ opener memory older) IsOld IsNew p q e old fresh is = absurd is
asked_of v Erase IsOld IsNew p q e old fresh is = absurd is
asked_of v Repair IsOld IsNew p q e old fresh is = absurd is
asked_of v (Label text subsystem) IsOld IsNew p q e old fresh is = absurd is
asked_of v (Uuid text) IsOld IsNew p q e old fresh is = absurd is
asked_of v (Priority slot priority) IsOld IsNew p q e old fresh is = absurd is
asked_of v (AddToken token to) IsOld IsNew p q e old fresh is = absurd is
asked_of v (RemoveToken number) IsOld IsNew p q e old fresh is = absurd is

-- what holds where there is a name, holds where there are its bytes
pub some_as : {A B : Type 0} (f : A → B) (o : Option A) (named : Option B) (P : Type 0) → option_map f o ≡ named → IfSome o (λ x. P) → IfSome named (λ x. P)
some_as {A} {B} f None named P is held = subst (λ (x : Option B). IfSome x (λ y. P)) is tt
some_as {A} {B} f (Some x) named P is held = subst (λ (x : Option B). IfSome x (λ y. P)) is held

-- whatever they are
pub asked_somehow : (v : List ℕ) (request : EditRequest) (IsOld IsNew : List ℕ → Type 0) (e : Edit) → IsAsked v request IsOld IsNew e
    → IsAsked v request (λ p. Unit {0}) (λ p. Unit {0}) e
asked_somehow v (Add by_ opener memory older new to iterations kdf) IsOld IsNew (edit.Add b o n t i d) is = (is.0, secret_somehow opener memory older IsOld o is.1, tt, is.3, is.4, is.5)
asked_somehow v (AddByKey key memory older new to iterations kdf) IsOld IsNew (edit.AddByKey k n t i d) is = (tt, is.1, tt, is.3, is.4, is.5)
asked_somehow v (Change slot opener memory older new iterations kdf) IsOld IsNew (edit.Change s o n i d) is = (is.0, secret_somehow opener memory older IsOld o is.1, tt, is.3, is.4)
asked_somehow v (Remove slot by_ opener memory older) IsOld IsNew (edit.Remove s b o) is = (is.0, is.1, secret_somehow opener memory older IsOld o is.2)
asked_somehow v Erase IsOld IsNew edit.Erase is = is
asked_somehow v Repair IsOld IsNew edit.Repair is = is
asked_somehow v (Label text subsystem) IsOld IsNew (edit.Label t s) is = is
asked_somehow v (Uuid text) IsOld IsNew (edit.Uuid u) is = is
asked_somehow v (Priority slot priority) IsOld IsNew (edit.Amend (change.Priority s r)) is = is
asked_somehow v (AddToken token to) IsOld IsNew (edit.Amend (change.AddToken t value)) is =
    (is.0, record { text = is.1.text; words = tt; utf8 = is.1.utf8; reads = is.1.reads })
asked_somehow v (RemoveToken number) IsOld IsNew (edit.Amend (change.RemoveToken n)) is = is
asked_somehow v (Add by_ opener memory older new to iterations kdf) IsOld IsNew e is = absurd is
asked_somehow v (AddByKey key memory older new to iterations kdf) IsOld IsNew e is = absurd is
asked_somehow v (Change slot opener memory older new iterations kdf) IsOld IsNew e is = absurd is
asked_somehow v (Remove slot by_ opener memory older) IsOld IsNew e is = absurd is
asked_somehow v Erase IsOld IsNew e is = absurd is
asked_somehow v Repair IsOld IsNew e is = absurd is
asked_somehow v (Label text subsystem) IsOld IsNew e is = absurd is
asked_somehow v (Uuid text) IsOld IsNew e is = absurd is
asked_somehow v (Priority slot priority) IsOld IsNew e is = absurd is
asked_somehow v (AddToken token to) IsOld IsNew e is = absurd is
asked_somehow v (RemoveToken number) IsOld IsNew e is = absurd is

-- the edit that is asked for keeps what it doesn't name
pub named_asked : (editing : Editing) (old new : List ℕ) (v w : List ℕ) (e : Edit) → IsAsked v editing.request (λ p. p ≡ old) (λ p. p ≡ new) e
    → Keeps editing.payload (NamedSlots v e) v w → Keeps editing.payload (NamesSlot editing.request v) v w
named_asked editing old new v w e asked kept =
    keeps_fewer editing.payload (NamedSlots v e) (NamesSlot editing.request v) v w
    (λ n named. record { edit = e; asked = asked_somehow v editing.request (λ p. p ≡ old) (λ p. p ≡ new) e asked; named = named }) kept

-- no keyslot is found by the passphrase that the file has
misses_of : (payload : Data) (opener : OpenerFile) (memory : ℕ) (older : Bool) (IsOld : List ℕ → Type 0) (p v : List ℕ) (f : EditFault) → IsOld p
    → Misses payload opener memory older (λ x. x ≡ p) v f → Misses payload opener memory older IsOld v f
misses_of payload opener memory older IsOld p v f old x = record { secret = x.secret; asked = secret_of opener memory older IsOld p x.secret old x.asked; why = x.why }

pub missed_of : (payload : Data) (v : List ℕ) (request : EditRequest) (IsOld : List ℕ → Type 0) (p : List ℕ) → IfSome (edit_passphrase_of request) (λ name. IsOld p)
    → (f : EditFault) → IsMissed payload request (λ x. x ≡ p) v f → IsMissed payload request IsOld v f
missed_of payload v (Add None opener memory older new to iterations kdf) IsOld p old f is = misses_of payload opener memory older IsOld p v f old is
missed_of payload v (Add (Some n) opener memory older new to iterations kdf) IsOld p old f is = absurd is
missed_of payload v (AddByKey key memory older new to iterations kdf) IsOld p old f is = absurd is
missed_of payload v (Change None opener memory older new iterations kdf) IsOld p old f is = misses_of payload opener memory older IsOld p v f old is
missed_of payload v (Change (Some n) opener memory older new iterations kdf) IsOld p old f is = absurd is
missed_of payload v (Remove None by_ opener memory older) IsOld p old f is = misses_of payload opener memory older IsOld p v f old is
missed_of payload v (Remove (Some n) by_ opener memory older) IsOld p old f is = absurd is
missed_of payload v Erase IsOld p old f is = absurd is
missed_of payload v Repair IsOld p old f is = absurd is
missed_of payload v (Label text subsystem) IsOld p old f is = absurd is
missed_of payload v (Uuid text) IsOld p old f is = absurd is
missed_of payload v (Priority slot priority) IsOld p old f is = absurd is
missed_of payload v (AddToken token to) IsOld p old f is = (no_text_of IsOld p old is.0, is.1)
missed_of payload v (RemoveToken number) IsOld p old f is = absurd is

-- ---- over devices

-- a volume that no call was made on
pub left_same : {D : Type 0} (tells : Type 0) (size : D → ℕ) (bytes : D → List ℕ) (says : List ℕ → List ℕ → Type 0) → ((v : List ℕ) → says v v)
    → (volume : Result D InputFault) → LeavesVolume tells size bytes says volume volume
left_same tells size bytes says of (Ok device) = record { size = refl; said = λ t. of (bytes device) }
left_same tells size bytes says of (Err f) = refl

pub unnamed_same : {D : Type 0} (tells : Type 0) (failed : D → ℕ) (bytes : D → List ℕ) (editing : Editing) (volume : Result D InputFault)
    → KeepsUnnamed tells failed bytes editing volume volume
unnamed_same tells failed bytes editing (Ok device) = λ t well same. kept_same _ _ _ well
unnamed_same tells failed bytes editing (Err f) = tt

-- where a call failed, another fact holds that follows
pub failed_as : {D : Type 0} (failed : D → ℕ) (holds told : Type 0) → (holds → told) → (old new : Result D InputFault) → WhereFailed failed old new holds
    → WhereFailed failed old new told
failed_as failed holds told of (Ok old) (Ok new) x = λ apart. of (x apart)
failed_as failed holds told of (Ok old) (Err f) x = tt
failed_as failed holds told of (Err f) new x = tt
