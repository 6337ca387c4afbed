-- What `rebuild` answers with a passphrase, by what it met.
use Rattle.std.proofs.Common.{◌≡◌, List, ℕ, Bool, true, false, Option, Some, None, IfSome, IfNone, Result, Ok, Err, refl, sym, subst, inl, inr}
use Rattle.luks_area.specs.Device.{count_after}
use Rattle.luks1_mending.specs.declared.given.Given.{Given}
use Rattle.luks1_rebuilding.specs.RebuildFaults.{is_rebuild_failure}
use Rattle.luks1_rebuilding.specs.declared.rebuild_fault.Rebuild1Fault.{Rebuild1Fault}
use Rattle.luks1_rebuilding.specs.declared.rebuild_fault.Rebuild1Fault.TheVariants as fault1
use Rattle.luks1_rebuilding.specs.TrialFaults.{IsAnsweredTrialFault, IsTrialFault}
use Rattle.luks1_rebuilding.specs.Openings.{IsFirstOpening, OpensNoneBelow}
use Rattle.luks1_rebuilding.specs.declared.trial.opening.Opening.{Opening}
use Rattle.luks_request.specs.declared.rebuilding.Rebuilding.{Rebuilding}
use Rattle.luks_commands.specs.declared.answers.Answer.{Answer}
use Rattle.luks_commands.specs.declared.inputs.InputFault.{InputFault}
use Rattle.luks_commands.specs.Answer.{IsWordless, rebuild1_fault_answer}
use Rattle.luks_header_commands.specs.Rebuilding.{IsGiven, IsLuks1Answer, IsRebuildAnswer, KeepsRest, KeepsRest1}
use Rattle.luks_commands.specs.Beside.{LeavesTarget}
use Rattle.luks_header_commands.specs.Target.{AnswersHeader, HoldsBackHeader, IsLater, IsOtherTarget, Pair}
use Rattle.luks_header_commands.specs.Searching.{kept_luks1, kept_luks2, KeepsSought}
use Rattle.luks_header_commands.specs.Tried.{no_header, none_open, one_opens, trial_failed, IsTriedRest, KeepsOpened, TriedAnswer}
use Rattle.luks_header_commands.specs.Trying.{AnswersBy, IsRestBy, IsTriedAnswer, IsWithPassphrase, KeepsBy, KeepsTried, KeepsTriedBy}
use Rattle.luks_header_commands.proofs.RebuildFacts.{luks1_later}
use Rattle.luks_header_commands.proofs.TargetFacts.{header_holds, none_later, one_later, same_later}
use Rattle.luks_commands.proofs.StandingFacts.{wordless_answers}

-- the trial ended by a fault, and the target is as it was
pub tried_fault : (tells : Type 0) (g : Given) (p : List ℕ) (d : Pair) (f : Rebuild1Fault)
    → d.volume_after ≡ count_after (is_rebuild_failure f) d.volume_before → d.after ≡ d.before → (tells → d.new ≡ d.old)
    → (tells → IsAnsweredTrialFault d.volume g f) → TriedAnswer tells g p d (rebuild1_fault_answer f)
tried_fault tells g p d fault1.Device count same kept is = trial_failed (inl (count, same)) kept refl
tried_fault tells g p d f count same kept is = no_header f refl (count, same) kept is refl

-- what was found
pub first_of : (v p : List ℕ) (g : Given) (found : Option Opening) (o : Opening) → found ≡ Some o → IfSome found (IsFirstOpening v g p) → IsFirstOpening v g p o
first_of v p g found o is said = subst (λ (x : Option Opening). IfSome x (IsFirstOpening v g p)) is said

-- nothing was
pub none_of : (v p : List ℕ) (g : Given) (found : Option Opening) → found ≡ None → IfNone found (OpensNoneBelow v g p 64) → OpensNoneBelow v g p 64
none_of v p g found is said = subst (λ (x : Option Opening). IfNone x (OpensNoneBelow v g p 64)) is said

-- a combination opens a keyslot, and LUKS1 answers later of the same
pub opened_later : (tells : Type 0) (g : Given) (p : List ℕ) (d e : Pair) (a : Answer) (o : Opening) → IsLater tells d e
    → (tells → IsFirstOpening e.volume g p o) → IsLuks1Answer tells o.given d a → TriedAnswer tells g p e a
opened_later tells g p d e a o later first said = one_opens o first (luks1_later tells o.given d e a later said)

-- it is so of what has begun later
pub tried_later : (tells : Type 0) (g : Given) (p : List ℕ) (d e : Pair) (a : Answer) → IsLater tells d e → TriedAnswer tells g p d a → TriedAnswer tells g p e a
tried_later tells g p d e a later (none_open none same can shut is) =
    none_open (none_later tells d e later none) (same_later tells d e later same)
    (λ told. subst (λ (v : List ℕ). (f : Rebuild1Fault) → IsTrialFault v g f → ⊥) (later.volume told) (can told))
    (λ told. subst (λ (v : List ℕ). OpensNoneBelow v g p 64) (later.volume told) (shut told)) is
tried_later tells g p d e a later (no_header f own none same is answered) =
    no_header f own (none_later tells d e later none) (same_later tells d e later same)
    (λ told. subst (λ (v : List ℕ). IsAnsweredTrialFault v g f) (later.volume told) (is told)) answered
tried_later tells g p d e a later (trial_failed one same is) = trial_failed (one_later tells d e later one) (same_later tells d e later same) is
tried_later tells g p d e a later (one_opens o first said) =
    one_opens o (λ told. subst (λ (v : List ℕ). IsFirstOpening v g p o) (later.volume told) (first told)) (luks1_later tells o.given d e a later said)

-- what is left of the target then
pub opened_rest : (g : Given) (p v v' old new : List ℕ) (o : Opening) → v' ≡ v → IsFirstOpening v g p o → KeepsRest1 o.given v' old new
    → IsTriedRest g p v old new
opened_rest g p v v' old new o same first keeps =
    inr (record { words = p; has = refl; opening = o; first = first; keeps = subst (λ (x : List ℕ). KeepsRest1 o.given x old new) same keeps })

pub given_rest : (r : Rebuilding) (g : Given) (p v old new : List ℕ) → IsGiven r g → IsRestBy r.thorough r g p v old new → KeepsTried r (λ words. words ≡ p) v old new
given_rest r g p v old new is (inl same) = inl same
given_rest r g p v old new is (inr kept) = inr (record { given = g; is = is; keeps = kept })

-- these words are those of the passphrase's file
opened_words : (HasWords : List ℕ → Type 0) (p : List ℕ) → HasWords p → (g : Given) (v old new : List ℕ)
    → KeepsOpened (λ words. words ≡ p) g v old new → KeepsOpened HasWords g v old new
opened_words HasWords p has g v old new kept = record {
  words = kept.words;
  has = subst HasWords (sym kept.has) has;
  opening = kept.opening;
  first = kept.first;
  keeps = kept.keeps;
}

sought_words : (r : Rebuilding) (HasWords : List ℕ → Type 0) (p : List ℕ) → HasWords p → (g : Given) (v old new : List ℕ)
    → KeepsSought r (λ words. words ≡ p) g v old new → KeepsSought r HasWords g v old new
sought_words r HasWords p has g v old new (kept_luks1 seeks (inl kept)) = kept_luks1 seeks (inl (opened_words HasWords p has g v old new kept))
sought_words r HasWords p has g v old new (kept_luks1 seeks (inr kept)) = kept_luks1 seeks (inr (record {
  words = kept.words;
  has = subst HasWords (sym kept.has) has;
  found = kept.found;
  near = kept.near;
  keeps = kept.keeps;
}))
sought_words r HasWords p has g v old new (kept_luks2 seeks kept) = kept_luks2 seeks (record {
  words = kept.words;
  has = subst HasWords (sym kept.has) has;
  segment = kept.segment;
  given = kept.given;
  found = kept.found;
  near = kept.near;
  keeps = kept.keeps;
})

words_by : (thorough : Bool) (r : Rebuilding) (HasWords : List ℕ → Type 0) (p : List ℕ) → HasWords p → (g : Given) (v old new : List ℕ)
    → KeepsTriedBy thorough r (λ words. words ≡ p) g v old new → KeepsTriedBy thorough r HasWords g v old new
words_by false r HasWords p has g v old new kept = opened_words HasWords p has g v old new kept
words_by true r HasWords p has g v old new kept = sought_words r HasWords p has g v old new kept

pub keeps_words : (r : Rebuilding) (HasWords : List ℕ → Type 0) (p : List ℕ) → HasWords p → (v old new : List ℕ)
    → KeepsTried r (λ words. words ≡ p) v old new → KeepsTried r HasWords v old new
keeps_words r HasWords p has v old new (inl same) = inl same
keeps_words r HasWords p has v old new (inr kept) = inr (record {
  given = kept.given;
  is = kept.is;
  keeps = words_by r.thorough r HasWords p has kept.given v old new kept.keeps;
})

-- what is said of the target's bytes is said in other words
pub leaves_as : {D : Type 0} (tells : Type 0) (size : D → ℕ) (bytes : D → List ℕ) (says told : List ℕ → List ℕ → List ℕ → Type 0)
    → ((v old new : List ℕ) → says v old new → told v old new) → (volume old new : Result D InputFault)
    → LeavesTarget tells size bytes says volume old new → LeavesTarget tells size bytes told volume old new
leaves_as {D} tells size bytes says told each (Ok v) (Ok old) (Ok new) left = record { size = left.size; said = λ t. each (bytes v) (bytes old) (bytes new) (left.said t) }
leaves_as {D} tells size bytes says told each (Ok v) (Ok old) (Err f) left = absurd left
leaves_as {D} tells size bytes says told each (Ok v) (Err f) new left = left
leaves_as {D} tells size bytes says told each (Err f) old new left = left

-- ---- by whether a passphrase is named

pub tried_kept : {A D : Type 0} (o : Option A) (file : A) → o ≡ Some file → (tells : Type 0) (size : D → ℕ) (bytes : D → List ℕ) (r : Rebuilding)
    → (HasWords : List ℕ → Type 0) (volume old new : Result D InputFault)
    → LeavesTarget tells size bytes (KeepsTried r HasWords) volume old new → LeavesTarget tells size bytes (KeepsBy o r HasWords) volume old new
tried_kept {A} {D} o file is tells size bytes r HasWords volume old new left =
    subst (λ (x : Option A). LeavesTarget tells size bytes (KeepsBy x r HasWords) volume old new) (sym is) left

pub untried_kept : {A D : Type 0} (o : Option A) → o ≡ None → (tells : Type 0) (size : D → ℕ) (bytes : D → List ℕ) (r : Rebuilding)
    → (HasWords : List ℕ → Type 0) (volume old new : Result D InputFault)
    → LeavesTarget tells size bytes (KeepsRest r) volume old new → LeavesTarget tells size bytes (KeepsBy o r HasWords) volume old new
untried_kept {A} {D} o is tells size bytes r HasWords volume old new left =
    subst (λ (x : Option A). LeavesTarget tells size bytes (KeepsBy x r HasWords) volume old new) (sym is) left

pub tried_answers : {A D : Type 0} (o : Option A) (file : A) → o ≡ Some file → (tells : Type 0) (size : D → ℕ) (bytes : D → List ℕ) (failed : D → ℕ)
    → (r : Rebuilding) (HasWords : List ℕ → Type 0) (is_long : Type 0) (wordless unread : InputFault → Type 0) (HasRandom : List ℕ → Type 0)
    → (volume volume_new old new : Result D InputFault) (a : Answer)
    → IsWithPassphrase tells size bytes failed r HasWords is_long wordless unread HasRandom volume volume_new old new a
    → AnswersBy o tells size bytes failed r HasWords is_long wordless unread HasRandom volume volume_new old new a
tried_answers {A} {D} o file is tells size bytes failed r HasWords is_long wordless unread HasRandom volume volume_new old new a said =
    subst (λ (x : Option A). AnswersBy x tells size bytes failed r HasWords is_long wordless unread HasRandom volume volume_new old new a) (sym is) said

pub untried_answers : {A D : Type 0} (o : Option A) → o ≡ None → (tells : Type 0) (size : D → ℕ) (bytes : D → List ℕ) (failed : D → ℕ)
    → (r : Rebuilding) (HasWords : List ℕ → Type 0) (is_long : Type 0) (wordless unread : InputFault → Type 0) (HasRandom : List ℕ → Type 0)
    → (volume volume_new old new : Result D InputFault) (a : Answer)
    → AnswersHeader tells size bytes failed r.over (IsRebuildAnswer tells r) unread HasRandom volume volume_new old new a
    → AnswersBy o tells size bytes failed r HasWords is_long wordless unread HasRandom volume volume_new old new a
untried_answers {A} {D} o is tells size bytes failed r HasWords is_long wordless unread HasRandom volume volume_new old new a said =
    subst (λ (x : Option A). AnswersBy x tells size bytes failed r HasWords is_long wordless unread HasRandom volume volume_new old new a) (sym is) said

-- ---- a target that isn't to be written over

unworded_holds : {D : Type 0} (tells : Type 0) (bytes : D → List ℕ) (over : Bool) (is_long : Type 0) (wordless : InputFault → Type 0) (volume old : Result D InputFault) (a : Answer)
    → IsWordless is_long wordless a → HoldsBackHeader tells bytes over volume old old a
unworded_holds {D} tells bytes over is_long wordless (Ok v) (Ok d) a said = λ told is stands.
    (refl, wordless_answers (IsOtherTarget (bytes v) (bytes d)) (bytes d) is_long wordless a said)
unworded_holds {D} tells bytes over is_long wordless (Ok v) (Err f) a said = tt
unworded_holds {D} tells bytes over is_long wordless (Err f) old a said = tt

-- it isn't, with a passphrase or without
pub rebuild_holds : {A D : Type 0} (o : Option A) (tells : Type 0) (size : D → ℕ) (bytes : D → List ℕ) (failed : D → ℕ) (r : Rebuilding) (HasWords : List ℕ → Type 0) (is_long : Type 0)
    (wordless unread : InputFault → Type 0) (HasRandom : List ℕ → Type 0) (volume volume_new old new : Result D InputFault) (a : Answer)
    → AnswersBy o tells size bytes failed r HasWords is_long wordless unread HasRandom volume volume_new old new a → HoldsBackHeader tells bytes r.over volume old new a
rebuild_holds {A} {D} None tells size bytes failed r HasWords is_long wordless unread HasRandom volume volume_new old new a said =
    header_holds tells size bytes failed r.over (IsRebuildAnswer tells r) unread HasRandom volume volume_new old new a said
rebuild_holds {A} {D} (Some file) tells size bytes failed r HasWords is_long wordless unread HasRandom volume volume_new old new a (inl said) =
    subst (λ (n : Result D InputFault). HoldsBackHeader tells bytes r.over volume old n a) (sym said.target_same)
    (unworded_holds tells bytes r.over is_long wordless volume old a said.is)
rebuild_holds {A} {D} (Some file) tells size bytes failed r HasWords is_long wordless unread HasRandom volume volume_new old new a (inr said) =
    header_holds tells size bytes failed r.over (IsTriedAnswer tells r said.words) unread HasRandom volume volume_new old new a said.is
