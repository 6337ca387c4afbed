-- What `rebuild` answers, by what it met.
use Rattle.std.proofs.Common.{◌≡◌, ◌≢◌, List, ℕ, Bool, false, Option, None, refl, sym, subst, inl, inr, length, [], ◌∙◌}
use Rattle.luks_area.specs.Ranges.{SameBut}
use Rattle.luks_writing.specs.TwoDevices.{CountsAfter}
use Rattle.luks_rebuilding.specs.RebuildFaults.{is_rebuild_failure}
use Rattle.luks_rebuilding.specs.Outcome.{IsAnsweredFault, IsRebuildable, IsRebuildFault}
use Rattle.luks_rebuilding.specs.Rebuilt.{IsOfRebuilt}
use Rattle.luks_rebuilding.specs.declared.place.Which.{Which}
use Rattle.luks_rebuilding.specs.declared.rebuild_fault.RebuildFault.{RebuildFault}
use Rattle.luks_rebuilding.specs.declared.rebuild_fault.RebuildFault.TheVariants.{Counts, NoMetadata, Memory, Device}
use Rattle.luks1_mending.specs.declared.given.Given.{Given}
use Rattle.luks1_rebuilding.specs.RebuildFaults.{is_rebuild_failure as is_rebuild1_failure}
use Rattle.luks1_rebuilding.specs.KeyAreas.{header_of}
use Rattle.luks1_rebuilding.specs.Outcome.{IsAnsweredFault as IsAnsweredFault1, IsRebuildable as IsRebuildable1, LacksHeader}
use Rattle.luks1_rebuilding.specs.declared.rebuild_fault.Rebuild1Fault.{Rebuild1Fault}
use Rattle.luks1_rebuilding.specs.declared.rebuild_fault.Rebuild1Fault.TheVariants as fault1
use Rattle.luks_request.specs.declared.rebuilding.Meant.TheVariants.{Luks1, Luks2, Either}
use Rattle.luks_request.specs.declared.rebuilding.Meant.{Meant}
use Rattle.luks_request.specs.declared.rebuilding.Rebuilding.{Rebuilding}
use Rattle.luks_commands.specs.declared.answers.Answer.{Answer}
use Rattle.luks_commands.specs.declared.answers.Answer.TheVariants as answer
use Rattle.luks_commands.specs.declared.answers.Refusal.TheVariants as refusal
use Rattle.luks_commands.specs.declared.answers.Status.TheVariants.{NotInStep}
use Rattle.luks_commands.specs.Answer.{answer_status, rebuild_fault_answer, rebuild1_fault_answer}
use Rattle.luks_header_commands.specs.Rebuilding.{given_of, copies_asked, IsAnswerOf, IsLuks1Answer, IsLuks2Answer, IsNewHeader, IsNewHeader1, KeepsMeant, LeadsToLuks1, StaysLuks2}
use Rattle.luks_header_commands.specs.Target.{IsLater, NoneFailed, Pair}
use Rattle.luks_header_commands.proofs.TargetFacts.{bytes_later, none_later, one_later, said_later, same_later}
use Rattle.luks_header_commands.specs.Turned.{stays, turns, unread, IsTurnedRest, MayLead, Turned}

-- a fault of LUKS2 that isn't a device's left the target as it was
pub answers_fault : (tells : Type 0) (which : Which) (given : Option (List ℕ)) (random : List ℕ) (d : Pair) (f : RebuildFault)
    → CountsAfter (is_rebuild_failure f) d.volume_before d.volume_after d.before d.after
    → (is_rebuild_failure f ≡ false → tells → d.new ≡ d.old) → (tells → IsAnsweredFault d.volume which given d.total random f)
    → IsLuks2Answer tells which given random d (rebuild_fault_answer f)
answers_fault tells which given random d Device count same is = count
answers_fault tells which given random d Memory count same is = (count, same refl, is)
answers_fault tells which given random d f count same is = (count, same refl, is)

-- and one of LUKS1
pub answers_fault1 : (tells : Type 0) (given : Given) (d : Pair) (f : Rebuild1Fault)
    → CountsAfter (is_rebuild1_failure f) d.volume_before d.volume_after d.before d.after
    → (is_rebuild1_failure f ≡ false → tells → d.new ≡ d.old) → (tells → IsAnsweredFault1 d.volume given d.total f)
    → IsLuks1Answer tells given d (rebuild1_fault_answer f)
answers_fault1 tells given d fault1.Device count same is = count
answers_fault1 tells given d f count same is = (count, same refl, is)

pub luks1_kinds : (tells : Type 0) (given : Given) (d : Pair) (a : Answer) → IsLuks1Answer tells given d a → answer_status a ≢ NotInStep
luks1_kinds tells given d (answer.Done slot) is = λ e. cc
luks1_kinds tells given d (answer.Refused r) is = λ e. cc
luks1_kinds tells given d answer.DeviceFault is = λ e. cc
luks1_kinds tells given d a is = absurd is

-- a target that is as it was has kept its rest
same_but : (touched : ℕ → Type 0) (bytes : List ℕ) → SameBut touched bytes bytes
same_but touched bytes = record { length_same = refl; each = λ p apart. refl }

-- ---- LUKS2's fault, then what is answered in its place

-- what LUKS1 answers
pub luks1_later : (tells : Type 0) (given : Given) (d e : Pair) (a : Answer) → IsLater tells d e → IsLuks1Answer tells given d a → IsLuks1Answer tells given e a
luks1_later tells given d e (answer.Done slot) later said = (
  none_later tells d e later said.0,
  said.1,
  said_later tells d e (λ v n. IsRebuildable1 v given n) later said.2,
  bytes_later tells d e (λ v old new. IsNewHeader1 v given old new) later said.3,
)
luks1_later tells given d e (answer.Refused (refusal.Rebuild1 fault1.Device)) later said = said
luks1_later tells given d e (answer.Refused (refusal.Rebuild1 f)) later said = (
  none_later tells d e later said.0,
  same_later tells d e later said.1,
  said_later tells d e (λ v n. IsAnsweredFault1 v given n f) later said.2,
)
luks1_later tells given d e answer.DeviceFault later said = one_later tells d e later said
luks1_later tells given d e a later said = absurd said

-- what LUKS2 answers
luks2_later : (tells : Type 0) (which : Which) (given : Option (List ℕ)) (random : List ℕ) (d e : Pair) (a : Answer) → IsLater tells d e
    → IsLuks2Answer tells which given random d a → IsLuks2Answer tells which given random e a
luks2_later tells which given random d e (answer.Done slot) later said = (
  none_later tells d e later said.0,
  said.1,
  said_later tells d e (λ v n. IsRebuildable v which given n random) later said.2,
  bytes_later tells d e (λ v old new. IsNewHeader v which given random old new) later said.3,
)
luks2_later tells which given random d e (answer.Refused (refusal.Rebuild Device)) later said = said
luks2_later tells which given random d e (answer.Refused (refusal.Rebuild Memory)) later said = said
luks2_later tells which given random d e (answer.Refused (refusal.Rebuild f)) later said = (
  none_later tells d e later said.0,
  same_later tells d e later said.1,
  said_later tells d e (λ v n. IsAnsweredFault v which given n random f) later said.2,
)
luks2_later tells which given random d e answer.DeviceFault later said = one_later tells d e later said
luks2_later tells which given random d e answer.NoMemory later said = (
  none_later tells d e later said.0,
  same_later tells d e later said.1,
  said_later tells d e (λ v n. IsAnsweredFault v which given n random Memory) later said.2,
)
luks2_later tells which given random d e a later said = absurd said

-- and what is answered of what is meant
pub meant_later : (meant : Meant) (tells : Type 0) (r : Rebuilding) (given : Given) (random : List ℕ) (d e : Pair) (a : Answer) → IsLater tells d e
    → IsAnswerOf meant tells r given random d a → IsAnswerOf meant tells r given random e a
meant_later Luks1 tells r given random d e a later said = luks1_later tells given d e a later said
meant_later Luks2 tells r given random d e a later said = luks2_later tells (copies_asked r) (given_of r) random d e a later said
meant_later Either tells r given random d e a later (inl said) =
    inl (luks2_later tells (copies_asked r) (given_of r) random d e a later said.0, λ told. subst (λ (v : List ℕ). StaysLuks2 v a) (later.volume told) (said.1 told))
meant_later Either tells r given random d e a later (inr said) = inr (record {
  fault = said.fault;
  first = said_later tells d e (λ v n. IsAnsweredFault v (copies_asked r) (given_of r) n random said.fault) later said.first;
  leads = said_later tells d e (λ v n. LeadsToLuks1 v said.fault) later said.leads;
  is = luks1_later tells given d e a later said.is;
  has_header = said.has_header;
})

-- a fault that may lead to LUKS1 is no device's, and is answered as it is
led_unfailed : (f : RebuildFault) → MayLead f → is_rebuild_failure f ≡ false
led_unfailed NoMetadata led = refl
led_unfailed Counts led = refl
led_unfailed f led = absurd led

led_is : (f : RebuildFault) → MayLead f → rebuild_fault_answer f ≡ answer.Refused (refusal.Rebuild f)
led_is NoMetadata led = refl
led_is Counts led = refl
led_is f led = absurd led

led_answer : (tells : Type 0) (which : Which) (given : Option (List ℕ)) (random : List ℕ) (e : Pair) (f : RebuildFault) → MayLead f
    → NoneFailed e → (tells → e.new ≡ e.old) → (tells → IsAnsweredFault e.volume which given e.total random f)
    → IsLuks2Answer tells which given random e (answer.Refused (refusal.Rebuild f))
led_answer tells which given random e NoMetadata led none same first = (none, same, first)
led_answer tells which given random e Counts led none same first = (none, same, first)
led_answer tells which given random e f led none same first = absurd led

-- the same fault, of the copies that are asked for
pub unfailed_as : (f0 f : RebuildFault) → f0 ≡ f → MayLead f → is_rebuild_failure f0 ≡ false
unfailed_as f0 f same led = subst (λ (x : RebuildFault). is_rebuild_failure x ≡ false) (sym same) (led_unfailed f led)

pub counts_unfailed : (b : Bool) (s t u w : ℕ) → b ≡ false → CountsAfter b s t u w → (t ≡ s) × (w ≡ u)
counts_unfailed b s t u w is count = subst (λ (x : Bool). CountsAfter x s t u w) is count

first_as : (v : List ℕ) (w w' : Which) (given : Option (List ℕ)) (total : ℕ) (random : List ℕ) (f0 f : RebuildFault) → w ≡ w' → f0 ≡ f
    → IsAnsweredFault v w given total random f0 → IsAnsweredFault v w' given total random f
first_as v w w' given total random f0 f same_which same said =
    subst (λ (x : Which). IsAnsweredFault v x given total random f) same_which (subst (λ (x : RebuildFault). IsAnsweredFault v w given total random x) same said)

led_there : (v : List ℕ) (w : Which) (given : Option (List ℕ)) (total : ℕ) (random : List ℕ) (f : RebuildFault) → MayLead f
    → IsAnsweredFault v w given total random f → IsRebuildFault v w None 0 [] f
led_there v w given total random NoMetadata led said = said.0
led_there v w given total random Counts led said = said.0
led_there v w given total random f led said = absurd led

-- ---- in the place of LUKS2

-- the volume lacks signs of a header, so that LUKS2's fault is the answer
pub lacking_stays : (tells : Type 0) (luks1 : Given) (f : RebuildFault) (d : Pair) (a : Answer) → MayLead f
    → IsLuks1Answer tells luks1 d (answer.Refused (refusal.Rebuild1 fault1.NoHeader)) → a ≡ rebuild_fault_answer f → Turned tells luks1 f d a
lacking_stays tells luks1 f d a led said is = stays said.0 said.1 (λ told leads. (said.2 told).0) (is ∙ led_is f led)

-- it doesn't lead there
pub unled_stays : (tells : Type 0) (luks1 : Given) (f : RebuildFault) (d : Pair) (a : Answer) → MayLead f
    → NoneFailed d → (tells → d.new ≡ d.old) → (tells → LeadsToLuks1 d.volume f → ⊥) → a ≡ rebuild_fault_answer f → Turned tells luks1 f d a
unled_stays tells luks1 f d a led none same unled is = stays none same (λ told leads. absurd (unled told leads)) (is ∙ led_is f led)

-- it is so of what has begun later
pub turned_later : (tells : Type 0) (luks1 : Given) (f : RebuildFault) (d e : Pair) (a : Answer) → IsLater tells d e → Turned tells luks1 f d a → Turned tells luks1 f e a
turned_later tells luks1 f d e a later (stays none same lacks is) =
    stays (none_later tells d e later none) (same_later tells d e later same)
    (λ told. subst (λ (v : List ℕ). LeadsToLuks1 v f → LacksHeader (header_of v) (length v)) (later.volume told) (lacks told)) is
turned_later tells luks1 f d e a later (unread one is) = unread (one_later tells d e later one) is
turned_later tells luks1 f d e a later (turns leads said has) =
    turns (said_later tells d e (λ v n. LeadsToLuks1 v f) later leads) (luks1_later tells luks1 d e a later said) has

-- what is answered of either version then
turned_either : (tells : Type 0) (r : Rebuilding) (luks1 : Given) (random : List ℕ) (e : Pair) (f : RebuildFault) (a : Answer) → MayLead f
    → (tells → IsAnsweredFault e.volume (copies_asked r) (given_of r) e.total random f) → Turned tells luks1 f e a → IsAnswerOf Either tells r luks1 random e a
turned_either tells r luks1 random e f a led first (stays none same lacks is) =
    inl (
      subst (IsLuks2Answer tells (copies_asked r) (given_of r) random e) (sym is) (led_answer tells (copies_asked r) (given_of r) random e f led none same first),
      λ told. subst (StaysLuks2 e.volume) (sym is) (lacks told),
    )
turned_either tells r luks1 random e f a led first (unread one is) =
    inl (subst (IsLuks2Answer tells (copies_asked r) (given_of r) random e) (sym is) one, λ told. subst (StaysLuks2 e.volume) (sym is) tt)
turned_either tells r luks1 random e f a led first (turns leads said has) = inr (record { fault = f; first = first; leads = leads; is = said; has_header = has })

pub turned_answers : (tells : Type 0) (r : Rebuilding) (luks1 : Given) (random : List ℕ) (d e : Pair) (w : Which) (f0 f : RebuildFault) (a : Answer) → MayLead f → w ≡ copies_asked r
    → f0 ≡ f → IsLater tells d e → (tells → IsAnsweredFault e.volume w (given_of r) e.total random f0) → Turned tells luks1 f d a → IsAnswerOf Either tells r luks1 random e a
turned_answers tells r luks1 random d e w f0 f a led same_which same later first turned =
    turned_either tells r luks1 random e f a led (λ told. first_as e.volume w (copies_asked r) (given_of r) e.total random f0 f same_which same (first told))
    (turned_later tells luks1 f d e a later turned)

-- LUKS2 answers otherwise
pub other_stays : (v : List ℕ) (f : RebuildFault) → (f ≡ NoMetadata → ⊥) → (f ≡ Counts → ⊥) → StaysLuks2 v (rebuild_fault_answer f)
other_stays v NoMetadata a b = absurd (a refl)
other_stays v Counts a b = absurd (b refl)
other_stays v Memory a b = tt
other_stays v Device a b = tt
other_stays v f a b = λ leads. absurd leads.leads

-- which bytes have changed then
turned_kept : (r : Rebuilding) (luks1 : Given) (f : RebuildFault) (v old new : List ℕ) → IsRebuildFault v (copies_asked r) None 0 [] f → IsTurnedRest luks1 f v old new
    → KeepsMeant Either r luks1 v old new
turned_kept r luks1 f v old new is (inl same) = inl (subst (λ (n : List ℕ). SameBut (IsOfRebuilt v (copies_asked r)) old n) (sym same) (same_but _ old))
turned_kept r luks1 f v old new is (inr x) = inr (record { fault = f; is = is; leads = x.0 }, x.1)

pub turned_rest : (r : Rebuilding) (luks1 : Given) (w : Which) (total : ℕ) (random : List ℕ) (f0 f : RebuildFault) (v v' old old' new : List ℕ) → MayLead f → w ≡ copies_asked r → f0 ≡ f
    → v' ≡ v → old' ≡ old → IsAnsweredFault v w (given_of r) total random f0 → IsTurnedRest luks1 f v' old' new → KeepsMeant Either r luks1 v old new
turned_rest r luks1 w total random f0 f v v' old old' new led same_which same same_v same_old first rest =
    turned_kept r luks1 f v old new
    (led_there v (copies_asked r) (given_of r) total random f led (first_as v w (copies_asked r) (given_of r) total random f0 f same_which same first))
    (subst (λ (o : List ℕ). IsTurnedRest luks1 f v o new) same_old (subst (λ (x : List ℕ). IsTurnedRest luks1 f x old' new) same_v rest))
