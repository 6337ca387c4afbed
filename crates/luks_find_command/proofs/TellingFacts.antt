-- The lines of volumes that were found.
use Rattle.std.proofs.Common.{◌≡◌, ◌≢◌, ℕ, ◌+◌, List, [], ◌∷◌, ◌++◌, Option, None, Some, IfSome, Result, Ok, Err, IfErr, OnOk, drop, codes, option_map, inl, inr, refl, sym, ap, ◌∙◌, subst, append_assoc}
use Rattle.std.proofs.lemmas.List.{append-nil}
use Rattle.std.proofs.KnownBytes.{Appends-nil, Appends-trans}
use Rattle.std.specs.Fmt.{decimal}
use Rattle.std.specs.Io.KnownBytes.{Appends}
use Rattle.luks_reading.specs.declared.report.Data.TheVariants.{Here}
use Rattle.luks_commands.specs.Answer.{line_of}
use Rattle.luks_commands.specs.CheckAnswers.{IsCheckAnswer}
use Rattle.luks_commands.specs.declared.answers.Answer.{Answer}
use Rattle.luks_commands.specs.declared.answers.Answer.TheVariants as answer
use Rattle.luks_commands.specs.declared.answers.Refusal.TheVariants as refusal
use Rattle.luks_find_command.specs.Lines.{start_line, AreLines, AreLinesBy, IsVerdict}
use Rattle.luks_find_command.specs.SameUuids.{ArePairedBy, HasUuid, KnowsUuid, MeetsAny, MeetsBy, TellsPair}
use Rattle.luks_find_command.specs.Searches.{told_of, HasPaired, HasTold, HasToldBy, HasToldPart, TellsPart, TellsStepBy, Told}
use Rattle.luks_find_command.specs.Unreads.{Hears}
use Rattle.luks_find_command.specs.declared.met.Met.{Met}
use Rattle.luks_find_command.specs.declared.same_uuid.SameUuid.{SameUuid}
use Rattle.luks_find_command.specs.declared.stop.Stop.{Stop}
use Rattle.luks_find_command.specs.declared.stop.Stop.TheVariants as stop

-- what `check` answers where no call failed and memory was given
pub verdict-of : (tells : Type 0) (v : List ℕ) (before after : ℕ) (a : Answer) → IsCheckAnswer tells v Here before after a → a ≢ answer.DeviceFault → a ≢ answer.NoMemory
    → (after ≡ before) × (tells → IsVerdict v a)
verdict-of tells v before after (answer.Accepted version areas) is device memory = is
verdict-of tells v before after (answer.Refused (refusal.Check f)) is device memory = is
verdict-of tells v before after answer.DeviceFault is device memory = absurd (device refl)
verdict-of tells v before after answer.NoMemory is device memory = absurd (memory refl)
verdict-of tells v before after a is device memory = absurd is

-- the uuid is known then
pub known-uuid : (v : List ℕ) (a : Answer) (uuid : Option (List ℕ)) → KnowsUuid v a uuid → a ≢ answer.DeviceFault → a ≢ answer.NoMemory → HasUuid v uuid
known-uuid v answer.DeviceFault uuid knows device memory = absurd (device refl)
known-uuid v answer.NoMemory uuid knows device memory = absurd (memory refl)
known-uuid v a uuid knows device memory = knows

-- has a line
verdict-line : (v : List ℕ) (a : Answer) → IsVerdict v a → (text : List ℕ) × (line_of a ≡ Some text)
verdict-line v (answer.Accepted version areas) is = (_, refl)
verdict-line v (answer.Refused (refusal.Check f)) is = (_, refl)
verdict-line v a is = absurd is

-- ---- what is said of volumes with one uuid

-- the text of two of them, piece by piece
pub joined_pair : (m n : List ℕ) → codes "the volumes at bytes " ++ (m ++ (codes " and " ++ (n ++ codes " have the same uuid: a move broke off, or one is a copy of the header")))
    ≡ codes "the volumes at bytes " ++ m ++ codes " and " ++ n ++ codes " have the same uuid: a move broke off, or one is a copy of the header"
joined_pair m n = simp append_assoc refl

pub hears-none : {A : Type 0} (a : Option (List A)) → Hears a a []
hears-none {A} None = refl
hears-none {A} (Some us) = ap Some (sym (append-nil us))

pub hears-same : {A : Type 0} (a b : Option (List A)) → b ≡ a → Hears a b []
hears-same {A} a b same = subst (λ (o : Option (List A)). Hears a o []) (sym same) (hears-none a)

pub hears-join : {A : Type 0} (a b c : Option (List A)) (xs ys : List A) → Hears a b xs → Hears b c ys → Hears a c (xs ++ ys)
hears-join {A} None None c xs ys left right = right
hears-join {A} None (Some us) c xs ys left right = absurd (cc)
hears-join {A} (Some us) b c xs ys left right =
    let more : Hears (Some (us ++ xs)) c ys = subst (λ (o : Option (List A)). Hears o c ys) left right in
    more ∙ ap Some (append_assoc us xs ys)

-- nothing of no volume
paired-none : (failing : Type 0) (offset : ℕ) (v : List ℕ) (a : Told) → HasPaired failing offset v [] a a
paired-none failing offset v a = record { pairs = []; are = (refl, refl); names = hears-none a.said }

-- of one
paired-one : (failing : Type 0) (offset : ℕ) (v : List ℕ) (s : ℕ) (a b : Told) (pairs : List SameUuid) → MeetsBy failing offset v a.met s b.met pairs → Hears a.said b.said pairs
    → HasPaired failing offset v (s ∷ []) a b
paired-one failing offset v s a b pairs meets names = record {
  pairs = pairs;
  are = (b.met, pairs, [], meets, (refl, refl), sym (append-nil pairs));
  names = names;
}

pairs-join : (failing : Type 0) (offset : ℕ) (v xs ys : List ℕ) (a b c : List Met) (ps qs : List SameUuid) → ArePairedBy failing offset v a xs b ps → ArePairedBy failing offset v b ys c qs
    → ArePairedBy failing offset v a (xs ++ ys) c (ps ++ qs)
pairs-join failing offset v [] ys a b c ps qs left right =
    subst (λ (l : List SameUuid). ArePairedBy failing offset v a ys c (l ++ qs)) (sym left.1) (subst (λ (m : List Met). ArePairedBy failing offset v m ys c qs) left.0 right)
pairs-join failing offset v (x ∷ xs) ys a b c ps qs left right = (
  left.0,
  left.1,
  left.2 ++ qs,
  left.3,
  pairs-join failing offset v xs ys left.0 b c left.2 qs left.4 right,
  ap (λ l. l ++ qs) left.5 ∙ append_assoc left.1 left.2 qs,
)

-- of some, and then of more
paired-join : (failing : Type 0) (offset : ℕ) (v xs ys : List ℕ) (a b c : Told) → HasPaired failing offset v xs a b → HasPaired failing offset v ys b c → HasPaired failing offset v (xs ++ ys) a c
paired-join failing offset v xs ys a b c left right = record {
  pairs = left.pairs ++ right.pairs;
  are = pairs-join failing offset v xs ys a.met b.met c.met left.pairs right.pairs left.are right.are;
  names = hears-join a.said b.said c.said left.pairs right.pairs left.names right.names;
}

pairs-weaker : (F G : Type 0) (offset : ℕ) (v xs : List ℕ) (a b : List Met) (ps : List SameUuid) → (F → G) → ArePairedBy F offset v a xs b ps → ArePairedBy G offset v a xs b ps
pairs-weaker F G offset v [] a b ps so are = are
pairs-weaker F G offset v (x ∷ xs) a b ps so are = (
  are.0,
  are.1,
  are.2,
  elim are.3 [
    | inl met ↦ inl met
    | inr unread ↦ inr (so unread.0, unread.1, unread.2)
  ],
  pairs-weaker F G offset v xs are.0 b are.2 so are.4,
  are.5,
)

pub paired-weaker : (F G : Type 0) (offset : ℕ) (v xs : List ℕ) (a b : Told) → (F → G) → HasPaired F offset v xs a b → HasPaired G offset v xs a b
paired-weaker F G offset v xs a b so is = record { pairs = is.pairs; are = pairs-weaker F G offset v xs a.met b.met is.pairs so is.are; names = is.names }

-- one volume with a uuid, or with none
pub meets-one : (failing : Type 0) (offset : ℕ) (v : List ℕ) (s : ℕ) (uuid : Option (List ℕ)) (met now : List Met) (pairs : List SameUuid) → HasUuid (drop s v) uuid
    → MeetsAny met uuid (offset + s) now pairs → MeetsBy failing offset v met s now pairs
meets-one failing offset v s uuid met now pairs has meets = inl (uuid, has, meets)

-- one volume
pub told-one : (failing : Type 0) (offset : ℕ) (v : List ℕ) (s : ℕ) (a : Answer) (uuid : Option (List ℕ)) (held holds : Told) → IsVerdict (drop s v) a → HasUuid (drop s v) uuid
    → IfSome (start_line (offset + s) a) (Appends held.printed holds.printed) → TellsPair held.met uuid (offset + s) holds.met held.said holds.said → HasToldBy failing offset v (s ∷ []) held holds
told-one failing offset v s a uuid held holds says has printed paired =
    let text = verdict-line (drop s v) a says in
    let first : List ℕ = decimal (offset + s) ++ codes " " ++ text.0 in
    let is : start_line (offset + s) a ≡ Some first = ap (option_map (λ t. decimal (offset + s) ++ codes " " ++ t)) text.1 in
    record {
      lines = first;
      are = (first, [], inl (record { verdict = a; says = says; is = is }), refl, sym (append-nil first));
      printed = subst (λ (o : Option (List ℕ)). IfSome o (Appends held.printed holds.printed)) is printed;
      paired = paired-one failing offset v s held holds paired.pairs (meets-one failing offset v s uuid held.met holds.met paired.pairs has paired.are) paired.names;
    }

-- one of which not all can be read
told-unread : (failing : Type 0) (offset : ℕ) (v : List ℕ) (s : ℕ) (held : Told) (holds : Option (List ℕ)) → failing
    → IfSome (start_line (offset + s) answer.DeviceFault) (Appends held.printed holds) → HasToldBy failing offset v (s ∷ []) held (told_of holds held.met held.said)
told-unread failing offset v s held holds fails printed = record {
  lines = _;
  are = (_, [], inr (fails, record { is = refl }), refl, sym (append-nil _));
  printed = printed;
  paired = paired-one failing offset v s held (told_of holds held.met held.said) [] (inr (fails, refl, refl)) (hears-none held.said);
}

pub unread-step : (failing : Type 0) (offset : ℕ) (v : List ℕ) (s prints prints_now : ℕ) (held : Told) (holds : Option (List ℕ)) (r : Result (Unit {0}) Stop) → failing
    → IfErr r (λ why. (why ≡ stop.Unprinted) × (prints_now ≡ prints + 1)) → OnOk r (IfSome (start_line (offset + s) answer.DeviceFault) (Appends held.printed holds))
    → TellsStepBy failing offset v (s ∷ []) held (told_of holds held.met held.said) r
unread-step failing offset v s prints prints_now held holds (Ok done) fails unprinted printed = told-unread failing offset v s held holds fails printed
unread-step failing offset v s prints prints_now held holds (Err why) fails unprinted printed =
    subst (TellsPart failing offset v (s ∷ []) held (told_of holds held.met held.said)) (sym unprinted.0) tt

-- none
pub told-none : (failing : Type 0) (offset : ℕ) (v : List ℕ) (held : Told) → HasToldBy failing offset v [] held held
told-none failing offset v held = record { lines = []; are = refl; printed = Appends-nil held.printed; paired = paired-none failing offset v held }

pub part-none : (failing : Type 0) (offset : ℕ) (v list : List ℕ) (held : Told) → HasToldPart failing offset v list held held
part-none failing offset v list held = record { told = []; untold = list; is = refl; has = told-none failing offset v held }

lines-join : (failing : Type 0) (offset : ℕ) (v xs ys text more : List ℕ) → AreLinesBy failing offset v xs text → AreLinesBy failing offset v ys more
    → AreLinesBy failing offset v (xs ++ ys) (text ++ more)
lines-join failing offset v [] ys text more left right = subst (λ (l : List ℕ). AreLinesBy failing offset v ys (l ++ more)) (sym left) right
lines-join failing offset v (x ∷ xs) ys text more left right =
    (left.0, left.1 ++ more, left.2, lines-join failing offset v xs ys left.1 more left.3 right, ap (λ l. l ++ more) left.4 ∙ append_assoc left.0 left.1 more)

-- some, and then more
pub told-join : (failing : Type 0) (offset : ℕ) (v xs ys : List ℕ) (a b c : Told) → HasToldBy failing offset v xs a b → HasToldBy failing offset v ys b c
    → HasToldBy failing offset v (xs ++ ys) a c
told-join failing offset v xs ys a b c left right = record {
  lines = left.lines ++ right.lines;
  are = lines-join failing offset v xs ys left.lines right.lines left.are right.are;
  printed = Appends-trans a.printed b.printed c.printed left.lines right.lines left.printed right.printed;
  paired = paired-join failing offset v xs ys a b c left.paired right.paired;
}

-- ---- whether reads failed

pub lines-weaker : (F G : Type 0) (offset : ℕ) (v xs text : List ℕ) → (F → G) → AreLinesBy F offset v xs text → AreLinesBy G offset v xs text
lines-weaker F G offset v [] text so are = are
lines-weaker F G offset v (x ∷ xs) text so are = (
  are.0,
  are.1,
  elim are.2 [
    | inl line ↦ inl line
    | inr line ↦ inr (so line.0, line.1)
  ],
  lines-weaker F G offset v xs are.1 so are.3,
  are.4,
)

pub told-weaker : (F G : Type 0) (offset : ℕ) (v xs : List ℕ) (a b : Told) → (F → G) → HasToldBy F offset v xs a b → HasToldBy G offset v xs a b
told-weaker F G offset v xs a b so told = record { lines = told.lines; are = lines-weaker F G offset v xs told.lines so told.are; printed = told.printed; paired = paired-weaker F G offset v xs a b so told.paired }

lines-exact : (F : Type 0) (offset : ℕ) (v xs text : List ℕ) → (F → ⊥) → AreLinesBy F offset v xs text → AreLines offset v xs text
lines-exact F offset v [] text none are = are
lines-exact F offset v (x ∷ xs) text none are = (
  are.0,
  are.1,
  elim are.2 [
    | inl line ↦ line
    | inr line ↦ absurd (none line.0)
  ],
  lines-exact F offset v xs are.1 none are.3,
  are.4,
)

-- where none failed each line is exact
pub told-exact : (F : Type 0) (offset : ℕ) (v xs : List ℕ) (a b : Told) → (F → ⊥) → HasToldBy F offset v xs a b → HasTold offset v xs a b
told-exact F offset v xs a b none told = record { lines = told.lines; are = lines-exact F offset v xs told.lines none told.are; printed = told.printed; paired = paired-weaker F ⊥ offset v xs a b none told.paired }

lines-any : (F : Type 0) (offset : ℕ) (v xs text : List ℕ) → AreLines offset v xs text → AreLinesBy F offset v xs text
lines-any F offset v [] text are = are
lines-any F offset v (x ∷ xs) text are = (are.0, are.1, inl are.2, lines-any F offset v xs are.1 are.3, are.4)

pub told-any : (F : Type 0) (offset : ℕ) (v xs : List ℕ) (a b : Told) → HasTold offset v xs a b → HasToldBy F offset v xs a b
told-any F offset v xs a b told = record { lines = told.lines; are = lines-any F offset v xs told.lines told.are; printed = told.printed; paired = paired-weaker ⊥ F offset v xs a b (λ none. absurd none) told.paired }

part-weaker : (F G : Type 0) (offset : ℕ) (v list : List ℕ) (a b : Told) → (F → G) → HasToldPart F offset v list a b → HasToldPart G offset v list a b
part-weaker F G offset v list a b so is = record { told = is.told; untold = is.untold; is = is.is; has = told-weaker F G offset v is.told a b so is.has }

pub stop-weaker : (F G : Type 0) (offset : ℕ) (v list : List ℕ) (a b : Told) (why : Stop) → (F → G) → TellsPart F offset v list a b why → TellsPart G offset v list a b why
stop-weaker F G offset v list a b stop.Device so is = part-weaker F G offset v list a b so is
stop-weaker F G offset v list a b stop.Memory so is = part-weaker F G offset v list a b so is
stop-weaker F G offset v list a b stop.Unprinted so is = tt

pub step-weaker : (F G : Type 0) (offset : ℕ) (v list : List ℕ) (a b : Told) (r : Result (Unit {0}) Stop) → (F → G) → TellsStepBy F offset v list a b r → TellsStepBy G offset v list a b r
step-weaker F G offset v list a b (Ok done) so is = told-weaker F G offset v list a b so is
step-weaker F G offset v list a b (Err why) so is = stop-weaker F G offset v list a b why so is

-- ---- a step

part-behind : (F : Type 0) (offset : ℕ) (v xs list : List ℕ) (a b c : Told) → HasToldBy F offset v xs a b → HasToldPart F offset v list b c → HasToldPart F offset v (xs ++ list) a c
part-behind F offset v xs list a b c told is = record {
  told = xs ++ is.told;
  untold = is.untold;
  is = ap (λ l. xs ++ l) is.is ∙ sym (append_assoc xs is.told is.untold);
  has = told-join F offset v xs is.told a b c told is.has;
}

-- two, of which the first was told
pub step-two : (F : Type 0) (offset : ℕ) (v : List ℕ) (s t : ℕ) (a b c : Told) (r : Result (Unit {0}) Stop) → HasToldBy F offset v (s ∷ []) a b → TellsStepBy F offset v (t ∷ []) b c r
    → TellsStepBy F offset v (s ∷ t ∷ []) a c r
step-two F offset v s t a b c (Ok done) told then = told-join F offset v (s ∷ []) (t ∷ []) a b c told then
step-two F offset v s t a b c (Err stop.Device) told then = part-behind F offset v (s ∷ []) (t ∷ []) a b c told then
step-two F offset v s t a b c (Err stop.Memory) told then = part-behind F offset v (s ∷ []) (t ∷ []) a b c told then
step-two F offset v s t a b c (Err stop.Unprinted) told then = tt

part-longer : (F : Type 0) (offset : ℕ) (v list more : List ℕ) (a b : Told) → HasToldPart F offset v list a b → HasToldPart F offset v (list ++ more) a b
part-longer F offset v list more a b is = record {
  told = is.told;
  untold = is.untold ++ more;
  is = ap (λ l. l ++ more) is.is ∙ append_assoc is.told is.untold more;
  has = is.has;
}

-- or wasn't
pub stops-longer : (F : Type 0) (offset : ℕ) (v list more : List ℕ) (a b : Told) (why : Stop) → TellsPart F offset v list a b why → TellsPart F offset v (list ++ more) a b why
stops-longer F offset v list more a b stop.Device is = part-longer F offset v list more a b is
stops-longer F offset v list more a b stop.Memory is = part-longer F offset v list more a b is
stops-longer F offset v list more a b stop.Unprinted is = tt

-- all of a step, behind which memory is refused
pub part-all : (F : Type 0) (offset : ℕ) (v list : List ℕ) (a b : Told) → HasToldBy F offset v list a b → HasToldPart F offset v list a b
part-all F offset v list a b told = record { told = list; untold = []; is = sym (append-nil list); has = told }
