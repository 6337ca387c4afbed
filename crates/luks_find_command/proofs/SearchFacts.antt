-- What a search has told, from step to step.
use Rattle.std.proofs.Common.{◌≡◌, ℕ, ◌+◌, ◌<◌, ◌≤◌, ◌⊎◌, List, [], ◌∷◌, ◌++◌, length, Option, Some, Result, Ok, Err, IfOk, IfErr, OnOk, inl, inr, refl, sym, ap, ◌∙◌, subst, arith, append_assoc}
use Rattle.std.proofs.lemmas.Bool.{cases_lt}
use Rattle.std.proofs.lemmas.List.{append-nil}
use Rattle.std.proofs.KnownBytes.{Appends-trans}
use Rattle.std.specs.Io.KnownBytes.{Appends}
use Rattle.luks_commands.specs.Answer.{line_of}
use Rattle.luks_commands.specs.declared.answers.Answer.{Answer}
use Rattle.luks_commands.specs.declared.answers.Answer.TheVariants.{DeviceFault, NoMemory}
use Rattle.luks_finding.specs.Finding.{AreStartsBetween, GoesOn, HasNoSignFrom, TellsNext}
use Rattle.luks_finding.specs.Readable.{AreReadTo}
use Rattle.luks_finding.specs.declared.finding.Step.{Step}
use Rattle.luks_finding.specs.declared.finding.Step.TheVariants.{Start, Two, On, End}
use Rattle.luks_finding.specs.declared.passed.Passed.{Passed}
use Rattle.luks_finding.proofs.FurtherFacts.{read-all, read-so-far}
use Rattle.luks_finding.proofs.ListFacts.{none-between, none-yet, starts-all, starts-join}
use Rattle.luks_find_command.specs.FindAnswers.{run_of, IsFindRun, TellsAll, TellsFirst, TellsRead}
use Rattle.luks_find_command.specs.Lines.{end_line, found_status, none_found}
use Rattle.luks_find_command.specs.SameUuids.{SaysPairs}
use Rattle.luks_find_command.specs.Searches.{starts_in, told_of, CountsSome, Finishes, HasPaired, HasTold, HasToldBy, HasToldFirst, HasToldPart, HasToldRead, IsToldAll, IsToldCalmly, IsToldFirst, SearchesAll, SearchesFirst, SearchesOn, TellsPart, Told}
use Rattle.luks_find_command.specs.Stops.{StopsBy}
use Rattle.luks_find_command.specs.declared.met.Met.{Met}
use Rattle.luks_find_command.specs.declared.same_uuid.SameUuid.{SameUuid}
use Rattle.luks_find_command.specs.declared.stop.Stop.{Stop}
use Rattle.luks_find_command.specs.declared.stop.Stop.TheVariants as stop
use Rattle.luks_find_command.specs.declared.unread.Unread.{Unread}
use Rattle.luks_find_command.proofs.TellingFacts.{lines-weaker, paired-weaker, told-any, told-exact, told-join, told-none}

-- ---- as long as no read fails

-- all volumes of which the first sign comes before the sector `sectors` are the list, and were told
pub record IsCalm (offset : ℕ) (v : List ℕ) (sectors : ℕ) (list : List ℕ) (held holds : Told) : Type 0 where
  pub so_far : AreStartsBetween v 0 sectors list
  pub has : HasTold offset v list held holds

pub calm-none : (offset : ℕ) (v : List ℕ) (held : Told) → IsCalm offset v 0 [] held held
calm-none offset v held = record { so_far = none-yet v; has = told-exact ⊥ offset v [] held held (λ none. none) (told-none ⊥ offset v held) }

-- what a step tells
step-between : (v : List ℕ) (from next : ℕ) (step : Step) → TellsNext v from next step → AreStartsBetween v from next (starts_in step)
step-between v from next (Start s) tells = tells
step-between v from next (Two s t) tells = tells
step-between v from next On tells = tells
step-between v from next End tells = none-between v from next (λ k s low high sign. tells k s low sign)

step-further : (total from next : ℕ) (step : Step) → GoesOn total from next step → from ≤ next
step-further total from next (Start s) goes = let further : from < next = goes.0 in omega (arith, further)
step-further total from next (Two s t) goes = let further : from < next = goes.0 in omega (arith, further)
step-further total from next On goes = let further : from < next = goes.0 in omega (arith, further)
step-further total from next End goes = let same : next ≡ from = goes.1 in omega (arith, same)

-- the list with what a step tells
step-joins : (v : List ℕ) (total from next : ℕ) (step : Step) (list : List ℕ) → AreStartsBetween v 0 from list → TellsNext v from next step → GoesOn total from next step
    → AreStartsBetween v 0 next (list ++ starts_in step)
step-joins v total from next step list so_far tells goes =
    starts-join v 0 from next list (starts_in step) (omega arith) (step-further total from next step goes) so_far (step-between v from next step tells)

join-exact : (offset : ℕ) (v xs ys : List ℕ) (a b c : Told) → HasTold offset v xs a b → HasTold offset v ys b c → HasTold offset v (xs ++ ys) a c
join-exact offset v xs ys a b c left right = told-exact ⊥ offset v (xs ++ ys) a c (λ none. none) (told-join ⊥ offset v xs ys a b c (told-any ⊥ offset v xs a b left) (told-any ⊥ offset v ys b c right))

-- one step more
pub calm-more : (offset : ℕ) (v : List ℕ) (total from next : ℕ) (step : Step) (list : List ℕ) (held mid holds : Told) → IsCalm offset v from list held mid
    → TellsNext v from next step → GoesOn total from next step → HasTold offset v (starts_in step) mid holds → IsCalm offset v next (list ++ starts_in step) held holds
calm-more offset v total from next step list held mid holds calm tells goes has = record {
  so_far = step-joins v total from next step list calm.so_far tells goes;
  has = join-exact offset v list (starts_in step) held mid holds calm.has has;
}

-- one in which a read failed
pub calm-failed : (failing : Type 0) (offset : ℕ) (v : List ℕ) (total from next : ℕ) (step : Step) (list : List ℕ) (held mid holds : Told) → IsCalm offset v from list held mid
    → TellsNext v from next step → GoesOn total from next step → HasToldBy failing offset v (starts_in step) mid holds
    → IsToldCalmly failing offset v next (list ++ starts_in step) held holds stop.Device
calm-failed failing offset v total from next step list held mid holds calm tells goes has = (
  read-so-far v next (list ++ starts_in step) (step-joins v total from next step list calm.so_far tells goes),
  told-join failing offset v list (starts_in step) held mid holds (told-any failing offset v list held mid calm.has) has,
)

-- the end of the device
length-none : (xs : List ℕ) → length xs ≡ 0 → xs ≡ []
length-none [] none = refl
length-none (x ∷ xs) none = absurd (omega (arith, none))

pub counts-length : (list : List ℕ) → CountsSome (length list) list
counts-length list = record { none = length-none list; some = λ is. ap length is }

pub calm-all : (offset : ℕ) (v : List ℕ) (from : ℕ) (list : List ℕ) (held holds : Told) → IsCalm offset v from list held holds → HasNoSignFrom v from
    → IsToldAll offset v held holds (length list)
calm-all offset v from list held holds calm none = record {
  starts = list;
  all = starts-all v from list calm.so_far none;
  has = calm.has;
  counts = counts-length list;
}

first-of : (offset : ℕ) (v : List ℕ) (from : ℕ) (list : List ℕ) (held holds : Told) → IsCalm offset v from list held holds → HasToldFirst offset v held holds
first-of offset v from list held holds calm = record {
  starts = list;
  later = [];
  sectors = from;
  first = subst (AreStartsBetween v 0 from) (sym (append-nil list)) calm.so_far;
  has = calm.has;
}

-- a step that failed
pub calm-first : (offset : ℕ) (v : List ℕ) (from : ℕ) (list : List ℕ) (held holds : Told) (why : Stop) → IsCalm offset v from list held holds → IsToldFirst offset v held holds why
calm-first offset v from list held holds stop.Device calm = first-of offset v from list held holds calm
calm-first offset v from list held holds stop.Memory calm = first-of offset v from list held holds calm
calm-first offset v from list held holds stop.Unprinted calm = tt

pub calm-stops : (failing : Type 0) (offset : ℕ) (v : List ℕ) (from : ℕ) (list : List ℕ) (held holds : Told) (why : Stop) → IsCalm offset v from list held holds
    → IsToldCalmly failing offset v from list held holds why
calm-stops failing offset v from list held holds stop.Device calm = (read-so-far v from list calm.so_far, told-any failing offset v list held holds calm.has)
calm-stops failing offset v from list held holds stop.Memory calm = record {
  starts = list;
  later = [];
  sectors = from;
  first = subst (AreReadTo v [] from) (sym (append-nil list)) (read-so-far v from list calm.so_far);
  has = told-any failing offset v list held holds calm.has;
  whole = tt;
}
calm-stops failing offset v from list held holds stop.Unprinted calm = tt

-- a volume of a step that couldn't be told
part-first : (failing : Type 0) (offset : ℕ) (v : List ℕ) (total from next : ℕ) (step : Step) (list : List ℕ) (held mid holds : Told) → (failing → ⊥) → IsCalm offset v from list held mid
    → TellsNext v from next step → GoesOn total from next step → HasToldPart failing offset v (starts_in step) mid holds → HasToldFirst offset v held holds
part-first failing offset v total from next step list held mid holds none calm tells goes is = record {
  starts = list ++ is.told;
  later = is.untold;
  sectors = next;
  first = subst (AreStartsBetween v 0 next) (ap (λ l. list ++ l) is.is ∙ sym (append_assoc list is.told is.untold)) (step-joins v total from next step list calm.so_far tells goes);
  has = join-exact offset v list is.told held mid holds calm.has (told-exact failing offset v is.told mid holds none is.has);
}

pub step-first : (failing : Type 0) (offset : ℕ) (v : List ℕ) (total from next : ℕ) (step : Step) (list : List ℕ) (held mid holds : Told) (why : Stop) → (failing → ⊥)
    → IsCalm offset v from list held mid → TellsNext v from next step → GoesOn total from next step → TellsPart failing offset v (starts_in step) mid holds why → IsToldFirst offset v held holds why
step-first failing offset v total from next step list held mid holds stop.Device none calm tells goes is = part-first failing offset v total from next step list held mid holds none calm tells goes is
step-first failing offset v total from next step list held mid holds stop.Memory none calm tells goes is = part-first failing offset v total from next step list held mid holds none calm tells goes is
step-first failing offset v total from next step list held mid holds stop.Unprinted none calm tells goes is = tt

pub step-stops : (failing : Type 0) (offset : ℕ) (v : List ℕ) (total from next sectors : ℕ) (step : Step) (list other : List ℕ) (held mid holds : Told) (why : Stop) → (why ≡ stop.Device → ⊥)
    → IsCalm offset v from list held mid → TellsNext v from next step → GoesOn total from next step → TellsPart failing offset v (starts_in step) mid holds why
    → IsToldCalmly failing offset v sectors other held holds why
step-stops failing offset v total from next sectors step list other held mid holds stop.Device another calm tells goes is = absurd (another refl)
step-stops failing offset v total from next sectors step list other held mid holds stop.Memory another calm tells goes is = record {
  starts = list ++ is.told;
  later = is.untold;
  sectors = next;
  first = subst (AreReadTo v [] next) (ap (λ l. list ++ l) is.is ∙ sym (append_assoc list is.told is.untold))
      (read-so-far v next (list ++ starts_in step) (step-joins v total from next step list calm.so_far tells goes));
  has = told-join failing offset v list is.told held mid holds (told-any failing offset v list held mid calm.has) is.has;
  whole = tt;
}
step-stops failing offset v total from next sectors step list other held mid holds stop.Unprinted another calm tells goes is = tt

pub first-none : (offset : ℕ) (v : List ℕ) (held : Told) → HasToldFirst offset v held held
first-none offset v held = first-of offset v 0 [] held held (calm-none offset v held)

-- ---- the end

end-some : (list : List ℕ) → (list ≡ [] → ⊥) → (end_line list ≡ []) × (found_status list ≡ 0)
end-some [] some = absurd (some refl)
end-some (x ∷ xs) some = (refl, refl)

end-none : (list : List ℕ) → list ≡ [] → (end_line list ≡ none_found) × (found_status list ≡ 1)
end-none list none = (ap end_line none, ap found_status none)

-- the pairs among the volumes of a search that began
says-pairs : (failing : Type 0) (offset : ℕ) (v starts : List ℕ) (held mid : Option (List ℕ)) (met : List Met) (said says : Option (List SameUuid))
    → HasPaired failing offset v starts (told_of held [] said) (told_of mid met says) → SaysPairs failing offset v starts said says
says-pairs failing offset v starts held mid met said says paired = record { met = met; pairs = paired.pairs; are = paired.are; names = paired.names }

tells-some : (offset : ℕ) (v : List ℕ) (held mid holds : Option (List ℕ)) (met : List Met) (said says : Option (List SameUuid)) (found status : ℕ) → IsToldAll offset v (told_of held [] said) (told_of mid met says) found → 0 < found → holds ≡ mid → status ≡ 0
    → TellsAll offset v held holds said says status
tells-some offset v held mid holds met said says found status told some same is =
    let ends = end-some told.starts (λ none. let zero_found : found ≡ 0 = told.counts.some none in omega (arith, zero_found, some)) in
    let text : told.has.lines ≡ told.has.lines ++ end_line told.starts = sym (append-nil told.has.lines) ∙ ap (λ l. told.has.lines ++ l) (sym ends.0) in
    record {
      starts = told.starts;
      all = told.all;
      lines = told.has.lines;
      are = told.has.are;
      printed = subst (Appends held holds) text (subst (λ (o : Option (List ℕ)). Appends held o told.has.lines) (sym same) told.has.printed);
      pairs = says-pairs ⊥ offset v told.starts held mid met said says told.has.paired;
      ends = is ∙ sym ends.1;
    }

tells-none : (offset : ℕ) (v : List ℕ) (held mid holds : Option (List ℕ)) (met : List Met) (said says : Option (List SameUuid)) (found status : ℕ) → IsToldAll offset v (told_of held [] said) (told_of mid met says) found → found ≡ 0 → Appends mid holds none_found → status ≡ 1
    → TellsAll offset v held holds said says status
tells-none offset v held mid holds met said says found status told none printed is =
    let ends = end-none told.starts (told.counts.none none) in
    record {
      starts = told.starts;
      all = told.all;
      lines = told.has.lines;
      are = told.has.are;
      printed = subst (λ (l : List ℕ). Appends held holds (told.has.lines ++ l)) (sym ends.0) (Appends-trans held mid holds told.has.lines none_found told.has.printed printed);
      pairs = says-pairs ⊥ offset v told.starts held mid met said says told.has.paired;
      ends = is ∙ sym ends.1;
    }

tells-first : (offset : ℕ) (v : List ℕ) (a : Answer) (text : List ℕ) (held mid holds : Option (List ℕ)) (met : List Met) (said says : Option (List SameUuid)) → line_of a ≡ Some text → HasToldFirst offset v (told_of held [] said) (told_of mid met says) → Appends mid holds text
    → TellsFirst offset v a held holds said says
tells-first offset v a text held mid holds met said says is told printed = record {
  starts = told.starts;
  later = told.later;
  sectors = told.sectors;
  first = told.first;
  lines = told.has.lines;
  are = told.has.are;
  text = text;
  answered = is;
  printed = Appends-trans held mid holds told.has.lines text told.has.printed printed;
  pairs = says-pairs ⊥ offset v told.starts held mid met said says told.has.paired;
}

tells-device : (failing : Type 0) (offset : ℕ) (v : List ℕ) (passed : List Passed) (failed_now : ℕ) (text : List ℕ) (held mid holds : Option (List ℕ)) (met : List Met) (said says : Option (List SameUuid)) → line_of DeviceFault ≡ Some text
    → HasToldRead failing offset v passed [] (told_of held [] said) (told_of mid met says) stop.Device failed_now → Appends mid holds text → TellsRead offset v passed DeviceFault failed_now held holds said says
tells-device failing offset v passed failed_now text held mid holds met said says is told printed = record {
  starts = told.starts;
  later = told.later;
  sectors = told.sectors;
  first = told.first;
  whole = elim told.whole [
    | inl ends ↦
        let all : told.starts ++ told.later ≡ told.starts = ap (λ l. told.starts ++ l) ends.0 ∙ append-nil told.starts in
        inl (ends.0, read-all v passed told.sectors told.starts ends.1 (subst (AreReadTo v passed told.sectors) all told.first))
    | inr full ↦ inr full
  ];
  lines = told.has.lines;
  are = lines-weaker failing (Unit {0}) offset v told.starts told.has.lines (λ fails. tt) told.has.are;
  text = text;
  answered = is;
  printed = Appends-trans held mid holds told.has.lines text told.has.printed printed;
  pairs = says-pairs (Unit {0}) offset v told.starts held mid met said says
      (paired-weaker failing (Unit {0}) offset v told.starts (told_of held [] said) (told_of mid met says) (λ fails. tt) told.has.paired);
}

tells-memory : (failing : Type 0) (offset : ℕ) (v : List ℕ) (passed : List Passed) (failed_now : ℕ) (text : List ℕ) (held mid holds : Option (List ℕ)) (met : List Met) (said says : Option (List SameUuid)) → line_of NoMemory ≡ Some text
    → HasToldRead failing offset v passed [] (told_of held [] said) (told_of mid met says) stop.Memory failed_now → Appends mid holds text → TellsRead offset v passed NoMemory failed_now held holds said says
tells-memory failing offset v passed failed_now text held mid holds met said says is told printed = record {
  starts = told.starts;
  later = told.later;
  sectors = told.sectors;
  first = told.first;
  whole = tt;
  lines = told.has.lines;
  are = lines-weaker failing (Unit {0}) offset v told.starts told.has.lines (λ fails. tt) told.has.are;
  text = text;
  answered = is;
  printed = Appends-trans held mid holds told.has.lines text told.has.printed printed;
  pairs = says-pairs (Unit {0}) offset v told.starts held mid met said says
      (paired-weaker failing (Unit {0}) offset v told.starts (told_of held [] said) (told_of mid met says) (λ fails. tt) told.has.paired);
}

-- a count that didn't fall rose, or is as before
rose-or-not : (m n : ℕ) → m ≤ n → (n ≡ m) ⊎ (m < n)
rose-or-not m n le = elim (cases_lt m n) [
  | inl rose ↦ inr rose
  | inr not ↦ inl (omega (arith, le, not))
]

-- what became of the run
pub find-run : (tells : Type 0) (offset total : ℕ) (v : List ℕ) (r : Result ℕ Stop) (failed failed_now prints between prints_now : ℕ) (heard hears : Option (List Unread)) (held mid holds : Option (List ℕ)) (said says : Option (List SameUuid)) (status : ℕ)
    → IfErr r (λ why. StopsBy why failed failed_now prints between) → OnOk r ((failed_now ≡ failed) × (between ≡ prints))
    → (tells → IfOk r (SearchesAll offset v held mid said says)) → (tells → failed_now ≡ failed → IfErr r (SearchesFirst offset v held mid said says))
    → IfErr r (SearchesOn tells offset total v failed failed_now heard hears held mid said says) → Finishes r between prints_now mid holds status
    → IsFindRun tells offset total v (run_of failed failed_now prints prints_now held holds heard hears said says status)
find-run tells offset total v (Ok found) failed failed_now prints between prints_now heard hears held mid holds said says status stopped ended all first on finish = elim finish [
  | inl some ↦ inl (record { read = ended.0; printed = some.1 ∙ ended.1; status = inl some.3; told = λ t. tells-some offset v held mid holds (all t).0 said says found status (all t).1 some.0 some.2 some.3 })
  | inr other ↦ elim other [
    | inl none ↦ inl (record { read = ended.0; printed = none.1 ∙ ended.1; status = inr none.3; told = λ t. tells-none offset v held mid holds (all t).0 said says found status (all t).1 none.0 none.2 none.3 })
    | inr failed_print ↦
        let same : failed_now ≡ failed = ended.0 in
        inr (inr (inr (record { read = omega (arith, same); printed = failed_print.0 ∙ ap (λ n. n + 1) ended.1; status = failed_print.1 })))
  ]
]
find-run tells offset total v (Err stop.Device) failed failed_now prints between prints_now heard hears held mid holds said says status stopped ended all first on finish = elim finish [
  | inl printed ↦ inr (inr (inl (record {
    answer = DeviceFault;
    ends = record { is = inl refl };
    failing = stopped.0;
    printed = printed.0 ∙ stopped.1;
    status = printed.1;
    passed = on.1.passed;
    names = on.1.names;
    bounded = on.1.bounded;
    told = λ t. tells-device (failed < failed_now) offset v on.1.passed failed_now _ held mid holds on.0 said says refl (on.1.told t) printed.2;
  })))
  | inr failed_print ↦
      let rose : failed < failed_now = stopped.0 in
      inr (inr (inr (record { read = omega (arith, rose); printed = failed_print.0 ∙ ap (λ n. n + 1) stopped.1; status = failed_print.1 })))
]
find-run tells offset total v (Err stop.Memory) failed failed_now prints between prints_now heard hears held mid holds said says status stopped ended all first on finish = elim finish [
  | inl printed ↦ elim (rose-or-not failed failed_now stopped.0) [
    | inl same ↦ inr (inl (record { read = same; printed = printed.0 ∙ stopped.1; status = printed.1; told = λ t. tells-first offset v NoMemory _ held mid holds (first t same).0 said says refl (first t same).1 printed.2 }))
    | inr rose ↦ inr (inr (inl (record {
      answer = NoMemory;
      ends = record { is = inr refl };
      failing = rose;
      printed = printed.0 ∙ stopped.1;
      status = printed.1;
      passed = on.1.passed;
      names = on.1.names;
      bounded = on.1.bounded;
      told = λ t. tells-memory (failed < failed_now) offset v on.1.passed failed_now _ held mid holds on.0 said says refl (on.1.told t) printed.2;
    })))
  ]
  | inr failed_print ↦ inr (inr (inr (record { read = stopped.0; printed = failed_print.0 ∙ ap (λ n. n + 1) stopped.1; status = failed_print.1 })))
]
find-run tells offset total v (Err stop.Unprinted) failed failed_now prints between prints_now heard hears held mid holds said says status stopped ended all first on finish =
    inr (inr (inr (record { read = stopped.0; printed = finish.0 ∙ stopped.1; status = finish.1 })))
