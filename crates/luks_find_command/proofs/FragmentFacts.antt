-- What is told of fragments, step by step.
use Rattle.std.proofs.Common.{◌≡◌, ℕ, ◌+◌, ◌<◌, List, [], ◌∷◌, ◌++◌, length, length-append, Option, Result, Ok, Err, IfOk, IfErr, OnOk, inl, inr, refl, sym, ap, ◌∙◌, subst, arith, append_assoc}
use Rattle.std.proofs.lemmas.Bool.{cases_lt}
use Rattle.std.proofs.lemmas.List.{append-nil}
use Rattle.std.proofs.KnownBytes.{Appends-nil, Appends-trans}
use Rattle.std.specs.Io.KnownBytes.{Appends}
use Rattle.luks_fragments.specs.Fragments.{HasNoneFrom}
use Rattle.luks_seeking.specs.Seeking.{HasNoneBetween, IsFirstFound}
use Rattle.luks_seeking.specs.declared.seeking.Found.{Found}
use Rattle.luks_find_command.specs.FragmentLines.{fragment_line, last_line}
use Rattle.luks_find_command.specs.Fragments.{fragment_lines, fragments_end, fragments_run, fragments_status, AreFragmentsFrom, AreFragmentsTo, EndsListing, IsFragmentsRun, ListsAll, ListsSome, ListsStep, ListsTo, ListsUntil, PrintsNone, StopsOnce, TellsFragments, TellsSome}
use Rattle.luks_find_command.specs.declared.fragments.Listed.{Listed}
use Rattle.luks_find_command.specs.declared.fragments.Telling.{Telling}
use Rattle.luks_find_command.specs.declared.lines.Last.{Last}
use Rattle.luks_find_command.specs.declared.lines.Last.TheVariants.{NoneFound, DeviceFault, NoMemory}
use Rattle.luks_find_command.specs.declared.stop.Stop.{Stop}
use Rattle.luks_find_command.specs.declared.stop.Stop.TheVariants as stop

-- ---- lists of fragments

none-at : (v : List ℕ) (at : ℕ) → HasNoneBetween v at at
none-at v at = record { on = omega arith; none = λ p low high x. absurd (omega (arith, low, high)) }

-- where none begins before, the first one from the place `mid` on is the first one
first-after : (v : List ℕ) (from mid : ℕ) (f : Found) → HasNoneBetween v from mid → IsFirstFound v mid f → IsFirstFound v from f
first-after v from mid f pass x = record {
  behind = (let on = pass.on in let behind = x.behind in omega (arith, on, behind));
  fragment = x.fragment;
  name = x.name;
  first = λ p low high is. elim (cases_lt p mid) [ inl before ↦ pass.none p low before is | inr behind ↦ x.first p behind high is ];
}

to-join : (v : List ℕ) (from mid next : ℕ) (xs ys : List Found) → AreFragmentsTo v from mid xs → AreFragmentsTo v mid next ys → AreFragmentsTo v from next (xs ++ ys)
to-join v from mid next [] [] left right = record {
  on = (let one = left.on in let two = right.on in omega (arith, one, two));
  none = λ p low high is. elim (cases_lt p mid) [ inl before ↦ left.none p low before is | inr behind ↦ right.none p behind high is ];
}
to-join v from mid next [] (f ∷ fs) left right = (first-after v from mid f left right.0, right.1)
to-join v from mid next (x ∷ xs) ys left right = (left.0, to-join v (x.at + x.len) mid next xs ys left.1 right)

to-all : (v : List ℕ) (from mid : ℕ) (xs : List Found) → AreFragmentsTo v from mid xs → HasNoneFrom v mid → AreFragmentsFrom v from xs
to-all v from mid [] left none = λ p low is. elim (cases_lt p mid) [ inl before ↦ left.none p low before is | inr behind ↦ none p behind is ]
to-all v from mid (f ∷ fs) left none = (left.0, to-all v (f.at + f.len) mid fs left.1 none)

-- ---- their lines

lines-join : (telling : Telling) (xs ys : List Found) → fragment_lines telling (xs ++ ys) ≡ fragment_lines telling xs ++ fragment_lines telling ys
lines-join telling [] ys = refl
lines-join telling (x ∷ xs) ys =
    let first = fragment_line telling.as_json (telling.offset + x.at) x.kind x.number in
    ap (λ l. first ++ l) (lines-join telling xs ys) ∙ sym (append_assoc first (fragment_lines telling xs) (fragment_lines telling ys))

-- nothing yet
pub lists-none : (telling : Telling) (v : List ℕ) (held : Option (List ℕ)) → ListsTo telling v 0 0 0 held held
lists-none telling v held = record { list = []; are = none-at v 0; count = refl; printed = Appends-nil held }

-- a step that found one
pub lists-found : (telling : Telling) (v : List ℕ) (from : ℕ) (f : Found) (held holds : Option (List ℕ)) → IsFirstFound v from f → Appends held holds (fragment_line telling.as_json (telling.offset + f.at) f.kind f.number)
    → ListsTo telling v from (f.at + f.len) 1 held holds
lists-found telling v from f held holds first printed = record {
  list = f ∷ [];
  are = (first, none-at v (f.at + f.len));
  count = refl;
  printed = subst (Appends held holds) (sym (append-nil (fragment_line telling.as_json (telling.offset + f.at) f.kind f.number))) printed;
}

-- a step that found none yet
pub lists-on : (telling : Telling) (v : List ℕ) (from next : ℕ) (held : Option (List ℕ)) → HasNoneBetween v from next → ListsTo telling v from next 0 held held
lists-on telling v from next held pass = record { list = []; are = pass; count = refl; printed = Appends-nil held }

-- one step behind others
pub lists-then : (telling : Telling) (v : List ℕ) (from mid next some more : ℕ) (held between holds : Option (List ℕ)) → ListsTo telling v from mid some held between → ListsTo telling v mid next more between holds
    → ListsTo telling v from next (some + more) held holds
lists-then telling v from mid next some more held between holds before after = record {
  list = before.list ++ after.list;
  are = to-join v from mid next before.list after.list before.are after.are;
  count = (let one = before.count in let two = after.count in omega (arith, one, two, length-append before.list after.list));
  printed = subst (Appends held holds) (sym (lines-join telling before.list after.list))
      (Appends-trans held between holds (fragment_lines telling before.list) (fragment_lines telling after.list) before.printed after.printed);
}

-- one step of a search behind what it told before; `w` are the bytes then
pub lists-step : (telling : Telling) (v w : List ℕ) (old new : Listed) (held between holds : Option (List ℕ)) → w ≡ v → ListsTo telling v 0 old.at old.found held between → ListsStep telling w old new between holds
    → ListsTo telling v 0 new.at new.found held holds
lists-step telling v w old new held between holds same before step =
    let after : ListsTo telling v old.at new.at step.more between holds = subst (λ (l : List ℕ). ListsTo telling l old.at new.at step.more between holds) same step.lists in
    subst (λ n. ListsTo telling v 0 new.at n held holds) (sym step.found)
    (lists-then telling v 0 old.at new.at old.found step.more held between holds before after)

-- the end
pub lists-all : (telling : Telling) (v : List ℕ) (mid found : ℕ) (held holds : Option (List ℕ)) → ListsTo telling v 0 mid found held holds → HasNoneFrom v mid → ListsAll telling v found held holds
lists-all telling v mid found held holds told none = record {
  list = told.list;
  all = to-all v 0 mid told.list told.are none;
  count = told.count;
  printed = told.printed;
}

-- or it stopped
some-of : (telling : Telling) (v : List ℕ) (next more : ℕ) (held between holds : Option (List ℕ)) → ListsTo telling v 0 next more held between → holds ≡ between → ListsSome telling v held holds
some-of telling v next more held between holds told same = record { next = next; more = more; lists = subst (ListsTo telling v 0 next more held) (sym same) told }

pub lists-until : (why : Stop) (telling : Telling) (v : List ℕ) (next more : ℕ) (held between holds : Option (List ℕ)) → ListsTo telling v 0 next more held between → PrintsNone why between holds
    → ListsUntil why telling v held holds
lists-until stop.Device telling v next more held between holds told none = some-of telling v next more held between holds told none
lists-until stop.Memory telling v next more held between holds told none = some-of telling v next more held between holds told none
lists-until stop.Unprinted telling v next more held between holds told none = tt

pub lists-nothing : (why : Stop) (telling : Telling) (v : List ℕ) (held : Option (List ℕ)) → ListsUntil why telling v held held
lists-nothing stop.Device telling v held = some-of telling v 0 0 held held held (lists-none telling v held) refl
lists-nothing stop.Memory telling v held = some-of telling v 0 0 held held held (lists-none telling v held) refl
lists-nothing stop.Unprinted telling v held = tt

-- ---- the last line

end-some : (telling : Telling) (list : List Found) → 0 < length list → (fragments_end telling list ≡ []) × (fragments_status list ≡ 0)
end-some telling [] some = absurd (omega (arith, some))
end-some telling (x ∷ xs) some = (refl, refl)

end-none : (telling : Telling) (list : List Found) → length list ≡ 0 → (fragments_end telling list ≡ last_line telling.as_json NoneFound) × (fragments_status list ≡ 1)
end-none telling [] none = (refl, refl)
end-none telling (x ∷ xs) none = absurd (omega (arith, none))

tells-some : (telling : Telling) (v : List ℕ) (failed failed_now prints prints_now : ℕ) (held mid holds : Option (List ℕ)) (found status : ℕ) → ListsAll telling v found held mid → 0 < found → holds ≡ mid → status ≡ 0
    → TellsFragments telling v (fragments_run failed failed_now prints prints_now held holds status)
tells-some telling v failed failed_now prints prints_now held mid holds found status told some same is =
    let ends = end-some telling told.list (let count = told.count in omega (arith, count, some)) in
    let lines = fragment_lines telling told.list in
    let text : lines ≡ lines ++ fragments_end telling told.list = sym (append-nil lines) ∙ ap (λ l. lines ++ l) (sym ends.0) in
    record {
      list = told.list;
      all = told.all;
      printed = subst (Appends held holds) text (subst (λ (o : Option (List ℕ)). Appends held o lines) (sym same) told.printed);
      ends = is ∙ sym ends.1;
    }

tells-none : (telling : Telling) (v : List ℕ) (failed failed_now prints prints_now : ℕ) (held mid holds : Option (List ℕ)) (found status : ℕ) → ListsAll telling v found held mid → found ≡ 0
    → Appends mid holds (last_line telling.as_json NoneFound) → status ≡ 1 → TellsFragments telling v (fragments_run failed failed_now prints prints_now held holds status)
tells-none telling v failed failed_now prints prints_now held mid holds found status told none printed is =
    let ends = end-none telling told.list (let count = told.count in omega (arith, count, none)) in
    let lines = fragment_lines telling told.list in
    record {
      list = told.list;
      all = told.all;
      printed = subst (λ (l : List ℕ). Appends held holds (lines ++ l)) (sym ends.0) (Appends-trans held mid holds lines (last_line telling.as_json NoneFound) told.printed printed);
      ends = is ∙ sym ends.1;
    }

tells-part : (telling : Telling) (v : List ℕ) (last : Last) (failed failed_now prints prints_now : ℕ) (held mid holds : Option (List ℕ)) (status : ℕ) → ListsSome telling v held mid
    → Appends mid holds (last_line telling.as_json last) → TellsSome telling v last (fragments_run failed failed_now prints prints_now held holds status)
tells-part telling v last failed failed_now prints prints_now held mid holds status told printed = record {
  list = told.lists.list;
  next = told.next;
  first = told.lists.are;
  printed = Appends-trans held mid holds (fragment_lines telling told.lists.list) (last_line telling.as_json last) told.lists.printed printed;
}

-- ---- what became of the run

pub run-of-fragments : (tells : Type 0) (telling : Telling) (v : List ℕ) (r : Result ℕ Stop) (failed failed_now prints between prints_now : ℕ) (held mid holds : Option (List ℕ)) (status : ℕ)
    → IfErr r (λ why. StopsOnce why failed failed_now prints between) → OnOk r ((failed_now ≡ failed) × (between ≡ prints))
    → (tells → IfOk r (λ found. ListsAll telling v found held mid)) → (tells → IfErr r (λ why. ListsUntil why telling v held mid)) → EndsListing telling.as_json r between prints_now mid holds status
    → IsFragmentsRun tells telling v (fragments_run failed failed_now prints prints_now held holds status)
run-of-fragments tells telling v (Ok found) failed failed_now prints between prints_now held mid holds status stopped ended all some finish = elim finish [
  | inl there ↦ inl (record {
    read = ended.0;
    printed = there.1 ∙ ended.1;
    status = inl there.3;
    told = λ t. tells-some telling v failed failed_now prints prints_now held mid holds found status (all t) there.0 there.2 there.3;
  })
  | inr none ↦ elim none.1 [
    | inl printed ↦ inl (record {
      read = ended.0;
      printed = printed.0 ∙ ended.1;
      status = inr printed.1;
      told = λ t. tells-none telling v failed failed_now prints prints_now held mid holds found status (all t) none.0 printed.2 printed.1;
    })
    | inr failed_print ↦ inr (inr (record { read = inl ended.0; printed = failed_print.0 ∙ ap (λ n. n + 1) ended.1; status = failed_print.1 }))
  ]
]
run-of-fragments tells telling v (Err stop.Device) failed failed_now prints between prints_now held mid holds status stopped ended all some finish = elim finish [
  | inl printed ↦ inr (inl (record {
    last = DeviceFault;
    ends = stopped.0;
    printed = printed.0 ∙ stopped.1;
    status = printed.1;
    told = λ t. tells-part telling v DeviceFault failed failed_now prints prints_now held mid holds status (some t) printed.2;
  }))
  | inr failed_print ↦ inr (inr (record { read = inr stopped.0; printed = failed_print.0 ∙ ap (λ n. n + 1) stopped.1; status = failed_print.1 }))
]
run-of-fragments tells telling v (Err stop.Memory) failed failed_now prints between prints_now held mid holds status stopped ended all some finish = elim finish [
  | inl printed ↦ inr (inl (record {
    last = NoMemory;
    ends = stopped.0;
    printed = printed.0 ∙ stopped.1;
    status = printed.1;
    told = λ t. tells-part telling v NoMemory failed failed_now prints prints_now held mid holds status (some t) printed.2;
  }))
  | inr failed_print ↦ inr (inr (record { read = inl stopped.0; printed = failed_print.0 ∙ ap (λ n. n + 1) stopped.1; status = failed_print.1 }))
]
run-of-fragments tells telling v (Err stop.Unprinted) failed failed_now prints between prints_now held mid holds status stopped ended all some finish =
    inr (inr (record { read = inl stopped.0; printed = finish.0 ∙ stopped.1; status = finish.2 }))
