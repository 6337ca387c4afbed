-- What a search of a device that can't be read everywhere has told, from step to step.
use Rattle.std.proofs.Common.{◌≡◌, ℕ, ◌+◌, ◌-◌, ◌*◌, ◌^◌, ◌<◌, ◌≤◌, ◌⊎◌, List, [], ◌∷◌, ◌++◌, length, Option, inl, inr, refl, sym, ap, ◌∙◌, subst, arith, append_assoc}
use Rattle.std.proofs.lemmas.List.{append-nil}
use Rattle.luks_finding.specs.Readable.{sectors_of, told_by_step, AreReadTo, TellsFurther}
use Rattle.luks_finding.specs.declared.finding.Step.{Step}
use Rattle.luks_finding.specs.declared.finding.Step.TheVariants.{Start, Two, On, End}
use Rattle.luks_finding.specs.declared.passed.Further.TheVariants as further
use Rattle.luks_finding.specs.declared.passed.Passed.{Passed}
use Rattle.luks_finding.proofs.FurtherFacts.{read-so-far}
use Rattle.luks_finding.proofs.ListFacts.{none-yet}
use Rattle.luks_finding.proofs.ReadFacts.{sectors-join}
use Rattle.luks_find_command.specs.Searches.{starts_in, GoesOnTelling, HasGoneOn, HasToldBy, HasToldPart, HasToldRead, IsToldCalmly, IsToldOn, PassesBy, TellsPart, Told}
use Rattle.luks_find_command.specs.Stops.{PrintsBy, StopsBy}
use Rattle.luks_find_command.specs.Unreads.{all_named, named, Hears}
use Rattle.luks_find_command.specs.declared.stop.Stop.{Stop}
use Rattle.luks_find_command.specs.declared.stop.Stop.TheVariants as stop
use Rattle.luks_find_command.specs.declared.unread.Unread.{Unread}
use Rattle.luks_find_command.proofs.TellingFacts.{hears-join, hears-none, hears-same, told-join, told-none, told-weaker}

-- ---- what was said

named-join : (offset total : ℕ) (xs ys : List Passed) → all_named offset total (xs ++ ys) ≡ all_named offset total xs ++ all_named offset total ys
named-join offset total [] ys = refl
named-join offset total (x ∷ xs) ys = ap (λ l. named offset total x ∷ l) (named-join offset total xs ys)

-- ---- a step

pub same-starts : (step : Step) → told_by_step step ≡ starts_in step
same-starts (Start s) = refl
same-starts (Two s t) = refl
same-starts On = refl
same-starts End = refl

-- one that passes nothing over
pub passes-none : (tells : Type 0) (offset total : ℕ) (v told : List ℕ) (from next failed failed_now : ℕ) (heard hears : Option (List Unread)) (step : Step) → hears ≡ heard
    → (tells → TellsFurther v told from next (further.Step step)) → PassesBy tells offset total v told from next failed failed_now heard hears step
passes-none tells offset total v told from next failed failed_now heard hears step silent so = record {
  over = [];
  names = hears-same heard hears silent;
  bounded = omega arith;
  tells_all = λ t passed so_far. subst (λ (l : List ℕ). AreReadTo v (passed ++ []) next (told ++ l)) (same-starts step) (so t passed so_far);
}

-- one that passes some sectors over
pub passes-some : (tells : Type 0) (offset total : ℕ) (v told : List ℕ) (from next failed failed_now : ℕ) (heard hears : Option (List Unread)) (x : Passed) (u : Unread) → u ≡ named offset total x
    → Hears heard hears (u ∷ []) → sectors_of (x ∷ []) ≤ 2048 * (failed_now - failed) → (tells → TellsFurther v told from next (further.Passed x))
    → PassesBy tells offset total v told from next failed failed_now heard hears On
passes-some tells offset total v told from next failed failed_now heard hears x u is said bounded so = record {
  over = x ∷ [];
  names = subst (λ (w : Unread). Hears heard hears (w ∷ [])) is said;
  bounded = bounded;
  tells_all = λ t passed so_far. so t passed so_far;
}

-- the same device behind
pub passes-as : (tells : Type 0) (offset total size : ℕ) (v w told : List ℕ) (from next failed failed_now : ℕ) (heard hears : Option (List Unread)) (step : Step) → size ≡ total → (tells → w ≡ v)
    → PassesBy tells offset size w told from next failed failed_now heard hears step → PassesBy tells offset total v told from next failed failed_now heard hears step
passes-as tells offset total size v w told from next failed failed_now heard hears step sized same passes = record {
  over = passes.over;
  names = subst (λ (n : ℕ). Hears heard hears (all_named offset n passes.over)) sized passes.names;
  bounded = passes.bounded;
  tells_all = λ t. subst (λ (u : List ℕ). (passed : List Passed) → AreReadTo u passed from told → AreReadTo u (passed ++ passes.over) next (told ++ starts_in step)) (same t) (passes.tells_all t);
}

-- ---- the search

-- what was told behind the list `before`, where the list is all that was told
pub record HasGone (failing : Type 0) (offset : ℕ) (v : List ℕ) (passed : List Passed) (before list : List ℕ) (sectors : ℕ) (held holds : Told) : Type 0 where
  pub more : List ℕ
  pub is : list ≡ before ++ more
  pub so_far : AreReadTo v passed sectors list
  pub has : HasToldBy failing offset v more held holds

pub record IsGoing (tells : Type 0) (offset total : ℕ) (v before list : List ℕ) (sectors failed failed_now : ℕ) (heard hears : Option (List Unread)) (held holds : Told) : Type 0 where
  pub passed : List Passed
  pub names : Hears heard hears (all_named offset total passed)
  pub bounded : sectors_of passed ≤ 2048 * (failed_now - failed)
  pub told : tells → HasGone (failed < failed_now) offset v passed before list sectors held holds

pub going-none : (tells : Type 0) (offset total : ℕ) (v list : List ℕ) (sectors failed : ℕ) (heard : Option (List Unread)) (held : Told) → (tells → AreReadTo v [] sectors list)
    → IsGoing tells offset total v list list sectors failed failed heard heard held held
going-none tells offset total v list sectors failed heard held so_far = record {
  passed = [];
  names = hears-none heard;
  bounded = omega arith;
  told = λ t. record { more = []; is = sym (append-nil list); so_far = so_far t; has = told-none (failed < failed) offset v held };
}

-- what is passed over in both
bounded-both : (xs ys : List Passed) (a b c : ℕ) → a ≤ b → b ≤ c → sectors_of xs ≤ 2048 * (b - a) → sectors_of ys ≤ 2048 * (c - b) → sectors_of (xs ++ ys) ≤ 2048 * (c - a)
bounded-both xs ys a b c low high left right =
    let sum : sectors_of (xs ++ ys) ≡ sectors_of xs + sectors_of ys = sectors-join xs ys in
    omega (arith, sum, left, right, low, high)

-- a step more, and what it found is told
pub going-more : (tells : Type 0) (offset total : ℕ) (v before list : List ℕ) (from next failed mid_failed step_failed failed_now : ℕ) (heard mid_heard hears : Option (List Unread)) (held mid holds : Told) (step : Step)
    → failed ≤ mid_failed → mid_failed ≤ step_failed → step_failed ≤ failed_now
    → IsGoing tells offset total v before list from failed mid_failed heard mid_heard held mid → PassesBy tells offset total v list from next mid_failed step_failed mid_heard hears step
    → (tells → HasToldBy (step_failed < failed_now) offset v (starts_in step) mid holds)
    → IsGoing tells offset total v before (list ++ starts_in step) next failed failed_now heard hears held holds
going-more tells offset total v before list from next failed mid_failed step_failed failed_now heard mid_heard hears held mid holds step one two three going passes has =
    let some : sectors_of (going.passed ++ passes.over) ≤ 2048 * (step_failed - failed) =
    bounded-both going.passed passes.over failed mid_failed step_failed one two going.bounded passes.bounded in
    record {
      passed = going.passed ++ passes.over;
      names = subst (Hears heard hears) (sym (named-join offset total going.passed passes.over))
          (hears-join heard mid_heard hears (all_named offset total going.passed) (all_named offset total passes.over) going.names passes.names);
      bounded = omega (arith, some, one, two, three);
      told = λ t.
          let gone = going.told t in
          record {
            more = gone.more ++ starts_in step;
            is = ap (λ l. l ++ starts_in step) gone.is ∙ append_assoc before gone.more (starts_in step);
            so_far = passes.tells_all t going.passed gone.so_far;
            has = told-join (failed < failed_now) offset v gone.more (starts_in step) held mid holds
                (told-weaker (failed < mid_failed) (failed < failed_now) offset v gone.more held mid (λ is. omega (arith, is, two, three)) gone.has)
                (told-weaker (step_failed < failed_now) (failed < failed_now) offset v (starts_in step) mid holds (λ is. omega (arith, is, one, two)) (has t));
          };
    }

-- it ends
ends-by : (tells : Type 0) (offset total : ℕ) (v before list : List ℕ) (sectors failed failed_now : ℕ) (heard hears : Option (List Unread)) (held holds : Told)
    → IsGoing tells offset total v before list sectors failed failed_now heard hears held holds → (tells → (length v ≤ 512 * sectors) ⊎ (2 ^ 64 ≤ failed_now + 100))
    → HasGoneOn tells offset total v before failed failed_now heard hears held holds stop.Device
ends-by tells offset total v before list sectors failed failed_now heard hears held holds going whole = record {
  passed = going.passed;
  names = going.names;
  bounded = going.bounded;
  told = λ t.
      let gone = going.told t in
      record {
        starts = gone.more;
        later = [];
        sectors = sectors;
        first = subst (AreReadTo v going.passed sectors) (gone.is ∙ sym (append-nil (before ++ gone.more))) gone.so_far;
        has = gone.has;
        whole = elim (whole t) [
          | inl end ↦ inl (refl, end)
          | inr full ↦ inr full
        ];
      };
}

pub going-ends : (tells : Type 0) (offset total : ℕ) (v before list : List ℕ) (sectors failed failed_now : ℕ) (heard hears : Option (List Unread)) (held holds : Told)
    → IsGoing tells offset total v before list sectors failed failed_now heard hears held holds → (tells → (length v ≤ 512 * sectors) ⊎ (2 ^ 64 ≤ failed_now + 100))
    → GoesOnTelling tells offset total v before failed failed_now heard hears held holds stop.Device
going-ends tells offset total v before list sectors failed failed_now heard hears held holds going whole =
    ends-by tells offset total v before list sectors failed failed_now heard hears held holds going whole

-- it passes over a last stretch and comes to the end in one step
pub passes-end : (tells : Type 0) (offset total : ℕ) (v before list : List ℕ) (from next failed mid_failed failed_now : ℕ) (heard mid_heard hears : Option (List Unread)) (held holds : Told)
    → failed ≤ mid_failed → mid_failed ≤ failed_now → IsGoing tells offset total v before list from failed mid_failed heard mid_heard held holds
    → PassesBy tells offset total v list from next mid_failed failed_now mid_heard hears End → (tells → length v ≤ 512 * next)
    → GoesOnTelling tells offset total v before failed failed_now heard hears held holds stop.Device
passes-end tells offset total v before list from next failed mid_failed failed_now heard mid_heard hears held holds one two going passes long =
    let at_end = going-more tells offset total v before list from next failed mid_failed failed_now failed_now heard mid_heard hears held holds holds End one two (omega arith) going passes
    (λ t. told-none (failed_now < failed_now) offset v holds) in
    going-ends tells offset total v before (list ++ []) next failed failed_now heard hears held holds at_end (λ t. inl (long t))

-- memory is refused
pub going-memory : (tells : Type 0) (offset total : ℕ) (v before list : List ℕ) (sectors failed mid_failed failed_now : ℕ) (heard mid_heard hears : Option (List Unread)) (held holds : Told)
    → mid_failed ≤ failed_now → hears ≡ mid_heard → IsGoing tells offset total v before list sectors failed mid_failed heard mid_heard held holds
    → GoesOnTelling tells offset total v before failed failed_now heard hears held holds stop.Memory
going-memory tells offset total v before list sectors failed mid_failed failed_now heard mid_heard hears held holds high silent going = record {
  passed = going.passed;
  names = subst (λ (o : Option (List Unread)). Hears heard o (all_named offset total going.passed)) (sym silent) going.names;
  bounded = (let some : sectors_of going.passed ≤ 2048 * (mid_failed - failed) = going.bounded in omega (arith, some, high));
  told = λ t.
      let gone = going.told t in
      record {
        starts = gone.more;
        later = [];
        sectors = sectors;
        first = subst (AreReadTo v going.passed sectors) (gone.is ∙ sym (append-nil (before ++ gone.more))) gone.so_far;
        has = told-weaker (failed < mid_failed) (failed < failed_now) offset v gone.more held holds (λ is. omega (arith, is, high)) gone.has;
        whole = tt;
      };
}

-- a volume of a step couldn't be told, since memory was refused
part-memory : (tells : Type 0) (offset total : ℕ) (v before list : List ℕ) (from next failed mid_failed step_failed failed_now : ℕ) (heard mid_heard hears : Option (List Unread)) (held mid holds : Told) (step : Step)
    → failed ≤ mid_failed → mid_failed ≤ step_failed → step_failed ≤ failed_now
    → IsGoing tells offset total v before list from failed mid_failed heard mid_heard held mid → PassesBy tells offset total v list from next mid_failed step_failed mid_heard hears step
    → (tells → HasToldPart (step_failed < failed_now) offset v (starts_in step) mid holds)
    → HasGoneOn tells offset total v before failed failed_now heard hears held holds stop.Memory
part-memory tells offset total v before list from next failed mid_failed step_failed failed_now heard mid_heard hears held mid holds step one two three going passes part =
    let some : sectors_of (going.passed ++ passes.over) ≤ 2048 * (step_failed - failed) =
    bounded-both going.passed passes.over failed mid_failed step_failed one two going.bounded passes.bounded in
    record {
      passed = going.passed ++ passes.over;
      names = subst (Hears heard hears) (sym (named-join offset total going.passed passes.over))
          (hears-join heard mid_heard hears (all_named offset total going.passed) (all_named offset total passes.over) going.names passes.names);
      bounded = omega (arith, some, one, two, three);
      told = λ t.
          let gone = going.told t in
          let is = part t in
          let all : list ++ starts_in step ≡ before ++ (gone.more ++ is.told) ++ is.untold =
          ap (λ l. list ++ l) is.is ∙ (ap (λ l. l ++ (is.told ++ is.untold)) gone.is
          ∙ (sym (append_assoc (before ++ gone.more) is.told is.untold) ∙ ap (λ l. l ++ is.untold) (append_assoc before gone.more is.told))) in
          record {
            starts = gone.more ++ is.told;
            later = is.untold;
            sectors = next;
            first = subst (AreReadTo v (going.passed ++ passes.over) next) all (passes.tells_all t going.passed gone.so_far);
            has = told-join (failed < failed_now) offset v gone.more is.told held mid holds
                (told-weaker (failed < mid_failed) (failed < failed_now) offset v gone.more held mid (λ so. omega (arith, so, two, three)) gone.has)
                (told-weaker (step_failed < failed_now) (failed < failed_now) offset v is.told mid holds (λ so. omega (arith, so, one, two)) is.has);
            whole = tt;
          };
    }

pub going-stops : (tells : Type 0) (offset total : ℕ) (v before list : List ℕ) (from next failed mid_failed step_failed failed_now : ℕ) (heard mid_heard hears : Option (List Unread)) (held mid holds : Told) (step : Step) (why : Stop)
    → (why ≡ stop.Device → ⊥) → failed ≤ mid_failed → mid_failed ≤ step_failed → step_failed ≤ failed_now
    → IsGoing tells offset total v before list from failed mid_failed heard mid_heard held mid → PassesBy tells offset total v list from next mid_failed step_failed mid_heard hears step
    → (tells → TellsPart (step_failed < failed_now) offset v (starts_in step) mid holds why) → GoesOnTelling tells offset total v before failed failed_now heard hears held holds why
going-stops tells offset total v before list from next failed mid_failed step_failed failed_now heard mid_heard hears held mid holds step stop.Device another one two three going passes part = absurd (another refl)
going-stops tells offset total v before list from next failed mid_failed step_failed failed_now heard mid_heard hears held mid holds step stop.Memory another one two three going passes part =
    part-memory tells offset total v before list from next failed mid_failed step_failed failed_now heard mid_heard hears held mid holds step one two three going passes part
going-stops tells offset total v before list from next failed mid_failed step_failed failed_now heard mid_heard hears held mid holds step stop.Unprinted another one two three going passes part = tt

-- ---- the whole

-- what was told before a read failed, and then
joins : (tells : Type 0) (offset total : ℕ) (v list : List ℕ) (failed mid_failed failed_now : ℕ) (heard hears : Option (List Unread)) (held mid holds : Told) (why : Stop)
    → failed ≤ mid_failed → mid_failed ≤ failed_now → (tells → HasToldBy (failed < mid_failed) offset v list held mid)
    → HasGoneOn tells offset total v list mid_failed failed_now heard hears mid holds why → HasGoneOn tells offset total v [] failed failed_now heard hears held holds why
joins tells offset total v list failed mid_failed failed_now heard hears held mid holds why one two before on = record {
  passed = on.passed;
  names = on.names;
  bounded = (let some : sectors_of on.passed ≤ 2048 * (failed_now - mid_failed) = on.bounded in omega (arith, some, one));
  told = λ t.
      let gone = on.told t in
      record {
        starts = list ++ gone.starts;
        later = gone.later;
        sectors = gone.sectors;
        first = gone.first;
        has = told-join (failed < failed_now) offset v list gone.starts held mid holds
            (told-weaker (failed < mid_failed) (failed < failed_now) offset v list held mid (λ is. omega (arith, is, two)) (before t))
            (told-weaker (mid_failed < failed_now) (failed < failed_now) offset v gone.starts mid holds (λ is. omega (arith, is, one)) gone.has);
        whole = gone.whole;
      };
}

pub on-joins : (tells : Type 0) (offset total : ℕ) (v list : List ℕ) (failed mid_failed failed_now : ℕ) (heard hears : Option (List Unread)) (held mid holds : Told) (why : Stop)
    → failed ≤ mid_failed → mid_failed ≤ failed_now → (tells → HasToldBy (failed < mid_failed) offset v list held mid)
    → GoesOnTelling tells offset total v list mid_failed failed_now heard hears mid holds why → IsToldOn tells offset total v failed failed_now heard hears held holds why
on-joins tells offset total v list failed mid_failed failed_now heard hears held mid holds stop.Device one two before on =
    joins tells offset total v list failed mid_failed failed_now heard hears held mid holds stop.Device one two before on
on-joins tells offset total v list failed mid_failed failed_now heard hears held mid holds stop.Memory one two before on =
    joins tells offset total v list failed mid_failed failed_now heard hears held mid holds stop.Memory one two before on
on-joins tells offset total v list failed mid_failed failed_now heard hears held mid holds stop.Unprinted one two before on = tt

on-same : (tells : Type 0) (offset total size : ℕ) (v w list : List ℕ) (failed failed_now : ℕ) (heard other hears : Option (List Unread)) (held holds : Told) (why : Stop) → size ≡ total
    → (tells → w ≡ v) → other ≡ heard → HasGoneOn tells offset size w list failed failed_now other hears held holds why
    → HasGoneOn tells offset total v list failed failed_now heard hears held holds why
on-same tells offset total size v w list failed failed_now heard other hears held holds why sized same silent on = record {
  passed = on.passed;
  names = subst (λ (o : Option (List Unread)). Hears o hears (all_named offset total on.passed)) silent
      (subst (λ (n : ℕ). Hears other hears (all_named offset n on.passed)) sized on.names);
  bounded = on.bounded;
  told = λ t. subst (λ (u : List ℕ). HasToldRead (failed < failed_now) offset u on.passed list held holds why failed_now) (same t) (on.told t);
}

-- the same device behind
pub on-as : (tells : Type 0) (offset total size : ℕ) (v w list : List ℕ) (failed failed_now : ℕ) (heard other hears : Option (List Unread)) (held holds : Told) (why : Stop) → size ≡ total
    → (tells → w ≡ v) → other ≡ heard → GoesOnTelling tells offset size w list failed failed_now other hears held holds why
    → GoesOnTelling tells offset total v list failed failed_now heard hears held holds why
on-as tells offset total size v w list failed failed_now heard other hears held holds stop.Device sized same silent on =
    on-same tells offset total size v w list failed failed_now heard other hears held holds stop.Device sized same silent on
on-as tells offset total size v w list failed failed_now heard other hears held holds stop.Memory sized same silent on =
    on-same tells offset total size v w list failed failed_now heard other hears held holds stop.Memory sized same silent on
on-as tells offset total size v w list failed failed_now heard other hears held holds stop.Unprinted sized same silent on = tt

pub stop-prints : (why : Stop) (failed failed_now prints prints_now : ℕ) → StopsBy why failed failed_now prints prints_now → PrintsBy why prints prints_now
stop-prints stop.Device failed failed_now prints prints_now stopped = stopped.1
stop-prints stop.Memory failed failed_now prints prints_now stopped = stopped.1
stop-prints stop.Unprinted failed failed_now prints prints_now stopped = stopped.1

-- it went on behind a read that failed
pub stops-on : (why : Stop) (failed mid_failed failed_now prints between prints_now : ℕ) → failed < mid_failed → mid_failed ≤ failed_now → between ≡ prints → PrintsBy why between prints_now
    → StopsBy why failed failed_now prints prints_now
stops-on stop.Device failed mid_failed failed_now prints between prints_now rose high same printed = (omega (arith, rose, high), printed ∙ same)
stops-on stop.Memory failed mid_failed failed_now prints between prints_now rose high same printed = (omega (arith, rose, high), printed ∙ same)
stops-on stop.Unprinted failed mid_failed failed_now prints between prints_now rose high same printed = (omega (arith, rose, high), printed ∙ ap (λ n. n + 1) same)

-- it stopped before a read failed, or with the first one
pub calm-memory : (tells : Type 0) (offset total : ℕ) (v : List ℕ) (sectors : ℕ) (list : List ℕ) (failed failed_now : ℕ) (heard hears : Option (List Unread)) (held holds : Told)
    → hears ≡ heard → (tells → IsToldCalmly (failed < failed_now) offset v sectors list held holds stop.Memory)
    → IsToldOn tells offset total v failed failed_now heard hears held holds stop.Memory
calm-memory tells offset total v sectors list failed failed_now heard hears held holds silent told = record {
  passed = [];
  names = hears-same heard hears silent;
  bounded = omega arith;
  told = λ t. let is = told t in record { starts = is.starts; later = is.later; sectors = is.sectors; first = is.first; has = is.has; whole = tt };
}

-- nothing was told
pub none-on : (tells : Type 0) (offset total : ℕ) (v : List ℕ) (failed : ℕ) (heard : Option (List Unread)) (held : Told) → IsToldOn tells offset total v failed failed heard heard held held stop.Memory
none-on tells offset total v failed heard held = record {
  passed = [];
  names = hears-none heard;
  bounded = omega arith;
  told = λ t. record { starts = []; later = []; sectors = 0; first = read-so-far v 0 [] (none-yet v); has = told-none (failed < failed) offset v held; whole = tt };
}
