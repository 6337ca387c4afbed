-- The first fault of rebuilding among those that stand, row by row of the table.
use Rattle.std.proofs.Common.{◌≡◌, ℕ, ◌<◌, ◌≤◌, List, length, inl, inr, refl, sym, subst, arith, false, Result, Ok, Err, IfOk, IfErr, OnOk}
use Rattle.luks_area.proofs.RangeFacts.{length-part}
use Rattle.luks_area.specs.Area.{IsAreaFault}
use Rattle.luks_area.specs.First.{IsLeast, NotAfter}
use Rattle.luks_area.specs.declared.area.AreaFault.{AreaFault}
use Rattle.luks_area.specs.declared.area.AreaFault.TheVariants.{Outside, Overlap}
use Rattle.luks1_header.specs.Faults.{head_key}
use Rattle.luks1_header.specs.Written.{WritesLuks1}
use Rattle.luks1_header.specs.declared.fault.HeadFault.{HeadFault}
use Rattle.luks1_header.specs.declared.fault.HeadFault.TheVariants as head
use Rattle.luks1_header.specs.declared.fault.IterationsOf.TheVariants.{Digest, Slot}
use Rattle.luks1_header.specs.declared.fault.TextField.{TextField}
use Rattle.luks1_header.specs.declared.luks1.Luks1.{Luks1}
use Rattle.luks1_header.proofs.Luks1FaultFacts.{sound}
use Rattle.luks1_mending.specs.Made.{IsMade}
use Rattle.luks1_mending.specs.Taken.{IsFieldFault}
use Rattle.luks1_mending.specs.declared.given.Given.{Given}
use Rattle.luks1_mending.proofs.HeaderFacts.{made_header}
use Rattle.luks_reading.proofs.ListedAreaFacts.{no_area_fault}
use Rattle.luks_reading.specs.Checked.{check_key, IsLuks1Fault, IsLuks1Volume}
use Rattle.luks_reading.specs.Layout1.{Luks1Area}
use Rattle.luks_reading.specs.declared.check_fault.CheckFault.{CheckFault}
use Rattle.luks_reading.specs.declared.check_fault.CheckFault.TheVariants as check
use Rattle.luks_reading.specs.declared.report.Data.TheVariants.{Elsewhere}
use Rattle.luks1_rebuilding.proofs.OneMade.{fault_same}
use Rattle.luks1_rebuilding.specs.Judged.{target_fault, IsJudged, IsShort, IsUnfit}
use Rattle.luks1_rebuilding.specs.Outcome.{EndsOutside, HasNoMakingFault, IsAnsweredFault, IsAnsweredMaking, IsFaultless, IsFaultOf, IsMakingFault, IsMakingFaultIn, IsReencrypted, IsWhole, LacksHeader, OfMade}
use Rattle.luks1_rebuilding.specs.KeyAreas.{header_of}
use Rattle.luks1_rebuilding.specs.RebuildFaults.{field_fault, is_rebuild_failure, rebuild_key}
use Rattle.luks1_rebuilding.specs.declared.judging.MadeHeader.{MadeHeader}
use Rattle.luks1_rebuilding.specs.declared.rebuild_fault.Rebuild1Fault.{Rebuild1Fault}
use Rattle.luks1_rebuilding.specs.declared.rebuild_fault.Rebuild1Fault.TheVariants.{Counts, Reencrypting, NoHeader, Text, KeyBytes, Iterations, TooSmall, Area, Device}

module _ (h : List ℕ) (source : ℕ) (g : Given) (total : ℕ) where
  abbrev Faults : Rebuild1Fault → Type 0
  Faults f = IsMakingFault h source g total f

  pub reencrypting_first : IsReencrypted h source → IsLeast rebuild_key Faults Reencrypting
  reencrypting_first x = (x, after)
    where
      after : (f : Rebuild1Fault) → Faults f → NotAfter (rebuild_key Reencrypting) (rebuild_key f)
      after Counts bad = absurd bad
      after Reencrypting bad = (omega arith, λ same. tt)
      after NoHeader bad = (omega arith, λ same. tt)
      after (Text t) bad = (omega arith, λ same. tt)
      after KeyBytes bad = (omega arith, λ same. tt)
      after Iterations bad = (omega arith, λ same. tt)
      after TooSmall bad = (omega arith, λ same. tt)
      after (Area f) bad = (omega arith, λ same. tt)
      after Device bad = absurd bad

  module _ (still : IsReencrypted h source → ⊥) where
    pub no_header_first : LacksHeader h source → IsLeast rebuild_key Faults NoHeader
    no_header_first x = (x, after)
      where
        after : (f : Rebuild1Fault) → Faults f → NotAfter (rebuild_key NoHeader) (rebuild_key f)
        after Counts bad = absurd bad
        after Reencrypting bad = absurd (still bad)
        after NoHeader bad = (omega arith, λ same. tt)
        after (Text t) bad = (omega arith, λ same. tt)
        after KeyBytes bad = (omega arith, λ same. tt)
        after Iterations bad = (omega arith, λ same. tt)
        after TooSmall bad = (omega arith, λ same. tt)
        after (Area f) bad = (omega arith, λ same. tt)
        after Device bad = absurd bad

    module _ (headed : LacksHeader h source → ⊥) where
      text_first : (t : TextField) → IsLeast head_key (IsFieldFault h g) (head.Text t) → IsLeast rebuild_key Faults (Text t)
      text_first t least = (least.0, after)
        where
          after : (f : Rebuild1Fault) → Faults f → NotAfter (rebuild_key (Text t)) (rebuild_key f)
          after Counts bad = absurd bad
          after Reencrypting bad = absurd (still bad)
          after NoHeader bad = absurd (headed bad)
          after (Text s) bad = (omega arith, λ same. (least.1 (head.Text s) bad).1 refl)
          after KeyBytes bad = (omega arith, λ same. absurd (omega (arith, same)))
          after Iterations bad = (omega arith, λ same. absurd (omega (arith, same)))
          after TooSmall bad = (omega arith, λ same. absurd (omega (arith, same)))
          after (Area f) bad = (omega arith, λ same. absurd (omega (arith, same)))
          after Device bad = absurd bad

      key_first : IsLeast head_key (IsFieldFault h g) head.KeyBytes → IsLeast rebuild_key Faults KeyBytes
      key_first least = (least.0, after)
        where
          after : (f : Rebuild1Fault) → Faults f → NotAfter (rebuild_key KeyBytes) (rebuild_key f)
          after Counts bad = absurd bad
          after Reencrypting bad = absurd (still bad)
          after NoHeader bad = absurd (headed bad)
          after (Text s) bad = absurd (let low = (least.1 (head.Text s) bad).0 in omega (arith, low))
          after KeyBytes bad = (omega arith, λ same. tt)
          after Iterations bad = (omega arith, λ same. tt)
          after TooSmall bad = (omega arith, λ same. tt)
          after (Area f) bad = (omega arith, λ same. tt)
          after Device bad = absurd bad

      iterations_first : IsLeast head_key (IsFieldFault h g) (head.Iterations Digest) → IsLeast rebuild_key Faults Iterations
      iterations_first least = (least.0, after)
        where
          after : (f : Rebuild1Fault) → Faults f → NotAfter (rebuild_key Iterations) (rebuild_key f)
          after Counts bad = absurd bad
          after Reencrypting bad = absurd (still bad)
          after NoHeader bad = absurd (headed bad)
          after (Text s) bad = absurd (let low = (least.1 (head.Text s) bad).0 in omega (arith, low))
          after KeyBytes bad = absurd (let low = (least.1 head.KeyBytes bad).0 in omega (arith, low))
          after Iterations bad = (omega arith, λ same. tt)
          after TooSmall bad = (omega arith, λ same. tt)
          after (Area f) bad = (omega arith, λ same. tt)
          after Device bad = absurd bad

      pub field_first : (f : HeadFault) → IsLeast head_key (IsFieldFault h g) f → IsLeast rebuild_key Faults (field_fault f)
      field_first head.TooShort least = absurd least.0
      field_first head.NotLuks least = absurd least.0
      field_first head.Version least = absurd least.0
      field_first head.NoSoundCopy least = absurd least.0
      field_first (head.Text t) least = text_first t least
      field_first head.Uuid least = absurd least.0
      field_first (head.SlotState n) least = absurd least.0
      field_first head.KeyBytes least = key_first least
      field_first (head.Stripes n) least = absurd least.0
      field_first (head.Iterations (Slot n)) least = absurd least.0
      field_first (head.Iterations Digest) least = iterations_first least
      field_first head.Device least = absurd least.0
      field_first head.Memory least = absurd least.0

      module _ (fields : (f : HeadFault) → IsFieldFault h g f → ⊥) where
        small_first : Faults TooSmall → IsLeast rebuild_key Faults TooSmall
        small_first x = (x, after)
          where
            after : (f : Rebuild1Fault) → Faults f → NotAfter (rebuild_key TooSmall) (rebuild_key f)
            after Counts bad = absurd bad
            after Reencrypting bad = absurd (still bad)
            after NoHeader bad = absurd (headed bad)
            after (Text s) bad = absurd (fields (head.Text s) bad)
            after KeyBytes bad = absurd (fields head.KeyBytes bad)
            after Iterations bad = absurd (fields (head.Iterations Digest) bad)
            after TooSmall bad = (omega arith, λ same. tt)
            after (Area f) bad = (omega arith, λ same. tt)
            after Device bad = absurd bad

        module _ (d : Luks1) (made : IsMade h source g d) (b : List ℕ) (put : WritesLuks1 b d) where
          -- what is said of the areas of any header that is made is said of these
          here : (f : AreaFault) → OfMade h source g (λ bytes. IsAreaFault (Luks1Area bytes Elsewhere total) total f)
              → IsAreaFault (Luks1Area b Elsewhere total) total f
          here f x = fault_same h source g d x.header made x.made b x.bytes put x.written total f x.holds

          outside_here : OfMade h source g (EndsOutside total) → EndsOutside total b
          outside_here x = (x.holds.0, fault_same h source g d x.header made x.made b x.bytes put x.written total (Outside x.holds.0) x.holds.1)

          of_this : (says : List ℕ → Type 0) → says b → OfMade h source g says
          of_this says x = record { header = d; made = made; bytes = b; written = put; holds = x }

          overlap_first : (f : AreaFault) → (total < 16896 → ⊥) → IsAreaFault (Luks1Area b Elsewhere total) total f
              → (EndsOutside total b → ⊥) → ((e : AreaFault) → IsAreaFault (Luks1Area b Elsewhere total) total e → NotAfter (rebuild_key (Area f)) (rebuild_key (Area e)))
              → IsLeast rebuild_key Faults (Area f)
          overlap_first f large x inside first = (of_this (λ bytes. IsAreaFault (Luks1Area bytes Elsewhere total) total f) x, after)
            where
              after : (e : Rebuild1Fault) → Faults e → NotAfter (rebuild_key (Area f)) (rebuild_key e)
              after Counts bad = absurd bad
              after Reencrypting bad = absurd (still bad)
              after NoHeader bad = absurd (headed bad)
              after (Text s) bad = absurd (fields (head.Text s) bad)
              after KeyBytes bad = absurd (fields head.KeyBytes bad)
              after Iterations bad = absurd (fields (head.Iterations Digest) bad)
              after TooSmall (inl small) = absurd (large small)
              after TooSmall (inr y) = absurd (inside (outside_here y))
              after (Area e) bad = first e (here e bad)
              after Device bad = absurd bad

          target_first : (f : CheckFault) → (total < 16896 → ⊥) → IsLeast check_key (IsLuks1Fault b Elsewhere total) f → IsLeast rebuild_key Faults (target_fault f)
          target_first (check.Head f) large least = absurd (sound b d (made_header h source g d made b put) f least.0)
          target_first (check.Meta f) large least = absurd least.0
          target_first (check.Area (Outside n)) large least = small_first (inr (of_this (EndsOutside total) (n, least.0)))
          target_first (check.Area (Overlap m n)) large least =
              overlap_first (Overlap m n) large least.0
              (λ x. absurd (let low = ((least.1 (check.Area (Outside x.0)) x.1).1 refl).0 in omega (arith, low)))
              (λ e bad. (omega arith, λ same. (least.1 (check.Area e) bad).1 refl))
          target_first check.Device large least = absurd least.0
          target_first check.Memory large least = absurd least.0

          pub faultless : 16896 ≤ total → IsLuks1Volume b Elsewhere total → HasNoMakingFault h source g total
          faultless large formed = record { none = none }
            where
              none : (f : Rebuild1Fault) → Faults f → ⊥
              none Counts bad = bad
              none Reencrypting bad = still bad
              none NoHeader bad = headed bad
              none (Text s) bad = fields (head.Text s) bad
              none KeyBytes bad = fields head.KeyBytes bad
              none Iterations bad = fields (head.Iterations Digest) bad
              none TooSmall (inl small) = omega (arith, large, small)
              none TooSmall (inr x) = (let y = outside_here x in no_area_fault (Luks1Area b Elsewhere total) total (Outside y.0) formed.fit y.1)
              none (Area f) bad = no_area_fault (Luks1Area b Elsewhere total) total f formed.fit (here f bad)
              none Device bad = bad

        judged_first : (d : Luks1) → IsMade h source g d → (f : Rebuild1Fault) → IsJudged d total f → IsLeast rebuild_key Faults f
        judged_first d made f x =
            let large = x.large in
            subst (IsLeast rebuild_key Faults) (sym x.is) (target_first d made x.bytes x.written x.fault (λ small. omega (arith, large, small)) x.first)

        pub unfit_first : (d : Luks1) → IsMade h source g d → (f : Rebuild1Fault) → IsUnfit d total f → IsLeast rebuild_key Faults f
        unfit_first d made f (inl x) = subst (IsLeast rebuild_key Faults) (sym x.0) (small_first (inl x.1))
        unfit_first d made f (inr x) = judged_first d made f x

-- ---- what the steps of judging answer

pub err_so : {A F : Type 0} (r : Result A F) (P Q : F → Type 0) → ((f : F) → P f → Q f) → IfErr r P → IfErr r Q
err_so (Ok x) P Q so is = tt
err_so (Err f) P Q so is = so f is

pub ok_so : {A F : Type 0} (r : Result A F) (P Q : Type 0) → (P → Q) → OnOk r P → OnOk r Q
ok_so (Ok x) P Q so is = so is
ok_so (Err f) P Q so is = tt

module _ (h : List ℕ) (source : ℕ) (g : Given) (total : ℕ) (still : IsReencrypted h source → ⊥)
    (headed : LacksHeader h source → ⊥)
    (fields : (f : HeadFault) → IsFieldFault h g f → ⊥) (d : Luks1) (made : IsMade h source g d) where
  of_fields : (m : MadeHeader) → m.fields ≡ d → WritesLuks1 m.bytes m.fields → IsLuks1Volume m.bytes Elsewhere total → 16896 ≤ total → HasNoMakingFault h source g total
  of_fields m is put formed large =
      faultless h source g total still headed fields d made m.bytes (subst (WritesLuks1 m.bytes) is put) large formed

  pub fitting_faultless : (r : Result MadeHeader Rebuild1Fault) → IfOk r (λ m. m.fields ≡ d) → IfOk r (λ m. WritesLuks1 m.bytes m.fields)
      → IfOk r (λ m. IsLuks1Volume m.bytes Elsewhere total) → OnOk r (16896 ≤ total) → OnOk r (HasNoMakingFault h source g total)
  fitting_faultless (Ok m) is put formed large = of_fields m is put formed large
  fitting_faultless (Err f) is put formed large = tt

-- ---- of a volume that may count

module _ (h : List ℕ) (source : ℕ) (g : Given) (total : ℕ) where
  -- the volume itself is the first fault where it counts
  pub counts_first : IsWhole h source g → IsLeast rebuild_key (IsFaultOf h source g total) Counts
  counts_first x = (x, after)
    where
      after : (f : Rebuild1Fault) → IsFaultOf h source g total f → NotAfter (rebuild_key Counts) (rebuild_key f)
      after Counts bad = (omega arith, λ same. tt)
      after Reencrypting bad = (omega arith, λ same. tt)
      after NoHeader bad = (omega arith, λ same. tt)
      after (Text t) bad = (omega arith, λ same. tt)
      after KeyBytes bad = (omega arith, λ same. tt)
      after Iterations bad = (omega arith, λ same. tt)
      after TooSmall bad = (omega arith, λ same. tt)
      after (Area f) bad = (omega arith, λ same. tt)
      after Device bad = absurd bad

  -- each other fault is one of making a header of it
  pub other_there : (f : Rebuild1Fault) → IsMakingFault h source g total f → IsFaultOf h source g total f
  other_there Counts bad = absurd bad
  other_there Reencrypting bad = bad
  other_there NoHeader bad = bad
  other_there (Text t) bad = bad
  other_there KeyBytes bad = bad
  other_there Iterations bad = bad
  other_there TooSmall bad = bad
  other_there (Area f) bad = bad
  other_there Device bad = absurd bad

  module _ (broken : IsWhole h source g → ⊥) where
    pub other_here : (f : Rebuild1Fault) → IsFaultOf h source g total f → IsMakingFault h source g total f
    other_here Counts bad = broken bad
    other_here Reencrypting bad = bad
    other_here NoHeader bad = bad
    other_here (Text t) bad = bad
    other_here KeyBytes bad = bad
    other_here Iterations bad = bad
    other_here TooSmall bad = bad
    other_here (Area f) bad = bad
    other_here Device bad = absurd bad

    -- where it doesn't count the first of these is the first
    pub unwhole_first : (f : Rebuild1Fault) → IsLeast rebuild_key (IsMakingFault h source g total) f → IsLeast rebuild_key (IsFaultOf h source g total) f
    unwhole_first f least = (other_there f least.0, λ e bad. least.1 e (other_here e bad))

    pub unwhole_faultless : HasNoMakingFault h source g total → IsFaultless h source g total
    unwhole_faultless x = record { none = λ f bad. x.none f (other_here f bad) }

-- ---- what is answered

-- what is answered of a header that is the volume's own is answered of the volume
pub answered_own : (v : List ℕ) (g : Given) (total : ℕ) → (IsWhole (header_of v) (length v) g → ⊥) → (f : Rebuild1Fault) → IsAnsweredMaking v g total f → IsAnsweredFault v g total f
answered_own v g total broken Device x = tt
answered_own v g total broken Counts x = absurd x.0
answered_own v g total broken Reencrypting x = unwhole_first (header_of v) (length v) g total broken Reencrypting x
answered_own v g total broken NoHeader x = unwhole_first (header_of v) (length v) g total broken NoHeader x
answered_own v g total broken (Text t) x = unwhole_first (header_of v) (length v) g total broken (Text t) x
answered_own v g total broken KeyBytes x = unwhole_first (header_of v) (length v) g total broken KeyBytes x
answered_own v g total broken Iterations x = unwhole_first (header_of v) (length v) g total broken Iterations x
answered_own v g total broken TooSmall x = unwhole_first (header_of v) (length v) g total broken TooSmall x
answered_own v g total broken (Area f) x = unwhole_first (header_of v) (length v) g total broken (Area f) x

-- a fault that isn't a device's is the first
pub answered_making : (v : List ℕ) (g : Given) (total : ℕ) (f : Rebuild1Fault) → is_rebuild_failure f ≡ false
    → IsLeast rebuild_key (IsMakingFaultIn v g total) f → IsAnsweredMaking v g total f
answered_making v g total Device own least = tt
answered_making v g total Counts own least = least
answered_making v g total Reencrypting own least = least
answered_making v g total NoHeader own least = least
answered_making v g total (Text t) own least = least
answered_making v g total KeyBytes own least = least
answered_making v g total Iterations own least = least
answered_making v g total TooSmall own least = least
answered_making v g total (Area f) own least = least

-- of a volume that is too short nothing is accepted
short_broken : (v : List ℕ) (g : Given) → length v < 592 → IsWhole (header_of v) (length v) g → ⊥
short_broken v g short x = (let long = x.accepted.header.1.long in let is = length-part v 0 592 in omega (arith, long, is, short))

pub short_answered : (v : List ℕ) (g : Given) (total size : ℕ) (f : Rebuild1Fault) → length v ≡ size → IsShort size f → IsAnsweredFault v g total f
short_answered v g total size f is (inl x) =
    let short : length v < 592 = (let less = x.1 in omega (arith, is, less)) in
    subst (IsAnsweredFault v g total) (sym x.0) (unwhole_first (header_of v) (length v) g total (short_broken v g short) NoHeader
    (no_header_first (header_of v) (length v) g total (λ still. (let long = still.0 in omega (arith, long, short))) (inl short)))
short_answered v g total size f is (inr x) = subst (IsAnsweredFault v g total) (sym x) tt
