-- The first fault of rebuilding among the faults that stand, row by row of the table.
use Rattle.std.proofs.Common.{◌≡◌, ◌≢◌, ℕ, ◌+◌, ◌*◌, ◌<◌, ◌≤◌, List, codes, length, false, Result, Ok, Err, IfErr, OnOk, Option, Some, None, option_and_then, unwrap_or, refl, sym, ap, subst, ◌∙◌, arith, inl, inr}
use Rattle.serde_json.specs.Data.{Data as Value}
use Rattle.serde_json.specs.Find.{get}
use Rattle.luks_area.specs.Area.{area_key, Fit, IsAreaFault}
use Rattle.luks_area.specs.First.{IsLeast, NotAfter}
use Rattle.luks_area.specs.declared.area.Area.{Area as TheArea}
use Rattle.luks_area.specs.declared.area.AreaFault.{AreaFault}
use Rattle.luks_area.specs.declared.area.AreaFault.TheVariants.{Outside, Overlap}
use Rattle.luks_area.specs.declared.area.AreaName.{AreaName}
use Rattle.luks1_header.specs.Bytes.{IsUuid}
use Rattle.luks_rules.proofs.AreaFaults.{accepted_none, one_value}
use Rattle.luks_meta.specs.Content.{content}
use Rattle.luks_meta.specs.Objects.{IsConfig}
use Rattle.luks_meta.specs.MetaFault.{Json}
use Rattle.luks_meta.specs.Reading.{decimal_in}
use Rattle.luks_meta.specs.Sizes.{keyslots_size}
use Rattle.luks_meta.specs.declared.configuration.Config.{Config as Sizes}
use Rattle.luks_reading.proofs.ListedAreaFacts.{no_area_fault}
use Rattle.luks_reading.specs.Layout2.{Luks2Area}
use Rattle.luks_reading.specs.declared.report.Data.TheVariants.{Elsewhere}
use Rattle.luks_rebuilding.proofs.SourceFacts.{no_source, one_source}
use Rattle.luks_rebuilding.specs.Candidates.{IsVouchedOf, OfTaken, Source}
use Rattle.luks_rebuilding.specs.Found.{source_of, IsFoundIn, IsNoMeta, IsNotPlain, IsWhole}
use Rattle.luks_rebuilding.specs.KeyAreas.{EndsBeforeRegion, HasHeaderArea}
use Rattle.luks_rebuilding.specs.Making.{IsAnsweredMaking, IsMakeable, IsMakingFault}
use Rattle.luks_rebuilding.specs.Outcome.{AnswersCounts, IsAnsweredFault, IsNoUuid, IsNotFound, IsRebuildable, IsRebuildFault, PassesCounts}
use Rattle.luks_rebuilding.specs.RebuildFaults.{is_rebuild_failure, rebuild_key}
use Rattle.luks_rebuilding.specs.declared.candidate.Candidate.{Candidate}
use Rattle.luks_rebuilding.specs.declared.place.Which.{Which}
use Rattle.luks_rebuilding.specs.declared.rebuild_fault.RebuildFault.{RebuildFault}
use Rattle.luks_rebuilding.specs.declared.rebuild_fault.RebuildFault.TheVariants.{Counts, NoMetadata, Area, TooSmall, Uuid, RandomLength, Memory, Device}

-- ---- the region

-- what `config` tells is what the metadata says
pub region_said : (j : Value) (k : Sizes) → IsConfig j k → keyslots_size j ≡ Some k.keyslots_size
region_said j k x = ap (λ s. decimal_in (option_and_then (get (codes "keyslots_size")) s)) x.is ∙ x.tells_members.1

same_some : (m n : ℕ) → Some m ≡ Some n → m ≡ n
same_some m n e = ap (λ o. unwrap_or o m) e

-- a uuid that is given is one, or isn't
given_good : (given : Option (List ℕ)) → ((text : List ℕ) → given ≡ Some text → IsUuid text) → IsNoUuid given → ⊥
given_good None good bad = bad
given_good (Some t) good bad = bad (good t refl)

-- ---- of a candidate

module _
    (v : List ℕ) (given : Option (List ℕ)) (total : ℕ) (random : List ℕ) (c : Candidate)
    (whole : IsWhole (length v) c)
  where
    pub its_json : Json c.json.items (content c.meta)
    its_json = whole.meta.json

    its_value : (j : Value) → Json c.json.items j → j ≡ content c.meta
    its_value j holds = one_value c.json.items j (content c.meta) holds its_json

    -- its areas
    abbrev Areas : AreaName → TheArea → Type 0
    Areas n a = Luks2Area (content c.meta) c.place.size Elsewhere (length v) n a

    area_of : (n : AreaName) (a : TheArea) → HasHeaderArea v (source_of c) n a → Areas n a
    area_of n a x = subst (λ (j : Value). Luks2Area j c.place.size Elsewhere (length v) n a) (its_value x.value x.holds) x.area

    has_area : (n : AreaName) (a : TheArea) → Areas n a → HasHeaderArea v (source_of c) n a
    has_area n a x = record { value = content c.meta; holds = its_json; area = x }

    fault_there : (f : AreaFault) → IsAreaFault Areas (length v) f → IsAreaFault (HasHeaderArea v (source_of c)) (length v) f
    fault_there (Outside n) h = (h.0, (has_area n h.0 h.1.0, h.1.1))
    fault_there (Overlap m n) h = (h.0, (h.1.0, (has_area m h.0 h.1.1.0, has_area n h.1.0 h.1.1.1, h.1.1.2, h.1.1.3)))

    fault_here : (f : AreaFault) → IsAreaFault (HasHeaderArea v (source_of c)) (length v) f → IsAreaFault Areas (length v) f
    fault_here (Outside n) h = (h.0, (area_of n h.0 h.1.0, h.1.1))
    fault_here (Overlap m n) h = (h.0, (h.1.0, (area_of m h.0 h.1.1.0, area_of n h.1.0 h.1.1.1, h.1.1.2, h.1.1.3)))

    abbrev Faults : RebuildFault → Type 0
    Faults f = IsMakingFault v (source_of c) given total random f

    -- its metadata is accepted
    none_missing : Faults NoMetadata → ⊥
    none_missing bad = accepted_none c.json.items (content c.meta) whole.meta bad.0 bad.1

    fits_so : Fit Areas (length v) → (f : AreaFault) → Faults (Area f) → ⊥
    fits_so fit f bad = no_area_fault Areas (length v) f fit (fault_here f bad)

    large_so : (bytes : ℕ) → keyslots_size (content c.meta) ≡ Some bytes → 2 * c.place.size + bytes ≤ total → Faults TooSmall → ⊥
    large_so bytes says large bad =
        let x : EndsBeforeRegion total (source_of c) = bad in
        let one : keyslots_size (content c.meta) ≡ Some x.bytes = subst (λ (j : Value). keyslots_size j ≡ Some x.bytes) (its_value x.value x.holds) x.says in
        let same : x.bytes ≡ bytes = same_some x.bytes bytes (sym one ∙ says) in
        let short = x.short in
        omega (arith, same, short, large)

    pub area_first : (f : AreaFault) → IsLeast area_key (IsAreaFault Areas (length v)) f → IsLeast rebuild_key Faults (Area f)
    area_first f least = (fault_there f least.0, after)
      where
        after : (g : RebuildFault) → Faults g → NotAfter (rebuild_key (Area f)) (rebuild_key g)
        after Counts bad = absurd bad
        after NoMetadata bad = absurd (none_missing bad)
        after (Area g) bad = (omega arith, λ same. least.1 g (fault_here g bad))
        after TooSmall bad = (omega arith, λ same. absurd (omega (arith, same)))
        after Uuid bad = (omega arith, λ same. absurd (omega (arith, same)))
        after RandomLength bad = (omega arith, λ same. absurd (omega (arith, same)))
        after Memory bad = absurd bad
        after Device bad = absurd bad

    module _ (fit : Fit Areas (length v)) (bytes : ℕ) (says : keyslots_size (content c.meta) ≡ Some bytes) where
      pub small_first : total < 2 * c.place.size + bytes → IsLeast rebuild_key Faults TooSmall
      small_first short = (record { value = content c.meta; holds = its_json; bytes = bytes; says = says; short = short }, after)
        where
          after : (g : RebuildFault) → Faults g → NotAfter (rebuild_key TooSmall) (rebuild_key g)
          after Counts bad = absurd bad
          after NoMetadata bad = absurd (none_missing bad)
          after (Area g) bad = absurd (fits_so fit g bad)
          after TooSmall bad = (omega arith, λ same. tt)
          after Uuid bad = (omega arith, λ same. tt)
          after RandomLength bad = (omega arith, λ same. tt)
          after Memory bad = absurd bad
          after Device bad = absurd bad

      module _ (large : 2 * c.place.size + bytes ≤ total) where
        pub uuid_first : IsNoUuid given → IsLeast rebuild_key Faults Uuid
        uuid_first other = (other, after)
          where
            after : (g : RebuildFault) → Faults g → NotAfter (rebuild_key Uuid) (rebuild_key g)
            after Counts bad = absurd bad
            after NoMetadata bad = absurd (none_missing bad)
            after (Area g) bad = absurd (fits_so fit g bad)
            after TooSmall bad = absurd (large_so bytes says large bad)
            after Uuid bad = (omega arith, λ same. tt)
            after RandomLength bad = (omega arith, λ same. tt)
            after Memory bad = absurd bad
            after Device bad = absurd bad

        module _ (is_good : (text : List ℕ) → given ≡ Some text → IsUuid text) where
          good : IsNoUuid given → ⊥
          good = given_good given is_good

          pub random_first : length random ≢ 144 → IsLeast rebuild_key Faults RandomLength
          random_first other = (other, after)
            where
              after : (g : RebuildFault) → Faults g → NotAfter (rebuild_key RandomLength) (rebuild_key g)
              after Counts bad = absurd bad
              after NoMetadata bad = absurd (none_missing bad)
              after (Area g) bad = absurd (fits_so fit g bad)
              after TooSmall bad = absurd (large_so bytes says large bad)
              after Uuid bad = absurd (good bad)
              after RandomLength bad = (omega arith, λ same. tt)
              after Memory bad = absurd bad
              after Device bad = absurd bad

          pub makeable : length random ≡ 144 → IsMakeable v (source_of c) given total random
          makeable counted = record { none = none }
            where
              none : (f : RebuildFault) → Faults f → ⊥
              none Counts bad = bad
              none NoMetadata bad = none_missing bad
              none (Area g) bad = fits_so fit g bad
              none TooSmall bad = large_so bytes says large bad
              none Uuid bad = good bad
              none RandomLength bad = bad counted
              none Memory bad = bad
              none Device bad = bad

-- ---- of the first candidate of a volume

-- where nothing counts, or may, none that counts is a fault
counts_not : (v : List ℕ) (which : Which) → PassesCounts v which → AnswersCounts v which → ⊥
counts_not v which (inl nothing_counts) bad = bad.0 nothing_counts
counts_not v which (inr may) bad = bad.1 may

module _
    (v : List ℕ) (which : Which) (given : Option (List ℕ)) (total : ℕ) (random : List ℕ) (c : Candidate)
    (found : IsFoundIn v which c) (whole : IsWhole (length v) c)
  where
    -- what is said of the first candidate is said of this one
    of_this : (says : Source → Type 0) → OfTaken v which says → says (source_of c)
    of_this says x = subst says (one_source v which x.source (source_of c) x.taken found.taken) x.holds

    to_this : (says : Source → Type 0) → says (source_of c) → OfTaken v which says
    to_this says x = record { source = source_of c; taken = found.taken; holds = x }

    -- the faults of the volume are those of making a header of it
    pub own_fault : (f : RebuildFault) → IsRebuildFault v which given total random f → IsMakingFault v (source_of c) given total random f
    own_fault Counts bad = counts_not v which found.passes bad
    own_fault NoMetadata bad = absurd (bad (source_of c) found.taken.0)
    own_fault (Area f) bad = of_this (λ source. IsAreaFault (HasHeaderArea v source) (length v) f) bad
    own_fault TooSmall bad = of_this (EndsBeforeRegion total) bad
    own_fault Uuid bad = bad
    own_fault RandomLength bad = bad
    own_fault Memory bad = bad
    own_fault Device bad = bad

    volume_fault : (f : RebuildFault) → IsMakingFault v (source_of c) given total random f → IsRebuildFault v which given total random f
    volume_fault Counts bad = absurd bad
    volume_fault NoMetadata bad = absurd (none_missing v given total random c whole bad)
    volume_fault (Area f) bad = to_this (λ source. IsAreaFault (HasHeaderArea v source) (length v) f) bad
    volume_fault TooSmall bad = to_this (EndsBeforeRegion total) bad
    volume_fault Uuid bad = bad
    volume_fault RandomLength bad = bad
    volume_fault Memory bad = bad
    volume_fault Device bad = bad

    first_of_volume : (f : RebuildFault) → IsLeast rebuild_key (IsMakingFault v (source_of c) given total random) f → IsLeast rebuild_key (IsRebuildFault v which given total random) f
    first_of_volume f least = (volume_fault f least.0, λ e bad. least.1 e (own_fault e bad))

    -- what is answered of it is answered of the volume
    pub own_answered : (f : RebuildFault) → (is_rebuild_failure f ≡ false → IsLeast rebuild_key (IsMakingFault v (source_of c) given total random) f) → IsAnsweredFault v which given total random f
    own_answered Counts least = first_of_volume Counts (least refl)
    own_answered NoMetadata least = first_of_volume NoMetadata (least refl)
    own_answered (Area f) least = first_of_volume (Area f) (least refl)
    own_answered TooSmall least = first_of_volume TooSmall (least refl)
    own_answered Uuid least = first_of_volume Uuid (least refl)
    own_answered RandomLength least = first_of_volume RandomLength (least refl)
    own_answered Memory least = absurd (least refl).0
    own_answered Device least = tt

    pub own_rebuildable : IsMakeable v (source_of c) given total random → IsRebuildable v which given total random
    own_rebuildable x = record { none = λ f bad. x.none f (own_fault f bad) }

-- ---- what is answered

-- where no checksum vouches for any, a search for others that was broken off or found none finds none
pub plain_not_found : (v : List ℕ) (which : Which) (f : RebuildFault) → PassesCounts v which → ((s : Source) → IsVouchedOf v which s → ⊥)
    → IsNotPlain v which.copies f → IsNotFound v which f
plain_not_found v which NoMetadata passes none x = (passes, no_source v which none x)
plain_not_found v which Memory passes none x = record { passes = passes; place = x.0; sought = inr x.1 }
plain_not_found v which Device passes none x = tt
plain_not_found v which Counts passes none x = absurd x
plain_not_found v which (Area f) passes none x = absurd x
plain_not_found v which TooSmall passes none x = absurd x
plain_not_found v which Uuid passes none x = absurd x
plain_not_found v which RandomLength passes none x = absurd x

-- why no candidate is found is what is answered
pub not_found_first : (v : List ℕ) (which : Which) (given : Option (List ℕ)) (total : ℕ) (random : List ℕ) (f : RebuildFault) → IsNotFound v which f → IsAnsweredFault v which given total random f
not_found_first v which given total random Counts x = (x, after)
  where
    after : (g : RebuildFault) → IsRebuildFault v which given total random g → NotAfter (rebuild_key Counts) (rebuild_key g)
    after Counts bad = (omega arith, λ same. tt)
    after NoMetadata bad = (omega arith, λ same. tt)
    after (Area g) bad = (omega arith, λ same. tt)
    after TooSmall bad = (omega arith, λ same. tt)
    after Uuid bad = (omega arith, λ same. tt)
    after RandomLength bad = (omega arith, λ same. tt)
    after Memory bad = absurd bad
    after Device bad = absurd bad
not_found_first v which given total random NoMetadata x = (x.1, after)
  where
    after : (g : RebuildFault) → IsRebuildFault v which given total random g → NotAfter (rebuild_key NoMetadata) (rebuild_key g)
    after Counts bad = absurd (counts_not v which x.0 bad)
    after NoMetadata bad = (omega arith, λ same. tt)
    after (Area g) bad = (omega arith, λ same. tt)
    after TooSmall bad = (omega arith, λ same. tt)
    after Uuid bad = (omega arith, λ same. tt)
    after RandomLength bad = (omega arith, λ same. tt)
    after Memory bad = absurd bad
    after Device bad = absurd bad
not_found_first v which given total random (Area f) x = absurd x
not_found_first v which given total random TooSmall x = absurd x
not_found_first v which given total random Uuid x = absurd x
not_found_first v which given total random RandomLength x = absurd x
not_found_first v which given total random Memory x = x
not_found_first v which given total random Device x = tt

-- what is answered of metadata that was found, and of which a header was to be made
pub making_answered : (v : List ℕ) (source : Source) (given : Option (List ℕ)) (total : ℕ) (random : List ℕ) (f : RebuildFault)
    → (is_rebuild_failure f ≡ false → IsLeast rebuild_key (IsMakingFault v source given total random) f) → IsAnsweredMaking v source given total random f
making_answered v source given total random Counts least = least refl
making_answered v source given total random NoMetadata least = least refl
making_answered v source given total random (Area f) least = least refl
making_answered v source given total random TooSmall least = least refl
making_answered v source given total random Uuid least = least refl
making_answered v source given total random RandomLength least = least refl
making_answered v source given total random Memory least = absurd (least refl).0
making_answered v source given total random Device least = tt

-- where no metadata is read, that is answered
pub no_meta_answered : (v : List ℕ) (source : Source) (given : Option (List ℕ)) (total : ℕ) (random : List ℕ) (f : RebuildFault)
    → IsNoMeta source.json f → IsAnsweredMaking v source given total random f
no_meta_answered v source given total random NoMetadata x = (x, after)
  where
    after : (g : RebuildFault) → IsMakingFault v source given total random g → NotAfter (rebuild_key NoMetadata) (rebuild_key g)
    after Counts bad = absurd bad
    after NoMetadata bad = (omega arith, λ same. tt)
    after (Area g) bad = (omega arith, λ same. tt)
    after TooSmall bad = (omega arith, λ same. tt)
    after Uuid bad = (omega arith, λ same. tt)
    after RandomLength bad = (omega arith, λ same. tt)
    after Memory bad = absurd bad
    after Device bad = absurd bad
no_meta_answered v source given total random Memory x = x
no_meta_answered v source given total random Counts x = absurd x
no_meta_answered v source given total random (Area f) x = absurd x
no_meta_answered v source given total random TooSmall x = absurd x
no_meta_answered v source given total random Uuid x = absurd x
no_meta_answered v source given total random RandomLength x = absurd x
no_meta_answered v source given total random Device x = absurd x

-- what each of them says of an outcome
pub err_so : {A F : Type 0} (r : Result A F) (P Q : F → Type 0) → ((f : F) → P f → Q f) → IfErr r P → IfErr r Q
err_so (Ok x) P Q so is = tt
err_so (Err f) P Q so is = so f is

pub ok_so : {A F : Type 0} (r : Result A F) (P Q : Type 0) → (P → Q) → OnOk r P → OnOk r Q
ok_so (Ok x) P Q so is = so is
ok_so (Err f) P Q so is = tt
