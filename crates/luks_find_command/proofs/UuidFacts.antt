-- The uuid of a volume, by what `check` answers of it.
use Rattle.std.proofs.Common.{◌≡◌, ℕ, ◌+◌, ◌-◌, List, Option, None, Some, drop, length, length-drop, take, refl, ap, ◌∙◌, subst, arith}
use Rattle.std.proofs.Math.Seq.{take-length}
use Rattle.luks_area.specs.Ranges.{part}
use Rattle.luks2_header.specs.Selection.{nothing}
use Rattle.luks2_header.proofs.ChoiceFacts.{choices_agree}
use Rattle.luks_reading.specs.Checked.{First, WellFormedAs}
use Rattle.luks_reading.specs.Header.{NeedsMetadata}
use Rattle.luks_reading.specs.declared.report.Data.TheVariants.{Here}
use Rattle.luks_reading.specs.declared.report.Version.{Version}
use Rattle.luks_reading.proofs.VolumeLaws.{well_formed_faultless}
use Rattle.luks_commands.specs.CheckAnswers.{IsAccepted, IsCheckAnswer}
use Rattle.luks_commands.specs.Standing.{IsUuidOf}
use Rattle.luks_commands.specs.declared.answers.Answer.{Answer}
use Rattle.luks_commands.specs.declared.answers.Answer.TheVariants.{Accepted, Refused, DeviceFault, NoMemory}
use Rattle.luks_commands.specs.declared.answers.Refusal.TheVariants.{Check}
use Rattle.luks_find_command.specs.SameUuids.{HasUuid, KnowsUuid}

-- an accepted volume has one: in the header that counts
pub accepted-uuid : (v : List ℕ) (version : Version) (areas : ℕ) (uuid : Option (List ℕ)) → IsAccepted v Here version areas → IsUuidOf v uuid → HasUuid v uuid
accepted-uuid v version areas (Some uuid) accepted is = (accepted.formed, is)
accepted-uuid v version areas None accepted is = λ well. subst (WellFormedAs v Here) (choices_agree v well.choice nothing well.chosen is) well.formed

-- of another one it isn't told
pub other-uuid : (tells : Type 0) (v : List ℕ) (before after : ℕ) (a : Answer) → IsCheckAnswer tells v Here before after a → ((version : Version) (areas : ℕ) → a ≡ Accepted version areas → ⊥)
    → tells → KnowsUuid v a None
other-uuid tells v before after (Accepted version areas) is other t = absurd (other version areas refl)
other-uuid tells v before after (Refused (Check f)) is other t = λ well. well_formed_faultless v Here well f (is.1 t).0
other-uuid tells v before after DeviceFault is other t = tt
other-uuid tells v before after NoMemory is other t = tt
other-uuid tells v before after a is other t = absurd is

-- the same volume's bytes
pub check-as : (tells : Type 0) (v w : List ℕ) (before after : ℕ) (a : Answer) → (tells → w ≡ v) → IsCheckAnswer tells w Here before after a → IsCheckAnswer tells v Here before after a
check-as tells v w before after (Accepted version areas) same is = (is.0, λ t. subst (λ (u : List ℕ). IsAccepted u Here version areas) (same t) (is.1 t))
check-as tells v w before after (Refused (Check f)) same is = (is.0, λ t. subst (λ (u : List ℕ). First u Here f) (same t) (is.1 t))
check-as tells v w before after DeviceFault same is = is
check-as tells v w before after NoMemory same is = (is.0, λ t. subst NeedsMetadata (same t) (is.1 t))
check-as tells v w before after a same is = absurd is

-- the bytes from a place on, to the end
pub part-drop : (v : List ℕ) (start len : ℕ) → start + len ≡ length v → part v start len ≡ drop start v
part-drop v start len whole =
    let rest : length (drop start v) ≡ length v - start = length-drop start v in
    let all : len ≡ length (drop start v) = omega (arith, rest, whole) in
    ap (λ n. take n (drop start v)) all ∙ take-length (drop start v)
