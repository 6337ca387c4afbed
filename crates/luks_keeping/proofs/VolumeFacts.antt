-- A volume whose header and key areas are on another device makes a volume there that opens alike.
use Rattle.std.proofs.Common.{◌≡◌, ℕ, ◌+◌, ◌≤◌, List, length, refl, subst, arith}
use Rattle.std.specs.Bool.{⊤}
use Rattle.luks_area.specs.declared.area.AreaName.TheVariants.{Head1, Head2}
use Rattle.luks2_header.proofs.ChoiceFacts.{choices_agree}
use Rattle.luks2_header.specs.Header2.{hdr_size, header_at}
use Rattle.luks2_header.specs.Selection.{Choice, luks1, luks2, nothing, Chosen}
use Rattle.luks_slot.specs.declared.allowed.Allowed.{Allowed}
use Rattle.luks_reading.proofs.CheckFacts.{formed_as}
use Rattle.luks_reading.specs.Answer.{AnswerWithin, Opened}
use Rattle.luks_reading.specs.Checked.{WellFormed, WellFormedAs}
use Rattle.luks_reading.specs.declared.report.Data.{Data}
use Rattle.luks_keeping.specs.Backup.{IsBackup, IsSizeAs}
use Rattle.luks_keeping.specs.Judged.{IsFormedOn, IsFormedOnAs}
use Rattle.luks_keeping.specs.Kept.{header_size, HasHeader, HasKept}
use Rattle.luks_keeping.specs.Restored.{IsRestored}
use Rattle.luks_keeping.proofs.AnswerFacts.{alike, answers_here, answers_there, HasAreasOf}
use Rattle.luks_keeping.proofs.KeptFacts.{chosen_there, formed_there, kept_then}

-- on its own device a header is judged as the volume is
pub on_own : (v : List ℕ) (payload : Data) (c : Choice) → WellFormedAs v payload c → IsFormedOnAs v payload (length v) c
on_own v payload luks1 x = x
on_own v payload (luks2 o copies) x = x
on_own v payload nothing x = x

pub of_own : (v : List ℕ) (payload : Data) (c : Choice) → IsFormedOnAs v payload (length v) c → WellFormedAs v payload c
of_own v payload luks1 x = x
of_own v payload (luks2 o copies) x = x
of_own v payload nothing x = x

pub own_formed : (v : List ℕ) (payload : Data) → WellFormed v payload → IsFormedOn v payload (length v)
own_formed v payload x = record { choice = x.choice; chosen = x.chosen; formed = on_own v payload x.choice x.formed }

pub formed_own : (v : List ℕ) (payload : Data) → IsFormedOn v payload (length v) → WellFormed v payload
formed_own v payload x = record { choice = x.choice; chosen = x.chosen; formed = of_own v payload x.choice x.formed }

pub on_chosen : (v : List ℕ) (payload : Data) (total : ℕ) (c : Choice) → Chosen v c → IsFormedOn v payload total → IsFormedOnAs v payload total c
on_chosen v payload total c x formed = subst (IsFormedOnAs v payload total) (choices_agree v formed.choice c formed.chosen x) formed.formed

-- the header lies inside
pub header_inside : (v : List ℕ) (payload : Data) (total : ℕ) (c : Choice) → IsFormedOnAs v payload total c → header_size v c ≤ total
header_inside v payload total luks1 x = x.fit.inside Head1 (record { start = 0; len = 592 }) (refl, refl)
header_inside v payload total (luks2 o copies) x =
    let inside : hdr_size (header_at v o) + hdr_size (header_at v o) ≤ total =
    x.layout.1.fit.inside Head2 (record { start = hdr_size (header_at v o); len = hdr_size (header_at v o) }) (refl, refl) in
    omega (arith, inside)
header_inside v payload total nothing x = absurd x

pub something : (v : List ℕ) (payload : Data) (total : ℕ) (c : Choice) → IsFormedOnAs v payload total c → c ≡ nothing → ⊥
something v payload total luks1 x is = (let e : luks1 ≡ nothing = is in cc)
something v payload total (luks2 o copies) x is = (let e : luks2 o copies ≡ nothing = is in cc)
something v payload total nothing x is = x

-- `v` is well formed, `w` has its header, and is long enough
module _ (v w : List ℕ) (payload other : Data) (c : Choice) (x : Chosen v c) (h : HasHeader v c w) (well : WellFormed v payload) (fits : IsFormedOn v other (length w)) where
  formed_v : IsFormedOnAs v payload (length v) c
  formed_v = on_own v payload c (formed_as v payload c x well)

  on_w : IsFormedOnAs v other (length w) c
  on_w = on_chosen v other (length w) c x fits

  pub header_counts : Chosen w c
  header_counts = chosen_there v w c x h (header_inside v payload (length v) c formed_v) (header_inside v other (length w) c on_w) (something v payload (length v) c formed_v)

  formed_w : IsFormedOnAs w other (length w) c
  formed_w = formed_there v w other (length w) c x h on_w

  pub header_formed : WellFormed w other
  header_formed = record { choice = c; chosen = header_counts; formed = of_own w other c formed_w }

  -- each keyslot whose key area is there answers alike
  module _ (slots : ℕ → Type 0) (areas : HasAreasOf slots v c w) (allowed : Allowed) (n : ℕ) (own : slots n) (p : List ℕ) (a : Opened) where
    pub slot_there : AnswerWithin allowed v n p a → AnswerWithin allowed w n p a
    slot_there z = answers_there v w c slots (alike v w payload other c x header_counts h slots areas formed_v formed_w) allowed n own p a z

    pub slot_here : AnswerWithin allowed w n p a → AnswerWithin allowed v n p a
    slot_here z = answers_here v w c slots (alike v w payload other c x header_counts h slots areas formed_v formed_w) allowed n own p a z

-- the same where all is there that is kept of it
module _ (v w : List ℕ) (payload other : Data) (c : Choice) (x : Chosen v c) (kept : HasKept v c w) (well : WellFormed v payload) (fits : IsFormedOn v other (length w)) where
  pub well_formed_there : WellFormed w other
  well_formed_there = header_formed v w payload other c x kept.header well fits

  module _ (allowed : Allowed) (n : ℕ) (p : List ℕ) (a : Opened) where
    pub answer_there : AnswerWithin allowed v n p a → AnswerWithin allowed w n p a
    answer_there z = slot_there v w payload other c x kept.header well fits (λ k. ⊤) (λ k b own is. kept.areas k b is) allowed n tt p a z

    pub answer_here : AnswerWithin allowed w n p a → AnswerWithin allowed v n p a
    answer_here z = slot_here v w payload other c x kept.header well fits (λ k. ⊤) (λ k b own is. kept.areas k b is) allowed n tt p a z

-- ---- a backup that was restored

size_holds : (v : List ℕ) (payload : Data) (c : Choice) (size : ℕ) → IsSizeAs v payload c size → header_size v c ≤ size
size_holds v payload luks1 size x = x.holds.header
size_holds v payload (luks2 o copies) size x = (let is = x.is in omega (arith, is))
size_holds v payload nothing size x = absurd x

pub gives_back : (v before b old w : List ℕ) (payload other : Data) (c : Choice) → Chosen v c → WellFormed v payload → IsBackup v payload before b → IsRestored b other old w → HasKept v c w
gives_back v before b old w payload other c chosen well made put =
    let same : made.choice ≡ c = choices_agree v made.choice c made.chosen chosen in
    let formed : IsFormedOnAs v payload (length v) c = on_own v payload c (formed_as v payload c chosen well) in
    let kept : HasKept v c b = subst (λ (d : Choice). HasKept v d b) same made.kept in
    let size : IsSizeAs v payload c made.size = subst (λ (d : Choice). IsSizeAs v payload d made.size) same made.is_size in
    let low = size_holds v payload c made.size size in
    let within = made.within in
    let there : Chosen b c = chosen_there v b c chosen kept.header (header_inside v payload (length v) c formed) (omega (arith, low, within)) (something v payload (length v) c formed) in
    let again : put.choice ≡ c = choices_agree b put.choice c put.chosen there in
    kept_then v b w c chosen kept (subst (λ (d : Choice). HasKept b d w) again put.kept)
