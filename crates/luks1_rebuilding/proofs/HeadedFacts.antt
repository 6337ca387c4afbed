-- A volume with another header: its other bytes, and what is made and written of it.
use Rattle.std.proofs.Common.{◌≡◌, ℕ, ◌≤◌, List, ◌++◌, length, take, drop, inl, inr, sym, ap, subst, ◌∙◌, arith}
use Rattle.std.proofs.Math.Seq.{take-append_seam}
use Rattle.std.proofs.lemmas.Slice.{drop-append-drop}
use Rattle.std.proofs.lemmas.List.{length-append, length-drop, take-append-drop}
use Rattle.luks_area.specs.Ranges.{part}
use Rattle.luks_area.specs.declared.area.Area.{Area}
use Rattle.luks1_header.specs.declared.luks1.Luks1.{Luks1}
use Rattle.luks1_mending.specs.Made.{IsMade}
use Rattle.luks1_mending.specs.declared.given.Given.{Given}
use Rattle.luks1_rebuilding.proofs.MadeFacts.{behind}
use Rattle.luks1_rebuilding.proofs.RebuiltFacts.{kept_here, moved}
use Rattle.luks1_rebuilding.specs.Headed.{headed}
use Rattle.luks1_rebuilding.specs.KeyAreas.{header_of, HasKeptArea, HasKeptAreas}
use Rattle.luks1_rebuilding.specs.Tried.{IsMadeOf}
use Rattle.luks1_rebuilding.specs.Used.{HasUsedAreas, IsUsedArea, IsWritten, WritesFirst1}

pub header_is : (v h : List ℕ) → length h ≡ 592 → header_of (headed v h) ≡ h
header_is v h long = let P : ℕ → Type 0 = λ n. take n (h ++ drop 592 v) ≡ h in subst P long (take-append_seam h (drop 592 v))

pub length_is : (v h : List ℕ) → length h ≡ 592 → 592 ≤ length v → length (headed v h) ≡ length v
length_is v h long room = omega (arith, length-append h (drop 592 v), length-drop 592 v)

pub area_is : (v h : List ℕ) → length h ≡ 592 → (start len : ℕ) → 592 ≤ start → part (headed v h) start len ≡ part v start len
area_is v h long start len behind = ap (take len) (drop-append-drop 592 v h start behind long)

-- the volume with its own header is the volume
pub headed_own : (v h : List ℕ) → h ≡ header_of v → headed v h ≡ v
headed_own v h is = ap (λ l. l ++ drop 592 v) is ∙ take-append-drop 592 v

-- what is made of the header is made of the volume that has it
pub made_headed : (v h : List ℕ) (g : Given) (d : Luks1) → length h ≡ 592 → 592 ≤ length v → IsMade h (length v) g d → IsMadeOf (headed v h) g d
made_headed v h g d long room made =
    moved (λ i n. IsMade i n g d) h (header_of (headed v h)) (length v) (length (headed v h)) (sym (header_is v h long)) (sym (length_is v h long room)) made

-- ---- what is written of it has the volume's key areas

module _ (v h : List ℕ) (long : length h ≡ 592) (g : Given) (d : Luks1) (made : IsMadeOf (headed v h) g d) where
  area_there : (n : ℕ) (a : Area) → IsUsedArea d n a → part (headed v h) a.start a.len ≡ part v a.start a.len
  area_there n a used = area_is v h long a.start a.len (behind (header_of (headed v h)) (length (headed v h)) g d made n a used)

  areas_there : (w : List ℕ) → HasUsedAreas d v w → HasUsedAreas d (headed v h) w
  areas_there w areas n a used = areas n a used ∙ sym (area_there n a used)

  pub written_there : (w bytes : List ℕ) → IsWritten d bytes v w → IsWritten d bytes (headed v h) w
  written_there w bytes x = record { header = x.header; areas = areas_there w x.areas }

  pub order_there : (old w : List ℕ) → WritesFirst1 d v old w → WritesFirst1 d (headed v h) old w
  order_there old w (inl same) = inl same
  order_there old w (inr (inl cleared)) = inr (inl cleared)
  order_there old w (inr (inr areas)) = inr (inr (areas_there w areas))

  pub kept_areas_here : (w : List ℕ) → HasKeptAreas (headed v h) g w → (n : ℕ) (a : Area) → HasKeptArea (headed v h) g n a → part w a.start a.len ≡ part v a.start a.len
  kept_areas_here w areas n a x = areas n a x ∙ area_there n a (kept_here (headed v h) g d made n a x)
