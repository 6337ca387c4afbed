-- What was made and written is the header of the volume.
use Rattle.std.proofs.Common.{◌≡◌, ℕ, List, length, inl, inr, sym, subst}
use Rattle.luks_area.specs.Ranges.{SameBut}
use Rattle.luks_area.proofs.RangeFacts.{same_but-wider}
use Rattle.luks_area.specs.declared.area.Area.{Area}
use Rattle.luks1_header.specs.Written.{WritesLuks1}
use Rattle.luks1_header.specs.declared.luks1.Luks1.{Luks1}
use Rattle.luks1_mending.specs.Made.{IsMade}
use Rattle.luks1_mending.specs.declared.given.Given.{Given}
use Rattle.luks1_rebuilding.proofs.MadeFacts.{kept_used, used_kept}
use Rattle.luks1_rebuilding.specs.KeyAreas.{header_of, HasKeptArea, HasKeptAreas}
use Rattle.luks1_rebuilding.specs.Rebuilt.{ClearsFirst1, IsOfRebuilt, IsRebuilt}
use Rattle.luks1_rebuilding.specs.Used.{HasUsedAreas, IsOfWritten, IsUsedArea, IsWritten, WritesFirst1}

module _ (v : List ℕ) (g : Given) (d : Luks1) (made : IsMade (header_of v) (length v) g d) where
  pub kept_here : (n : ℕ) (a : Area) → HasKeptArea v g n a → IsUsedArea d n a
  kept_here n a x = kept_used (header_of v) (length v) g d made n a (record { kept = x.in_use.kept; enabled = x.in_use.enabled; is = x.is })

  used_here : (n : ℕ) (a : Area) → IsUsedArea d n a → HasKeptArea v g n a
  used_here n a used = (let x = used_kept (header_of v) (length v) g d made n a used in record { in_use = record { kept = x.kept; enabled = x.enabled }; is = x.is })

  kept_areas : (w : List ℕ) → HasUsedAreas d v w → HasKeptAreas v g w
  kept_areas w areas n a x = areas n a (kept_here n a x)

  of_rebuilt : (p : ℕ) → IsOfWritten d p → IsOfRebuilt v g p
  of_rebuilt p (inl at) = inl at
  of_rebuilt p (inr (inl at)) = inr (inl at)
  of_rebuilt p (inr (inr is)) = inr (inr (record {
    number = is.number;
    area = is.of_slot.area;
    has = used_here is.number is.of_slot.area is.of_slot.is;
    at = is.of_slot.at;
  }))

  pub rest_kept : {old w : List ℕ} → SameBut (IsOfWritten d) old w → SameBut (IsOfRebuilt v g) old w
  rest_kept same = same_but-wider of_rebuilt same

  pub order_kept : (old w : List ℕ) → WritesFirst1 d v old w → ClearsFirst1 v g old w
  order_kept old w (inl same) = inl same
  order_kept old w (inr (inl cleared)) = inr (inl cleared)
  order_kept old w (inr (inr areas)) = inr (inr (kept_areas w areas))

  pub is_rebuilt : (old w bytes : List ℕ) → WritesLuks1 bytes d → IsWritten d bytes v w → SameBut (IsOfWritten d) old w → IsRebuilt v g old w
  is_rebuilt old w bytes put x same = record {
    header = d;
    made = made;
    written = subst (λ (b : List ℕ). WritesLuks1 b d) (sym x.header) put;
    areas = kept_areas w x.areas;
    rest = rest_kept same;
  }

-- what is said of the same bytes and numbers
pub moved : (P : List ℕ → ℕ → Type 0) (h i : List ℕ) (m n : ℕ) → h ≡ i → m ≡ n → P h m → P i n
moved P h i m n head size x = subst (λ (s : ℕ). P i s) size (subst (λ (b : List ℕ). P b m) head x)
