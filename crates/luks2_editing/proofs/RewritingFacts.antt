-- Both copies of a LUKS2 header, written anew one after the other.
use Rattle.std.proofs.Common.{◌≡◌, ◌≢◌, ℕ, ◌+◌, ◌-◌, ◌*◌, ◌≤◌, ◌⊎◌, List, length, get_or, Bool, true, false, inl, inr, arith, refl, sym, ap, ◌∙◌, subst}
use Rattle.std.specs.Prelude.{◌==◌, if◌then◌else◌}
use Rattle.std.proofs.lemmas.Bool.{eqb-true, eqb-false}
use Rattle.std.proofs.lemmas.List.{get_or-drop, get_or-replicate}
use Rattle.serde_json.specs.Data.{Data as Value}
use Rattle.luks_area.specs.Ranges.{part, IsAt, SameBut}
use Rattle.luks_area.proofs.RangeFacts.{get_or-part, part-same_but_at, same_but-then, same_but-wider}
use Rattle.luks1_header.specs.Written.{AreZeros}
use Rattle.luks2_header.specs.Header2.{header_at, hdr_size}
use Rattle.luks2_header.proofs.BinaryHeaderFacts.{written_is_sound}
use Rattle.luks2_header.specs.declared.bin2.Bin2.{Bin2}
use Rattle.luks_making.specs.WrittenArea.{IsWrittenArea}
use Rattle.luks_reading.specs.Header.{json_at}
use Rattle.luks_edit.specs.declared.edit.Edit.{Edit}
use Rattle.luks2_edit_laws.specs.Copies.{copy_salt, other_place, IsWrittenAnew}
use Rattle.luks2_edit_laws.specs.Places.{IsOfCopies}
use Rattle.luks_writing.proofs.CopyFacts.{copy_stays as written_stays}
use Rattle.luks2_judging.specs.declared.judged.TextFields.{TextFields}
use Rattle.luks2_editing.specs.NewCopy.{HasNewCopy, IsCopyPlace}
use Rattle.luks2_editing.specs.Rewriting.{AreWrittenAnew, IsRenewing, IsRewriting, MayBeHalfWritten}

-- a copy that was made of the old one's fields is written anew
module _ (v : List ℕ) (e : Edit) (old : Bin2) (texts : TextFields) (random : List ℕ) (j : Value) (json : List ℕ) (is : IsRewriting v e random old texts j json) where
  module _ (w : List ℕ) (q : ℕ) (new : HasNewCopy old texts (copy_salt random q) json w q) where
    rest_zeros : AreZeros (header_at w q) 480 512
    rest_zeros k low high =
        let b : List ℕ = header_at w q in
        let csum : List ℕ = new.header.csum in
        let there : 448 + (k - 448) ≡ k = omega (arith, low) in
        let behind : 32 + (k - 480) ≡ k - 448 = omega (arith, low) in
        ap (λ p. get_or b p 0) (sym there)
        ∙ sym (get_or-part b 448 64 (k - 448) (omega (arith, low, high)))
        ∙ ap (λ l. get_or l (k - 448) 0) new.written.header.fields.csum
        ∙ ap (λ p. get_or csum p 0) (sym behind)
        ∙ sym (get_or-drop 32 csum (k - 480) 0)
        ∙ ap (λ l. get_or l (k - 480) 0) new.fields.csum_rest
        ∙ get_or-replicate 32 (k - 480) 0 0 (omega (arith, low, high))

    written_size : hdr_size (header_at w q) ≡ old.hdr_size
    written_size = new.written.header.fields.hdr_size ∙ new.fields.hdr_size

    json_there : json_at w q ≡ json
    json_there =
        let size : hdr_size (header_at w q) ≡ old.hdr_size = written_size in
        let long : length json ≡ old.hdr_size - 4096 = is.area.long in
        ap (λ n. part w (q + 4096) (n - 4096)) size ∙ ap (λ n. part w (q + 4096) n) (sym long) ∙ new.written.area

    pub written_anew : IsWrittenAnew v old.hdr_offset e random j w q
    written_anew = record {
      renewed = record {
        sound = written_is_sound w q new.header json new.written;
        size = written_size ∙ sym is.header.hdr_size;
        number = new.written.header.fields.seqid ∙ new.fields.seqid ∙ ap (λ n. n + 1) (sym is.header.seqid);
        label = new.written.header.fields.label ∙ new.fields.own_label ∙ is.label_is;
        csum_alg = new.written.header.fields.csum_alg ∙ new.fields.csum_alg;
        salt = new.written.header.fields.salt ∙ new.fields.own_salt;
        uuid = new.written.header.fields.uuid ∙ new.fields.own_uuid ∙ is.uuid_is;
        subsystem = new.written.header.fields.subsystem ∙ new.fields.own_subsystem ∙ is.subsystem_is;
        padding = new.written.header.padding;
        tail = new.written.header.tail;
        json = subst (λ n. IsWrittenArea (n - 4096) j (json_at w q)) (sym is.header.hdr_size) (subst (λ l. IsWrittenArea (old.hdr_size - 4096) j l) (sym json_there) is.area);
      };
      csum_rest = rest_zeros;
    }

-- a copy stays where its bytes do
pub copy_stays : (old : Bin2) (texts : TextFields) (salt json v w : List ℕ) (at : ℕ) → length w ≡ length v → part w at 4096 ≡ part v at 4096
    → part w (at + 4096) (length json) ≡ part v (at + 4096) (length json) → HasNewCopy old texts salt json v at → HasNewCopy old texts salt json w at
copy_stays old texts salt json v w at long head area x = record {
  header = x.header;
  fields = x.fields;
  written = written_stays v w json at x.header long head area x.written;
}

-- and so beside a range that was written
pub copy_beside : (old : Bin2) (texts : TextFields) (salt json v w : List ℕ) (at start m : ℕ) → 4096 + length json ≡ old.hdr_size → SameBut (IsAt start m) v w
    → (at + old.hdr_size ≤ start) ⊎ (start + m ≤ at) → HasNewCopy old texts salt json v at → HasNewCopy old texts salt json w at
copy_beside old texts salt json v w at start m size same (inl before) x =
    copy_stays old texts salt json v w at same.length_same
    (part-same_but_at start m at 4096 same (inl (omega (arith, size, before))))
    (part-same_but_at start m (at + 4096) (length json) same (inl (omega (arith, size, before)))) x
copy_beside old texts salt json v w at start m size same (inr behind) x =
    copy_stays old texts salt json v w at same.length_same
    (part-same_but_at start m at 4096 same (inr behind))
    (part-same_but_at start m (at + 4096) (length json) same (inr (omega (arith, behind)))) x

-- the two places of the copies
pub data Places (h o : ℕ) : Type 0 where
  at_start : o ≡ 0 → other_place h o ≡ h → Places h o
  behind_first : o ≢ 0 → other_place h o ≡ 0 → Places h o

places_by : (h o : ℕ) (b : Bool) → (o == 0) ≡ b → Places h o
places_by h o true e = at_start (eqb-true o 0 e) (ap (λ t. if t then h else 0) e)
places_by h o false e = behind_first (eqb-false o 0 e) (ap (λ t. if t then h else 0) e)

pub places_of : (h o : ℕ) → Places h o
places_of h o = places_by h o (o == 0) refl

-- a copy lies among both copies
pub of_other : (h o p : ℕ) → IsAt (other_place h o) h p → IsOfCopies h p
of_other h o p at = elim (places_of h o) [
  | at_start zero is ↦ (let high = at.1 in omega (arith, high, is))
  | behind_first more is ↦ (let high = at.1 in omega (arith, high, is))
]

pub of_chosen : (h o p : ℕ) → o ≤ h → IsAt o h p → IsOfCopies h p
of_chosen h o p low at = let high = at.1 in omega (arith, high, low)

-- and ends with them
pub other_inside : (h o total q : ℕ) → q ≡ other_place h o → 2 * h ≤ total → q + h ≤ total
other_inside h o total q at inside = elim (places_of h o) [
  | at_start zero is ↦ omega (arith, at, is, inside)
  | behind_first more is ↦ omega (arith, at, is, inside)
]

-- the place of the other copy is one
pub other_is_place : (old : Bin2) (v : List ℕ) (e : Edit) (random : List ℕ) (texts : TextFields) (j : Value) (json : List ℕ) → IsRewriting v e random old texts j json
    → IsCopyPlace old (other_place old.hdr_size old.hdr_offset)
other_is_place old v e random texts j json is = record {
  listed = is.listed;
  second = λ more. elim (places_of old.hdr_size old.hdr_offset) [
    | at_start zero at ↦ sym at
    | behind_first not at ↦ absurd (more at)
  ];
}

pub own_is_place : (old : Bin2) (v : List ℕ) (e : Edit) (random : List ℕ) (texts : TextFields) (j : Value) (json : List ℕ) → IsRewriting v e random old texts j json → IsCopyPlace old old.hdr_offset
own_is_place old v e random texts j json is = record { listed = is.listed; second = is.second }

-- ---- the two writes

module _ (v : List ℕ) (e : Edit) (old : Bin2) (texts : TextFields) (random : List ℕ) (j : Value) (json : List ℕ) (is : IsRewriting v e random old texts j json) (size : 4096 + length json ≡ old.hdr_size) where
  h_is : hdr_size (header_at v old.hdr_offset) ≡ old.hdr_size
  h_is = is.header.hdr_size

  -- while the first of them was written
  pub half_begun : (u w : List ℕ) → SameBut (IsAt (other_place old.hdr_size old.hdr_offset) old.hdr_size) u w → MayBeHalfWritten v old.hdr_offset e random j u w
  half_begun u w same = inl (subst (λ n. SameBut (IsAt (other_place n old.hdr_offset) n) u w) (sym h_is) same)

  module _ (u w x : List ℕ) (other : HasNewCopy old texts (copy_salt random (other_place old.hdr_size old.hdr_offset)) json w (other_place old.hdr_size old.hdr_offset))
      (first : SameBut (IsAt (other_place old.hdr_size old.hdr_offset) old.hdr_size) u w) (low : old.hdr_offset ≤ old.hdr_size) (second : SameBut (IsAt old.hdr_offset old.hdr_size) w x) where
    other_stays : HasNewCopy old texts (copy_salt random (other_place old.hdr_size old.hdr_offset)) json x (other_place old.hdr_size old.hdr_offset)
    other_stays = copy_beside old texts (copy_salt random (other_place old.hdr_size old.hdr_offset)) json w x (other_place old.hdr_size old.hdr_offset) old.hdr_offset old.hdr_size size second
        (elim (places_of old.hdr_size old.hdr_offset) [
          | at_start zero at ↦ inr (omega (arith, zero, at))
          | behind_first more at ↦ inl (let same = is.second more in omega (arith, same, at))
        ]) other

    both_rest : SameBut (IsOfCopies old.hdr_size) u x
    both_rest = same_but-then (same_but-wider (of_other old.hdr_size old.hdr_offset) first) (same_but-wider (λ p at. of_chosen old.hdr_size old.hdr_offset p low at) second)

    -- while the second was
    pub half_done : MayBeHalfWritten v old.hdr_offset e random j u x
    half_done = inr (record {
      other = subst (λ n. IsWrittenAnew v old.hdr_offset e random j x (other_place n old.hdr_offset)) (sym h_is)
          (written_anew v e old texts random j json is x (other_place old.hdr_size old.hdr_offset) other_stays);
      rest = subst (λ n. SameBut (IsOfCopies n) u x) (sym h_is) both_rest;
    })

    -- after both
    pub all_done : HasNewCopy old texts (copy_salt random old.hdr_offset) json x old.hdr_offset → AreWrittenAnew v old.hdr_offset e random j x
    all_done own =
        let mine : IsWrittenAnew v old.hdr_offset e random j x old.hdr_offset = written_anew v e old texts random j json is x old.hdr_offset own in
        let theirs : IsWrittenAnew v old.hdr_offset e random j x (other_place old.hdr_size old.hdr_offset) =
        written_anew v e old texts random j json is x (other_place old.hdr_size old.hdr_offset) other_stays in
        elim (places_of old.hdr_size old.hdr_offset) [
          | at_start zero at ↦ record {
            first = subst (λ q. IsWrittenAnew v old.hdr_offset e random j x q) zero mine;
            second = subst (λ q. IsWrittenAnew v old.hdr_offset e random j x q) (at ∙ sym h_is) theirs;
          }
          | behind_first more at ↦ record {
            first = subst (λ q. IsWrittenAnew v old.hdr_offset e random j x q) at theirs;
            second = subst (λ q. IsWrittenAnew v old.hdr_offset e random j x q) (sym (is.second more) ∙ sym h_is) mine;
          }
        ]

-- ---- the JSON area

-- a JSON area of the length that is renewed, with any metadata
pub rewriting_of : (v : List ℕ) (e : Edit) (random : List ℕ) (old : Bin2) (texts : TextFields) (j : Value) (json : List ℕ) (len : ℕ) → IsRenewing v e random old texts len
    → IsWrittenArea len j json → IsRewriting v e random old texts j json
rewriting_of v e random old texts j json len is area = record {
  header = is.header;
  listed = is.listed;
  second = is.second;
  uuid_is = is.uuid_is;
  label_is = is.label_is;
  subsystem_is = is.subsystem_is;
  area = subst (λ n. IsWrittenArea n j json) is.len_is area;
}
