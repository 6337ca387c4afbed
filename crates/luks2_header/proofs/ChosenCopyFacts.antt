-- Which copy is chosen, by which of them are sound; why none is.
use Rattle.std.proofs.Common.{◌≡◌, ℕ, ◌<◌, ◌≤◌, Option, None, Some, List, length, arith, lit≤, sym, ap, ◌∙◌, subst}
use Rattle.luks_area.specs.First.{NotAfter}
use Rattle.luks_area.specs.Ranges.{part}
use Rattle.luks_area.proofs.RangeFacts.{part-part, length-part_inside}
use Rattle.byteorder.specs.Endian.{big_number}
use Rattle.luks1_header.specs.Faults.{head_key}
use Rattle.luks1_header.specs.Header1.{HasMagic, version_of}
use Rattle.luks1_header.specs.declared.fault.HeadFault.{HeadFault}
use Rattle.luks1_header.specs.declared.fault.HeadFault.TheVariants as fault
use Rattle.luks2_header.specs.ChosenCopy.{HoldsChosenCopy, IsNewer, IsNoHeaderFault, IsSizeOfFirst}
use Rattle.luks2_header.specs.Header2.{header_at, HoldsBin2, IsSound}
use Rattle.luks2_header.specs.SoundCopies.{FindsSoundCopy, IsLeastCopy, IsSoundCopy}
use Rattle.luks2_header.specs.Selection.{Chosen, nothing, HasNoSoundCopy, IsNotVersion1, IsRefused, IsSelectFault, IsVersion1, second_place}
use Rattle.luks2_header.specs.declared.bin2.Bin2.{Bin2}
use Rattle.luks2_header.specs.declared.selection.Copies.{Copies}
use Rattle.luks2_header.specs.declared.selection.Copies.TheVariants.{InStep, FirstNewer, SecondNewer, FirstOnly, SecondOnly}

-- a sound copy stands where its header says
pub place_is : (v : List ℕ) (o : ℕ) (h : Bin2) → IsSoundCopy v o h → h.hdr_offset ≡ o
place_is v o h copy = sym copy.fields.hdr_offset ∙ copy.sound.form.offset

fields_are : (v : List ℕ) (o : ℕ) (h : Bin2) → IsSoundCopy v o h → HoldsBin2 (header_at v h.hdr_offset) h
fields_are v o h copy =
    let H : ℕ → Type 0 = λ n. HoldsBin2 (header_at v n) h in
    subst H (sym (place_is v o h copy)) copy.fields

-- the second copy that belongs to the first
second_is : (v : List ℕ) (first second : Bin2) → IsSoundCopy v 0 first → IsSoundCopy v first.hdr_size second → IsSoundCopy v (second_place v) second
second_is v first second one two =
    let C : ℕ → Type 0 = λ n. IsSoundCopy v n second in
    subst C (sym one.fields.hdr_size) two

same_fields : (v : List ℕ) (h k : Bin2) → h ≡ k → HoldsBin2 (header_at v k.hdr_offset) k → HoldsBin2 (header_at v h.hdr_offset) h
same_fields v h k same fields =
    let H : Bin2 → Type 0 = λ x. HoldsBin2 (header_at v x.hdr_offset) x in
    subst H (sym same) fields

-- the newer of two sound copies is chosen
pub newer_is_chosen : (v : List ℕ) (first second h : Bin2) (copies : Copies) → IsSoundCopy v 0 first → IsSoundCopy v first.hdr_size second
    → IsNewer first second h copies → HoldsChosenCopy v h copies
newer_is_chosen v first second h InStep one two newer =
    let other = second_is v first second one two in
    record {
      chosen = (
        record { first = one.sound; second = other.sound },
        one.fields.seqid ∙ newer.0 ∙ sym other.fields.seqid,
        ap (λ x. x.hdr_offset) newer.1 ∙ place_is v 0 first one,
      );
      fields = same_fields v h first newer.1 (fields_are v 0 first one);
    }
newer_is_chosen v first second h FirstNewer one two newer =
    let other = second_is v first second one two in
    record {
      chosen = (
        record { first = one.sound; second = other.sound },
        rw (one.fields.seqid, other.fields.seqid) newer.0,
        ap (λ x. x.hdr_offset) newer.1 ∙ place_is v 0 first one,
      );
      fields = same_fields v h first newer.1 (fields_are v 0 first one);
    }
newer_is_chosen v first second h SecondNewer one two newer =
    let other = second_is v first second one two in
    record {
      chosen = (
        record { first = one.sound; second = other.sound },
        rw (one.fields.seqid, other.fields.seqid) newer.0,
        ap (λ x. x.hdr_offset) newer.1 ∙ place_is v (second_place v) second other,
      );
      fields = same_fields v h second newer.1 (fields_are v (second_place v) second other);
    }
newer_is_chosen v first second h FirstOnly one two newer = absurd newer
newer_is_chosen v first second h SecondOnly one two newer = absurd newer

-- the first copy alone
pub first_is_chosen : (v : List ℕ) (first : Bin2) → IsSoundCopy v 0 first → (IsSound v first.hdr_size → ⊥) → HoldsChosenCopy v first FirstOnly
first_is_chosen v first one none =
    let N : ℕ → Type 0 = λ n. IsSound v n → ⊥ in
    record {
      chosen = (record { first = one.sound; no_second = subst N (sym one.fields.hdr_size) none }, place_is v 0 first one);
      fields = fields_are v 0 first one;
    }

-- the chosen one of two that were found
pub chosen_newer : (v : List ℕ) (o : ℕ) (a b : Option Bin2) (first second h : Bin2) (copies : Copies) → a ≡ Some first → b ≡ Some second
    → FindsSoundCopy v 0 a → IsSizeOfFirst a o → FindsSoundCopy v o b → IsNewer first second h copies → HoldsChosenCopy v h copies
chosen_newer v o a b first second h copies is_first is_second one size two newer =
    let P : Option Bin2 → Type 0 = λ x. FindsSoundCopy v 0 x in
    let Q : Option Bin2 → Type 0 = λ x. IsSizeOfFirst x o in
    let R : Option Bin2 → Type 0 = λ x. FindsSoundCopy v o x in
    let N : ℕ → Type 0 = λ n. IsSoundCopy v n second in
    newer_is_chosen v first second h copies (subst P is_first one) (subst N (sym (subst Q is_first size)) (subst R is_second two)) newer

-- the first one, where no second one was found
pub chosen_first : (v : List ℕ) (o : ℕ) (a b : Option Bin2) (first : Bin2) → a ≡ Some first → b ≡ None
    → FindsSoundCopy v 0 a → IsSizeOfFirst a o → FindsSoundCopy v o b → HoldsChosenCopy v first FirstOnly
chosen_first v o a b first is_first no_second one size two =
    let P : Option Bin2 → Type 0 = λ x. FindsSoundCopy v 0 x in
    let Q : Option Bin2 → Type 0 = λ x. IsSizeOfFirst x o in
    let R : Option Bin2 → Type 0 = λ x. FindsSoundCopy v o x in
    let N : ℕ → Type 0 = λ n. IsSound v n → ⊥ in
    first_is_chosen v first (subst P is_first one) (subst N (sym (subst Q is_first size)) (subst R no_second two))

-- the one with the higher sequence number is the newer
pub newer_second : (first second h : Bin2) (copies : Copies) → first.seqid < second.seqid → IsNewer first second h copies → h ≡ second
newer_second first second h InStep higher newer = absurd (omega (arith, newer.0))
newer_second first second h FirstNewer higher newer = absurd (omega (arith, newer.0))
newer_second first second h SecondNewer higher newer = newer.1
newer_second first second h FirstOnly higher newer = absurd newer
newer_second first second h SecondOnly higher newer = absurd newer

-- else the first is
pub newer_first : (first second h : Bin2) (copies : Copies) → second.seqid ≤ first.seqid → IsNewer first second h copies → h ≡ first
newer_first first second h InStep higher newer = newer.1
newer_first first second h FirstNewer higher newer = newer.1
newer_first first second h SecondNewer higher newer = absurd (omega (arith, newer.0))
newer_first first second h FirstOnly higher newer = absurd newer
newer_first first second h SecondOnly higher newer = absurd newer

-- the second copy alone
pub second_is_chosen : (v : List ℕ) (second : Bin2) → (IsSound v 0 → ⊥) → IsLeastCopy v second → HoldsChosenCopy v second SecondOnly
second_is_chosen v second none least = record {
  chosen = record { no_first = none; listed = least.listed; sound = least.copy.sound; least = least.least };
  fields = least.copy.fields;
}

-- the first bytes of a volume have its magic and version
magic_is : (v : List ℕ) → part (part v 0 592) 0 6 ≡ part v 0 6
magic_is v = part-part v 0 592 0 6 (lit≤ tt)

version_is : (v : List ℕ) → version_of (part v 0 592) ≡ version_of v
version_is v = ap (λ b. big_number 2 b) (part-part v 0 592 6 2 (lit≤ tt))

pub not_version1 : (v : List ℕ) → 592 ≤ length v → (IsVersion1 (part v 0 592) → ⊥) → IsNotVersion1 v
not_version1 v long other = record {
  long = long;
  other = λ magic version. other (record {
    long = rw (length-part_inside v 0 592 long) (lit≤ tt);
    magic = magic_is v ∙ magic;
    version = version_is v ∙ version;
  });
}

-- nothing is chosen
nothing_chosen : (v : List ℕ) → IsNotVersion1 v → HasNoSoundCopy v → Chosen v nothing
nothing_chosen v other none = ((λ one. other.other one.magic one.version), (λ long. none))

-- no fault comes before that of a missing magic
least_NotLuks : (v : List ℕ) → 592 ≤ length v → (g : HeadFault) → IsSelectFault v g → NotAfter (head_key fault.NotLuks) (head_key g)
least_NotLuks v long fault.TooShort bad = absurd (omega arith)
least_NotLuks v long fault.NotLuks bad = (lit≤ tt, λ _. tt)
least_NotLuks v long fault.Version bad = (lit≤ tt, λ _. tt)
least_NotLuks v long fault.NoSoundCopy bad = (lit≤ tt, λ _. tt)
least_NotLuks v long _ bad = absurd bad

-- with the magic, none comes before that of the version
least_Version : (v : List ℕ) → 592 ≤ length v → HasMagic v → (g : HeadFault) → IsSelectFault v g → NotAfter (head_key fault.Version) (head_key g)
least_Version v long magic fault.TooShort bad = absurd (omega arith)
least_Version v long magic fault.NotLuks bad = absurd (bad.1 magic)
least_Version v long magic fault.Version bad = (lit≤ tt, λ _. tt)
least_Version v long magic fault.NoSoundCopy bad = (lit≤ tt, λ _. tt)
least_Version v long magic _ bad = absurd bad

-- with the magic and version 2, none comes before that of the copies
least_NoSoundCopy : (v : List ℕ) → 592 ≤ length v → HasMagic v → version_of v ≡ 2 → (g : HeadFault) → IsSelectFault v g → NotAfter (head_key fault.NoSoundCopy) (head_key g)
least_NoSoundCopy v long magic version fault.TooShort bad = absurd (omega arith)
least_NoSoundCopy v long magic version fault.NotLuks bad = absurd (bad.1 magic)
least_NoSoundCopy v long magic version fault.Version bad = absurd (bad.1 version)
least_NoSoundCopy v long magic version fault.NoSoundCopy bad = (lit≤ tt, λ _. tt)
least_NoSoundCopy v long magic version _ bad = absurd bad

-- a volume of which nothing is chosen is refused by its first bytes
pub refused_by : (v : List ℕ) (f : HeadFault) → IsNotVersion1 v → HasNoSoundCopy v → IsNoHeaderFault (part v 0 592) f → IsRefused v f
refused_by v fault.NotLuks other none why =
    ((nothing_chosen v other none, λ magic. why (magic_is v ∙ magic)), least_NotLuks v other.long)
refused_by v fault.Version other none why =
    ((nothing_chosen v other none, λ two. why.1 (version_is v ∙ two)), least_Version v other.long (sym (magic_is v) ∙ why.0))
refused_by v fault.NoSoundCopy other none why =
    (nothing_chosen v other none, least_NoSoundCopy v other.long (sym (magic_is v) ∙ why.0) (sym (version_is v) ∙ why.1))
refused_by v _ other none why = absurd why
