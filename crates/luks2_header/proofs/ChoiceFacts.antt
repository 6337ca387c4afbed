-- Exactly one thing is chosen of a volume.
use Rattle.std.proofs.Common.{◌≡◌, ◌≢◌, ◌⊎◌, ℕ, ◌+◌, ◌≤◌, ◌==◌, List, [], ◌∷◌, length, Bool, true, codes, inl, inr, arith, refl, sym, ap, ◌∙◌}
use Rattle.std.proofs.lemmas.Bool.{cases_Bool, cases_eq, cases_lt, cases_order, false≢true, true≢false, or_cases, or_left, or_right, eq-eqb, eqb-true}
use Rattle.sha2.specs.Sha256.{sha256}
use Rattle.luks_area.specs.Ranges.{part}
use Rattle.luks_area.specs.Text.{is_plain, text_of}
use Rattle.luks1_header.specs.Bytes.{number_at, text_at}
use Rattle.luks1_header.specs.Header1.{luks_magic, version_of}
use Rattle.luks1_header.specs.declared.fault.HeadFault.{HeadFault}
use Rattle.luks1_header.specs.declared.fault.HeadFault.TheVariants as fault
use Rattle.luks1_header.specs.declared.fault.TextField.TheVariants as field
use Rattle.luks1_header.proofs.DecidableFacts.{held, same_or_not, uuid_or_not}
use Rattle.luks2_header.specs.Header2.{copy_at, hdr_offset, hdr_size, header_at, magic_of, seqid, with_zero_checksum, IsFormed, IsSound, IsUuidFault, IsUuidField}
use Rattle.luks2_header.specs.Selection.{AreBothSound, Choice, Chosen, IsChosenCopy, HasNoSoundCopy, IsNotVersion1, IsSelectFault, IsVersion1, luks1, luks2, nothing, second_place}
use Rattle.luks2_header.specs.Sizes.{is_among, is_listed, listed_sizes}
use Rattle.luks2_header.specs.declared.selection.Copies.{Copies}
use Rattle.luks2_header.specs.declared.selection.Copies.TheVariants.{InStep, FirstNewer, SecondNewer, FirstOnly, SecondOnly}

-- two choices of a copy are one
copies_agree : (v : List ℕ) (o p : ℕ) (a b : Copies) → IsChosenCopy v o a → IsChosenCopy v p b → luks2 o a ≡ luks2 p b
copies_agree v o p InStep InStep x y = ap (λ n. luks2 n InStep) (x.2 ∙ sym y.2)
copies_agree v o p InStep FirstNewer x y = absurd (omega (arith, x.1, y.1))
copies_agree v o p InStep SecondNewer x y = absurd (omega (arith, x.1, y.1))
copies_agree v o p InStep FirstOnly x y = absurd (y.0.no_second x.0.second)
copies_agree v o p InStep SecondOnly x y = absurd (y.no_first x.0.first)
copies_agree v o p FirstNewer InStep x y = absurd (omega (arith, x.1, y.1))
copies_agree v o p FirstNewer FirstNewer x y = ap (λ n. luks2 n FirstNewer) (x.2 ∙ sym y.2)
copies_agree v o p FirstNewer SecondNewer x y = absurd (omega (arith, x.1, y.1))
copies_agree v o p FirstNewer FirstOnly x y = absurd (y.0.no_second x.0.second)
copies_agree v o p FirstNewer SecondOnly x y = absurd (y.no_first x.0.first)
copies_agree v o p SecondNewer InStep x y = absurd (omega (arith, x.1, y.1))
copies_agree v o p SecondNewer FirstNewer x y = absurd (omega (arith, x.1, y.1))
copies_agree v o p SecondNewer SecondNewer x y = ap (λ n. luks2 n SecondNewer) (x.2 ∙ sym y.2)
copies_agree v o p SecondNewer FirstOnly x y = absurd (y.0.no_second x.0.second)
copies_agree v o p SecondNewer SecondOnly x y = absurd (y.no_first x.0.first)
copies_agree v o p FirstOnly InStep x y = absurd (x.0.no_second y.0.second)
copies_agree v o p FirstOnly FirstNewer x y = absurd (x.0.no_second y.0.second)
copies_agree v o p FirstOnly SecondNewer x y = absurd (x.0.no_second y.0.second)
copies_agree v o p FirstOnly FirstOnly x y = ap (λ n. luks2 n FirstOnly) (x.1 ∙ sym y.1)
copies_agree v o p FirstOnly SecondOnly x y = absurd (y.no_first x.0.first)
copies_agree v o p SecondOnly InStep x y = absurd (x.no_first y.0.first)
copies_agree v o p SecondOnly FirstNewer x y = absurd (x.no_first y.0.first)
copies_agree v o p SecondOnly SecondNewer x y = absurd (x.no_first y.0.first)
copies_agree v o p SecondOnly FirstOnly x y = absurd (x.no_first y.0.first)
copies_agree v o p SecondOnly SecondOnly x y = (let low : o ≤ p = x.least p y.listed y.sound in let high : p ≤ o = y.least o x.listed x.sound in let same : o ≡ p = omega arith in ap (λ n. luks2 n SecondOnly) same)

-- where a copy is chosen, one is sound
chosen_is_sound_copy : (v : List ℕ) (o : ℕ) (a : Copies) → IsChosenCopy v o a → HasNoSoundCopy v → ⊥
chosen_is_sound_copy v o InStep x none = none.no_first x.0.first
chosen_is_sound_copy v o FirstNewer x none = none.no_first x.0.first
chosen_is_sound_copy v o SecondNewer x none = none.no_first x.0.first
chosen_is_sound_copy v o FirstOnly x none = none.no_first x.0.first
chosen_is_sound_copy v o SecondOnly x none = none.no_second o x.listed x.sound

-- two choices are one
pub choices_agree : (v : List ℕ) (b c : Choice) → Chosen v b → Chosen v c → b ≡ c
choices_agree v luks1 luks1 x y = refl
choices_agree v luks1 (luks2 p b) x y = absurd (y.0.other x.magic x.version)
choices_agree v luks1 nothing x y = absurd (y.0 x)
choices_agree v (luks2 o a) luks1 x y = absurd (x.0.other y.magic y.version)
choices_agree v (luks2 o a) (luks2 p b) x y = copies_agree v o p a b x.1 y.1
choices_agree v (luks2 o a) nothing x y = absurd (chosen_is_sound_copy v o a x.1 (y.1 x.0.long))
choices_agree v nothing luks1 x y = absurd (x.0 y)
choices_agree v nothing (luks2 p b) x y = absurd (chosen_is_sound_copy v p b y.1 (x.1 y.0.long))
choices_agree v nothing nothing x y = refl

-- facts that hold or not
both_or_not : (P Q : Type 0) → P ⊎ (P → ⊥) → Q ⊎ (Q → ⊥) → (P × Q) ⊎ ((P × Q) → ⊥)
both_or_not P Q p q =
    elim p [
      | inl fits ↦ elim q [ inl too ↦ inl (fits, too) | inr fails ↦ inr (λ pair. fails pair.1) ]
      | inr fails ↦ inr (λ pair. fails pair.0)
    ]

test_or_not : (b : Bool) → (b ≡ true) ⊎ (b ≡ true → ⊥)
test_or_not b = elim (cases_Bool b) [ inl yes_ ↦ inl yes_ | inr no_ ↦ inr (λ yes_. true≢false (sym yes_ ∙ no_)) ]

at_most_or_not : (m n : ℕ) → (m ≤ n) ⊎ (m ≤ n → ⊥)
at_most_or_not m n = elim (cases_lt n m) [ inl under ↦ inr (λ over. omega arith) | inr over ↦ inl over ]

second_or_not : (o size : ℕ) → (o ≢ 0 → size ≡ o) ⊎ ((o ≢ 0 → size ≡ o) → ⊥)
second_or_not o size =
    elim (cases_eq o 0) [
      | inl first ↦ inl (λ second. absurd (second first))
      | inr second ↦ elim (cases_eq size o) [ inl same ↦ inl (λ _. same) | inr other ↦ inr (λ rule. other (rule second)) ]
    ]

formed_or_not : (b : List ℕ) (o total : ℕ) → IsFormed b o total ⊎ (IsFormed b o total → ⊥)
formed_or_not b o total =
    elim (both_or_not _ _ (same_or_not (part b 0 6) (magic_of o))
    (both_or_not _ _ (cases_eq (number_at b 6 2) 2)
    (both_or_not _ _ (test_or_not (is_listed (hdr_size b)))
    (both_or_not _ _ (second_or_not o (hdr_size b))
    (both_or_not _ _ (cases_eq (hdr_offset b) o)
    (both_or_not _ _ (at_most_or_not (o + hdr_size b) total)
    (same_or_not (text_at b 72 32) (codes "sha256")))))))) [
      | inl x ↦ inl (record { magic = x.0; version = x.1.0; listed = x.1.1.0; second = x.1.1.1.0; offset = x.1.1.1.1.0; inside = x.1.1.1.1.1.0; algorithm = x.1.1.1.1.1.1 })
      | inr fails ↦ inr (λ form. fails (form.magic, (form.version, (form.listed, (form.second, (form.offset, (form.inside, form.algorithm)))))))
    ]

sound_or_not : (v : List ℕ) (o : ℕ) → IsSound v o ⊎ (IsSound v o → ⊥)
sound_or_not v o =
    elim (formed_or_not (header_at v o) o (length v)) [
      | inl form ↦ elim (same_or_not (part (header_at v o) 448 32) (sha256 (with_zero_checksum (copy_at v o)))) [
        | inl sum ↦ inl (record { form = form; checksum = sum })
        | inr other ↦ inr (λ sound. other sound.checksum)
      ]
      | inr not_form ↦ inr (λ sound. not_form sound.form)
    ]

version1_or_not : (v : List ℕ) → IsVersion1 v ⊎ (IsVersion1 v → ⊥)
version1_or_not v =
    elim (both_or_not _ _ (at_most_or_not 592 (length v)) (both_or_not _ _ (same_or_not (part v 0 6) luks_magic) (cases_eq (version_of v) 1))) [
      | inl x ↦ inl (record { long = x.0; magic = x.1.0; version = x.1.1 })
      | inr fails ↦ inr (λ one. fails (one.long, (one.magic, one.version)))
    ]

-- of a list's places with a sound copy there is a least one, or none
pub record IsLeastAmong (v sizes : List ℕ) (o : ℕ) : Type 0 where
  pub among : is_among o sizes ≡ true
  pub sound : IsSound v o
  pub least : (p : ℕ) → is_among p sizes ≡ true → IsSound v p → o ≤ p

least_or_none : (v sizes : List ℕ) → ((o : ℕ) × IsLeastAmong v sizes o) ⊎ ((p : ℕ) → is_among p sizes ≡ true → IsSound v p → ⊥)
least_or_none v [] = inr (λ p among sound. false≢true among)
least_or_none v (size ∷ sizes) =
    let parted : (p : ℕ) → is_among p (size ∷ sizes) ≡ true → (size ≡ p) ⊎ (is_among p sizes ≡ true) =
    λ p among. elim (or_cases (size == p) (is_among p sizes) among) [ inl here ↦ inl (eqb-true size p here) | inr after ↦ inr after ] in
    let here : is_among size (size ∷ sizes) ≡ true = or_left (size == size) (is_among size sizes) (eq-eqb size size refl) in
    elim (least_or_none v sizes) [
      | inl (o, m) ↦ elim (sound_or_not v size) [
        | inl sound ↦ elim (cases_lt o size) [
          | inl below ↦ inl (
            o,
            record {
              among = or_right (size == o) (is_among o sizes) m.among;
              sound = m.sound;
              least = λ p among it. elim (parted p among) [ inl same ↦ omega arith | inr after ↦ m.least p after it ];
            },
          )
          | inr over ↦ inl (
            size,
            record {
              among = here;
              sound = sound;
              least = λ p among it. elim (parted p among) [ inl same ↦ omega arith | inr after ↦ omega (arith, m.least p after it) ];
            },
          )
        ]
        | inr unsound ↦ inl (
          o,
          record {
            among = or_right (size == o) (is_among o sizes) m.among;
            sound = m.sound;
            least = λ p among it. elim (parted p among) [ inl same ↦ absurd (unsound (rw same it)) | inr after ↦ m.least p after it ];
          },
        )
      ]
      | inr none ↦ elim (sound_or_not v size) [
        | inl sound ↦ inl (
          size,
          record {
            among = here;
            sound = sound;
            least = λ p among it. elim (parted p among) [ inl same ↦ omega arith | inr after ↦ absurd (none p after it) ];
          },
        )
        | inr unsound ↦ inr (λ p among it. elim (parted p among) [ inl same ↦ unsound (rw same it) | inr after ↦ none p after it ])
      ]
    ]

-- of a volume without a LUKS1 header, a copy is chosen or none
copy_exists : (v : List ℕ) → IsNotVersion1 v → (c : Choice) × Chosen v c
copy_exists v other =
    elim (sound_or_not v 0) [
      | inl first ↦ elim (sound_or_not v (second_place v)) [
        | inl second ↦
            let both : AreBothSound v = record { first = first; second = second } in
            elim (cases_order (seqid (header_at v 0)) (seqid (header_at v (second_place v)))) [
              | inl same ↦ (luks2 0 InStep, (other, (both, same, refl)))
              | inr differ ↦ elim differ [
                | inl newer ↦ (luks2 (second_place v) SecondNewer, (other, (both, newer, refl)))
                | inr older ↦ (luks2 0 FirstNewer, (other, (both, older, refl)))
              ]
            ]
        | inr none ↦ (luks2 0 FirstOnly, (other, (record { first = first; no_second = none }, refl)))
      ]
      | inr no_first ↦ elim (least_or_none v listed_sizes) [
        | inl (o, m) ↦ (luks2 o SecondOnly, (other, record { no_first = no_first; listed = m.among; sound = m.sound; least = m.least }))
        | inr none ↦ (nothing, ((λ one. other.other one.magic one.version), (λ long. record { no_first = no_first; no_second = none })))
      ]
    ]

-- something is chosen of each volume, if only nothing
pub choice_exists : (v : List ℕ) → (c : Choice) × Chosen v c
choice_exists v =
    elim (version1_or_not v) [
      | inl one ↦ (luks1, one)
      | inr not_one ↦ elim (cases_lt (length v) 592) [
        | inl short ↦ (nothing, (not_one, (λ long. absurd (omega arith))))
        | inr long ↦ copy_exists v (record { long = long; other = λ magic version. not_one (record { long = long; magic = magic; version = version }) })
      ]
    ]

-- the chosen copy is sound
pub chosen_is_sound : (v : List ℕ) (o : ℕ) (a : Copies) → IsChosenCopy v o a → IsSound v o
chosen_is_sound v o InStep x = rw x.2 x.0.first
chosen_is_sound v o FirstNewer x = rw x.2 x.0.first
chosen_is_sound v o SecondNewer x = rw x.2 x.0.second
chosen_is_sound v o FirstOnly x = rw x.1 x.0.first
chosen_is_sound v o SecondOnly x = x.sound

-- where something is chosen, a selection has no fault
pub selected_without : (v : List ℕ) → (Chosen v nothing → ⊥) → (f : HeadFault) → IsSelectFault v f → ⊥
selected_without v some fault.TooShort bad = some ((λ one. (let long : 592 ≤ length v = one.long in omega arith)), (λ long. absurd (omega arith)))
selected_without v some fault.NotLuks bad = some bad.0
selected_without v some fault.Version bad = some bad.0
selected_without v some fault.NoSoundCopy bad = some bad
selected_without v some _ bad = bad

-- a uuid field without faults
pub uuid_accepted : (field_ : List ℕ) → ((f : HeadFault) → IsUuidFault field_ f → ⊥) → IsUuidField field_
uuid_accepted field_ none = record {
  plain = held (test_or_not (is_plain (text_of field_))) (none (fault.Text field.Uuid));
  uuid = held (uuid_or_not (text_of field_)) (none fault.Uuid);
}

pub uuid_sound : (field_ : List ℕ) → IsUuidField field_ → (f : HeadFault) → IsUuidFault field_ f → ⊥
uuid_sound field_ good (fault.Text field.Uuid) bad = bad good.plain
uuid_sound field_ good fault.Uuid bad = bad good.uuid
uuid_sound field_ good (fault.Text field.CipherName) bad = bad
uuid_sound field_ good (fault.Text field.CipherMode) bad = bad
uuid_sound field_ good (fault.Text field.HashSpec) bad = bad
uuid_sound field_ good _ bad = bad
