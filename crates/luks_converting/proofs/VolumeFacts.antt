-- The volume that a conversion leaves: its header counts and is well formed.
use Rattle.std.proofs.Common.{◌≡◌, ℕ, suc, ◌+◌, ◌-◌, ◌≤◌, ◌==◌, List, [], ◌∷◌, ◌++◌, length, replicate, true, false, Option, Some, None, refl, sym, ap, subst, ◌∙◌, arith, inl, inr}
use Rattle.std.proofs.lemmas.Bool.{cases_Bool}
use Rattle.std.specs.Prelude.{take, not}
use Rattle.std.specs.List.{prefix_len}
use Rattle.luks_area.specs.Ranges.{part}
use Rattle.luks_area.specs.Text.{is_plain, text_of}
use Rattle.luks1_header.specs.Bytes.{text_at, IsUuid}
use Rattle.luks1_header.specs.declared.fault.TextField.TheVariants.{Uuid}
use Rattle.luks2_header.specs.Header2.{hdr_size, header_at, uuid_field, IsUuidField}
use Rattle.luks2_header.specs.Selection.{luks1, luks2, Chosen}
use Rattle.luks2_header.specs.Written.{IsWrittenCopy}
use Rattle.luks2_header.proofs.BinaryHeaderFacts.{written_in_step}
use Rattle.luks2_header.specs.declared.selection.Copies.TheVariants.{InStep}
use Rattle.luks_rules.specs.Accepted.{IsContent, IsMeta}
use Rattle.luks_rules.specs.Held.{IsHeld}
use Rattle.luks_slot.specs.declared.allowed.Allowed.{Allowed}
use Rattle.luks_reading.specs.Answer.{AnswerWithin, opened_to, refused}
use Rattle.luks_reading.specs.Checked.{WellFormed}
use Rattle.luks_reading.specs.Header.{json_at}
use Rattle.luks_reading.specs.declared.open_fault.OpenFault.TheVariants.{NoSuchSlot}
use Rattle.luks_reading.specs.declared.report.Data.TheVariants.{Here, Elsewhere}
use Rattle.luks_making.proofs.ConversionFacts.{held_converted, says_source}
use Rattle.luks_making.specs.Conversions.{SaysSource}
use Rattle.luks_making.specs.Converted.{converted}
use Rattle.luks_converting.specs.Converted.{uuid_of, IsConverted}
use Rattle.luks_converting.specs.Source.{header_members, is_enabled, IsSource}
use Rattle.luks_converting.proofs.AnswerFacts.{converted_absent, converted_opens, HasHeader}
use Rattle.luks_converting.proofs.FitFacts.{fit}
use Rattle.luks_converting.proofs.SourceFacts.{can, fits}

-- ---- the uuid

take_one_more : (n x : ℕ) (xs : List ℕ) → take (1 + n) (x ∷ xs) ≡ x ∷ take n xs
take_one_more n x xs = let next : 1 + n ≡ suc n = omega arith in ap (λ m. take m (x ∷ xs)) next

text_of-next : (x : ℕ) (xs : List ℕ) → (x == 0) ≡ false → text_of (x ∷ xs) ≡ x ∷ text_of xs
text_of-next x xs goes = rw goes (take_one_more (prefix_len (λ c. not (c == 0)) xs) x xs)

text_of-end : (x : ℕ) (xs : List ℕ) → (x == 0) ≡ true → text_of (x ∷ xs) ≡ []
text_of-end x xs ends = rw ends refl

-- a text and zeros behind it
text_and_zeros : (xs rest : List ℕ) → text_of (text_of xs ++ 0 ∷ rest) ≡ text_of xs
text_and_zeros [] rest = text_of-end 0 rest refl
text_and_zeros (x ∷ xs) rest = elim (cases_Bool (x == 0)) [
  | inl ends ↦ (
      let none : text_of (x ∷ xs) ≡ [] = text_of-end x xs ends in
      ap (λ t. text_of (t ++ 0 ∷ rest)) none ∙ text_of-end 0 rest refl ∙ sym none)
  | inr goes ↦ (
      let front : text_of (x ∷ xs) ≡ x ∷ text_of xs = text_of-next x xs goes in
      ap (λ t. text_of (t ++ 0 ∷ rest)) front ∙ text_of-next x (text_of xs ++ 0 ∷ rest) goes ∙ ap (λ t. x ∷ t) (text_and_zeros xs rest) ∙ sym front)
]

uuid_good : (h field_ : List ℕ) → IsSource h → field_ ≡ uuid_of h ++ replicate 4 0 → IsUuidField field_
uuid_good h field_ source is =
    let text : text_of field_ ≡ text_at h 168 40 = ap text_of is ∙ text_and_zeros (part h 168 40) (0 ∷ 0 ∷ 0 ∷ []) in
    let common = source.fields.1.common in
    record { plain = ap is_plain text ∙ common.texts Uuid; uuid = subst IsUuid (sym text) common.uuid }

-- ---- the volume

module _
    (v random old w : List ℕ) (source : IsSource (part v 0 592))
    (large : 16777216 ≤ length w) (x : IsConverted v random old w)
  where
    held : IsHeld 12288 (converted (header_members (part v 0 592)))
    held = held_converted (header_members (part v 0 592)) (fits (part v 0 592) source) (can (part v 0 592) source)

    says : SaysSource (header_members (part v 0 592)) (converted (header_members (part v 0 592)))
    says = says_source (header_members (part v 0 592)) (fits (part v 0 592) source) (can (part v 0 592) source)

    size : hdr_size (header_at w 0) ≡ 16384
    size = x.first.written.header.fields.hdr_size ∙ x.first.fields.hdr_size

    json_there : json_at w 0 ≡ x.json
    json_there = ap (λ n. part w 4096 (n - 4096)) size ∙ sym (ap (λ n. part w 4096 n) x.metadata.long) ∙ x.first.written.area

    chosen : Chosen w (luks2 0 InStep)
    chosen =
        let second = subst (λ (o : ℕ). IsWrittenCopy w o x.second.header x.json) (sym x.first.fields.hdr_size) x.second.written in
        written_in_step w x.first.header x.second.header x.json x.json x.first.written second (x.first.fields.seqid ∙ sym x.second.fields.seqid)

    uuid : IsUuidField (uuid_field (header_at w 0))
    uuid = uuid_good (part v 0 592) (uuid_field (header_at w 0)) source (x.first.written.header.fields.uuid ∙ x.first.fields.own_uuid)

    meta : IsMeta (json_at w 0) (converted (header_members (part v 0 592)))
    meta = subst (λ (a : List ℕ). IsMeta a (converted (header_members (part v 0 592)))) (sym json_there) (record {
      json = x.metadata.json;
      content = subst (λ (n : ℕ). IsContent n (converted (header_members (part v 0 592)))) (sym x.metadata.long) held.content;
    })

    header : HasHeader w (converted (header_members (part v 0 592)))
    header = record { copies = InStep; chosen = chosen; uuid = uuid; meta = meta; long = large }

    pub well_formed : WellFormed w Elsewhere
    well_formed = record {
      choice = luks2 0 InStep;
      chosen = chosen;
      formed = record {
        uuid = uuid;
        layout = (
          converted (header_members (part v 0 592)),
          record {
            metadata = meta;
            segments = λ here. absurd (let is : Elsewhere ≡ Here = here in cc);
            fit = fit (part v 0 592) source.room (converted (header_members (part v 0 592))) says (length w) (hdr_size (header_at w 0)) size large;
          },
        );
      };
    }

    pub opens_alike : Chosen v luks1 → (allowed : Allowed) (n : ℕ) (p : List ℕ) (found : Option (List ℕ)) → is_enabled (part v 0 592) n ≡ true
        → AnswerWithin allowed v n p (opened_to found) → AnswerWithin allowed w n p (opened_to found)
    opens_alike was allowed n p None on o =
        converted_opens v w (converted (header_members (part v 0 592))) was source.room says header n on (x.areas n on) allowed p None o
    opens_alike was allowed n p (Some key) on o =
        converted_opens v w (converted (header_members (part v 0 592))) was source.room says header n on (x.areas n on) allowed p (Some key) o

    pub absent : Chosen v luks1 → (allowed : Allowed) (n : ℕ) (p : List ℕ) → is_enabled (part v 0 592) n ≡ false → AnswerWithin allowed w n p (refused NoSuchSlot)
    absent was allowed n p off = converted_absent v w (converted (header_members (part v 0 592))) was source.room says header n off allowed p
