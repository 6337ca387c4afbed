-- What counts of a LUKS2 volume that a failing device call left.
use Rattle.std.proofs.Common.{◌≡◌, ℕ, ◌<◌, ◌≤◌, ◌⊎◌, List, length, inl, inr, refl, sym, ap, subst, ◌∙◌, arith}
use Rattle.luks_area.proofs.RangeFacts.{part-part}
use Rattle.luks_area.specs.Ranges.{part}
use Rattle.luks2_header.specs.Header2.{copy_at, hdr_size, header_at, seqid, IsSound}
use Rattle.luks2_header.specs.Selection.{luks1, luks2, nothing, Choice, Chosen, IsSecondAlone}
use Rattle.luks2_header.specs.Sizes.{IsListed}
use Rattle.luks2_header.specs.declared.selection.Copies.{Copies}
use Rattle.luks2_header.specs.declared.selection.Copies.TheVariants.{InStep, FirstNewer, SecondNewer, FirstOnly, SecondOnly}
use Rattle.luks2_header.proofs.CopyFacts.{listed_at_least}
use Rattle.luks_reading.specs.declared.report.Data.{Data}
use Rattle.luks_edit.specs.declared.edit.Edit.{Edit}
use Rattle.luks2_edit_laws.specs.Leftovers.{IsAllowed, IsNotStray}
use Rattle.luks2_edit_laws.proofs.SoundCopyFacts.{copy_sound, sound_at_copy}
use Rattle.luks2_edit_laws.proofs.VolumeFacts.{one_place}

-- ---- numbers

not_above : {a b c : ℕ} → a ≡ c → c ≡ b → b ≤ a
not_above same there = omega (arith, same, there)

not_over : {a b c : ℕ} → c < a → c ≡ b → b ≤ a
not_over less there = omega (arith, less, there)

not_zero : {a b : ℕ} → a ≡ 0 → a ≡ b → 16384 ≤ b → ⊥
not_zero zero_ same least = absurd (omega (arith, zero_, same, least))

both_ways : {a b : ℕ} → a ≤ b → b ≤ a → b ≡ a
both_ways low high = omega (arith, low, high)

in_order : {w0 wp v0 vp vh : ℕ} → w0 < wp → w0 ≡ v0 → wp ≡ vp → vp ≡ vh → vh ≤ v0 → ⊥
in_order now first number there before = absurd (omega (arith, now, first, number, there, before))

out_of_order : {ws w0 wo vo v0 : ℕ} → ws ≤ w0 → ws ≡ wo → wo ≡ vo → w0 ≡ v0 → v0 < vo → ⊥
out_of_order now there old number before = absurd (omega (arith, now, there, old, number, before))

-- ---- a copy's bytes

-- the binary header is the front of the copy
header_of_copy : (v : List ℕ) (q : ℕ) → 4096 ≤ hdr_size (header_at v q) → part (copy_at v q) 0 4096 ≡ header_at v q
header_of_copy v q long = part-part v q (hdr_size (header_at v q)) 0 4096 (omega (arith, long)) ∙ ap (λ p. part v p 4096) (omega arith)

module _ (v w : List ℕ) (long : length w ≡ length v) where
  -- a copy that is the one that was there was sound
  pub was_sound : (q : ℕ) → copy_at w q ≡ copy_at v q → IsSound w q → IsSound v q
  was_sound q same sound = (sound_at_copy w v q long same).0 sound

  pub is_sound : (q : ℕ) → copy_at w q ≡ copy_at v q → IsSound v q → IsSound w q
  is_sound q same sound = (sound_at_copy w v q long same).1 sound

  -- and has its header
  pub same_header : (q : ℕ) → copy_at w q ≡ copy_at v q → IsSound w q → header_at w q ≡ header_at v q
  same_header q same sound =
      let least : 16384 ≤ hdr_size (header_at w q) = listed_at_least (hdr_size (header_at w q)) sound.form.listed in
      let was : 16384 ≤ hdr_size (header_at v q) = listed_at_least (hdr_size (header_at v q)) (was_sound q same sound).form.listed in
      sym (header_of_copy w q (omega (arith, least))) ∙ ap (λ c. part c 0 4096) same ∙ header_of_copy v q (omega (arith, was))

-- ---- the copies of a volume whose copy at `o` counts

module _ (v : List ℕ) (o : ℕ) where
  -- both copies have one size, and are at 0 and there
  abbrev pub size_of : ℕ
  size_of = hdr_size (header_at v o)

  at_size : (b : Copies) → Chosen v (luks2 o b) → IsListed o → o ≡ size_of
  at_size b chosen listed =
      let sound = copy_sound v o b chosen in
      let least : 16384 ≤ o = listed_at_least o listed in
      sym (sound.form.second (λ none. absurd (omega (arith, none, least))))

  -- the chosen copy is at one of the two places
  pub place_is : (b : Copies) → Chosen v (luks2 o b) → (o ≡ 0) ⊎ (o ≡ size_of)
  place_is InStep c = inl c.1.2
  place_is FirstNewer c = inl c.1.2
  place_is SecondNewer c =
      let sound = c.1.0.first in
      let listed : IsListed (hdr_size (header_at v 0)) = sound.form.listed in
      inr (at_size SecondNewer c (subst IsListed (sym c.1.2) listed))
  place_is FirstOnly c = inl c.1.1
  place_is SecondOnly c = inr (at_size SecondOnly c c.1.listed)

  -- a sound first copy has the chosen one's size
  pub first_size : (b : Copies) → Chosen v (luks2 o b) → IsSound v 0 → hdr_size (header_at v 0) ≡ size_of
  first_size InStep c sound = ap (λ q. hdr_size (header_at v q)) (sym c.1.2)
  first_size FirstNewer c sound = ap (λ q. hdr_size (header_at v q)) (sym c.1.2)
  first_size SecondNewer c sound =
      let listed : IsListed (hdr_size (header_at v 0)) = c.1.0.first.form.listed in
      sym c.1.2 ∙ at_size SecondNewer c (subst IsListed (sym c.1.2) listed)
  first_size FirstOnly c sound = ap (λ q. hdr_size (header_at v q)) (sym c.1.1)
  first_size SecondOnly c sound = absurd (c.1.no_first sound)

  second_is : o ≡ 0 → seqid (header_at v (hdr_size (header_at v 0))) ≡ seqid (header_at v size_of)
  second_is zero_ = ap (λ q. seqid (header_at v (hdr_size (header_at v q)))) (sym zero_)

  -- where both are sound, the one at 0 counts unless the other's number is higher
  pub first_counts : (b : Copies) → Chosen v (luks2 o b) → o ≡ 0 → IsSound v size_of → seqid (header_at v size_of) ≤ seqid (header_at v 0)
  first_counts InStep c zero_ sound = not_above c.1.1 (second_is zero_)
  first_counts FirstNewer c zero_ sound = not_over c.1.1 (second_is zero_)
  first_counts SecondNewer c zero_ sound = absurd (not_zero zero_ c.1.2 (listed_at_least (hdr_size (header_at v 0)) c.1.0.first.form.listed))
  first_counts FirstOnly c zero_ sound = absurd (c.1.0.no_second (subst (IsSound v) (ap (λ q. hdr_size (header_at v q)) c.1.1) sound))
  first_counts SecondOnly c zero_ sound = absurd (not_zero zero_ refl (listed_at_least o c.1.listed))

  -- the other one counts only with a higher number
  pub second_counts : (b : Copies) → Chosen v (luks2 o b) → (o ≡ 0 → ⊥) → IsSound v 0 → seqid (header_at v 0) < seqid (header_at v o)
  second_counts InStep c later sound = absurd (later c.1.2)
  second_counts FirstNewer c later sound = absurd (later c.1.2)
  second_counts SecondNewer c later sound = subst (λ q. seqid (header_at v 0) < seqid (header_at v q)) (sym c.1.2) c.1.1
  second_counts FirstOnly c later sound = absurd (later c.1.1)
  second_counts SecondOnly c later sound = absurd (c.1.no_first sound)

-- ---- what counts of the volume that was left

-- the copy that counts of it, at the place of one of the two
pub record Left (w : List ℕ) (h : ℕ) : Type 0 where
  pub place : ℕ
  pub copies : Copies
  pub chosen : Chosen w (luks2 place copies)
  pub at : (place ≡ 0) ⊎ (place ≡ h)

module _
    (v : List ℕ) (payload : Data) (e : Edit) (random w : List ℕ) (long : length w ≡ length v)
    (stray : IsNotStray v payload e random w)
  where
    abbrev pub half : ℕ
    half = hdr_size (header_at v stray.place)

    allowed_place : (q : ℕ) (a : IsAllowed v payload e random w q) → a.place ≡ stray.place
    allowed_place q a = one_place v stray.place a.place stray.copies a.metadata.copies stray.chosen a.metadata.chosen

    pub first_size_left : IsSound w 0 → hdr_size (header_at w 0) ≡ half
    first_size_left sound = elim (stray.known 0 (inl refl) sound) [
      | inl same ↦ ap (λ b. hdr_size b) (same_header v w long 0 same sound)
          ∙ first_size v stray.place stray.copies stray.chosen (was_sound v w long 0 same sound)
      | inr written ↦ written.renewed.size ∙ ap (λ q. hdr_size (header_at v q)) (allowed_place 0 written)
    ]

    half_listed : IsListed half
    half_listed = (copy_sound v stray.place stray.copies stray.chosen).form.listed

    enough : 592 ≤ length w
    enough = rw long stray.chosen.0.long

    no_copy_sound : (a : ℕ) → (a ≡ 0) ⊎ (a ≡ half) → IsSound w a → (IsSound w 0 → ⊥) → ((p : ℕ) → IsListed p → IsSound w p → ⊥) → ⊥
    no_copy_sound a (inl zero_) sound first second = first (subst (IsSound w) zero_ sound)
    no_copy_sound a (inr there) sound first second = second half half_listed (subst (IsSound w) there sound)

    second_left : (a : ℕ) → (a ≡ 0) ⊎ (a ≡ half) → IsSound w a → (p : ℕ) → IsSecondAlone w p → p ≡ half
    second_left a (inl zero_) sound p alone = absurd (alone.no_first (subst (IsSound w) zero_ sound))
    second_left a (inr there) sound p alone =
        let low : half ≤ p = stray.none_before alone.no_first p alone.listed alone.sound in
        let high : p ≤ half = alone.least half half_listed (subst (IsSound w) there sound) in
        both_ways low high

    -- a sound copy at one of the places makes one of the two count
    pub left_of : (a : ℕ) → (a ≡ 0) ⊎ (a ≡ half) → IsSound w a → (c : Choice) → Chosen w c → Left w half
    left_of a at sound luks1 c = absurd (stray.version c)
    left_of a at sound nothing c = absurd (no_copy_sound a at sound (c.1 enough).no_first (c.1 enough).no_second)
    left_of a at sound (luks2 p InStep) c = record { place = p; copies = InStep; chosen = c; at = inl c.1.2 }
    left_of a at sound (luks2 p FirstNewer) c = record { place = p; copies = FirstNewer; chosen = c; at = inl c.1.2 }
    left_of a at sound (luks2 p SecondNewer) c =
        record { place = p; copies = SecondNewer; chosen = c; at = inr (c.1.2 ∙ first_size_left c.1.0.first) }
    left_of a at sound (luks2 p FirstOnly) c = record { place = p; copies = FirstOnly; chosen = c; at = inl c.1.1 }
    left_of a at sound (luks2 p SecondOnly) c = record { place = p; copies = SecondOnly; chosen = c; at = inr (second_left a at sound p c.1) }

    -- ---- where the copy that counted is untouched

    module _ (was : copy_at w stray.place ≡ copy_at v stray.place) where
      old_sound : IsSound w stray.place
      old_sound = is_sound v w long stray.place was (copy_sound v stray.place stray.copies stray.chosen)

      old_number : seqid (header_at w stray.place) ≡ seqid (header_at v stray.place)
      old_number = ap (λ b. seqid b) (same_header v w long stray.place was old_sound)

      -- the other one doesn't count as it was
      pub not_other : (p : ℕ) (b : Copies) → Chosen w (luks2 p b) → copy_at w p ≡ copy_at v p
          → (stray.place ≡ 0) × (p ≡ half) × ((p ≡ 0) → ⊥) ⊎ ((stray.place ≡ half) × (p ≡ 0) × ((stray.place ≡ 0) → ⊥)) → ⊥
      not_other p b c same (inl x) =
          let sound : IsSound w p = copy_sound w p b c in
          let number : seqid (header_at w p) ≡ seqid (header_at v p) = ap (λ d. seqid d) (same_header v w long p same sound) in
          let now : seqid (header_at w 0) < seqid (header_at w p) = second_counts w p b c x.2 (subst (IsSound w) x.0 old_sound) in
          let first_ : seqid (header_at w 0) ≡ seqid (header_at v 0) = subst (λ q. seqid (header_at w q) ≡ seqid (header_at v q)) x.0 old_number in
          let before : seqid (header_at v half) ≤ seqid (header_at v 0) =
          first_counts v stray.place stray.copies stray.chosen x.0 (subst (IsSound v) x.1 (was_sound v w long p same sound)) in
          let there : seqid (header_at v p) ≡ seqid (header_at v half) = ap (λ q. seqid (header_at v q)) x.1 in
          in_order now first_ number there before
      not_other p b c same (inr x) =
          let sound : IsSound w p = copy_sound w p b c in
          let sound0 : IsSound w 0 = subst (IsSound w) x.1 sound in
          let same0 : copy_at w 0 ≡ copy_at v 0 = subst (λ q. copy_at w q ≡ copy_at v q) x.1 same in
          let number : seqid (header_at w 0) ≡ seqid (header_at v 0) = ap (λ d. seqid d) (same_header v w long 0 same0 sound0) in
          let size : hdr_size (header_at w p) ≡ half = subst (λ q. hdr_size (header_at w q) ≡ half) (sym x.1) (first_size_left sound0) in
          let now : seqid (header_at w (hdr_size (header_at w p))) ≤ seqid (header_at w 0) =
          first_counts w p b c x.1 (subst (IsSound w) (x.0 ∙ sym size) old_sound) in
          let before : seqid (header_at v 0) < seqid (header_at v stray.place) =
          second_counts v stray.place stray.copies stray.chosen x.2 (was_sound v w long 0 same0 sound0) in
          let there : seqid (header_at w (hdr_size (header_at w p))) ≡ seqid (header_at w stray.place) = ap (λ q. seqid (header_at w q)) (size ∙ sym x.0) in
          out_of_order now there old_number number before
