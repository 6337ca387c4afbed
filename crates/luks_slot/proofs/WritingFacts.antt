-- Bytes of an area that are written, encrypted, run by run.
use Rattle.std.proofs.Common.{◌≡◌, ℕ, ◌+◌, ◌*◌, ◌/◌, ◌%◌, ◌<◌, ◌≤◌, ◌⊎◌, inl, inr, List, length, take, get_or, set, ap, sym, ◌∙◌, subst, arith, refl, get_or-set_other, get_or-set_same}
use Rattle.std.proofs.lemmas.Bool.{cases_lt}
use Rattle.luks_area.specs.declared.area.Area.{Area}
use Rattle.luks_area.proofs.RangeFacts.{at-inside, part-part, part-same_but_at, part-written, same_but-same_outside, same_but-wider, same_outside-written}
use Rattle.luks_area.specs.Ranges.{part, written, IsAt, SameBut}
use Rattle.luks_modes.specs.Units.{AreMade}
use Rattle.luks_slot.specs.declared.cipher.AreaKey.{AreaKey}
use Rattle.luks_slot.specs.Ciphers.{sector_opened}
use Rattle.luks_slot.specs.Opening.{area_bytes, opened_sector}
use Rattle.luks_slot.specs.Reading.{plain_byte, run_length, HoldsRun}
use Rattle.luks_slot.specs.Writing.{HoldsWanted}
use Rattle.luks_slot.proofs.RunFacts.{plain_in_run, run_opened}

-- a run that was encrypted and written decrypts to what it was
pub run_stored : (v w : List ℕ) (key : AreaKey) (sealed run : List ℕ) (area : Area) (number : ℕ) → 4096 * number + 512 ≤ area.len → area.start + area.len ≤ length v
    → length sealed ≡ run_length area.len number → length w ≡ length v
    → w ≡ written v (area.start + 4096 * number) sealed → AreMade (sector_opened key) (8 * number) sealed (take (run_length area.len number) run)
    → HoldsRun key (area_bytes w area) area.len number run
run_stored v w key sealed run area number room within size same is undone =
    let at = area.start + 4096 * number in
    let n = run_length area.len number in
    let there : sealed ≡ part w at n =
    sym (part-written v at sealed (omega (arith, room, within, size)))
    ∙ ap (λ u. part u at (length sealed)) (sym is)
    ∙ ap (part w at) size in
    run_opened key w run area number room (omega (arith, within, same)) (subst (λ (s : List ℕ). AreMade (sector_opened key) (8 * number) s (take n run)) there undone)

-- a write of a run changes that run alone
pub run_alone : (v w sealed : List ℕ) (at : ℕ) → length sealed ≤ 4096 → at + length sealed ≤ length v → w ≡ written v at sealed → SameBut (IsAt at 4096) v w
run_alone v w sealed at short inside wrote =
    let same : SameBut (IsAt at (length sealed)) v (written v at sealed) = same_but-same_outside (same_outside-written v at sealed inside) in
    let here : at + 0 ≡ at = omega arith in
    same_but-wider (λ p is. at-inside at 4096 0 (length sealed) p (omega (arith, short)) (subst (λ (n : ℕ). IsAt n (length sealed) p) (sym here) is))
    (subst (λ (u : List ℕ). SameBut (IsAt at (length sealed)) v u) (sym wrote) same)

-- a sector of another run of the area is as before
opened_sector-same : (v w : List ℕ) (key : AreaKey) (start len n i : ℕ) → 512 * (i + 1) ≤ len → i < 8 * n → SameBut (IsAt (start + 4096 * n) 4096) v w
    → opened_sector key (part w start len) i ≡ opened_sector key (part v start len) i
unfolding opened_sector
opened_sector-same v w key start len n i fits before same =
    let there_w : part (part w start len) (512 * i) 512 ≡ part w (start + 512 * i) 512 = part-part w start len (512 * i) 512 (omega (arith, fits)) in
    let there_v : part (part v start len) (512 * i) 512 ≡ part v (start + 512 * i) 512 = part-part v start len (512 * i) 512 (omega (arith, fits)) in
    let kept : part w (start + 512 * i) 512 ≡ part v (start + 512 * i) 512 =
    part-same_but_at (start + 4096 * n) 4096 (start + 512 * i) 512 same (inl (omega (arith, before))) in
    ap (sector_opened key i) (there_w ∙ kept ∙ sym there_v)

-- before the first byte
pub nothing_wanted : (key : AreaKey) (area : List ℕ) (len : ℕ) (wanted run : List ℕ) → HoldsWanted key area len wanted 0 run
nothing_wanted key area len wanted run = record {
  stored = 0;
  inside = λ other. refl;
  end = λ here. refl;
  whole = λ p lt. absurd (omega (arith, lt));
  front = λ k lt. absurd (omega (arith, lt));
}

-- the held bytes with one more
front_more : (key : AreaKey) (area wanted run : List ℕ) (len place byte : ℕ) → (begun : HoldsWanted key area len wanted place run) → byte ≡ get_or wanted place 0 → length run ≡ 4096
    → place < len → (k : ℕ) → 4096 * (place / 4096) + k < place + 1 → get_or (set run (place % 4096) byte) k 0 ≡ get_or wanted (4096 * (place / 4096) + k) 0
front_more key area wanted run len place byte begun is size before k lt =
    let base : begun.stored ≡ 4096 * (place / 4096) = begun.inside (λ e. omega (arith, e, before)) in
    elim (cases_lt k (place % 4096)) [
      | inl early ↦
          get_or-set_other run (place % 4096) k byte 0 (λ e. omega (arith, early, e))
          ∙ begun.front k (omega (arith, early, base))
          ∙ ap (λ n. get_or wanted (n + k) 0) base
      | inr late ↦
          let here : k ≡ place % 4096 = omega (arith, lt, late) in
          let there : place ≡ 4096 * (place / 4096) + k = omega (arith, here) in
          ap (λ j. get_or (set run (place % 4096) byte) j 0) here
          ∙ get_or-set_same run (place % 4096) byte 0 (omega (arith, size))
          ∙ is ∙ ap (λ p. get_or wanted p 0) there
    ]

-- a byte more, where the run was stored with it
byte_stored : (v w : List ℕ) (key : AreaKey) (wanted run after : List ℕ) (start len place byte : ℕ) → HoldsWanted key (part v start len) len wanted place run
    → byte ≡ get_or wanted place 0 → length run ≡ 4096 → 512 * (place / 512 + 1) ≤ len → (place % 4096 ≡ 4095) ⊎ (place + 1 ≡ len)
    → HoldsRun key (part w start len) len (place / 4096) (set run (place % 4096) byte)
    → SameBut (IsAt (start + 4096 * (place / 4096)) 4096) v w → HoldsWanted key (part w start len) len wanted (place + 1) after
unfolding plain_byte
byte_stored v w key wanted run after start len place byte begun is size fits full stored same =
    let before : place < len = omega (arith, fits) in
    let base : begun.stored ≡ 4096 * (place / 4096) = begun.inside (λ e. omega (arith, e, before)) in
    record {
      stored = place + 1;
      inside = λ other. elim full [
        | inl last ↦ omega (arith, last)
        | inr here ↦ absurd (other here)
      ];
      end = λ here. refl;
      whole = λ p lt. elim (cases_lt (p / 4096) (place / 4096)) [
        | inl early ↦
            ap (λ s. get_or s (p % 512) 0) (opened_sector-same v w key start len (place / 4096) (p / 512) (omega (arith, early, fits)) (omega (arith, early)) same)
            ∙ begun.whole p (omega (arith, early, base))
        | inr late ↦
            let here : p / 4096 ≡ place / 4096 = omega (arith, lt, late) in
            let there : 4096 * (place / 4096) + p % 4096 ≡ p = omega (arith, here) in
            sym (plain_in_run key (part w start len) (set run (place % 4096) byte) len p
            (subst (λ (n : ℕ). HoldsRun key (part w start len) len n (set run (place % 4096) byte)) (sym here) stored) (omega (arith, lt, fits)))
            ∙ front_more key (part v start len) wanted run len place byte begun is size before (p % 4096) (omega (arith, there, lt))
            ∙ ap (λ q. get_or wanted q 0) there
      ];
      front = λ k lt. absurd (omega (arith, lt));
    }

-- the same where the writer stays at its area with its key
pub byte_written : (v w : List ℕ) (key now : AreaKey) (wanted run after : List ℕ) (area at : Area) (place byte : ℕ)
    → now ≡ key → at ≡ area → HoldsWanted key (area_bytes v area) area.len wanted place run
    → byte ≡ get_or wanted place 0 → length run ≡ 4096 → 512 * (place / 512 + 1) ≤ area.len → (place % 4096 ≡ 4095) ⊎ (place + 1 ≡ area.len)
    → HoldsRun key (area_bytes w area) area.len (place / 4096) (set run (place % 4096) byte)
    → SameBut (IsAt (area.start + 4096 * (place / 4096)) 4096) v w → HoldsWanted now (area_bytes w at) at.len wanted (place + 1) after
byte_written v w key now wanted run after area at place byte same_key same_area begun is size fits full stored same =
    subst (λ (k : AreaKey). HoldsWanted k (area_bytes w at) at.len wanted (place + 1) after) (sym same_key)
    (subst (λ (a : Area). HoldsWanted key (area_bytes w a) a.len wanted (place + 1) after) (sym same_area)
    (byte_stored v w key wanted run after area.start area.len place byte begun is size fits full stored same))
