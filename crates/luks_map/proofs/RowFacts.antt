-- The rows of keyslots and areas, one more.
use Rattle.std.proofs.Common.{◌≡◌, ℕ, ◌+◌, ◌<◌, List, [], ◌∷◌, ◌++◌, length, take, get_or, ap, ◌∙◌, sym, refl, append_assoc, arith}
use Rattle.std.proofs.lemmas.List.{length-take-le, take_more}
use Rattle.std.specs.Prelude.{map}
use Rattle.luks_area.specs.declared.areas.Entry.{Entry}
use Rattle.luks1_header.specs.declared.luks1.Luks1Slot.{Luks1Slot}
use Rattle.luks_map.specs.declared.row.Row.{Row}
use Rattle.luks_map.specs.Luks1Rows.{slot_row, slot_rows}
use Rattle.luks_map.specs.Luks2Rows.{area_row}

pub slot_rows_more : (key_bytes n : ℕ) (ss : List Luks1Slot) (s : Luks1Slot)
    → slot_rows key_bytes n ss ++ slot_row key_bytes (n + length ss) s ∷ [] ≡ slot_rows key_bytes n (ss ++ s ∷ [])
slot_rows_more key_bytes n [] s = ap (λ k. slot_row key_bytes k s ∷ []) (omega arith)
slot_rows_more key_bytes n (t ∷ ss) s =
    let count : n + length (t ∷ ss) ≡ (n + 1) + length ss = omega arith in
    ap (λ k. slot_row key_bytes n t ∷ (slot_rows key_bytes (n + 1) ss ++ slot_row key_bytes k s ∷ [])) count
    ∙ ap (λ l. slot_row key_bytes n t ∷ l) (slot_rows_more key_bytes (n + 1) ss s)

-- behind the rows `front`, the keyslot n
pub next_slot : (front rows : List Row) (key_bytes n : ℕ) (ss : List Luks1Slot) (d : Luks1Slot) → n < length ss
    → rows ≡ front ++ slot_rows key_bytes 0 (take n ss)
    → rows ++ slot_row key_bytes n (get_or ss n d) ∷ [] ≡ front ++ slot_rows key_bytes 0 (take (n + 1) ss)
next_slot front rows key_bytes n ss d lt is =
    let long : length (take n ss) ≡ n = length-take-le n ss (omega (arith, lt)) in
    let here : 0 + length (take n ss) ≡ n = omega (arith, long) in
    ap (λ l. l ++ slot_row key_bytes n (get_or ss n d) ∷ []) is
    ∙ append_assoc front (slot_rows key_bytes 0 (take n ss)) (slot_row key_bytes n (get_or ss n d) ∷ [])
    ∙ ap (λ k. front ++ (slot_rows key_bytes 0 (take n ss) ++ slot_row key_bytes k (get_or ss n d) ∷ [])) (sym here)
    ∙ ap (λ l. front ++ l) (slot_rows_more key_bytes 0 (take n ss) (get_or ss n d))
    ∙ ap (λ l. front ++ slot_rows key_bytes 0 l) (sym (take_more ss n d lt))

area_rows_more : (es : List Entry) (e : Entry) → map area_row es ++ area_row e ∷ [] ≡ map area_row (es ++ e ∷ [])
area_rows_more [] e = refl
area_rows_more (x ∷ es) e = ap (λ l. area_row x ∷ l) (area_rows_more es e)

-- and the area of the index n
pub next_area : (front rows : List Row) (n : ℕ) (es : List Entry) (d : Entry) → n < length es
    → rows ≡ front ++ map area_row (take n es)
    → rows ++ area_row (get_or es n d) ∷ [] ≡ front ++ map area_row (take (n + 1) es)
next_area front rows n es d lt is =
    ap (λ l. l ++ area_row (get_or es n d) ∷ []) is
    ∙ append_assoc front (map area_row (take n es)) (area_row (get_or es n d) ∷ [])
    ∙ ap (λ l. front ++ l) (area_rows_more (take n es) (get_or es n d))
    ∙ ap (λ l. front ++ map area_row l) (sym (take_more es n d lt))
