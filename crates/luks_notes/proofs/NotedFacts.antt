-- The lines that are said of what is left, one after the other.
use Rattle.std.proofs.Common.{◌≡◌, ℕ, ◌+◌, ◌<◌, ◌≤◌, List, [], ◌∷◌, ◌==◌, true, false, Option, Result, Ok, Err, OnOk, length, take, get_or, flat_map, sym, ap, ◌∙◌, subst, arith}
use Rattle.std.specs.Io.KnownBytes.{Appends}
use Rattle.std.proofs.KnownBytes.{Appends-trans}
use Rattle.std.proofs.lemmas.List.{flat_map_more, take_more, take_all}
use Rattle.luks_notes.specs.declared.leftover.Leftover.{Leftover}
use Rattle.luks_notes.specs.Noted.{left_line, leftovers_text, wiping_line}

-- one line more
pub next_line : (volume : List ℕ) (found : List Leftover) (i : ℕ) (d : Leftover) (a b c : Option (List ℕ)) → i < length found
    → Appends a b (flat_map (left_line volume) (take i found)) → Appends b c (left_line volume (get_or found i d)) → Appends a c (flat_map (left_line volume) (take (i + 1) found))
next_line volume found i d a b c less so_far more =
    subst (Appends a c) (flat_map_more (left_line volume) [] (take i found) (get_or found i d) ∙ sym (ap (flat_map (left_line volume)) (take_more found i d less)))
    (Appends-trans a b c _ _ so_far more)

-- nothing is said where nothing is left
pub none_left : (volume : List ℕ) (begins : ℕ) (found : List Leftover) (i : ℕ) (a b : Option (List ℕ)) → true ≡ (length found == 0) → length found ≤ i
    → Appends a b (flat_map (left_line volume) (take i found)) → Appends a b (leftovers_text volume begins found)
none_left volume begins [] i a b none past so_far = subst (λ l. Appends a b (flat_map (left_line volume) l)) (take_all i [] past) so_far
none_left volume begins (x ∷ xs) i a b none past so_far = absurd (grind (arith, none))

-- after all lines comes by what it is taken away
pub all_left : (volume : List ℕ) (begins : ℕ) (found : List Leftover) (i : ℕ) (a b c : Option (List ℕ)) → (length found == 0) ≡ false → length found ≤ i
    → Appends a b (flat_map (left_line volume) (take i found)) → Appends b c (wiping_line volume begins) → Appends a c (leftovers_text volume begins found)
all_left volume begins [] i a b c some past so_far more = absurd (grind (arith, some))
all_left volume begins (x ∷ xs) i a b c some past so_far more =
    Appends-trans a b c _ _ (subst (λ l. Appends a b (flat_map (left_line volume) l)) (take_all i (x ∷ xs) past) so_far) more

-- what follows of what a write has done
pub on_ok_as : {T E : Type 0} (r : Result T E) (P Q : Type 0) → (P → Q) → OnOk r P → OnOk r Q
on_ok_as (Ok x) P Q of holds = of holds
on_ok_as (Err e) P Q of holds = holds
