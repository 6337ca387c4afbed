-- Those members of a list of which something holds, and one member more.
use Rattle.std.proofs.Common.{◌≡◌, ℕ, ◌+◌, ◌<◌, ◌≤◌, List, [], ◌∷◌, ◌++◌, Bool, true, false, IsTrue, length, take, get_or, sym, subst}
use Rattle.std.proofs.lemmas.List.{take_all, take_more}
use Rattle.luks_notes.specs.Noted.{AreThose, ended, taken, passed}

-- it holds of the next member
pub taken_last : {A : Type 0} (P : A → Type 0) (x : A) (all those : List A) → AreThose P all those → P x → AreThose P (all ++ x ∷ []) (those ++ x ∷ [])
taken_last P x all those ended holds = taken holds ended
taken_last P x all those (taken held rest) holds = taken held (taken_last P x _ _ rest holds)
taken_last P x all those (passed not rest) holds = passed not (taken_last P x _ _ rest holds)

-- it doesn't
pub passed_last : {A : Type 0} (P : A → Type 0) (x : A) (all those : List A) → AreThose P all those → (P x → ⊥) → AreThose P (all ++ x ∷ []) those
passed_last P x all those ended not = passed not ended
passed_last P x all those (taken held rest) not = taken held (passed_last P x _ _ rest not)
passed_last P x all those (passed other rest) not = passed other (passed_last P x _ _ rest not)

-- the next member of a list
pub next_taken : {A : Type 0} (P : A → Type 0) (all : List A) (i : ℕ) (d : A) (those grown : List A) → i < length all → AreThose P (take i all) those → P (get_or all i d)
    → grown ≡ those ++ get_or all i d ∷ [] → AreThose P (take (i + 1) all) grown
next_taken P all i d those grown less so_far holds is =
    subst (λ l. AreThose P l grown) (sym (take_more all i d less)) (subst (AreThose P (take i all ++ get_or all i d ∷ [])) (sym is) (taken_last P (get_or all i d) (take i all) those so_far holds))

pub next_passed : {A : Type 0} (P : A → Type 0) (all : List A) (i : ℕ) (d : A) (those same : List A) → i < length all → AreThose P (take i all) those → (P (get_or all i d) → ⊥)
    → same ≡ those → AreThose P (take (i + 1) all) same
next_passed P all i d those same less so_far not is =
    subst (λ l. AreThose P l same) (sym (take_more all i d less)) (subst (AreThose P (take i all ++ get_or all i d ∷ [])) (sym is) (passed_last P (get_or all i d) (take i all) those so_far not))

-- all of a list was looked through
pub those_of_all : {A : Type 0} (P : A → Type 0) (all : List A) (i : ℕ) (those : List A) → length all ≤ i → AreThose P (take i all) those → AreThose P all those
those_of_all P all i those past so_far = subst (λ l. AreThose P l those) (take_all i all past) so_far

-- a test isn't both
pub not_both : (b : Bool) → IsTrue b → b ≡ false → ⊥
not_both true holds is = cc
not_both false holds is = cc
