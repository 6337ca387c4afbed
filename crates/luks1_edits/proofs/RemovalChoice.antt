-- What the test says that compares the keyslot to open by with the removed one.
use Rattle.std.proofs.Common.{◌≡◌, ◌≢◌, ℕ, Bool, true, false, eqb, Option, Some, None, refl, sym, ap, ◌∙◌}
use Rattle.std.proofs.lemmas.Bool.{eq-eqb, eqb-true, false≢true}
use Rattle.std.specs.Option.{option_eq}

-- the removed one is named
pub is_named : (by_ : Option ℕ) (slot : ℕ) (test : Bool) → test ≡ option_eq eqb by_ (Some slot) → test ≡ true → by_ ≡ Some slot
is_named None slot test is holds = absurd (false≢true (sym is ∙ holds))
is_named (Some other) slot test is holds = ap Some (eqb-true other slot (sym is ∙ holds))

-- it isn't
pub isnt_named : (by_ : Option ℕ) (slot : ℕ) (test : Bool) → test ≡ option_eq eqb by_ (Some slot) → test ≡ false → by_ ≢ Some slot
isnt_named by_ slot test is fails same = false≢true (sym fails ∙ is ∙ ap (λ b. option_eq eqb b (Some slot)) same ∙ eq-eqb slot slot refl)
