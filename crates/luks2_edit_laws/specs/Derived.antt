-- How a keyslot derives that an edit makes or seals again.
use Rattle.std.specs.Prelude.{ℕ, List, Option, Some, None, IfSome}
use Rattle.serde_json.specs.Data.{Data as Value}
use Rattle.luks_rules.specs.declared.table.Section.TheVariants.{Keyslots}
use Rattle.luks_rules.specs.Accepted.{HasObject}
use Rattle.luks_making.specs.declared.derivation.NewDerivation.{NewDerivation}
use Rattle.luks_making.specs.Keyslots.{Deriving, IsDerivedLike}
use Rattle.luks_making.specs.Unchanged.{KeepsDerivation, SaysChosen, SaysDerivation}
use Rattle.luks_edit.specs.declared.deed.Place.{Place}
use Rattle.luks_edit.specs.declared.deed.Place.TheVariants.{New, Opened}
use Rattle.luks_edit.specs.declared.edit.Edit.{Edit}
use Rattle.luks_edit.specs.Asked.{MatchOpener, opener_at, sealed_by}
use Rattle.luks2_edit_laws.specs.Edited.{keyslot_salt, IsSealedIn}

-- the keyslot `d` derives as the keyslot `from`, PBKDF2 by so many iterations
pub record DerivesLike (n : ℕ) (from d : Value) : Type 0 where
  pub derivation : Deriving
  pub like : IsDerivedLike from n derivation
  pub says : SaysDerivation derivation d

-- it derives as is chosen, and says no more of it; where nothing is, a new one derives as the keyslot
-- `from` that was opened, and one that is sealed again as it did except for its salt and iterations
abbrev pub DerivesAs : Place → ℕ → Option NewDerivation → List ℕ → Value → Value → Type 0
DerivesAs place n (Some c) salt from d = SaysChosen c salt d
DerivesAs (New o to) n None salt from d = DerivesLike n from d
DerivesAs (Opened slot secret) n None salt from d = KeepsDerivation n from d

-- by the metadata `k`, which the edit made of the metadata `j` of the volume `v`, so does the keyslot that
-- it sealed the key in; by the volume key one is always chosen, and no keyslot was opened
abbrev pub IsDerivedBy : List ℕ → Edit → List ℕ → Value → Value → Type 0
IsDerivedBy v e random j k = IfSome (sealed_by e) (λ s. MatchOpener (opener_at s.place)
    (λ slot secret. (n : ℕ) (from d : Value)
    → IsSealedIn v s n → HasObject j Keyslots slot from → HasObject k Keyslots n d
    → DerivesAs s.place s.derivation.iterations s.derivation.chosen (keyslot_salt random) from d)
    (λ key. (n : ℕ) (d : Value) → IsSealedIn v s n → HasObject k Keyslots n d
    → IfSome s.derivation.chosen (λ c. SaysChosen c (keyslot_salt random) d)))
