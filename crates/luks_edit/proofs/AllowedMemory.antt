-- What the memory that an edit allows tells of its passphrases; and that a LUKS1 volume answers alike
-- whatever memory is allowed, since none of its keyslots derives by Argon2.
use Rattle.std.proofs.Common.{◌≡◌, ◌<◌, ◌^◌, ℕ, List, [], length, true, false, Option, Some, None, refl, sym, subst, arith}
use Rattle.std.specs.Prelude.{◌&&◌, nat_lt, Bool, if◌then◌else◌}
use Rattle.std.proofs.lemmas.Bool.{and_parts, ltb-true}
use Rattle.luks_edit.specs.declared.edit.Edit.{Edit}
use Rattle.luks_edit.specs.declared.deed.Deed.{Deed}
use Rattle.luks_edit.specs.declared.deed.Deed.TheVariants as deed
use Rattle.luks_edit.specs.declared.edit.Opener.{Opener}
use Rattle.luks_edit.specs.declared.edit.SecretKind.{SecretKind}
use Rattle.luks_edit.specs.Secrets.{AnswersTo, GivesWithin}
use Rattle.luks_edit.specs.Asked.{allowed_by, allowed_for, allowed_in, allowed_of, AreShortIn, bytes_of, deed_of, HasShortPassphrases, opener_at, remover_of}
use Rattle.luks_slot.specs.declared.allowed.Allowed.{Allowed}
use Rattle.luks2_header.specs.Selection.{Choice, luks1, luks2, nothing, Chosen}
use Rattle.luks2_header.proofs.ChoiceFacts.{choices_agree}
use Rattle.luks_reading.specs.declared.open_fault.OpenFault.{OpenFault}
use Rattle.luks_area.specs.Ranges.{part}
use Rattle.luks_reading.specs.Answer.{AnswerWithin, IsLuks1Refusal, IsRefusalAsWithin, IsRefusalWithin, Opened, opens, no_key, OpensWithin, refused}

-- where some memory is allowed, the test of the passphrases' lengths holds
tested : (b : Bool) (m : ℕ) → 0 < (if b then m else 0) → b ≡ true
tested true m some = refl
tested false m some = absurd (omega (arith, some))

both_short : (old : Opener) (new : List ℕ) → 0 < (allowed_for old new).memory → (length (bytes_of old) < 2 ^ 32) × (length new < 2 ^ 32)
both_short old new some =
    let both = and_parts _ _ (tested (nat_lt (length (bytes_of old)) (2 ^ 32) && nat_lt (length new) (2 ^ 32)) (allowed_of old).memory some) in
    (ltb-true (length (bytes_of old)) (2 ^ 32) both.0, ltb-true (length new) (2 ^ 32) both.1)

-- where an edit allows some, its passphrases are short enough for Argon2
short_in : (d : Deed) → 0 < (allowed_in d).memory → AreShortIn d
short_in (deed.Seal s) some = both_short (opener_at s.place) s.passphrase.now some
short_in (deed.Remove r) some = (both_short (remover_of r.slot r.by_ r.secret) [] some).0
short_in (deed.Rewrite r) some = tt
short_in deed.Erase some = tt

pub short_where_allowed : (e : Edit) → 0 < (allowed_by e).memory → HasShortPassphrases e
short_where_allowed e some = short_in (deed_of e) some

-- a refusal of it stands whatever memory is allowed
pub refused_as : (v : List ℕ) (less more : Allowed) (n : ℕ) (c : Choice) (f : OpenFault) → less.older ≡ more.older → c ≡ luks1
    → IsRefusalAsWithin less v n c f → IsRefusalAsWithin more v n c f
refused_as v less more n luks1 f alike is x = subst (λ older. IsLuks1Refusal older (part v 0 592) (length v) n f) alike x
refused_as v less more n (luks2 o copies) f alike is x = absurd (cc)
refused_as v less more n nothing f alike is x = absurd (cc)

module _ (v : List ℕ) (chosen : Chosen v luks1) (less more : Allowed) (n : ℕ) (alike : less.older ≡ more.older) where
  -- the set of its refusals is the same
  refusals_alike : (f : OpenFault) → IsRefusalWithin less v n f → IsRefusalWithin more v n f
  refusals_alike f x = record { choice = x.choice; chosen = x.chosen; fault = refused_as v less more n x.choice f alike (choices_agree v x.choice luks1 x.chosen chosen) x.fault }

  -- what a keyslot opens to is the same
  opened_alike : (p : List ℕ) (found : Option (List ℕ)) → OpensWithin less v n p found → OpensWithin more v n p found
  opened_alike p found x = record {
    choice = x.choice;
    chosen = x.chosen;
    plan = x.plan;
    is = x.is;
    unrefused = λ f bad. x.unrefused f (refused_as v more less n x.choice f (sym alike) (choices_agree v x.choice luks1 x.chosen chosen) bad);
    key = x.key;
  }

-- and so is each of its answers
pub luks1_answers_alike : (v : List ℕ) → Chosen v luks1 → (less more : Allowed) (n : ℕ) → less.older ≡ more.older → (p : List ℕ) (a : Opened)
    → AnswerWithin less v n p a → AnswerWithin more v n p a
luks1_answers_alike v chosen less more n alike p (refused f) x = (refusals_alike v chosen less more n alike f x.0, λ g bad. x.1 g (refusals_alike v chosen more less n (sym alike) g bad))
luks1_answers_alike v chosen less more n alike p (opens k) x = opened_alike v chosen less more n alike p (Some k) x
luks1_answers_alike v chosen less more n alike p no_key x = opened_alike v chosen less more n alike p None x

-- so is what it answers to a secret
given_alike : (v : List ℕ) → Chosen v luks1 → (less more : Allowed) (n : ℕ) → less.older ≡ more.older → (kind : SecretKind) (p : List ℕ) (found : Option (List ℕ))
    → GivesWithin kind less v n p found → GivesWithin kind more v n p found
given_alike v chosen less more n alike kind p found x = record {
  choice = x.choice;
  chosen = x.chosen;
  plan = x.plan;
  is = x.is;
  unrefused = λ f bad. x.unrefused f (refused_as v more less n x.choice f (sym alike) (choices_agree v x.choice luks1 x.chosen chosen) bad);
  key = x.key;
}

pub luks1_secrets_alike : (v : List ℕ) → Chosen v luks1 → (less more : Allowed) (n : ℕ) → less.older ≡ more.older → (kind : SecretKind) (p : List ℕ) (a : Opened)
    → AnswersTo kind less v n p a → AnswersTo kind more v n p a
luks1_secrets_alike v chosen less more n alike kind p (refused f) x = luks1_answers_alike v chosen less more n alike p (refused f) x
luks1_secrets_alike v chosen less more n alike kind p (opens k) x = given_alike v chosen less more n alike kind p (Some k) x
luks1_secrets_alike v chosen less more n alike kind p no_key x = given_alike v chosen less more n alike kind p None x
