-- The line of the keyslot that says what is under way, by its record.
use Rattle.std.proofs.Common.{◌≡◌, ℕ, List, ◌++◌, codes, Option, refl, sym, append_assoc, append-nil}
use Rattle.std.specs.Fmt.{decimal}
use Rattle.serde_json.specs.Data.{Data}
use Rattle.luks_show.specs.Texts.{line}
use Rattle.luks_underway.specs.declared.resilience.Resilience.{Resilience}
use Rattle.luks_underway.specs.declared.resilience.Resilience.TheVariants as kept_by
use Rattle.luks_underway.specs.declared.reencryption.Reencryption.{Reencryption}
use Rattle.luks_underway.specs.Reencryptions.{TellsReencryption, TellsResilience}
use Rattle.luks_underway_show.specs.KeyslotLines.{direction_text, mode_text, reencryption_line, resilience_shown}
use Rattle.luks_underway_show.specs.RecordLines.{checksum_text, reencryption_text, resilience_text}
use Rattle.luks_underway_show.specs.Shown.{digest_shown, keyslot_digest}

resilience_told : (d : Data) (r : Resilience) → TellsResilience d r → resilience_text r ≡ resilience_shown d
resilience_told d kept_by.Nothing tells = rw tells refl
resilience_told d kept_by.Journal tells = rw tells refl
resilience_told d (kept_by.Checksum k) tells = let sums = tells.1 in rw (tells.0, sums.0, sums.1) (sym (append-nil (codes "checksum" ++ checksum_text k)))
resilience_told d (kept_by.Datashift n) tells = rw (tells.0, tells.1) refl
resilience_told d (kept_by.DatashiftJournal n) tells = rw (tells.0, tells.1) refl
resilience_told d (kept_by.DatashiftChecksum k n) tells = let sums = tells.1 in rw (tells.0, sums.0, sums.1, tells.2) refl

regrouped : (a n b m c w d o e s f r g t : List ℕ) → (a ++ n ++ b ++ m ++ c ++ w) ++ (d ++ o ++ e ++ s ++ f ++ r ++ g ++ t)
    ≡ a ++ n ++ b ++ m ++ c ++ w ++ d ++ (o ++ e ++ s) ++ f ++ r ++ g ++ t
regrouped a n b m c w d o e s f r g t = simp append_assoc

pub reencryption_told : (j : Data) (n : ℕ) (d : Data) (k : Reencryption) (digest : Option ℕ) → TellsReencryption d k → keyslot_digest j n ≡ digest
    → reencryption_text n k digest ≡ reencryption_line j n d
reencryption_told j n d k digest tells of =
    let area = tells.5 in
    rw (of, tells.3, tells.4, area.0, area.1, ← resilience_told d k.area.resilience area.2) (regrouped (codes "keyslot ") (decimal n) (codes " reencrypt ") (mode_text k.mode) (codes " ") (direction_text k.direction) (codes " area ") (decimal k.area.offset) (codes " ") (decimal k.area.size) (codes " ") (resilience_text k.area.resilience) (codes " digest ") (line (digest_shown digest)))
