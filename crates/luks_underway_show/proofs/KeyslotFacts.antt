-- The lines of a keyslot, by its record.
use Rattle.std.proofs.Common.{◌≡◌, ℕ, List, ◌++◌, codes, Option, Some, refl, ap₂, append_assoc}
use Rattle.std.specs.Fmt.{decimal}
use Rattle.serde_json.specs.Data.{Data}
use Rattle.luks_rules.specs.declared.table.Outer.TheVariants as outer
use Rattle.luks_rules.specs.Faults.{type_at}
use Rattle.luks_meta.specs.declared.keyslots.Cost.{Cost}
use Rattle.luks_meta.specs.declared.keyslots.Cost.TheVariants as cost
use Rattle.luks_meta.specs.declared.keyslots.Keyslot.{Keyslot}
use Rattle.luks_meta.specs.Says.{TellsCost, TellsKeyslot}
use Rattle.luks_show.specs.AllLines.{costs_line, salt_line}
use Rattle.luks_show.specs.Luks2Lines.{digest_text, kdf_text, keyslot_line}
use Rattle.luks_show.specs.Texts.{escaped, line}
use Rattle.luks_underway.specs.declared.slots.WideKeyslot.{WideKeyslot}
use Rattle.luks_underway.specs.declared.slots.WideKeyslot.TheVariants.{Luks2, Reencrypt}
use Rattle.luks_underway.specs.Slots.{TellsWideKeyslot}
use Rattle.luks_underway_show.specs.declared.lines.Lines.{Lines}
use Rattle.luks_underway_show.specs.declared.lines.Lines.TheVariants.{Few, All}
use Rattle.luks_underway_show.specs.KeyslotLines.{costs_listed, further_key_lines, key_line, keyslot_lines, salt_listed}
use Rattle.luks_underway_show.specs.RecordLines.{further_key_text, keyslot_text}
use Rattle.luks_underway_show.specs.Shown.{keyslot_digest}
use Rattle.luks_underway_show.proofs.ReencryptFacts.{reencryption_told}

kdf_told : (d : Data) (c : Cost) → TellsCost d c → type_at d outer.Kdf ≡ Some (kdf_text c)
kdf_told d (cost.Pbkdf2 c) tells = tells.0
kdf_told d (cost.Argon2i c) tells = tells.0
kdf_told d (cost.Argon2id c) tells = tells.0

regrouped : (a n b y c k d o e s f g t : List ℕ) → (a ++ n ++ b ++ y ++ c ++ k) ++ (d ++ o ++ e ++ s ++ f ++ g ++ t)
    ≡ a ++ n ++ b ++ y ++ c ++ k ++ d ++ (o ++ e ++ s) ++ f ++ g ++ t
regrouped a n b y c k d o e s f g t = simp append_assoc

key_told : (j : Data) (n : ℕ) (d : Data) (k : Keyslot) (digest : Option ℕ) → TellsKeyslot d k → keyslot_digest j n ≡ digest
    → keyslot_line n k digest ≡ key_line j n d
key_told j n d k digest tells of =
    let area = tells.4 in
    rw (of, tells.1, kdf_told d k.kdf.cost tells.5.0, area.1, area.3, area.4) (regrouped (codes "keyslot ") (decimal n) (codes " key-bytes ") (decimal k.key_size) (codes " kdf ") (kdf_text k.kdf.cost) (codes " area ") (decimal k.area.offset) (codes " ") (decimal k.area.size) (codes " ") (escaped k.area.encryption.now) (line (digest_text digest)))

costs_told : (n : ℕ) (d : Data) (c : Cost) → TellsCost d c → costs_line n c ≡ costs_listed n d
costs_told n d (cost.Pbkdf2 c) tells = rw (tells.0, tells.1, tells.2) refl
costs_told n d (cost.Argon2i c) tells = let costs = tells.1 in rw (tells.0, tells.0, costs.0, costs.1, costs.2) refl
costs_told n d (cost.Argon2id c) tells = let costs = tells.1 in rw (tells.0, tells.0, costs.0, costs.1, costs.2) refl

salt_told : (n : ℕ) (d : Data) (k : Keyslot) → TellsKeyslot d k → salt_line n k.kdf.salt.items ≡ salt_listed n d
salt_told n d k tells = rw tells.5.1 refl

further_told : (lines : Lines) (n : ℕ) (d : Data) (k : Keyslot) → TellsKeyslot d k → further_key_text lines n k ≡ further_key_lines lines n d
further_told Few n d k tells = refl
further_told All n d k tells = ap₂ (λ xs ys. xs ++ ys) (costs_told n d k.kdf.cost tells.5.0) (salt_told n d k tells)

both_told : (lines : Lines) (j : Data) (n : ℕ) (d : Data) (k : Keyslot) (digest : Option ℕ) → TellsKeyslot d k → keyslot_digest j n ≡ digest
    → keyslot_line n k digest ++ further_key_text lines n k ≡ key_line j n d ++ further_key_lines lines n d
both_told lines j n d k digest tells of = ap₂ (λ xs ys. xs ++ ys) (key_told j n d k digest tells of) (further_told lines n d k tells)

pub keyslot_told : (lines : Lines) (j : Data) (n : ℕ) (d : Data) (k : WideKeyslot) (digest : Option ℕ) → TellsWideKeyslot d k → keyslot_digest j n ≡ digest
    → keyslot_text lines n k digest ≡ keyslot_lines lines j n d
keyslot_told lines j n d (Luks2 k) digest tells of = rw tells.0 (both_told lines j n d k digest tells of)
keyslot_told lines j n d (Reencrypt k) digest tells of = rw tells.0 (reencryption_told j n d k digest tells of)
