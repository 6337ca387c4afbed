use Rattle.std.proofs.Common.{ap, sym, ◌∙◌, List, ℕ, ◌++◌, [], ◌∷◌}
use Rattle.luks1_header.specs.declared.fault.TextField.TheVariants as field
use Rattle.luks1_header.specs.Header1.{header_text}
use Rattle.luks_notes.proofs.older_keyslot.luks1_part.Goals as goal

pub returns-in-Some : goal.returns-in-Some
returns-in-Some c =
    let v = c.args.header.now in
    let fields = c.in-Ok.ensures.fields in
    c.in-Some.ensures ∙ ap (λ (x : List ℕ). x ++ 45 ∷ [] ++ c.as_str-2.result.now) (c.as_str.ensures.value ∙ sym fields.cipher_name)
    ∙ ap (λ (x : List ℕ). header_text v field.CipherName ++ 45 ∷ [] ++ x) (c.as_str-2.ensures.value ∙ sym fields.cipher_mode)
