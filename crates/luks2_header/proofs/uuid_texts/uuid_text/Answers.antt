use Rattle.std.proofs.Common.{◌≤◌, ℕ, length, ap, lit≤, ◌∙◌, sym, subst}
use Rattle.uuid.specs.Text.{hyphenated_text, lower}
use Rattle.luks2_header.proofs.UuidFacts.{hyphenated-length, version_4-made}
use Rattle.luks2_header.proofs.uuid_texts.uuid_text.Goals as goal

pub owned-requires : goal.owned-requires
owned-requires c =
    let fits : ℕ → Type 0 = λ n. n ≤ 40 in subst fits (sym (ap length c.encode_lower.ensures.text ∙ hyphenated-length c.hyphenated.result)) (lit≤ tt)

pub returns : goal.returns
returns c =
    c.owned.ensures ∙ c.encode_lower.ensures.text
    ∙ ap (hyphenated_text lower) (c.hyphenated.ensures ∙ c.into_uuid-uuid.ensures ∙ c.from_random_bytes.ensures.value ∙ version_4-made c.args.random)
