use Rattle.std.proofs.Common.{◌≡◌, ◌∙◌, ℕ, length, ap, sym}
use Rattle.std.proofs.lemmas.Bool.{eq-eqb, eqb-true}
use Rattle.std.proofs.lemmas.List.{nil_from_length}
use Rattle.luks_meta.specs.Content.{content}
use Rattle.luks_meta.specs.Naming.{IsDigestOf}
use Rattle.luks_notes.proofs.UnboundFacts.{names_none}
use Rattle.luks_notes.proofs.unbound.is_unbound_in.Goals as goal

pub returns-in-Some-digest : goal.returns-in-Some-digest
returns-in-Some-digest c =
    let j = content c.args.meta.now in
    let items = c.in-Some-digest.digest.segments.items in
    let only : (l : ℕ) → IsDigestOf j c.args.n l → l ≡ c.in-Some.number = λ l named. let e = c.in-Some.ensures.only l named in cc in (
      λ on. record {
        number = c.in-Some.number;
        names = c.in-Some.ensures.some;
        digest = c.in-Some-digest.digest;
        told = c.in-Some-digest.ensures.some;
        none = nil_from_length items (eqb-true (length items) 0 (sym c.is_empty.ensures ∙ on));
      },
      λ x. c.is_empty.ensures ∙ eq-eqb (length items) 0 (ap length (names_none j c.args.n c.in-Some.number c.in-Some-digest.digest only c.in-Some-digest.ensures.some x)),
    )
