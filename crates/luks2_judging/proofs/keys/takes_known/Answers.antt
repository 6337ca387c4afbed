use Rattle.std.proofs.Common.{◌∙◌, refl, sym}
use Rattle.std.proofs.lemmas.Bool.{false≢true}
use Rattle.luks_meta.specs.Content.{content}
use Rattle.luks2_judging.proofs.DigestFacts.{missing_takes, takes_here}
use Rattle.luks2_judging.proofs.keys.takes_known.Goals as goal

pub returns-then-is_key_length-clause-some : goal.returns-then-is_key_length-clause-some
returns-then-is_key_length-clause-some c =
    let told = c.in-Some.ensures.some in
    record {
      digest = c.luks2_digest.result;
      takes = takes_here (content c.args.meta.now) c.args.number c.in-Some.digest c.luks2_digest.result c.requires.low told (c.luks2_digest.ensures.says told.object told.tells_members) c.args.len (c.is_key_length.ensures.0 c.if-is_key_length.true);
      is = sym (c.is_some.ensures ∙ c.meets.ensures.known);
    }

pub returns-else-is_key_length-clause-none : goal.returns-else-is_key_length-clause-none
returns-else-is_key_length-clause-none c = λ none digest takes. false≢true (sym c.if-is_key_length.false ∙ c.is_key_length.ensures.1 takes.long)

pub returns-in-None-clause-none : goal.returns-in-None-clause-none
returns-in-None-clause-none c = λ none digest takes. missing_takes (content c.args.meta.now) c.args.number c.args.len digest (c.in-None.ensures.none refl) takes
