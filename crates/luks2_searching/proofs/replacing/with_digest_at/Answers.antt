use Rattle.std.proofs.Common.{refl, subst}
use Rattle.luks_trials.specs.Metadata.{OpensAt}
use Rattle.luks2_searching.specs.Digests.{HasDigest, IsReplaced}
use Rattle.luks2_searching.proofs.ResultFacts.{some_of}
use Rattle.luks2_searching.proofs.replacing.with_digest_at.Goals as goal

pub returns-clause-there : goal.returns-clause-there
returns-clause-there g c =
    let put = some_of c.in_ok-changed.field-0 c.in-Some.changed (λ it. IsReplaced c.args.json.now c.deref.result.now c.deref-2.result.now c.args.at it.items) c.in-Some.is
    c.in_ok-changed.ensures in
    record { at = refl; long = put.long }

pub returns-clause-found : goal.returns-clause-found
returns-clause-found g c = λ tells.
    let json = c.args.json.now in
    let put = some_of c.in_ok-changed.field-0 c.in-Some.changed (λ it. IsReplaced c.args.json.now c.deref.result.now c.deref-2.result.now c.args.at it.items) c.in-Some.is
    c.in_ok-changed.ensures in
    record {
      changed = record {
        some = c.requires.near.are.some;
        few = c.requires.near.are.few;
        stood = c.args.near.now.stood.items;
        stands = c.requires.near.stands;
        digest = c.args.near.now.digest.items;
        is = subst (λ d. HasDigest c.in-Some.changed.items c.args.n d) c.deref-4.ensures.value
            (subst (λ j. HasDigest j c.args.n c.deref-4.result.now) c.deref-3.ensures.value (c.in_ok-opened.ensures.digest c.if-not-opened.false));
        long = c.requires.near.are.long;
        differ = c.requires.near.are.differ;
        place = c.args.at;
        replaced = subst (λ d. IsReplaced json c.args.near.now.stood.items d c.args.at c.in-Some.changed.items) c.deref-2.ensures.value
            (subst (λ s. IsReplaced json s c.deref-2.result.now c.args.at c.in-Some.changed.items) c.deref.ensures.value put);
      };
      opens = subst (λ j. OpensAt c.args.trying.now.allowed (g.D.Device.bytes c.args.source.now) c.args.trying.now.passphrase.now j c.args.n) c.deref-3.ensures.value
          (c.in_ok-opened.ensures.opens tells c.if-not-opened.false);
    }
