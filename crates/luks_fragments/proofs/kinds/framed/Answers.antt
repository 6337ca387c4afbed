use Rattle.std.proofs.Common.{◌∙◌, ap, sym}
use Rattle.std.proofs.lemmas.Result.{IfOk-weaker}
use Rattle.luks_fragments.specs.Kinds.{framed, some_keyslot, widest}
use Rattle.luks_fragments.specs.Made.{made_text}
use Rattle.luks_fragments.proofs.kinds.framed.Goals as goal

pub returns-in-Segment : goal.returns-in-Segment
returns-in-Segment c =
    let object = c.args.object.now in
    IfOk-weaker c.text_of-in-Segment.result _ _ (λ text h. h
    ∙ ap (λ k. made_text widest 0 0 k c.some_digest-in-Segment.result.now object) c.some_keyslot-in-Segment.ensures
    ∙ ap (λ d. made_text widest 0 0 some_keyslot d object) c.some_digest-in-Segment.ensures
    ∙ ap (λ k. framed k object) (sym c.in-Segment.is)) c.text_of-in-Segment.ensures
