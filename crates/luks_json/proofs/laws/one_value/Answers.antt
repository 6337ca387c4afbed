use Rattle.std.proofs.Common.{sym, ap, ◌∙◌, unwrap_or}
use Rattle.serde_json.specs.Read.{read}
use Rattle.luks_json.proofs.AreaTexts.{one_text}
use Rattle.luks_json.proofs.laws.one_value.Goals as goal

pub returns : goal.returns
returns c = λ area i j p q.
    let same = one_text area p.text q.text p.placed q.placed in
    ap (λ o. unwrap_or o i) (sym p.reads ∙ ap read same ∙ q.reads)
