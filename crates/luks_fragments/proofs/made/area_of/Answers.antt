use Rattle.std.proofs.Common.{◌≡◌, ◌-◌, ap, sym, ◌∙◌, arith, ◌++◌, length, replicate, take, vec_len}
use Rattle.std.proofs.lemmas.List.{append-nil, take_all}
use Rattle.luks_fragments.specs.Made.{area_length}
use Rattle.luks_fragments.proofs.made.area_of.Goals as goal

pub returns-then-len-ge-AREA_LENGTH : goal.returns-then-len-ge-AREA_LENGTH
returns-then-len-ge-AREA_LENGTH c =
    let long = c.len.ensures in
    let some = c.if-len-ge-AREA_LENGTH.true in
    let none : area_length - length c.args.text.items ≡ 0 = omega (arith, long, some, c.args.text.ok.0) in
    sym (append-nil c.args.text.items) ∙ ap (λ n. c.args.text.items ++ replicate n 0) (sym none)

pub returns : goal.returns
returns c =
    let items = c.args.text.items in
    let long = c.len.ensures in
    let below = c.if-len-ge-AREA_LENGTH.false in
    let same : vec_len c.args.text ≡ length items = omega (arith, c.args.text.ok.0) in
    c.in_ok-resize.ensures.items ∙ ap (λ n. take 12288 items ++ replicate (12288 - n) 0) same
    ∙ ap (λ l. l ++ replicate (12288 - length items) 0) (take_all 12288 items (omega (arith, long, below, same)))
