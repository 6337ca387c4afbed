use Rattle.std.proofs.Common.{None, inr, lit<, refl}
use Rattle.std.proofs.lemmas.Str.Pattern.{strip_suffix_char}
use Rattle.luks_line.proofs.sizes.parted.Goals as goal

pub returns-in-None : goal.returns-in-None
returns-in-None c =
    let k = strip_suffix_char 75 c.args.text.now None c.in_default.ensures.cases (lit< tt) in
    let m = strip_suffix_char 77 c.args.text.now None c.in_default-strip_suffix.ensures.cases (lit< tt) in
    let g = strip_suffix_char 71 c.args.text.now None c.in_default-strip_suffix-2.ensures.cases (lit< tt) in
    let t = strip_suffix_char 84 c.args.text.now None c.in-None.ensures.cases (lit< tt) in
    inr (inr (inr (inr ((k, m, g, t), refl, refl))))
