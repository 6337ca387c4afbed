use Rattle.std.proofs.Common.{◌≡◌, ◌++◌, codes, List, ℕ, OnOk, ap, append_assoc, subst, sym, ◌∙◌}
use Rattle.std.specs.Fmt.{decimal}
use Rattle.std.specs.Io.KnownBytes.{Appends}
use Rattle.luks_show.specs.Texts.{line}
use Rattle.luks_underway_said.specs.Said.{side_line}
use Rattle.luks_underway_said.proofs.said.say_side.Goals as goal

joined : (n : ℕ) (words : List ℕ)
    → codes "luks: keyslot " ++ (decimal n ++ (codes ": it gives " ++ line words)) ≡ codes "luks: keyslot " ++ decimal n ++ codes ": it gives " ++ line words
joined n words = ap (λ t. codes "luks: keyslot " ++ t) (sym (append_assoc (decimal n) (codes ": it gives ") (line words)))

pub returns : goal.returns
returns g c =
    let n = c.args.n in
    let IsSaid : List ℕ → Type 0 = λ text. OnOk c.writeln.result (Appends (g.E.Write.contents c.args.err.now) (g.E.Write.contents c.writeln.new.self) text) in
    let words : codes "luks: keyslot " ++ (decimal n ++ (codes ": it gives " ++ line c.side_name-gives.result.now)) ≡ side_line n c.args.side =
    joined n c.side_name-gives.result.now ∙ ap (λ t. codes "luks: keyslot " ++ decimal n ++ codes ": it gives " ++ line t) c.side_name-gives.ensures in
    subst IsSaid words c.writeln.ensures.bytes
