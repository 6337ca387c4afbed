use Rattle.std.proofs.Common.{map, Some, None, lit<, sym, subst, ap}
use Rattle.std.proofs.lemmas.Str.Pattern.{split_parts}
use Rattle.luks_execution.specs.Parted.{IsParted}
use Rattle.luks_execution.proofs.PartsFacts.{bare_parts, closed_rest, cut_parts}
use Rattle.luks_execution.proofs.parted.parts_of.Goals as goal

pub inside-requires : goal.inside-requires
inside-requires c = closed_rest c.args.text.now (c.in-Some.name, c.in-Some.rest) c.requires c.in-Some.ensures.cases

pub returns-in_ok-by_commas-in-Some : goal.returns-in_ok-by_commas-in-Some
returns-in_ok-by_commas-in-Some c =
    let found = split_parts 40 c.args.text.now (Some (c.in-Some.name, c.in-Some.rest)) c.in-Some.ensures.cases (lit< tt) in
    cut_parts c.args.text.now c.in-Some.name.now c.in-Some.rest.now c.inside.result.now _ found.0 found.1 c.inside.ensures c.in_ok-by_commas-in-Some.ensures

pub returns-in-None : goal.returns-in-None
returns-in-None c =
    subst (IsParted c.args.text.now c.args.text.now) (sym (ap (map (λ place. place.now)) c.new.ensures.items))
    (bare_parts c.args.text.now (split_parts 40 c.args.text.now None c.in-None.ensures.cases (lit< tt)))
