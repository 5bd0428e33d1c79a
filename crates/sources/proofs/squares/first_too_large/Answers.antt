use Rattle.std.proofs.Common.{◌≡◌, ◌+◌, Some, sym, ◌∙◌, arith, rules}
use Rattle.sources.specs.Meant.{meant}
use Rattle.sources.specs.Squares.{too_large, first_large}
use Rattle.sources.proofs.Firsts.{found}
use Rattle.sources.proofs.Quadrangles.{sized_at_none}
use Rattle.sources.proofs.squares.first_too_large.Goals as goal
use Rattle.sources.proofs.squares.first_too_large.Goals.{After-first_pair}

-- what the search finds is the first class
first : (g : _) (c : After-first_pair g) → c.first_pair.result ≡ first_large g.S.Kind.Kind.costs (meant g.S.Kind.Kind g.S.Source c.args.source.now)
first g c =
    let K = g.S.Kind.Kind.costs in
    let s = meant g.S.Kind.Kind g.S.Source c.args.source.now in
    found (too_large K s) (λ y. y + 1) (s.last + 1) c.end.result _ c.first_pair.result c.first_pair.ensures
    (λ y h. omega arith) (λ x y h m. omega arith)
    (λ x y h m t. (omega arith, omega arith, search rules)) (λ x y h m t. search rules)

pub returns-in_err-from : goal.returns-in_err-from
returns-in_err-from g c =
    let K = g.S.Kind.Kind.costs in
    let s = meant g.S.Kind.Kind g.S.Source c.args.source.now in
    let here : c.from_residual.result ≡ c.first_pair.result = search rules in
    let value = here ∙ first g (goal.at.returns-in_err-from g c).After-first_pair in
    record { value = value; sized = λ e. sized_at_none K s (sym value ∙ e) }

pub returns : goal.returns
returns g c =
    let K = g.S.Kind.Kind.costs in
    let s = meant g.S.Kind.Kind g.S.Source c.args.source.now in
    let here : Some (c.in_ok-from.from, c.in_ok-from.to) ≡ c.first_pair.result = search rules in
    let value = here ∙ first g (goal.at.returns g c).After-first_pair in
    record { value = value; sized = λ e. sized_at_none K s (sym value ∙ e) }
