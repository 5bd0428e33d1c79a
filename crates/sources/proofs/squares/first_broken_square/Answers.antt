use Rattle.std.proofs.Common.{◌≡◌, not, Some, sym, ◌∙◌, arith, rules}
use borrow.Author.Tests.{tests}
use Rattle.sources.specs.Meant.{meant}
use Rattle.sources.specs.Squares.{holds, first_broken}
use Rattle.sources.proofs.Firsts.{found}
use Rattle.sources.proofs.Quadrangles.{squares_at_none, glebov_at_none}
use Rattle.sources.proofs.squares.first_broken_square.Goals as goal
use Rattle.sources.proofs.squares.first_broken_square.Goals.{After-first_pair}

-- what the search finds is the first square that fails
first : (g : _) (c : After-first_pair g) → c.first_pair.result ≡ first_broken g.S.Kind.Kind.costs (meant g.S.Kind.Kind g.S.Source c.args.source.now)
first g c =
    let K = g.S.Kind.Kind.costs in
    let s = meant g.S.Kind.Kind g.S.Source c.args.source.now in
    found (λ i j. not (holds K s i j)) (λ j. j) s.last c.in_ok-last.last _ c.first_pair.result c.first_pair.ensures
    (λ j h. omega arith) (λ i j h m. omega arith)
    (λ i j h m t. (omega arith, search (rules, tests), search (rules, tests))) (λ i j h m t. search (rules, tests))

pub returns-in_err-i : goal.returns-in_err-i
returns-in_err-i g c =
    let K = g.S.Kind.Kind.costs in
    let s = meant g.S.Kind.Kind g.S.Source c.args.source.now in
    let here : c.from_residual-in_err-i.result ≡ c.first_pair.result = search rules in
    let value = here ∙ first g (goal.at.returns-in_err-i g c).After-first_pair in
    record { value = value; squares = λ e. squares_at_none K s (sym value ∙ e); glebov = λ e. glebov_at_none K s g.met.S.Kind.Kind.laws (sym value ∙ e) }

pub returns : goal.returns
returns g c =
    let K = g.S.Kind.Kind.costs in
    let s = meant g.S.Kind.Kind g.S.Source c.args.source.now in
    let here : Some (c.in_ok-i.i, c.in_ok-i.j) ≡ c.first_pair.result = search rules in
    let value = here ∙ first g (goal.at.returns g c).After-first_pair in
    record { value = value; squares = λ e. squares_at_none K s (sym value ∙ e); glebov = λ e. glebov_at_none K s g.met.S.Kind.Kind.laws (sym value ∙ e) }
