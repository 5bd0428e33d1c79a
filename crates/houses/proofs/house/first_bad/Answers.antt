use Rattle.std.proofs.Common.{◌≡◌, true, false, rules}
use Rattle.std.proofs.lemmas.Iterator.{first_from_Range, serves_from_Range}
use Rattle.houses.specs.Houses.{bad}
use Rattle.houses.proofs.HouseLaws.{first_found}
use Rattle.houses.proofs.house.first_bad.Goals as goal

pub find-requires-clause-callable : goal.find-requires-clause-callable
find-requires-clause-callable c = serves_from_Range (λ x q h. search rules) (λ x h l. search rules)

pub returns : goal.returns
returns c =
    let F = c.args.counts.now in
    first_found F c.find.result (first_from_Range _ _ _ _ (λ k. bad F k ≡ true) (λ k. bad F k ≡ false) c.find.ensures.ran (λ k q h. search rules) (λ k q h. search rules))
