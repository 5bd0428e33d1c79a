use Rattle.houses.proofs.PriceTable.{price_found}
use Rattle.houses.proofs.prices.price.Goals as goal

pub returns : goal.returns
returns c = rw c.copied.ensures (price_found c.args.y c.get.result c.get.ensures.lookup)
