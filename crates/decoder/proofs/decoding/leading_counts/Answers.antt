use Rattle.std.proofs.Common.{refl, rules, tests}
use Rattle.std.proofs.lemmas.Iterator.{items_from_collect}
use Rattle.std.proofs.lemmas.Iterator.Consumers.{YieldsList-at, YieldsList-from_first, YieldsList-from_filter_map}
use Rattle.std.proofs.lemmas.Iterator.Search.{YieldsList-from_take_while}
use Rattle.decoder.specs.Records.{is_count, records}
use Rattle.decoder.proofs.decoding.leading_counts.Goals as goal

pub returns : goal.returns
returns c =
    items_from_collect _ c.collect.ensures.ran
    (YieldsList-from_filter_map _ _
    (YieldsList-at c.filter_map.ensures.source
    (YieldsList-from_take_while _ is_count
    (YieldsList-at c.take_while.ensures.source (YieldsList-from_first (λ x. x) (λ s. records 0 s.0.now) (records 0 c.args.bytes.now) refl))
    c.take_while.ensures.closure c.take_while.ensures.done (λ x r q k. search (rules, tests))))
    c.filter_map.ensures.closure (λ x r q k. search (rules, tests)))
