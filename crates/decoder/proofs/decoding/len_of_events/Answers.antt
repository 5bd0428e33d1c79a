use Rattle.std.proofs.Common.{arith, rules, tests}
use Rattle.std.proofs.lemmas.Iterator.Consumers.{sum_by_from_yields_List, fits_by_from_yields_list}
use Rattle.std.specs.List.{take_while}
use Rattle.decoder.specs.Records.{width, records}
use Rattle.decoder.proofs.Orders.{is_event, taken_within}
use Rattle.decoder.proofs.Widths.{widths_given}
use Rattle.decoder.proofs.decoding.len_of_events.Goals as goal

pub sum-requires-clause-fits : goal.sum-requires-clause-fits
sum-requires-clause-fits c =
    fits_by_from_yields_list width (take_while is_event (records 0 c.args.bytes.now)) c.map.result _
    (widths_given _ _ is_event c.map.ensures.source c.map.ensures.closure c.take_while.ensures.source c.take_while.ensures.done c.take_while.ensures.closure (λ x b q k. search (rules, tests)) (λ x r q k. search (rules, tests)))
    (let h = taken_within is_event c.args.bytes.now in omega arith)

pub returns-clause-total : goal.returns-clause-total
returns-clause-total c =
    sum_by_from_yields_List width (take_while is_event (records 0 c.args.bytes.now)) c.map.result _ c.sum.ensures.ran
    (widths_given _ _ is_event c.map.ensures.source c.map.ensures.closure c.take_while.ensures.source c.take_while.ensures.done c.take_while.ensures.closure (λ x b q k. search (rules, tests)) (λ x r q k. search (rules, tests)))

pub returns-clause-within : goal.returns-clause-within
returns-clause-within c = omega (arith, returns-clause-total c, taken_within is_event c.args.bytes.now)
