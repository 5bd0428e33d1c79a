use Rattle.std.proofs.lemmas.List.{take_rest}
use Rattle.decoder.proofs.Orders.{halves_before_fault}
use Rattle.decoder.proofs.decoding.len_before_fault.Goals as goal

pub returns : goal.returns
returns c =
    halves_before_fault c.args.bytes.now _ _ c.len_of_counts-counts.ensures.total (rw (take_rest c.args.bytes.now c.len_of_counts-counts.result) at c.len_of_events.ensures.total)
