use Rattle.std.proofs.Common.{◌≡◌, ◌≤◌, ◌*◌, length, ◌∙◌, ap, rules}
use Rattle.std.proofs.lemmas.List.{take_rest}
use Rattle.std.specs.List.{filter_map}
use Rattle.decoder.specs.Records.{event_of, records}
use Rattle.decoder.proofs.Orders.{counts_within, events_behind}
use Rattle.decoder.proofs.decoding.sheet_of.Goals as goal

pub slice_bounds-events_of-count : goal.slice_bounds-events_of-count
slice_bounds-events_of-count c = let h = counts_within c.args.bytes.now c.in_ok-counts.counts.items c.in_ok-counts.ensures in search (rules, h)

pub slice_bounds-events_of-start : goal.slice_bounds-events_of-start
slice_bounds-events_of-start c = let h : c.len.result * c.width.result ≤ length c.args.bytes.now = slice_bounds-events_of-count c in search (rules, h)

pub returns : goal.returns
returns c = (
  c.in_ok-counts.ensures,
  c.in_ok-events.ensures
      ∙ ap (λ l. filter_map event_of (records 0 l)) (take_rest c.args.bytes.now (c.len.result * c.width.result))
      ∙ (let n : c.len.result * c.width.result ≡ length c.in_ok-counts.counts.items * 6 = search rules in rw n (events_behind c.args.bytes.now c.in_ok-counts.counts.items c.in_ok-counts.ensures)),
)
