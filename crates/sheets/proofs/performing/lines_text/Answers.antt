use Rattle.std.proofs.Common.{◌≡◌, Some, None, string_bytes, map, refl, rules}
use Rattle.std.proofs.iter.Yields.{fronts}
use Rattle.std.proofs.lemmas.Iterator.{maps, zips}
use Rattle.std.proofs.lemmas.Slice.Zip.{Zip-more, either_empty_from_Zip}
use Rattle.std.specs.Iterator.Adapters.{zip_first, zip_second, map_source}
use Rattle.std.specs.Slice.Iter.{iter_rest}
use Rattle.costs.specs.contracts.number.I64Kind.TheImpl.{ghosts as plain}
use Rattle.jobs.specs.Jobs.{recorded_of}
use Rattle.sheets.specs.Printed.{lines}
use Rattle.sheets.proofs.Performances.{collects_rest, lines_none, lines_more}
use Rattle.sheets.proofs.performing.lines_text.Goals as goal

pub returns : goal.returns
returns c =
    let first : iter_rest (zip_first (map_source c.map.result)) ≡ c.args.events.now = cc in
    let second : iter_rest (zip_second (map_source c.map.result)) ≡ c.args.records.now = cc in
    collects_rest (maps (zips fronts fronts) _) string_bytes (λ s. lines (iter_rest (zip_first (map_source s))) (map (recorded_of plain) (iter_rest (zip_second (map_source s)))))
    c.try_collect.result c.map.result _ (λ i. lines (first i) (map (recorded_of plain) (second i))) c.try_collect.ensures.ran
    (λ s t k. lines_none (either_empty_from_Zip (map_source s) (map_source t) None refl k.0))
    (λ s t line k. let rest = Zip-more (map_source s) (map_source t) (Some k.0) k.0 refl k.1 in lines_more rest.0 rest.1 (search rules))
