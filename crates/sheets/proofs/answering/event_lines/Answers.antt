use Rattle.std.proofs.Common.{Err, vec_items, subst}
use Rattle.std.proofs.lemmas.Result.{err_from_is_err_and}
use Rattle.houses.specs.HouseLoads.{Loads}
use Rattle.decoder.specs.Sheets.{sheet as meaning}
use Rattle.sheets.proofs.Told.{has_counts, has_sheet}
use Rattle.sheets.proofs.answering.event_lines.Goals as goal

pub returns-in_err-sheet : goal.returns-in_err-sheet
returns-in_err-sheet c =
    let p = err_from_is_err_and c.from_residual.result c.from_residual.ensures.1 in
    rw (p.1, p.2) (has_sheet (meaning c.args.bytes.now) c.in_err-sheet.field-0.0 c.in_err-sheet.ensures)

pub returns-in_err-load : goal.returns-in_err-load
returns-in_err-load c =
    let sheet = c.in_ok-sheet.sheet in
    let old = c.in_ok-counts.counts in
    let new = c.load.new.self in
    let f = c.in_err-load.field-0.0 in
    let p = err_from_is_err_and c.from_residual-in_err-load.result c.from_residual-in_err-load.ensures.1 in
    rw (p.1, p.2, c.in_ok-sheet.ensures)
    (has_counts (vec_items sheet.counts) (vec_items sheet.events) f old new (subst (λ F. Loads F old new (Err f)) c.deref.ensures.value c.in_err-load.ensures))
