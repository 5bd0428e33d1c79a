use Rattle.std.proofs.Common.{Ok, Err, sym, ap, ◌∙◌}
use Rattle.std.proofs.lemmas.Result.{err_from_is_err_and}
use Rattle.decoder.proofs.Limits.{passed, sheet_leads, wants_memory}
use Rattle.decoder.proofs.decoding.decode.Goals as goal

pub returns-in_err-sheet_of : goal.returns-in_err-sheet_of
returns-in_err-sheet_of c =
    let p = err_from_is_err_and c.from_residual-in_err-sheet_of.result c.from_residual-in_err-sheet_of.ensures.1 in
    wants_memory _ _ (p.1 ∙ ap Err p.2) (passed _ c.check.result c.in_ok-map_err.ensures.variant c.check.ensures)

pub returns : goal.returns
returns c =
    sheet_leads c.args.bytes.now (passed _ c.check.result c.in_ok-map_err.ensures.variant c.check.ensures)
    ∙ ap Ok (λ i. (sym c.in_ok-sheet_of.ensures.0 i, sym c.in_ok-sheet_of.ensures.1 i))
