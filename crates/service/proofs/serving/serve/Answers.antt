use Rattle.std.proofs.Common.{lit<, vec_items}
use Rattle.service.proofs.Servings.{served, first_read, written}
use Rattle.service.proofs.serving.serve.Goals as goal

pub returns : goal.returns
returns g c =
    let gives = g.R.SheetReader.gives c.args.reader in
    let took = g.W.LineWriter.took in
    let read = first_read vec_items gives _ c.read_at_most.result c.in_ok-bytes.bytes c.in_ok-bytes.ensures.cases c.read_at_most.ensures in
    written gives took c.args.writer.now c.write_whole.new.self c.write_whole.result c.map_err-2.result c.map_err-2.ensures.cases
    (served (lit< tt) read c.deref.ensures.value c.in_ok-text.ensures c.as_bytes.ensures.value c.write_whole.ensures)
