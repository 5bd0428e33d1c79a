use Rattle.decoder.proofs.Limits.{sheet_place, sheet_good}
use Rattle.decoder.proofs.decoding.check.Goals as goal

pub returns-then-len-bytes : goal.returns-then-len-bytes
returns-then-len-bytes c = sheet_place c.args.bytes.now c.min.result c.len_before_fault-len.result c.min.ensures c.len_before_fault-len.ensures c.if-len-bytes.true

pub returns : goal.returns
returns c = sheet_good c.args.bytes.now c.min.result c.len_before_fault-len.result c.min.ensures c.len_before_fault-len.ensures c.if-len-bytes.false
