use Rattle.std.proofs.Common.{rules}
use Rattle.decoder.proofs.Fronts.{front_reach}
use Rattle.decoder.proofs.record.first_record.Goals as goal

pub returns-in-82 : goal.returns-in-82
returns-in-82 c = front_reach c.args.bytes.now c.from_be_bytes-in-82.result (search rules) (search rules) (search rules) c.from_be_bytes-in-82.ensures
