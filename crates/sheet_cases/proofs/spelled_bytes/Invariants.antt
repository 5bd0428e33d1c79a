use Rattle.std.proofs.Common.{◌≡◌, ◌++◌, vec_items}
use Rattle.std.specs.Slice.Iter.{chunks_exact_rest, chunks_exact_size}
use Rattle.sheet_cases.specs.Spelled.{spelled}
use Rattle.sheet_cases.proofs.spelled_bytes.Given as goal

abbrev pub invariant-loop-pair : goal.invariant-loop-pair
invariant-loop-pair l = (chunks_exact_size l.pair-iterator ≡ 2) × (spelled (vec_items l.bytes) ++ chunks_exact_rest l.pair-iterator ≡ l.line)
