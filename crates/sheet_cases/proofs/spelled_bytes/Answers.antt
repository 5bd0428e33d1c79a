use Rattle.std.proofs.Common.{sym, rules, ◌∙◌}
use Rattle.sheet_cases.proofs.Spelling.{reads_pair, read_all}
use Rattle.sheet_cases.proofs.spelled_bytes.Goals as goal

pub loop-pair-preserved : goal.loop-pair-preserved
loop-pair-preserved c = (
  c.in-Some.ensures.steps.0 ∙ c.loop-pair.invariant.0,
  rw (c.in_ok-push.ensures.items, reads_pair _ _ c.in-Some.pair.now _ (c.in-Some.ensures.steps.1.1 ∙ c.loop-pair.invariant.0) c.in-Some-byte_value.ensures.0 c.in-Some-byte_value.ensures.1, sym c.in-Some.ensures.steps.1.0)
      c.loop-pair.invariant.1,
)

pub returns : goal.returns
returns c =
    read_all _ _ c.loop-pair.pair-iterator.rest.now c.loop-pair.invariant.1 (rw c.loop-pair.invariant.0 at c.in-None.ensures.steps.1.0)
    (sym c.chunks_exact-pairs.ensures.remainder_len ∙ search rules)
