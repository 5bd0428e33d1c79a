use Rattle.std.proofs.Common.{◌≡◌, ◌≤◌, length, vec_items, vec_len, vec_capacity}
use Rattle.jobs.proofs.Running.{Running}
use Rattle.jobs.proofs.job.Job.run_under.Given as goal

abbrev pub invariant-loop-call : goal.invariant-loop-call
invariant-loop-call g l =
    (vec_len l.records ≡ l.call-index)
    × (length l.calls ≤ vec_capacity l.records)
    × Running g.S.Kind.Kind g.S.Source l.bound l.calls l.initial.self l.self l.initial.cells l.cells (vec_items l.records) l.call-index
