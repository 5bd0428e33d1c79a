use Rattle.jobs.proofs.job.Job.open_vouched.Goals as goal

pub returns : goal.returns
returns g c cells = rw c.bound-bound.ensures.value at c.open_under.ensures cells
