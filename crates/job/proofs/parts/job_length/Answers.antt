-- `job::parts::job_length` meets its contract. Assumes nothing.
use native.Mathlib.Omega.{arith}
use Rattle.job.specs.JobText.{job_length}
use Rattle.job.proofs.parts.job_length.Goals as goal

pub returns : goal.returns
unfolding job_length
returns c = omega arith
