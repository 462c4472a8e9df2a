-- `job::text` meets its contract: the buffer has room for every text. Assumes nothing.
use native.Mathlib.Omega.{arith}
use Rattle.job.proofs.text.Goals as goal

pub returns : goal.returns
returns c = let w = c.put_text.ensures in record {
  value = omega (arith, w.next);
  out_after = w.result;
}
