-- Blinding: the proofs of specs/Blinding, from demand 3 for what it says of all circuits. Assumes nothing.
use Prim.Native.Nat.{◌≤◌, ◌-◌}
use Rattle.field.specs.Prime.{Prime}
use Rattle.domain.specs.Qualifies.{Qualifies}
use Rattle.protocol.specs.Circuit.{Circuit}
use Rattle.protocol.specs.Demand3.{Demand3Holds}
use Rattle.protocol.specs.Blinded.{blinded_circuit, Blindable}
use Rattle.protocol.specs.Blinding.{Blinding}
use Rattle.protocol.proofs.AdmissionLaws.{WellFormed, admitted_well_formed}
use Rattle.protocol.proofs.BlindableCircuits.{Blinds, enough-columns, blindable-blinds}
use Rattle.protocol.proofs.BlindCalls as calls
use Rattle.protocol.proofs.BlindedCircuits as circuits
use Rattle.protocol.proofs.BlindedJobs as jobs
use Rattle.protocol.proofs.BlindedSums as sums
use Rattle.protocol.proofs.FalseProofs.{without_witness}
use Rattle.protocol.proofs.PrivateColumns as columns

pub blinding : Demand3Holds → (q : Prime) → Qualifies q → Blinding q
blinding demand3 q Q =
    let blinds : (c : Circuit) → Blindable q c → Blinds q.p c = blindable-blinds q in
    let blinded : (c : Circuit) → Blindable q c → WellFormed q.p (blinded_circuit c) =
    λ c b. admitted_well_formed q (blinded_circuit c) (circuits.blinded-admitted q c (blinds c b)) in
    let sized : (c : Circuit) → Blindable q c → WellFormed q.p c = λ c b. (blinds c b).well_formed in
    let enough : (c : Circuit) → Blindable q c → 3 ≤ c.|C| - c.|X| = enough-columns q in
    record {
      columns_rise = λ c b. let w = sized c b in columns.columns_rise c w.C-size w.X-size w.X-within (enough c b);
      columns_private = λ c b. let w = sized c b in columns.columns_private c w.C-size w.X-size w.X-within (enough c b);
      columns_highest = λ c b. let w = sized c b in columns.columns_highest c w.C-size w.X-size w.X-within (enough c b);
      every_second = λ c b. let w = sized c b in columns.every_second c w.C-size w.X-size w.X-within (enough c b);
      last_three = λ c b. let w = sized c b in columns.last_three c w.C-size w.X-size w.X-within (enough c b);
      call_blinds = calls.call_blinds q;
      never_nine = calls.never_nine q;
      blinding_after-entries = calls.blinding_after-entries q;
      constant-after_blinding = calls.constant-after_blinding q;
      blinded-admitted = λ c b. circuits.blinded-admitted q c (blinds c b);
      blinded-satisfied = λ c b. circuits.blinded-satisfied c (blinds c b);
      public_kept = λ c b. circuits.public_kept c (blinds c b);
      same_public_words = λ c b. circuits.same_public_words c (blinds c b);
      blinded-job = λ j ρ free b. jobs.blinded-job q Q j ρ free (blinds j.circuit b);
      index_gives_back = λ c b. jobs.blinded-index_gives_back q Q c (blinds c b);
      demand3_covers = λ c b. jobs.demand3_covers q (demand3 q Q) c (blinds c b);
      blinded-false_proofs = λ c b x unsatisfiable.
          without_witness Q (blinded_circuit c) (circuits.blinded-admitted q c (blinds c b)) demand3 x
          (circuits.still_unsatisfiable c (blinds c b) x unsatisfiable);
      sums_moved = λ c b. sums.sums_moved Q c (blinds c b) (blinded c b);
      one_to_one = λ c b. sums.one_to_one Q c (blinds c b) (blinded c b);
      pairs_hide = λ c b. sums.pairs_hide Q c (blinds c b) (blinded c b);
    }
