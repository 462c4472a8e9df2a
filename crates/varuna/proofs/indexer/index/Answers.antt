-- `varuna::indexer::index` meets its contract. Assumes nothing.
use Rattle.std.proofs.Common.{refl, List, ℕ}
use lib.Dec.{lit<}
use Rattle.domain.specs.BabyBear.{baby_bear}
use Rattle.protocol.specs.Three.{Three}
use Rattle.protocol.specs.Index.{Index}
use Rattle.protocol.specs.Calls.{CircuitWords, circuit_of}
use Rattle.circuit.specs.Given.{circuit_words}
use Rattle.varuna.specs.Inputs.{twelve}
use Rattle.varuna.proofs.CallIndexer.{call_fits, index-done, index-refused}
use Rattle.varuna.proofs.CallRounds.{known-prime}
use Rattle.varuna.proofs.indexer.index.Goals as goal
use Rattle.varuna.proofs.indexer.index.Goals.{Start}

module _ (s : Start) where
  abbrev circuit : CircuitWords
  circuit = circuit_words s.args.circuit.now

  abbrev lent : Three (Index (List ℕ))
  lent =
      let a = s.args in
      twelve a.row_a.now a.col_a.now a.rowcol_a.now a.rowcolval_a.now a.row_b.now a.col_b.now
      a.rowcol_b.now a.rowcolval_b.now a.row_c.now a.col_c.now a.rowcol_c.now a.rowcolval_c.now

pub index_into-requires : goal.index_into-requires
index_into-requires c =
    let s = (goal.at.index_into-requires c).Start in
    let F = call_fits (circuit s) (lent s) (c.in_ok-judge_index.ensures baby_bear refl) in
    record {
      lt_p = lit< tt;
      circuit_shaped = F.shape;
      index_lengths = F.lent-a;
      index_lengths_2 = F.lent-b;
      index_lengths_3 = F.lent-c;
    }

pub returns-in_err-judge_index : goal.returns-in_err-judge_index
returns-in_err-judge_index c =
    let s = (goal.at.returns-in_err-judge_index c).Start in
    index-refused (circuit s) (lent s) _ _ c.from_residual.ensures.1 (c.in_err-judge_index.ensures baby_bear refl)

pub returns : goal.returns
unfolding circuit_of
returns c =
    let s = (goal.at.returns c).Start in
    let made = c.index_into.ensures baby_bear known-prime (circuit_of (circuit s)) refl refl refl in
    index-done (circuit s) (lent s) (c.in_ok-judge_index.ensures baby_bear refl) made.of-a made.of-b made.of_c
