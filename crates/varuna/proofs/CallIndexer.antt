-- The answer of the indexer by its judgement, and what is known where nothing is refused. Assumes nothing.
use mathlib.Core.Path.{◌≡◌, sym}
use mathlib.Core.List.{List}
use Prim.Native.Nat.{ℕ}
use lib.ListN.{length}
use Rattle.field.specs.Element.{words}
use Rattle.domain.specs.BabyBear.{baby_bear}
use Rattle.std.specs.Prelude.{Result, IsErrAnd}
use mathlib.Core.Option.{none, some}
use Rattle.shared.specs.declared.Refusal as declared
use Rattle.shared.specs.Meanings.{refusal}
use Rattle.protocol.specs.Three.{MatrixName, A, B, C, Three, each, map_three}
use Rattle.protocol.specs.Circuit.{sizes_of}
use Rattle.protocol.specs.Index.{Index, map_index, index}
use Rattle.protocol.specs.Refusals.{Done}
use Rattle.protocol.specs.Calls.{CircuitWords, circuit_of, index_call}
use Rattle.circuit.specs.IndexLists.{twelve_lengths}
use Rattle.circuit.specs.Judgement.{index_due, index_refusal}
use Rattle.circuit.proofs.Fitting.{IndexFits, index-fits}
use Rattle.varuna.specs.Answers.{Filling, filled_meaning, filling, fills}
use Rattle.varuna.specs.Inputs.{three_of}
use Rattle.varuna.proofs.AnswerLaws.{fill_refuses, fill_done, three_same}

-- the circuit that the call is given, and its lent slices as they were
module _ (k : CircuitWords) (before : Three (Index (List ℕ))) where
  abbrev polynomials : MatrixName → Index (List ℕ)
  polynomials M = map_index words (index {q = baby_bear} (circuit_of k) M)

  abbrev answers : Filling (Unit {0}) (Three (Index (List ℕ))) → Type 0
  answers l = l ≡ fills (index_call baby_bear k (map_three (map_index length) before)) before

  abbrev pub CallFits : Type 0
  CallFits = IndexFits k.|R| k.|C| k.|X| k.matrices.a k.matrices.b k.matrices.c baby_bear before

  pub call_fits : none ≡ index_refusal baby_bear k (twelve_lengths before) → CallFits
  call_fits free = index-fits k.|R| k.|C| k.|X| k.matrices.a k.matrices.b k.matrices.c baby_bear before (sym free)

  pub index-done : none ≡ index_refusal baby_bear k (twelve_lengths before) → {a b c : Index (List ℕ)}
      → a ≡ polynomials A → b ≡ polynomials B → c ≡ polynomials C → answers (filling (Done tt) (three_of a b c))
  unfolding index_call index_refusal index_due circuit_of sizes_of
  index-done free at_a at_b at_c = fill_done before free (three_same (each polynomials) at_a at_b at_c)

  pub index-refused : (r : Result (Unit {0}) declared.Refusal) (e : declared.Refusal) → IsErrAnd r (λ y. y ≡ e)
      → some (refusal e) ≡ index_refusal baby_bear k (twelve_lengths before) → answers (filling (filled_meaning r) before)
  unfolding index_call index_refusal index_due circuit_of sizes_of
  index-refused r e exit says = fill_refuses before r e exit says _
