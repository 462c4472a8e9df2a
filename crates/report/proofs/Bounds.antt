-- The messages of a round that is not refused find room in arrays of 1,024 words, and m in 2,048. Assumes nothing.
use mathlib.Core.Path.{◌≡◌, subst⁻¹}
use mathlib.Core.List.{List, []}
use Prim.Native.Nat.{ℕ, ◌-◌, ◌≤◌, max}
use native.Mathlib.Omega.{arith}
use lib.ListN.{length}
use Rattle.domain.specs.BabyBear.{baby_bear}
use Rattle.domain.specs.Size.{size_for}
use Rattle.domain.proofs.SizeLaws.{size_bound, size_for_is_size}
use Rattle.protocol.specs.Circuit.{sizes_of, largest}
use Rattle.protocol.specs.Messages.{MessageLengths, lengths}
use Rattle.protocol.specs.Calls.{ProverInput, entries_of, circuit_of}
use Rattle.circuit.proofs.Parts.{larger_is_size}
use Rattle.circuit.specs.Given.{Fits}
use Rattle.circuit.proofs.Fitting.{round_fits, R-fits, C-fits}
use Rattle.prover.proofs.CallLaws.{witness_bound}
use Rattle.report.specs.Stages.{Free, due}

-- the lengths of messages that find room
pub record Roomy (l : MessageLengths) : Type 0 where
  pub witness_most : l.witness ≤ 1024
  pub row_quotient_most : l.row_quotient ≤ 1024
  pub line_remainder_most : l.line_remainder ≤ 1024
  pub line_quotient_most : l.line_quotient ≤ 1024
  pub a_most : l.matrix_remainders.a ≤ 1024
  pub b_most : l.matrix_remainders.b ≤ 1024
  pub c_most : l.matrix_remainders.c ≤ 1024
  pub joined_quotient_most : l.joined_quotient ≤ 1024

one_less : (m n : ℕ) → m ≤ n → m - 1 ≤ n
one_less m n h = omega arith

size_most : (n : ℕ) → size_for n - 1 ≤ 1024
size_most n = one_less (size_for n) 1024 (size_bound (size_for n) (size_for_is_size n))

module _ (i : ProverInput) {ws points : List ℕ} (free : Free i ws points) where
  pub fitting :
      Fits baby_bear.p i.circuit.|R| i.circuit.|C| i.circuit.|X| i.circuit.matrices.a i.circuit.matrices.b i.circuit.matrices.c i.z
      i.m
  fitting =
      (round_fits i.circuit.|R| i.circuit.|C| i.circuit.|X| i.circuit.matrices.a i.circuit.matrices.b i.circuit.matrices.c
      baby_bear i.z i.m i.r [] [] ws points free.none-refused).fits

  columns_most : i.circuit.|C| ≤ 1024
  columns_most = size_bound i.circuit.|C| (C-fits fitting)

  pub mask_most : length i.m ≤ 2048
  mask_most = omega (arith, fitting.m-length, columns_most)

  due_roomy : Roomy (due i)
  unfolding lengths sizes_of circuit_of largest
  due_roomy =
      let a : ℕ = length (entries_of i.circuit.matrices.a) in
      let b : ℕ = length (entries_of i.circuit.matrices.b) in
      let d : ℕ = length (entries_of i.circuit.matrices.c) in
      let k : ℕ = max (size_for a) (max (size_for b) (size_for d)) in
      record {
        witness_most = witness_bound fitting;
        row_quotient_most = one_less i.circuit.|R| 1024 (size_bound i.circuit.|R| (R-fits fitting));
        line_remainder_most = one_less i.circuit.|C| 1024 columns_most;
        line_quotient_most = columns_most;
        a_most = size_most a;
        b_most = size_most b;
        c_most = size_most d;
        joined_quotient_most = one_less k 1024 (size_bound k (larger_is_size a b d));
      }

  -- slices of the lengths due
  pub roomy : {l : MessageLengths} → l ≡ due i → Roomy l
  roomy e = subst⁻¹ Roomy e due_roomy
