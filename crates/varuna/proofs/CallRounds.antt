-- What is known of a round that is not refused; slices that it lends, one shorter than |K_M| and |K|; and the module's prime. Assumes
-- nothing.
use mathlib.Core.Path.{◌≡◌, refl, sym, ap, ◌∙◌}
use mathlib.Core.Bool.{true}
use mathlib.Core.List.{List}
use Prim.Native.Nat.{ℕ, ◌+◌, ◌-◌, ◌<◌, max}
use native.Mathlib.Omega.{arith}
use lib.Dec.{eqb}
use borrow.Author.Tests.{eqb-true}
use Rattle.domain.specs.Size.{size_for}
use Rattle.domain.specs.Known.{Known}
use Rattle.domain.specs.BabyBear.{baby_bear}
use Rattle.domain.proofs.SizeLaws.{size_positive, size_for_is_size}
use mathlib.Core.Option.{Option, none}
use Rattle.protocol.specs.Messages.{MessageLengths}
use Rattle.protocol.specs.Refusals.{Refusal}
use Rattle.protocol.specs.Calls.{ProverInput, round_refusal}
use Rattle.circuit.proofs.Parts.{larger_is_size}
use Rattle.circuit.proofs.Fitting.{RoundFits, round_fits}

-- a round's input, the lengths of its lent slices, those that they must have, its challenge words and its points
module _ (i : ProverInput) (lent due challenges points : List ℕ) where
  abbrev pub InputFits : Type 0
  InputFits =
      let k = i.circuit in
      RoundFits k.|R| k.|C| k.|X| k.matrices.a k.matrices.b k.matrices.c baby_bear i.z i.m i.r lent due challenges points

  pub input_fits : none ≡ round_refusal baby_bear i lent due challenges points → InputFits
  input_fits free =
      let k = i.circuit in
      round_fits k.|R| k.|C| k.|X| k.matrices.a k.matrices.b k.matrices.c baby_bear i.z i.m i.r lent due challenges points (sym free)

-- a judgement by the lengths that the code reads off the table is one by the table's
pub judged_by : (i : ProverInput) (lent challenges points : List ℕ) (due_by : MessageLengths → List ℕ) {l table : MessageLengths} → l ≡ table
    → {o : Option Refusal} → o ≡ round_refusal baby_bear i lent (due_by l) challenges points
    → o ≡ round_refusal baby_bear i lent (due_by table) challenges points
judged_by i lent challenges points due_by same says =
    says ∙ ap (λ (l : MessageLengths). round_refusal baby_bear i lent (due_by l) challenges points) same

-- a slice that is one shorter than |K_M|, and than |K|
pub one_below : (l n : ℕ) → eqb l (size_for n - 1) ≡ true → l + 1 ≡ size_for n
one_below l n e = omega (arith, eqb-true l (size_for n - 1) e, size_positive (size_for n) (size_for_is_size n))

pub one_below-largest : (l a b c : ℕ) → eqb l (max (size_for a) (max (size_for b) (size_for c)) - 1) ≡ true
    → l + 1 ≡ max (size_for a) (max (size_for b) (size_for c))
one_below-largest l a b c e =
    let n : ℕ = max (size_for a) (max (size_for b) (size_for c)) in
    let positive : 0 < n = size_positive n (larger_is_size a b c) in
    let same : l ≡ n - 1 = eqb-true l (n - 1) e in
    shorter l n positive same
  where
    shorter : (l n : ℕ) → 0 < n → l ≡ n - 1 → l + 1 ≡ n
    shorter l n positive same = omega arith

pub known-prime : Known baby_bear baby_bear.p
known-prime = record { is_module = refl; value = refl }
