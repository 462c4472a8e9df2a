-- What the rounds of a job that is not refused leave in lent slices of the lengths due, and answer. Assumes nothing.
use mathlib.Core.Path.{◌≡◌, ap, ap₂, ◌∙◌}
use mathlib.Core.List.{List, [], ◌∷◌, ◌++◌}
use mathlib.Core.Option.{Option}
use Prim.Native.Nat.{ℕ}
use Rattle.field.specs.Element.{of, words}
use Rattle.domain.specs.BabyBear.{baby_bear}
use Rattle.protocol.specs.Three.{Three, listed, map_three}
use Rattle.protocol.specs.Refusals.{Refusal, Outcome, judged}
use Rattle.protocol.specs.Messages.{row_quotient, line_remainder, line_quotient, joined_quotient}
use Rattle.protocol.specs.Calls.{ProverInput, first_round_call, second_round_call, third_round_call, fourth_round_call, fifth_round_call}
use Rattle.varuna.specs.Answers.{Filling, filling, fills, fills_three}
use Rattle.prover.specs.CallGiven.{circuit_in, witness_in, assignment_in, line_in}
use Rattle.report.specs.Stages.{Free, due, sum_words, value_words, remainder_words, three_or_zeros}
use Rattle.report.proofs.RoundLaws.{lent_free}

module _ (i : ProverInput) where
  -- round 1: w, h0
  pub first_done : {n k : ℕ} (before : List ℕ × List ℕ) {after : List ℕ × List ℕ} {f : Outcome (Unit {0})}
      → Free i [] [] → n ≡ (due i).witness → k ≡ (due i).row_quotient
      → filling f after ≡ fills (first_round_call baby_bear i n k) before
      → after ≡ (words (witness_in baby_bear i), words (row_quotient (circuit_in baby_bear i) (assignment_in baby_bear i)))
  unfolding first_round_call
  first_done {n} {k} before {after} {f} free at_n at-k e =
      let result : List ℕ × List ℕ = (words (witness_in baby_bear i), words (row_quotient (circuit_in baby_bear i) (assignment_in baby_bear i))) in
      ap (λ (r : Filling (Unit {0}) (List ℕ × List ℕ)). r.slice)
      (e ∙ ap₂ (λ (n k : ℕ). fills (first_round_call baby_bear i n k) before) at_n at-k
      ∙ ap (λ (o : Option Refusal). fills (judged o result) before) (lent_free i ((due i).witness ∷ (due i).row_quotient ∷ []) free))

  -- round 2: the σ
  pub second-done : (α : ℕ) {f : Outcome (Three ℕ)} → Free i (α ∷ []) (α ∷ []) → f ≡ second_round_call baby_bear i α → three_or_zeros f ≡ sum_words i α
  unfolding second_round_call sum_words
  second-done α {f} free e =
      ap three_or_zeros (e ∙ ap (λ (o : Option Refusal). judged o (sum_words i α)) (lent_free i [] free))

  -- round 3: g1, h1
  pub third-done : {n k : ℕ} (α : ℕ) (η : Three ℕ) (before : List ℕ × List ℕ) {after : List ℕ × List ℕ} {f : Outcome (Unit {0})}
      → Free i (α ∷ listed η) (α ∷ [])
      → n ≡ (due i).line_remainder → k ≡ (due i).line_quotient
      → filling f after ≡ fills (third_round_call baby_bear i α η n k) before
      → after
      ≡ (words (line_remainder (circuit_in baby_bear i) (line_in baby_bear i α η)), words (line_quotient (circuit_in baby_bear i) (line_in baby_bear i α η)))
  unfolding third_round_call
  third-done {n} {k} α η before {after} {f} free at_n at-k e =
      let result : List ℕ × List ℕ =
      (words (line_remainder (circuit_in baby_bear i) (line_in baby_bear i α η)), words (line_quotient (circuit_in baby_bear i) (line_in baby_bear i α η))) in
      ap (λ (r : Filling (Unit {0}) (List ℕ × List ℕ)). r.slice)
      (e ∙ ap₂ (λ (n k : ℕ). fills (third_round_call baby_bear i α η n k) before) at_n at-k
      ∙ ap (λ (o : Option Refusal). fills (judged o result) before) (lent_free i ((due i).line_remainder ∷ (due i).line_quotient ∷ []) free))

  -- round 4: the ω, and the g_M
  pub fourth-done : (α : ℕ) (η : Three ℕ) (β : ℕ) {lens : Three ℕ} (before : Three (List ℕ)) {after : Three (List ℕ)} {f : Outcome (Three ℕ)}
      → Free i (α ∷ (listed η ++ (β ∷ []))) (α ∷ β ∷ []) → lens ≡ (due i).matrix_remainders
      → filling f after ≡ fills_three (fourth_round_call baby_bear i α η β lens) before
      → (three_or_zeros f ≡ value_words i α β) × (after ≡ remainder_words i α β)
  unfolding fourth_round_call value_words remainder_words
  fourth-done α η β {lens} before {after} {f} free same e =
      let result : Three ℕ × Three (List ℕ) = (value_words i α β, remainder_words i α β) in
      let whole =
      e ∙ ap (λ (l : Three ℕ). fills_three (fourth_round_call baby_bear i α η β l) before) same
      ∙ ap (λ (o : Option Refusal). fills_three (judged o result) before) (lent_free i (listed (due i).matrix_remainders) free) in (
        ap (λ (r : Filling (Three ℕ) (Three (List ℕ))). three_or_zeros r.answer) whole,
        ap (λ (r : Filling (Three ℕ) (Three (List ℕ))). r.slice) whole,
      )

  -- round 5: h2
  pub fifth-done : {n : ℕ} (α : ℕ) (η : Three ℕ) (β : ℕ) (δ : Three ℕ) (before : List ℕ) {after : List ℕ} {f : Outcome (Unit {0})}
      → Free i (α ∷ (listed η ++ (β ∷ listed δ))) (α ∷ β ∷ []) → n ≡ (due i).joined_quotient
      → filling f after ≡ fills (fifth_round_call baby_bear i α η β δ n) before
      → after ≡ words (joined_quotient {q = baby_bear} (circuit_in baby_bear i) (of α) (of β) (map_three of δ))
  unfolding fifth_round_call
  fifth-done {n} α η β δ before {after} {f} free at_n e =
      let result : List ℕ = words (joined_quotient {q = baby_bear} (circuit_in baby_bear i) (of α) (of β) (map_three of δ)) in
      ap (λ (r : Filling (Unit {0}) (List ℕ)). r.slice)
      (e ∙ ap (λ (n : ℕ). fills (fifth_round_call baby_bear i α η β δ n) before) at_n
      ∙ ap (λ (o : Option Refusal). fills (judged o result) before) (lent_free i ((due i).joined_quotient ∷ []) free))
