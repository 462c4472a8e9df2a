-- A call that is not refused is not refused with fewer challenges either, nor with lent slices of the lengths due. Assumes nothing.
use mathlib.Core.Path.{◌≡◌, refl}
use mathlib.Core.Bool.{Bool, true, not}
use mathlib.Core.List.{List, [], ◌∷◌, ◌++◌, map}
use mathlib.Core.Option.{Option, none}
use Prim.Native.Nat.{ℕ, ◌<◌}
use lib.Dec.{eqb}
use borrow.Author.Tests.{eq-eqb}
use Rattle.algebra.specs.Counting.{All}
use Rattle.algebra.proofs.Counting.{append_all, all_append}
use Rattle.field.specs.Element.{Elem, of}
use Rattle.domain.specs.Domain.{inside}
use Rattle.domain.specs.BabyBear.{baby_bear}
use Rattle.protocol.specs.Three.{Three, listed}
use Rattle.protocol.specs.Circuit.{Circuit, sizes_of, largest}
use Rattle.protocol.specs.Refusals.{Refusal, pairs, list_refusal, challenge_refusal}
use Rattle.protocol.specs.Admission.{entry_values, circuit_refusals, refusals_after_circuit, prover_refusal, assignment_tests}
use Rattle.protocol.specs.Calls.{ProverInput, circuit_of, entry_list_tests, round_refusal}
use Rattle.shared.specs.Meanings.{three}
use Rattle.protocol.proofs.RefusalLaws.{first-none, none_first, refuse-none, none-refuse, word_refusal-none, none-word_refusal}
use Rattle.circuit.specs.declared.given.Challenges.{Challenges}
use Rattle.report.specs.Stages.{Free, FreeJob}

abbrev Passes : List Bool → Type 0
Passes tests = All (λ t. t ≡ true) tests

abbrev Below : List ℕ → Type 0
Below ws = All (λ w. w < baby_bear.p) ws

same_lengths : (lens : List ℕ) → Passes (pairs eqb lens lens)
same_lengths [] = tt
same_lengths (n ∷ lens) = (eq-eqb n n refl, same_lengths lens)

module _ (i : ProverInput) where
  abbrev c : Circuit
  c = circuit_of i.circuit

  abbrev tests : List ℕ → List Bool
  tests lens = entry_list_tests i.circuit ++ (assignment_tests c i.z i.m ++ pairs eqb lens lens)

  abbrev input_words : List ℕ → List ℕ
  input_words ws = i.z ++ (i.r ∷ (i.m ++ ws))

  -- α, β, γ are outside R, C, K
  abbrev point_tests : List ℕ → List Bool
  point_tests points =
      pairs (λ n (y : Elem baby_bear). not (inside n y)) (c.|R| ∷ c.|C| ∷ largest (sizes_of c).|K| ∷ []) (map of points)

  abbrev rows : List Bool → List ℕ → List ℕ → List (Option Refusal)
  rows lists ws points =
      circuit_refusals baby_bear c lists (input_words ws) ++ refusals_after_circuit baby_bear c i.z i.m points

  -- what 5, 6 and 10 let through: lists, the words of the circuit, z, r, m and the challenges, and points
  record Passed (ws points : List ℕ) : Type 0 where
    lists_pass : Passes (entry_list_tests i.circuit)
    assignment-passes : Passes (assignment_tests c i.z i.m)
    values-below : Below (entry_values c)
    z-below : Below i.z
    r-below : i.r < baby_bear.p
    m-below : Below i.m
    challenges-below : Below ws
    points_outside : Passes (point_tests points)

  passed : {ws points : List ℕ} → Free i ws points → Passed ws points
  unfolding round_refusal prover_refusal circuit_refusals list_refusal challenge_refusal
  passed {ws} {points} free =
      let row = first-none (rows (tests []) ws points) free.none-refused in
      let Good : Bool → Type 0 = λ t. t ≡ true in
      let Low : ℕ → Type 0 = λ w. w < baby_bear.p in
      let lists = append_all Good (entry_list_tests i.circuit) (assignment_tests c i.z i.m ++ []) (refuse-none 5 0 (tests []) row.1.0) in
      let words = append_all Low (entry_values c) (input_words ws) (word_refusal-none baby_bear (entry_values c ++ input_words ws) row.1.1.0) in
      let fromz = append_all Low i.z (i.r ∷ (i.m ++ ws)) words.1 in
      let fromm = append_all Low i.m ws fromz.1.1 in
      record {
        lists_pass = lists.0;
        assignment-passes = (append_all Good (assignment_tests c i.z i.m) [] lists.1).0;
        values-below = words.0;
        z-below = fromz.0;
        r-below = fromz.1.0;
        m-below = fromm.0;
        challenges-below = fromm.1;
        points_outside = refuse-none 10 0 (point_tests points) row.1.1.1.1.1.1.1.0;
      }

  -- with lent slices, and with other challenges
  round_free : (lens : List ℕ) {ws points : List ℕ} (ws' points' : List ℕ) → Free i ws points → Below ws' → Passes (point_tests points')
      → round_refusal baby_bear i lens lens ws' points' ≡ none
  unfolding round_refusal prover_refusal circuit_refusals list_refusal challenge_refusal
  round_free lens {ws} {points} ws' points' free below outside =
      let row = first-none (rows (tests []) ws points) free.none-refused in
      let P = passed free in
      let Good : Bool → Type 0 = λ t. t ≡ true in
      let Low : ℕ → Type 0 = λ w. w < baby_bear.p in
      let assigned = all_append Good (assignment_tests c i.z i.m) (pairs eqb lens lens) P.assignment-passes (same_lengths lens) in
      let lists = all_append Good (entry_list_tests i.circuit) (assignment_tests c i.z i.m ++ pairs eqb lens lens) P.lists_pass assigned in
      let fromz = all_append Low i.z (i.r ∷ (i.m ++ ws')) P.z-below (P.r-below, all_append Low i.m ws' P.m-below below) in
      none_first (rows (tests lens) ws' points') (
        row.0,
        (
          none-refuse 5 0 (tests lens) lists,
          (
            none-word_refusal baby_bear (entry_values c ++ input_words ws') (all_append Low (entry_values c) (input_words ws') P.values-below fromz),
            (
              row.1.1.1.0,
              (row.1.1.1.1.0, (row.1.1.1.1.1.0, (row.1.1.1.1.1.1.0, (none-refuse 10 0 (point_tests points') outside, tt)))),
            ),
          ),
        ),
      )

  pub lent_free : (lens : List ℕ) {ws points : List ℕ} → Free i ws points → round_refusal baby_bear i lens lens ws points ≡ none
  lent_free lens {ws} {points} free = round_free lens ws points free (passed free).challenges-below (passed free).points_outside

  -- the rounds of a job, from its openings
  module _ (d : Challenges) where
    abbrev α : ℕ
    α = d.alpha

    abbrev η : Three ℕ
    η = three d.eta

    abbrev β : ℕ
    β = d.beta

    abbrev δ : Three ℕ
    δ = three d.delta

    module _ (free : FreeJob i d) where
      pub first_free : Free i [] []
      first_free = record { none-refused = round_free [] [] [] free tt tt }

      pub second_free : Free i (α ∷ []) (α ∷ [])
      second_free =
          let w = (passed free).challenges-below in
          let o = (passed free).points_outside in
          record { none-refused = round_free [] (α ∷ []) (α ∷ []) free (w.0, tt) (o.0, tt) }

      pub third_free : Free i (α ∷ listed η) (α ∷ [])
      third_free =
          let w = (passed free).challenges-below in
          let o = (passed free).points_outside in
          record { none-refused = round_free [] (α ∷ listed η) (α ∷ []) free (w.0, (w.1.0, (w.1.1.0, (w.1.1.1.0, tt)))) (o.0, tt) }

      pub fourth_free : Free i (α ∷ (listed η ++ (β ∷ []))) (α ∷ β ∷ [])
      fourth_free =
          let w = (passed free).challenges-below in
          let o = (passed free).points_outside in
          record {
            none-refused = round_free [] (α ∷ (listed η ++ (β ∷ []))) (α ∷ β ∷ []) free
                (w.0, (w.1.0, (w.1.1.0, (w.1.1.1.0, (w.1.1.1.1.0, tt))))) (o.0, (o.1.0, tt));
          }

      pub fifth_free : Free i (α ∷ (listed η ++ (β ∷ listed δ))) (α ∷ β ∷ [])
      fifth_free =
          let w = (passed free).challenges-below in
          let v = w.1.1.1.1 in
          let o = (passed free).points_outside in
          record {
            none-refused = round_free [] (α ∷ (listed η ++ (β ∷ listed δ))) (α ∷ β ∷ []) free
                (w.0, (w.1.0, (w.1.1.0, (w.1.1.1.0, (v.0, (v.1.0, (v.1.1.0, (v.1.1.1.0, tt)))))))) (o.0, (o.1.0, tt));
          }
