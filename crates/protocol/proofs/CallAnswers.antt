-- Demand 1 for circuits and jobs, and for the calls of field, polynomials, domains, indexer, prover and record. Assumes nothing.
use mathlib.Core.Path.{◌≡◌, refl, sym, ap, subst}
use mathlib.Core.Logic.{◌≢◌, ◌↔◌}
use mathlib.Core.Bool.{Bool, true, false, not, ◌&&◌}
use mathlib.Core.List.{List, [], ◌∷◌, ◌++◌, map}
use mathlib.Core.Option
use mathlib.Core.Option.{Option, none, some}
use Prim.Native.Nat.{ℕ, ◌*◌, ◌%◌, ◌≤◌}
use lib.Dec.{eqb, leb}
use lib.ListN.{length}
use Rattle.algebra.specs.Polynomial.{Running}
use Rattle.field.specs.Prime.{Prime}
use Rattle.field.specs.Element.{Elem, of, word_of, 𝟘, equal}
use Rattle.field.specs.Power.{reciprocal, inverse}
use Rattle.field.proofs.Field.{equal-true, equal-false, inverse-zero, inverse_other}
use Rattle.domain.specs.Size.{max_size, is_size}
use Rattle.protocol.specs.Three.{MatrixName, A, B, C, Three, at, listed}
use Rattle.protocol.specs.Circuit.{Circuit, sizes_of}
use Rattle.protocol.specs.Index.{Index, list_index}
use Rattle.protocol.specs.Messages.{MessageLengths, lengths}
use Rattle.protocol.specs.Refusals.{Refusal, judged, after, first, refuse, pairs, size_refusal, list_refusal, word_refusal, inverse_outcome}
use Rattle.protocol.specs.Admission.{Admitted, count_tests, assignment_tests, circuit_refusals, refusals_after_circuit, prover_refusal}
use Rattle.protocol.specs.Calls.{CircuitWords, ProverInput, max_words, circuit_of, entry_list_tests, operation_call, power_call, inverse_call, domain_call, evaluate_call, evaluate_part_call, interpolate_call, evaluate_on_domain_call, index_call, round_refusal}
use Rattle.protocol.specs.Calls.{first_round_call, second_round_call, third_round_call, fourth_round_call, fifth_round_call, openings_call}
use Rattle.protocol.specs.Job.{Job, challenge_words, challenge_points, job_refusal}
use Rattle.protocol.specs.Table.{Row, row, Refuses, Answers}
use Rattle.protocol.specs.Rows.{Size, equal_conditions, lists_row, EntryList, count_conditions, assignment_conditions}
use Rattle.protocol.specs.Rows.{entry_lists, words_row, Formed, formed_rows, job_rows}
use Rattle.protocol.specs.Demand1.{evaluation_rows, transform_rows, index_rows, round_rows}
use Rattle.protocol.proofs.TableLaws.{Tells, TellAll, told, refuses, refuses_one, answers, answers-first}
use Rattle.protocol.proofs.TableLaws.{tell_append, tell_map, tells_equal, tells_most, tells_not}
use Rattle.protocol.proofs.RowTests.{tells_size, sizes-told, lists-told, tell_same, tell_counts, tell_assignment, tells_entries, words-told, tells_element, circuit-told, prover-told}

pub tell_entry-lists : (c : CircuitWords) → TellAll (entry_list_tests c) (entry_lists max_size c)
unfolding entry_list_tests
tell_entry-lists c =
    let whole : (l : List ℕ) → Tells (eqb (length l % 3) 0 && leb (length l) (3 * max_size)) (EntryList max_size l) =
    λ l. tells_entries max_size l (leb (length l) (3 * max_size)) (tells_most (length l) (3 * max_size)) in
    (whole c.matrices.a, (whole c.matrices.b, (whole c.matrices.c, tt)))

module _ (q : Prime) where
  -- circuits and jobs
  pub circuits : (c : Circuit) → Admitted q c ↔ Formed q c
  circuits c =
      let R = refuses (circuit_refusals q c (count_tests c) []) (formed_rows q c) (circuit-told q c (count_tests c) (count_conditions c) [] (tell_counts c)) in
      (R.unrefused, R.met)

  pub jobs : (j : Job) → Refuses (job_rows q j) (job_refusal q j)
  unfolding job_refusal prover_refusal
  jobs j =
      let c : Circuit = j.circuit in
      let tests : List Bool = count_tests c ++ assignment_tests c j.z j.m in
      refuses
      (circuit_refusals q c tests (j.z ++ (j.r ∷ (j.m ++ challenge_words j))) ++ refusals_after_circuit q c j.z j.m (challenge_points j))
      (job_rows q j)
      (prover-told q c tests (count_conditions c ++ assignment_conditions c j.z j.m) j.z j.r j.m (challenge_words j) (challenge_points j)
      (tell_append (count_tests c) (assignment_tests c j.z j.m) (count_conditions c) (assignment_conditions c j.z j.m) (tell_counts c)
      (tell_assignment c j.z j.m)))

  -- field
  word-answers : {T : Type 0} (ws : List ℕ) (result : T) → Answers (words_row q ws ∷ []) (judged (word_refusal q ws) result)
  word-answers ws result = answers (words_row q ws ∷ []) (word_refusal q ws) result (refuses_one (word_refusal q ws) (words_row q ws) (words-told q ws))

  pub operations : (◌∘◌ : Elem q → Elem q → Elem q) (a b : ℕ) → Answers (words_row q (a ∷ b ∷ []) ∷ []) (operation_call q ◌∘◌ a b)
  unfolding operation_call
  operations ◌∘◌ a b = word-answers (a ∷ b ∷ []) (◌∘◌ (of a) (of b)).word

  pub powers : (a n : ℕ) → Answers (words_row q (a ∷ []) ∷ []) (power_call q a n)
  unfolding power_call
  powers a n = word-answers (a ∷ []) _

  pub inverses : (a : ℕ) → Answers (words_row q (a ∷ []) ∷ row 12 0 ((of {q = q} a ≢ 𝟘) ∷ []) ∷ []) (inverse_call q a)
  unfolding inverse_call
  inverses a =
      subst (Answers rows) (go (word_refusal q (a ∷ [])) (equal (of {q = q} a) 𝟘) refl)
      (answers-first (word_refusal q (a ∷ []) ∷ zero_refusal (equal (of {q = q} a) 𝟘) ∷ []) rows (reciprocal (of {q = q} a)).word (
        words-told q (a ∷ []),
        (
          told 12 0 (not (equal (of {q = q} a) 𝟘) ∷ []) ((of {q = q} a ≢ 𝟘) ∷ [])
              (tells_not (equal (of {q = q} a) 𝟘) (tells_element q (of a) 𝟘), tt),
          tt,
        ),
      ))
    where
      rows : List Row
      rows = words_row q (a ∷ []) ∷ row 12 0 ((of {q = q} a ≢ 𝟘) ∷ []) ∷ []

      zero_refusal : Bool → Option Refusal
      zero_refusal zero = refuse 12 0 (not zero ∷ [])

      go : (o : Option Refusal) (b : Bool) → equal (of {q = q} a) 𝟘 ≡ b
          → judged (first (o ∷ zero_refusal b ∷ [])) (reciprocal (of {q = q} a)).word
          ≡ after o (inverse_outcome (Option.map word_of (inverse (of {q = q} a))))
      go (some f) b e = refl
      go none true e = sym (ap (λ i. inverse_outcome (Option.map word_of i)) (inverse-zero (of a) (equal-true (of a) 𝟘 e)))
      go none false e = sym (ap (λ i. inverse_outcome (Option.map word_of i)) (inverse_other (of a) (equal-false (of a) 𝟘 e)))

  -- domains and polynomials
  pub domains : (n lent : ℕ) → Answers (row 4 0 (Size n ∷ []) ∷ lists_row ((lent ≡ n) ∷ []) ∷ []) (domain_call q n lent)
  unfolding domain_call
  domains n lent =
      answers-first (size_refusal (is_size n ∷ []) ∷ list_refusal (eqb lent n ∷ []) ∷ [])
      (row 4 0 (Size n ∷ []) ∷ lists_row ((lent ≡ n) ∷ []) ∷ []) _
      (sizes-told (is_size n ∷ []) (Size n ∷ []) (tells_size n, tt), (lists-told (eqb lent n ∷ []) ((lent ≡ n) ∷ []) (tells_equal lent n, tt), tt))

  evaluation_answers :
      {T : Type 0} (n : ℕ) (ws : List ℕ) (result : T)
      → Answers (evaluation_rows q n ws) (judged (first (list_refusal (leb n max_words ∷ []) ∷ word_refusal q ws ∷ [])) result)
  evaluation_answers n ws result =
      answers-first (list_refusal (leb n max_words ∷ []) ∷ word_refusal q ws ∷ []) (evaluation_rows q n ws) result
      (lists-told (leb n max_words ∷ []) ((n ≤ max_words) ∷ []) (tells_most n max_words, tt), (words-told q ws, tt))

  pub evaluations : (f : List ℕ) (y : ℕ) → Answers (evaluation_rows q (length f) (f ++ (y ∷ []))) (evaluate_call q f y)
  unfolding evaluate_call
  evaluations f y = evaluation_answers (length f) (f ++ (y ∷ [])) _

  pub parts :
      (r : Running ℕ) (y : ℕ) (part : List ℕ)
      → Answers (evaluation_rows q (length part) (r.sum ∷ r.power ∷ y ∷ part)) (evaluate_part_call q r y part)
  unfolding evaluate_part_call
  parts r y part = evaluation_answers (length part) (r.sum ∷ r.power ∷ y ∷ part) _

  transform-answers :
      {T : Type 0} (n : ℕ) (ws : List ℕ) (lent : ℕ) (result : T)
      → Answers (transform_rows q n ws lent)
      (judged (first (size_refusal (is_size n ∷ []) ∷ list_refusal (eqb (length ws) n ∷ eqb lent n ∷ []) ∷ word_refusal q ws ∷ [])) result)
  transform-answers n ws lent result =
      answers-first (size_refusal (is_size n ∷ []) ∷ list_refusal (eqb (length ws) n ∷ eqb lent n ∷ []) ∷ word_refusal q ws ∷ [])
      (transform_rows q n ws lent) result (
        sizes-told (is_size n ∷ []) (Size n ∷ []) (tells_size n, tt),
        (
          lists-told (eqb (length ws) n ∷ eqb lent n ∷ []) ((length ws ≡ n) ∷ (lent ≡ n) ∷ []) (tells_equal (length ws) n, (tells_equal lent n, tt)),
          (words-told q ws, tt),
        ),
      )

  pub interpolations : (n : ℕ) (vs : List ℕ) (lent : ℕ) → Answers (transform_rows q n vs lent) (interpolate_call q n vs lent)
  unfolding interpolate_call
  interpolations n vs lent = transform-answers n vs lent _

  pub values_on_domains : (n : ℕ) (f : List ℕ) (lent : ℕ) → Answers (transform_rows q n f lent) (evaluate_on_domain_call q n f lent)
  unfolding evaluate_on_domain_call
  values_on_domains n f lent = transform-answers n f lent _

  -- the indexer
  pub indexes : (c : CircuitWords) (lent : Three (Index ℕ)) → Answers (index_rows q c lent) (index_call q c lent)
  unfolding index_call
  indexes c lent =
      let k : MatrixName → ℕ = at (sizes_of (circuit_of c)).|K| in
      let same : (M : MatrixName) (n : ℕ) → Tells (eqb n (k M)) (n ≡ k M) = λ M n. tells_equal n (k M) in
      let tests : MatrixName → List Bool = λ M. map (λ n. eqb n (k M)) (list_index (at lent M)) in
      let slices : MatrixName → List (Type 0) = λ M. map (λ n. n ≡ k M) (list_index (at lent M)) in
      let four : (M : MatrixName) → TellAll (tests M) (slices M) = λ M. tell_map (λ n. eqb n (k M)) (λ n. n ≡ k M) (same M) (list_index (at lent M)) in
      answers-first (circuit_refusals q (circuit_of c) (entry_list_tests c ++ (tests A ++ (tests B ++ tests C))) []) (index_rows q c lent) _
      (circuit-told q (circuit_of c) (entry_list_tests c ++ (tests A ++ (tests B ++ tests C)))
      (entry_lists max_size c ++ (slices A ++ (slices B ++ slices C))) []
      (tell_append (entry_list_tests c) (tests A ++ (tests B ++ tests C)) (entry_lists max_size c) (slices A ++ (slices B ++ slices C)) (tell_entry-lists c)
      (tell_append (tests A) (tests B ++ tests C) (slices A) (slices B ++ slices C) (four A)
      (tell_append (tests B) (tests C) (slices B) (slices C) (four B) (four C)))))

  -- the prover's calls
  module _ (i : ProverInput) where
    abbrev c : Circuit
    c = circuit_of i.circuit

    abbrev due : MessageLengths
    due = lengths (sizes_of c)

    pub round_refuses : (lent given challenges points : List ℕ) → Refuses (round_rows q i lent given challenges points) (round_refusal q i lent given challenges points)
    unfolding round_refusal prover_refusal
    round_refuses lent given challenges points =
        let tests : List Bool = assignment_tests c i.z i.m in
        let conditions : List (Type 0) = assignment_conditions c i.z i.m in
        let all : List Bool = entry_list_tests i.circuit ++ (tests ++ pairs eqb lent given) in
        refuses
        (circuit_refusals q c all (i.z ++ (i.r ∷ (i.m ++ challenges))) ++ refusals_after_circuit q c i.z i.m points)
        (round_rows q i lent given challenges points)
        (prover-told q c all (entry_lists max_size i.circuit ++ (conditions ++ equal_conditions lent given)) i.z i.r i.m challenges points
        (tell_append (entry_list_tests i.circuit) (tests ++ pairs eqb lent given) (entry_lists max_size i.circuit) (conditions ++ equal_conditions lent given)
        (tell_entry-lists i.circuit)
        (tell_append tests (pairs eqb lent given) conditions (equal_conditions lent given) (tell_assignment c i.z i.m) (tell_same lent given))))

    round_answers :
        {T : Type 0} (lent given challenges points : List ℕ) (result : T)
        → Answers (round_rows q i lent given challenges points) (judged (round_refusal q i lent given challenges points) result)
    round_answers lent given challenges points result =
        answers (round_rows q i lent given challenges points) (round_refusal q i lent given challenges points) result (round_refuses lent given challenges points)

    pub first_round :
        (ŵ h0 : ℕ) → Answers (round_rows q i (ŵ ∷ h0 ∷ []) (due.witness ∷ due.row_quotient ∷ []) [] []) (first_round_call q i ŵ h0)
    unfolding first_round_call
    first_round ŵ h0 = round_answers (ŵ ∷ h0 ∷ []) (due.witness ∷ due.row_quotient ∷ []) [] [] _

    pub second_round : (α : ℕ) → Answers (round_rows q i [] [] (α ∷ []) (α ∷ [])) (second_round_call q i α)
    unfolding second_round_call
    second_round α = round_answers [] [] (α ∷ []) (α ∷ []) _

    pub third_round :
        (α : ℕ) (η : Three ℕ) (g1 h1 : ℕ)
        → Answers (round_rows q i (g1 ∷ h1 ∷ []) (due.line_remainder ∷ due.line_quotient ∷ []) (α ∷ listed η) (α ∷ [])) (third_round_call q i α η g1 h1)
    unfolding third_round_call
    third_round α η g1 h1 = round_answers (g1 ∷ h1 ∷ []) (due.line_remainder ∷ due.line_quotient ∷ []) (α ∷ listed η) (α ∷ []) _

    pub fourth_round :
        (α : ℕ) (η : Three ℕ) (β : ℕ) (g : Three ℕ)
        → Answers (round_rows q i (listed g) (listed due.matrix_remainders) (α ∷ (listed η ++ (β ∷ []))) (α ∷ β ∷ [])) (fourth_round_call q i α η β g)
    unfolding fourth_round_call
    fourth_round α η β g = round_answers (listed g) (listed due.matrix_remainders) (α ∷ (listed η ++ (β ∷ []))) (α ∷ β ∷ []) _

    pub fifth_round :
        (α : ℕ) (η : Three ℕ) (β : ℕ) (δ : Three ℕ) (h2 : ℕ)
        → Answers (round_rows q i (h2 ∷ []) (due.joined_quotient ∷ []) (α ∷ (listed η ++ (β ∷ listed δ))) (α ∷ β ∷ [])) (fifth_round_call q i α η β δ h2)
    unfolding fifth_round_call
    fifth_round α η β δ h2 = round_answers (h2 ∷ []) (due.joined_quotient ∷ []) (α ∷ (listed η ++ (β ∷ listed δ))) (α ∷ β ∷ []) _

    pub openings :
        (α : ℕ) (η : Three ℕ) (β : ℕ) (δ : Three ℕ) (γ : ℕ)
        → Answers (round_rows q i [] [] (α ∷ (listed η ++ (β ∷ (listed δ ++ (γ ∷ []))))) (α ∷ β ∷ γ ∷ [])) (openings_call q i α η β δ γ)
    unfolding openings_call
    openings α η β δ γ = round_answers [] [] (α ∷ (listed η ++ (β ∷ (listed δ ++ (γ ∷ []))))) (α ∷ β ∷ γ ∷ []) _
