-- Jobs that fit: their honest proofs are accepted, and each of the prover's six calls is done, with the parts of the proof. Assumes
-- nothing.
use mathlib.Core.Path.{◌≡◌, ap, ◌∙◌}
use mathlib.Core.List.{List, [], ◌∷◌, ◌++◌, map}
use mathlib.Core.Option.{none}
use Prim.Native.Nat.{ℕ, ◌<◌}
use lib.ListN.{length, length-map}
use Rattle.algebra.specs.Counting.{All}
use Rattle.algebra.proofs.Counting.{append_all, all_append}
use Rattle.field.specs.Prime.{Prime}
use Rattle.field.specs.Element.{of, word_of, words}
use Rattle.field.proofs.Words.{words_back}
use Rattle.domain.specs.Size.{max_size}
use Rattle.domain.specs.Polynomial.{Poly}
use Rattle.domain.specs.Qualifies.{Qualifies}
use Rattle.protocol.specs.Three.{A, B, C, Three, listed, map_three}
use Rattle.protocol.specs.Circuit.{Circuit, sizes_of, largest}
use Rattle.protocol.specs.Checks.{map_openings, list_openings}
use Rattle.protocol.specs.Messages.{Messages, MessageLengths, map_messages, lengths, messages}
use Rattle.protocol.specs.Refusals.{Done, judged}
use Rattle.protocol.specs.Admission.{entry_values}
use Rattle.protocol.specs.Calls.{ProverInput, round_refusal}
use Rattle.protocol.specs.Calls.{first_round_call, second_round_call, third_round_call, fourth_round_call, fifth_round_call, openings_call}
use Rattle.protocol.specs.Job.{Job, challenge_words, challenge_points, proof, true_openings}
use Rattle.protocol.specs.Demand2.{KeepsRules, input_job, FittingCallsDone, HonestAccepted}
use Rattle.protocol.specs.Table.{Hold}
use Rattle.protocol.specs.Rows.{equal_conditions, entry_lists, count_conditions, assignment_conditions, challenge_row, Fits}
use Rattle.protocol.proofs.CallAnswers.{jobs, round_refuses}
use Rattle.protocol.proofs.Honest.{rules-kept, honest-accepted}

-- conditions of two lists, and a condition for each member of one
hold_append : (P Q : List (Type 0)) → Hold P → Hold Q → Hold (P ++ Q)
hold_append [] Q left right = right
hold_append (p ∷ P) Q left right = (left.0, hold_append P Q left.1 right)

append_hold : (P Q : List (Type 0)) → Hold (P ++ Q) → Hold P × Hold Q
append_hold [] Q h = (tt, h)
append_hold (p ∷ P) Q h = let (left, right) = append_hold P Q h.1 in ((h.0, left), right)

module _ {T : Type 0} (P : T → Type 0) where
  hold_all : (l : List T) → Hold (map P l) → All P l
  hold_all [] h = tt
  hold_all (a ∷ l) h = (h.0, hold_all l h.1)

  all_hold : (l : List T) → All P l → Hold (map P l)
  all_hold [] h = tt
  all_hold (a ∷ l) h = (h.0, all_hold l h.1)

pub fitting_accepted : (q : Prime) → Qualifies q → HonestAccepted q
fitting_accepted q Q j fits = honest-accepted q Q j ((jobs q j).met fits)

module _ (q : Prime) (Q : Qualifies q) (i : ProverInput) (α : ℕ) (η : Three ℕ) (β : ℕ) (δ : Three ℕ) (γ : ℕ)
    (whole : Hold (entry_lists max_size i.circuit)) (fits : Fits q (input_job q i α η β δ γ)) where
  abbrev j : Job
  j = input_job q i α η β δ γ

  abbrev c : Circuit
  c = j.circuit

  abbrev due : MessageLengths
  due = lengths (sizes_of c)

  abbrev sent : Messages (List ℕ) ℕ
  sent = map_messages words word_of (proof q j)

  abbrev Low : ℕ → Type 0
  Low w = w < q.p

  abbrev domains : List ℕ
  domains = c.|R| ∷ c.|C| ∷ largest (sizes_of c).|K| ∷ []

  -- what the job's rows say of the words: those of the circuit, of z, r and m, and the challenges
  values_low : All Low (entry_values c)
  unfolding entry_values
  values_low = (append_all Low (entry_values c) _ (hold_all Low (entry_values c ++ (i.z ++ (i.r ∷ (i.m ++ challenge_words j)))) fits.1.1.0)).0

  given_low : All Low (i.z ++ (i.r ∷ (i.m ++ challenge_words j)))
  unfolding entry_values
  given_low = (append_all Low (entry_values c) _ (hold_all Low (entry_values c ++ (i.z ++ (i.r ∷ (i.m ++ challenge_words j)))) fits.1.1.0)).1

  z_low : All Low i.z
  z_low = (append_all Low i.z _ given_low).0

  rest_low : All Low (i.r ∷ (i.m ++ challenge_words j))
  rest_low = (append_all Low i.z _ given_low).1

  m_low : All Low i.m
  m_low = (append_all Low i.m (challenge_words j) rest_low.1).0

  challenges_low : All Low (challenge_words j)
  challenges_low = (append_all Low i.m (challenge_words j) rest_low.1).1

  -- a call with lent slices of the lengths that are due, and with challenges that are among the job's
  free :
      (lent given ws points : List ℕ) → Hold (equal_conditions lent given) → All Low ws → Hold (challenge_row q 0 domains points).conditions
      → round_refusal q i lent given ws points ≡ none
  unfolding entry_values
  free lent given ws points same low outside =
      (round_refuses q i lent given ws points).met (
        fits.0,
        (
          hold_append (entry_lists max_size i.circuit) (assignment_conditions c i.z i.m ++ equal_conditions lent given) whole
              (hold_append (assignment_conditions c i.z i.m) (equal_conditions lent given)
              (append_hold (count_conditions c) (assignment_conditions c i.z i.m) fits.1.0).1 same),
          (
            all_hold Low (entry_values c ++ (i.z ++ (i.r ∷ (i.m ++ ws))))
                (all_append Low (entry_values c) (i.z ++ (i.r ∷ (i.m ++ ws))) values_low
                (all_append Low i.z (i.r ∷ (i.m ++ ws)) z_low (rest_low.0, all_append Low i.m ws m_low low))),
            (fits.1.1.1.0, (fits.1.1.1.1.0, (fits.1.1.1.1.1.0, (fits.1.1.1.1.1.1.0, (outside, tt))))),
          ),
        ),
      )

  abbrev drawn : List ℕ
  drawn = challenge_words j

  outside : Hold (challenge_row q 0 domains (challenge_points j)).conditions
  outside = fits.1.1.1.1.1.1.1.0

  -- the messages have the lengths that are due
  kept : KeepsRules q c (map of i.z) (of i.r) (map of i.m) (of α) (map_three of η) (of β) (map_three of δ) (proof q j)
  kept = rules-kept q Q j ((jobs q j).met fits)

  due-length : (f : Poly q) {n : ℕ} → length f ≡ n → length (words f) ≡ n
  due-length f long = length-map f word_of ∙ long

  first_done : first_round_call q i (length sent.witness) (length sent.row_quotient) ≡ Done (sent.witness, sent.row_quotient)
  unfolding first_round_call proof messages
  first_done =
      ap (λ o. judged o (sent.witness, sent.row_quotient))
      (free (length sent.witness ∷ length sent.row_quotient ∷ []) (due.witness ∷ due.row_quotient ∷ []) [] []
      (due-length (proof q j).witness kept.witness-length, (due-length (proof q j).row_quotient kept.row_quotient-length, tt)) tt tt)

  second-done : second_round_call q i α ≡ Done sent.sums
  unfolding second_round_call proof messages
  second-done = ap (λ o. judged o sent.sums) (free [] [] (α ∷ []) (α ∷ []) tt (challenges_low.0, tt) (outside.0, tt))

  third-done :
      third_round_call q i α η (length sent.line_remainder) (length sent.line_quotient) ≡ Done (sent.line_remainder, sent.line_quotient)
  unfolding third_round_call proof messages
  third-done =
      let (low-α, (low-a, (low-b, (low-c, _)))) = challenges_low in
      ap (λ o. judged o (sent.line_remainder, sent.line_quotient))
      (free (length sent.line_remainder ∷ length sent.line_quotient ∷ []) (due.line_remainder ∷ due.line_quotient ∷ []) (α ∷ listed η) (α ∷ [])
      (due-length (proof q j).line_remainder kept.line_remainder-length, (due-length (proof q j).line_quotient kept.line_quotient-length, tt))
      (low-α, (low-a, (low-b, (low-c, tt)))) (outside.0, tt))

  fourth-done : fourth_round_call q i α η β (map_three length sent.matrix_remainders) ≡ Done (sent.values, sent.matrix_remainders)
  unfolding fourth_round_call proof messages
  fourth-done =
      let (low-α, (low-a, (low-b, (low-c, (low-β, _))))) = challenges_low in
      let g : Three (Poly q) = (proof q j).matrix_remainders in
      ap (λ o. judged o (sent.values, sent.matrix_remainders))
      (free (listed (map_three length sent.matrix_remainders)) (listed due.matrix_remainders) (α ∷ (listed η ++ (β ∷ []))) (α ∷ β ∷ []) (
        due-length g.a (kept.matrix_remainder-length A),
        (due-length g.b (kept.matrix_remainder-length B), (due-length g.c (kept.matrix_remainder-length C), tt)),
      )
      (low-α, (low-a, (low-b, (low-c, (low-β, tt))))) (outside.0, (outside.1.0, tt)))

  fifth-done : fifth_round_call q i α η β δ (length sent.joined_quotient) ≡ Done sent.joined_quotient
  unfolding fifth_round_call proof messages
  fifth-done =
      let (low-α, (low-a, (low-b, (low-c, (low-β, (low-d, (low-e, (low-f, _)))))))) = challenges_low in
      ap (λ o. judged o sent.joined_quotient)
      (free (length sent.joined_quotient ∷ []) (due.joined_quotient ∷ []) (α ∷ (listed η ++ (β ∷ listed δ))) (α ∷ β ∷ [])
      (due-length (proof q j).joined_quotient kept.joined_quotient-length, tt)
      (low-α, (low-a, (low-b, (low-c, (low-β, (low-d, (low-e, (low-f, tt)))))))) (outside.0, (outside.1.0, tt)))

  opened : openings_call q i α η β δ γ ≡ Done (list_openings (map_openings word_of (true_openings q j (proof q j))))
  unfolding openings_call true_openings proof
  opened =
      ap (λ o. judged o (list_openings (map_openings word_of (true_openings q j (proof q j)))))
      (free [] [] drawn (challenge_points j) tt challenges_low outside)

  mask-given : sent.mask ≡ i.m
  unfolding proof messages
  mask-given = words_back q i.m m_low

pub fitting_calls_done : (q : Prime) → Qualifies q → FittingCallsDone q
fitting_calls_done q Q i α η β δ γ whole fits =
    record {
      first = first_done q Q i α η β δ γ whole fits;
      mask = mask-given q Q i α η β δ γ whole fits;
      second = second-done q Q i α η β δ γ whole fits;
      third = third-done q Q i α η β δ γ whole fits;
      fourth = fourth-done q Q i α η β δ γ whole fits;
      fifth = fifth-done q Q i α η β δ γ whole fits;
      opened = opened q Q i α η β δ γ whole fits;
    }
