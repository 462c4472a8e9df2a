-- The stages' texts together are the text of a job: its refusal is that of its openings, and where nothing is refused the messages are
-- those of its proof and the last answer is that of its session. Assumes nothing.
use mathlib.Core.Path.{◌≡◌, refl, sym, ap, ap₂, ◌∙◌}
use mathlib.Core.List.{List, [], ◌∷◌, ◌++◌, map, append_assoc, append-nil}
use mathlib.Core.Option.{Option, none, some}
use Prim.Native.Nat.{ℕ, zero, suc, ◌*◌, ◌/◌, ◌<◌}
use lib.Dec.{lit<}
use native.Mathlib.Omega.{arith}
use lib.ListN.{get_or}
use Rattle.algebra.specs.Lists.{tabulate}
use Rattle.algebra.specs.Counting.{All}
use Rattle.algebra.proofs.Counting.{append_all}
use Rattle.field.specs.Element.{Elem, of, word_of, words}
use Rattle.field.proofs.Words.{words_back}
use Rattle.domain.specs.BabyBear.{baby_bear}
use Rattle.domain.specs.Polynomial.{Poly}
use Rattle.domain.proofs.Qualification.{baby_bear-qualifies}
use Rattle.protocol.specs.Three.{Three, listed}
use Rattle.protocol.specs.Circuit.{Circuit, sizes_of}
use Rattle.protocol.specs.Checks.{Openings, map_openings, list_openings}
use Rattle.protocol.specs.Messages.{Messages, lengths, messages}
use Rattle.protocol.specs.Refusals.{Refusal, Refused, judged}
use Rattle.protocol.specs.Admission.{count_tests, assignment_tests, prover_refusal}
use Rattle.protocol.specs.Calls.{ProverInput, entry_list_tests, round_refusal}
use Rattle.protocol.specs.Record.{sections}
use Rattle.protocol.specs.Session.{Answer, Taken}
use Rattle.protocol.specs.Job.{Job, challenge_words, challenge_points, job_refusal, proof, true_openings, public_words, conversation, conversation_on, honest_conversation}
use Rattle.shared.specs.declared.Opened.{Opened}
use Rattle.protocol.proofs.AdmissionLaws.{job-fits}
use Rattle.protocol.proofs.CallsProve.{openings-listed}
use Rattle.protocol.proofs.ProofRecords.{lengths-due}
use Rattle.shared.specs.declared.Three as declared
use Rattle.openings.specs.declared.IndexOpened.{IndexOpened}
use Rattle.openings.specs.OpeningsGiven.{message_list}
use Rattle.varuna.specs.Answers.{indexes_list}
use Rattle.prover.proofs.WitnessLaws.{public_words_lem}
use Rattle.circuit.specs.declared.given.Challenges.{Challenges}
use Rattle.report.specs.ProofText.{lines, answer_text, proof_text, outcome_text, unless_refused, refused_text}
use Rattle.report.specs.Stages.{section, job_drawn, FreeJob, public_of, last_answer, after_sums, after_values, answer_after, opened_meaning}
use Rattle.report.specs.Stages.{first_text, first_lines, sum_words, third_text, third_lines, value_words, remainder_words}
use Rattle.report.specs.Stages.{fourth_text, fourth_lines, fifth_text, rest_text, stages_text}

-- words picked from words below p
picked_below : (ws : List ℕ) → All (λ w. w < baby_bear.p) ws → (k : ℕ) → get_or ws k 0 < baby_bear.p
picked_below [] h k = lit< tt
picked_below (w ∷ ws) h zero = h.0
picked_below (w ∷ ws) h (suc k) = picked_below ws h.1 k

tabulated_below : (n : ℕ) (f : ℕ → ℕ) → ((k : ℕ) → f k < baby_bear.p) → All (λ w. w < baby_bear.p) (tabulate n f)
tabulated_below zero f h = tt
tabulated_below (suc n) f h = (h 0, tabulated_below n (λ k. f (suc k)) (λ k. h (suc k)))

-- a call that is refused has that refusal
pub judged-refused : {T : Type 0} (o : Option Refusal) (w : T) {r : Refusal} → judged o w ≡ Refused r → o ≡ some r
judged-refused none w {r} e = let z : ◌≡◌ {A = ℕ} 0 1 = cc in absurd (omega arith)
judged-refused (some s) w {r} e = let same : s ≡ r = cc in ap some same

-- the stages' lines in one line
in_line : (a b d e f g h k l m n t : List ℕ)
    → (a ++ (b ++ d)) ++ (e ++ ((f ++ g) ++ ((h ++ (k ++ (l ++ m))) ++ (n ++ t))))
    ≡ (a ++ (b ++ (d ++ (e ++ (f ++ (g ++ (h ++ (k ++ (l ++ (m ++ (n ++ []))))))))))) ++ t
in_line a b d e f g h k l m n t = simp (append_assoc, append-nil)

module _ (i : ProverInput) (d : Challenges) where
  abbrev j : Job
  j = job_drawn i d

  abbrev c : Circuit
  c = j.circuit

  -- the refusal of a job is that of its openings
  job-refusal : entry_list_tests i.circuit ≡ count_tests c
      → job_refusal baby_bear j ≡ round_refusal baby_bear i [] [] (challenge_words j) (challenge_points j)
  unfolding job_refusal round_refusal assignment_tests
  job-refusal e =
      ap
      (λ tests.
      prover_refusal baby_bear c (tests ++ assignment_tests c i.z i.m) i.z i.r i.m (challenge_words j) (challenge_points j))
      (sym e)

  module _ (free : job_refusal baby_bear j ≡ none) where
    abbrev sent : Messages (Poly baby_bear) (Elem baby_bear)
    sent = proof baby_bear j

    from_z : All (λ w. w < baby_bear.p) i.z × All (λ w. w < baby_bear.p) (i.r ∷ (i.m ++ challenge_words j))
    from_z = append_all (λ w. w < baby_bear.p) i.z (i.r ∷ (i.m ++ challenge_words j)) (job-fits baby_bear j free).words_fit

    m_back : words (map (of {q = baby_bear}) i.m) ≡ i.m
    m_back = words_back baby_bear i.m (append_all (λ w. w < baby_bear.p) i.m (challenge_words j) from_z.1.1).0

    public_same : public_words baby_bear j ≡ public_of (sizes_of c) i.z
    unfolding public_words sizes_of
    public_same =
        let place : ℕ → ℕ = λ k. k * (c.|C| / c.|X|) in
        ap (words {q = baby_bear}) (sym (public_words_lem c {c = c.|C|} {x = c.|X|} i.z refl refl))
        ∙ words_back baby_bear (tabulate c.|X| (λ k. get_or i.z (place k) 0))
        (tabulated_below c.|X| (λ k. get_or i.z (place k) 0) (λ k. picked_below i.z from_z.0 (place k)))

    abbrev last : Openings ℕ → Answer
    last o = last_answer (sizes_of c) (lengths (sizes_of c)) (public_of (sizes_of c) i.z) d (sum_words i j.α) (value_words i j.α j.β) o

    -- the last answer of the session
    last_same : (o : Openings ℕ) → o ≡ map_openings word_of (true_openings baby_bear j sent) → get_or (honest_conversation baby_bear j) 7 Taken ≡ last o
    unfolding honest_conversation conversation_on conversation proof messages sum_words value_words after_sums after_values answer_after
    last_same o e = λ t.
        last_answer (sizes_of c) (lengths-due baby_bear baby_bear-qualifies j free t) (public_same t) d (sum_words i j.α) (value_words i j.α j.β) (sym e t)

    -- all stages
    stages_same : (o : Opened) (x : declared.Three IndexOpened) → message_list o ++ indexes_list x ≡ words (list_openings (true_openings baby_bear j sent))
        → stages_text i d (opened_meaning o x) ≡ proof_text baby_bear j
    unfolding stages_text first_text first_lines sum_words third_text third_lines value_words remainder_words fourth_text fourth_lines fifth_text rest_text
        proof_text lines sections proof messages
    stages_same o x e =
        let g : Three (List ℕ) = remainder_words i j.α j.β in
        let σ : List ℕ = section 3 (listed (sum_words i j.α)) in
        let ω : List ℕ = section 6 (listed (value_words i j.α j.β)) in
        let same = last_same (opened_meaning o x) (openings-listed (opened_meaning o x) (map_openings word_of (true_openings baby_bear j sent)) e) in
        in_line (section 0 (words sent.witness)) (section 1 i.m) (section 2 (words sent.row_quotient)) σ
        (section 4 (words sent.line_remainder)) (section 5 (words sent.line_quotient)) ω (section 7 g.a)
        (section 8 g.b) (section 9 g.c) (section 10 (words sent.joined_quotient)) (answer_text (last (opened_meaning o x)))
        ∙ ap₂
        (λ (m : List ℕ) (last : Answer).
        (section 0 (words sent.witness)
        ++ (section 1 m
        ++ (section 2 (words sent.row_quotient)
        ++ (σ
        ++ (section 4 (words sent.line_remainder)
        ++ (section 5 (words sent.line_quotient)
        ++ (ω ++ (section 7 g.a ++ (section 8 g.b ++ (section 9 g.c ++ (section 10 (words sent.joined_quotient) ++ [])))))))))))
        ++ answer_text last)
        (sym m_back) (sym same)

  -- the text of a job that is refused, and of one that is not
  module _ (e : entry_list_tests i.circuit ≡ count_tests c) where
    pub refused_text_lem : {r : Refusal} → round_refusal baby_bear i [] [] (challenge_words j) (challenge_points j) ≡ some r → refused_text r ≡ outcome_text baby_bear j
    refused_text_lem {r} h = sym (ap (λ o. unless_refused o (proof_text baby_bear j)) (job-refusal e ∙ h))

    pub free_text : (o : Opened) (x : declared.Three IndexOpened) → FreeJob i d
        → message_list o ++ indexes_list x ≡ words (list_openings (true_openings baby_bear j (proof baby_bear j)))
        → stages_text i d (opened_meaning o x) ≡ outcome_text baby_bear j
    free_text o x free h =
        let none-refused : job_refusal baby_bear j ≡ none = job-refusal e ∙ free.none-refused in
        stages_same none-refused o x h ∙ sym (ap (λ o. unless_refused o (proof_text baby_bear j)) none-refused)
