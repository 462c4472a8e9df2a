-- What the prover's calls give where they are done: together the proof of that job, and its true openings. Assumes nothing.
use mathlib.Core.Path.{◌≡◌, sym, ap, ap₂, ◌∙◌}
use mathlib.Core.Bool.{Bool, true, ◌&&◌}
use mathlib.Core.List.{List, [], ◌∷◌, ◌++◌, map}
use mathlib.Core.Option.{Option, none}
use Prim.Native.Nat.{ℕ, ◌*◌, ◌%◌, ◌≤◌, ◌<◌}
use lib.Dec.{eqb, leb}
use lib.ListN.{length, get_or}
use native.Mathlib.Omega.{arith}
use borrow.Author.Tests.{leb-true, le-leb}
use Rattle.algebra.specs.Counting.{All}
use Rattle.algebra.proofs.Counting.{append_all, all_append}
use Rattle.field.specs.Prime.{Prime}
use Rattle.field.specs.Element.{of, word_of, words}
use Rattle.field.proofs.Words.{words_back}
use Rattle.domain.specs.Size.{max_size}
use Rattle.domain.specs.Qualifies.{Qualifies}
use Rattle.protocol.specs.Three.{Three, listed, map_three}
use Rattle.protocol.specs.Circuit.{Circuit, sizes_of}
use Rattle.protocol.specs.Checks.{Openings, map_openings, list_openings}
use Rattle.protocol.specs.Messages.{Messages, MessageLengths, map_messages, lengths, messages}
use Rattle.protocol.specs.Refusals.{Refusal, list_refusal}
use Rattle.protocol.specs.Admission.{count_tests, assignment_tests, circuit_refusals, refusals_after_circuit, prover_refusal}
use Rattle.protocol.specs.Calls.{ProverInput, CircuitWords, entries_of, circuit_of, entry_list_tests, round_refusal}
use Rattle.protocol.specs.Calls.{first_round_call, second_round_call, third_round_call, fourth_round_call, fifth_round_call, openings_call}
use Rattle.protocol.specs.Job.{Job, challenge_words, challenge_points, job_refusal, proof, true_openings, conversation, conversation_on, honest_conversation}
use Rattle.protocol.specs.Demand2.{input_job, CallsDone, CallsGiveProof, CallsAccepted}
use Rattle.protocol.proofs.AdmissionLaws.{job-fits}
use Rattle.protocol.proofs.Honest.{honest-accepted}
use Rattle.protocol.proofs.RefusalLaws.{first-none, none_first, refuse-none, none-refuse, and-true, judged-done}

-- openings from the list of their words
abbrev from_list : List ℕ → Openings ℕ
from_list l =
    let w : ℕ → ℕ = λ k. get_or l k 0 in
    record {
      witness = w 0;
      mask = w 1;
      line_remainder = w 2;
      line_quotient = w 3;
      row_quotient = w 4;
      joined_quotient = w 5;
      matrix_remainders = record { a = w 6; b = w 7; c = w 8 };
      index =
          record {
            a = record { row = w 9; col = w 10; rowcol = w 11; rowcolval = w 12 };
            b = record { row = w 13; col = w 14; rowcol = w 15; rowcolval = w 16 };
            c = record { row = w 17; col = w 18; rowcol = w 19; rowcolval = w 20 };
          };
    }

pub openings-listed : (o p : Openings ℕ) → list_openings o ≡ list_openings p → o ≡ p
openings-listed o p e = ap from_list e

-- three words for each entry
entries-within : (l : List ℕ) → 3 * length (entries_of l) ≤ length l
unfolding entries_of
entries-within [] = omega arith
entries-within (i ∷ []) = omega arith
entries-within (i ∷ (k ∷ [])) = omega arith
entries-within (i ∷ (k ∷ (v ∷ l))) = omega (arith, entries-within l)

few-entries : (l : List ℕ) → (eqb (length l % 3) 0 && leb (length l) (3 * max_size)) ≡ true → leb (length (entries_of l)) max_size ≡ true
few-entries l e =
    let most : length l ≤ 3 * max_size = leb-true (length l) (3 * max_size) (and-true (eqb (length l % 3) 0) (leb (length l) (3 * max_size)) e).1 in
    le-leb (length (entries_of l)) max_size (omega (arith, entries-within l))

counts_pass : (c : CircuitWords) → All (λ t. t ≡ true) (entry_list_tests c) → All (λ t. t ≡ true) (count_tests (circuit_of c))
unfolding entry_list_tests count_tests circuit_of
counts_pass c h =
    (few-entries c.matrices.a h.0, (few-entries c.matrices.b h.1.0, (few-entries c.matrices.c h.1.1.0, tt)))

module _ (q : Prime) (i : ProverInput) (α : ℕ) (η : Three ℕ) (β : ℕ) (δ : Three ℕ) (γ : ℕ) where
  abbrev j : Job
  j = input_job q i α η β δ γ

  abbrev c : Circuit
  c = j.circuit

  -- the rows of a job, and of a call with other lists
  abbrev rows : List Bool → List (Option Refusal)
  rows lists =
      circuit_refusals q c lists (i.z ++ (i.r ∷ (i.m ++ challenge_words j))) ++ refusals_after_circuit q c i.z i.m (challenge_points j)

  -- what lets the openings through lets the job through
  job_free : round_refusal q i [] [] (challenge_words j) (challenge_points j) ≡ none → job_refusal q j ≡ none
  unfolding round_refusal job_refusal prover_refusal circuit_refusals list_refusal
  job_free free =
      let tests : List Bool = assignment_tests c i.z i.m in
      let r = first-none (rows (entry_list_tests i.circuit ++ (tests ++ []))) free in
      let lists = append_all (λ t. t ≡ true) (entry_list_tests i.circuit) (tests ++ []) (refuse-none 5 0 (entry_list_tests i.circuit ++ (tests ++ [])) r.1.0) in
      let both = all_append (λ t. t ≡ true) (count_tests c) tests (counts_pass i.circuit lists.0) (append_all (λ t. t ≡ true) tests [] lists.1).0 in
      none_first (rows (count_tests c ++ tests)) (r.0, (none-refuse 5 0 (count_tests c ++ tests) both, r.1.1))

  module _ (sent : Messages (List ℕ) ℕ) (o : Openings ℕ) (D : CallsDone q i α η β δ γ sent o) where
    -- the proof's parts in words
    abbrev due : MessageLengths
    due = lengths (sizes_of c)

    abbrev made : Messages (List ℕ) ℕ
    made = map_messages words word_of (proof q j)

    abbrev made_openings : Openings ℕ
    made_openings = map_openings word_of (true_openings q j (proof q j))

    opened : (round_refusal q i [] [] (challenge_words j) (challenge_points j) ≡ none) × (list_openings made_openings ≡ list_openings o)
    unfolding openings_call true_openings proof
    opened = judged-done (round_refusal q i [] [] (challenge_words j) (challenge_points j)) (list_openings made_openings) D.opened

    free : job_refusal q j ≡ none
    free = job_free opened.0

    mask_back : words (map (of {q = q}) i.m) ≡ i.m
    mask_back =
        let Low : ℕ → Type 0 = λ w. w < q.p in
        let afterz = (append_all Low i.z (i.r ∷ (i.m ++ challenge_words j)) (job-fits q j free).words_fit).1 in
        words_back q i.m (append_all Low i.m (challenge_words j) afterz.1).0

    first_round : ◌≡◌ {A = List ℕ × List ℕ} (made.witness, made.row_quotient) (sent.witness, sent.row_quotient)
    unfolding proof messages first_round_call
    first_round =
        (judged-done (round_refusal q i (length sent.witness ∷ length sent.row_quotient ∷ []) (due.witness ∷ due.row_quotient ∷ []) [] [])
        (made.witness, made.row_quotient) D.first).1

    second_round : made.sums ≡ sent.sums
    unfolding proof messages second_round_call
    second_round = (judged-done (round_refusal q i [] [] (α ∷ []) (α ∷ [])) made.sums D.second).1

    third_round : ◌≡◌ {A = List ℕ × List ℕ} (made.line_remainder, made.line_quotient) (sent.line_remainder, sent.line_quotient)
    unfolding proof messages third_round_call
    third_round =
        (judged-done
        (round_refusal q i (length sent.line_remainder ∷ length sent.line_quotient ∷ []) (due.line_remainder ∷ due.line_quotient ∷ []) (α ∷ listed η) (α ∷ []))
        (made.line_remainder, made.line_quotient) D.third).1

    fourth_round : ◌≡◌ {A = Three ℕ × Three (List ℕ)} (made.values, made.matrix_remainders) (sent.values, sent.matrix_remainders)
    unfolding proof messages fourth_round_call
    fourth_round =
        (judged-done
        (round_refusal q i (listed (map_three length sent.matrix_remainders)) (listed due.matrix_remainders) (α ∷ (listed η ++ (β ∷ []))) (α ∷ β ∷ []))
        (made.values, made.matrix_remainders) D.fourth).1

    fifth_round : made.joined_quotient ≡ sent.joined_quotient
    unfolding proof messages fifth_round_call
    fifth_round =
        (judged-done (round_refusal q i (length sent.joined_quotient ∷ []) (due.joined_quotient ∷ []) (α ∷ (listed η ++ (β ∷ listed δ))) (α ∷ β ∷ []))
        made.joined_quotient D.fifth).1

    mask-given : made.mask ≡ sent.mask
    unfolding proof messages
    mask-given = mask_back ∙ sym D.mask

    made_sent : made ≡ sent
    made_sent = λ t.
        record {
          witness = (first_round t).0;
          mask = mask-given t;
          row_quotient = (first_round t).1;
          sums = second_round t;
          line_remainder = (third_round t).0;
          line_quotient = (third_round t).1;
          values = (fourth_round t).0;
          matrix_remainders = (fourth_round t).1;
          joined_quotient = fifth_round t;
        }

pub calls_give_proof : (q : Prime) → CallsGiveProof q
calls_give_proof q i α η β δ γ sent o D = (
  free q i α η β δ γ sent o D,
  sym (made_sent q i α η β δ γ sent o D),
  openings-listed o (made_openings q i α η β δ γ sent o D) (sym (opened q i α η β δ γ sent o D).1),
)

pub calls_accepted : (q : Prime) → Qualifies q → CallsAccepted q
unfolding conversation_on honest_conversation
calls_accepted q Q i α η β δ γ sent o D =
    let (none-refused, sent_is, opened-is) = calls_give_proof q i α η β δ γ sent o D in
    ap₂ (conversation q (input_job q i α η β δ γ)) sent_is opened-is ∙ honest-accepted q Q (input_job q i α η β δ γ) none-refused
