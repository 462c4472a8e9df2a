-- The parts of a whole job are those of its definition. Assumes nothing.
use mathlib.Core.Path.{◌≡◌, sym, ap, ap₂, ◌∙◌}
use mathlib.Core.Bool.{◌&&◌}
use mathlib.Core.List.{List, [], ◌∷◌}
use mathlib.Core.Option.{none}
use Prim.Native.Nat.{ℕ, ◌+◌, ◌-◌, ◌*◌, ◌%◌, ◌≤◌, ◌<◌}
use native.Mathlib.Omega.{arith}
use lib.Dec.{eqb, leb, lit<}
use lib.ListN.{length, take, drop, get_or, length-drop}
use lib.Seq.{length-take-le, get_or-take, get_or-drop}
use borrow.Author.Tests.{le-leb, eq-eqb}
use Rattle.domain.specs.Size.{max_size}
use Rattle.protocol.specs.Admission.{count_tests}
use Rattle.protocol.specs.Calls.{ProverInput, entries_of, circuit_of, entry_list_tests}
use Rattle.protocol.proofs.EntryLists.{length-entries_of}
use Rattle.circuit.specs.Given.{prover_input}
use Rattle.circuit.specs.declared.given.Challenges.{Challenges}
use Rattle.report.specs.Stages.{job_drawn}
use Rattle.job.specs.declared.parts.Places.{Places}
use Rattle.job.specs.JobText.{head_refusal, placeα, job_length, job_of}
use Rattle.job.specs.Parts.{Placed, challenges_of, between, input_at}
use Rattle.job.proofs.HeadLaws.{head_fits, whole_length}

-- so many words from a place on
length_part : (ws : List ℕ) (at n : ℕ) → at + n ≤ length ws → length (take n (drop at ws)) ≡ n
length_part ws at n h = length-take-le n (drop at ws) (omega (arith, length-drop at ws))

-- an entry list by its count: whole entries, and not over 1,024 of them
same_tests : (l : List ℕ) (k : ℕ) → length l ≡ 3 * k → k ≤ 1024
    → (eqb (length l % 3) 0 && leb (length l) (3 * max_size)) ≡ leb (length (entries_of l)) max_size
same_tests l k e h =
    ap₂ ◌&&◌ (eq-eqb (length l % 3) 0 (omega arith)) (le-leb (length l) (3 * max_size) (omega arith))
    ∙ sym (le-leb (length (entries_of l)) max_size (omega (arith, length-entries_of l)))

-- the parts of the words of a whole job, at the places where they begin
module _ (ws : List ℕ) (whole : length ws ≡ job_length ws) (p : Places) (placed : Placed ws p) where
  abbrev w : ℕ → ℕ
  w k = get_or ws k 0

  abbrev input : ProverInput
  input = input_at ws p.b p.c p.z p.mask p.m p.challenges

  pub whole_end_lem : p.challenges + 9 ≡ length ws
  whole_end_lem = omega (arith, whole, whole_length ws)

  pub in_order : (6 ≤ p.b) × (p.b ≤ p.c) × (p.c ≤ p.z) × (p.z ≤ p.mask) × (p.mask < p.m) × (p.m ≤ p.challenges) × (p.challenges ≤ length ws)
  in_order = (omega arith, omega arith, omega arith, omega arith, omega arith, omega arith, omega (arith, whole_end_lem))

  pub lists_agree : head_refusal ws ≡ none → entry_list_tests input.circuit ≡ count_tests (circuit_of input.circuit)
  unfolding entry_list_tests count_tests circuit_of
  lists_agree free =
      let F = head_fits ws free in
      let entries : (from to k : ℕ) → to ≡ from + 3 * k → to ≤ length ws → length (between ws from to) ≡ 3 * k =
      λ from to k e h. length_part ws from (to - from) (omega arith) ∙ omega arith in
      let a = same_tests (between ws 6 p.b) (w 3) (entries 6 p.b (w 3) (omega arith) (omega (arith, whole_end_lem))) F.count-a in
      let b = same_tests (between ws p.b p.c) (w 4) (entries p.b p.c (w 4) (omega arith) (omega (arith, whole_end_lem))) F.count-b in
      let d = same_tests (between ws p.c p.z) (w 5) (entries p.c p.z (w 5) (omega arith) (omega (arith, whole_end_lem))) F.count-c in
      λ t. a t ∷ b t ∷ d t ∷ []

  -- the last nine words
  abbrev last : List ℕ
  last = between ws p.challenges (length ws)

  pub nine_words : length last ≡ 9
  nine_words = length_part ws p.challenges (length ws - p.challenges) (omega (arith, whole_end_lem)) ∙ omega (arith, whole_end_lem)

  last_word : (k n : ℕ) → k < 9 → p.challenges + k ≡ n → get_or last k 0 ≡ w n
  last_word k n h e =
      get_or-take (length ws - p.challenges) (drop p.challenges ws) k 0 (omega (arith, whole_end_lem)) ∙ get_or-drop p.challenges ws k 0 ∙ ap w e

  pub job_in_parts : (d : Challenges) → d ≡ challenges_of last → job_drawn input d ≡ job_of ws
  unfolding job_of circuit_of
  job_in_parts d drawn =
      let na : p.b - 6 ≡ 3 * w 3 = omega arith in
      let nb : p.c - p.b ≡ 3 * w 4 = omega arith in
      let nc : p.z - p.c ≡ 3 * w 5 = omega arith in
      let nz : p.mask - p.z ≡ w 1 = omega arith in
      let nm : p.challenges - p.m ≡ 2 * w 1 = omega arith in
      let first : get_or last 0 0 ≡ w (placeα ws) = last_word 0 (placeα ws) (omega arith) (omega arith) in
      let next : (k : ℕ) → k < 9 → get_or last k 0 ≡ w (placeα ws + k) = λ k h. last_word k (placeα ws + k) h (omega arith) in
      ap (job_drawn input) drawn
      ∙ λ t.
      job_drawn
      (prover_input (w 0) (w 1) (w 2) (take (na t) (drop 6 ws)) (take (nb t) (drop (placed.0 t) ws)) (take (nc t) (drop (placed.1 t) ws))
      (take (nz t) (drop (placed.2 t) ws)) (w (placed.3 t)) (take (nm t) (drop (placed.4 t) ws)))
      (record {
        alpha = first t;
        eta = record { a = next 1 (lit< tt) t; b = next 2 (lit< tt) t; c = next 3 (lit< tt) t };
        beta = next 4 (lit< tt) t;
        delta = record { a = next 5 (lit< tt) t; b = next 6 (lit< tt) t; c = next 7 (lit< tt) t };
        gamma = next 8 (lit< tt) t;
      })
