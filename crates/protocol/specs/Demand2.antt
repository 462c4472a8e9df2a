-- Demand 2: the messages keep document 01's equations, the index polynomials give the matrices back, a record read gives what
-- was written, honest proofs are accepted, and the verdict is what the equations say. Statements only; the proofs are in
-- proofs/. Assumes nothing.
use Rattle.std.specs.Prelude.{◌≡◌, ℕ, ◌-◌, ◌<◌, length}
use mathlib.Core.List.{List, [], ◌++◌, map, foldr}
use Rattle.std.proofs.Math.Option.{none}
use Rattle.algebra.specs.Counting.{All}
use Rattle.field.specs.Prime.{Prime}
use Rattle.field.specs.Element.{Elem, of, word_of, words, 𝟘, ◌⊕◌, ◌⊗◌, ◌⊖◌}
use Rattle.field.specs.Power.{◌⊘◌}
use Rattle.domain.specs.Size.{max_size}
use Rattle.domain.specs.Domain.{vanishing, sum_over}
use Rattle.domain.specs.Polynomial.{Poly, eval, interpolate, values_on}
use Rattle.domain.specs.Qualifies.{Qualifies}
use Rattle.protocol.specs.Three.{MatrixName, Three, at, listed, map_three, sum_matrices}
use Rattle.protocol.specs.Circuit.{Circuit, Sizes, sizes_of, largest, public_part, extension}
use Rattle.protocol.specs.Index.{index_at, index, decode}
use Rattle.protocol.specs.Checks.{Transcript, Openings, map_openings, list_openings, Row, Line, Matrix, Verdict, Accept, Fails, Holds, verdict}
use Rattle.protocol.specs.Checks.{weighted, row_left, row_right, line_left, line_right, matrix_left, matrix_right}
use Rattle.protocol.specs.Messages.{Messages, map_messages, lengths, public_poly, assignment, image, sums, values}
use Rattle.protocol.specs.Refusals.{Done, six_size_tests, size_refusal, word_refusal}
use Rattle.protocol.specs.Admission.{Admitted}
use Rattle.protocol.specs.Session.{Answer}
use Rattle.protocol.specs.Conversation.{ending_in}
use Rattle.protocol.specs.Record.{Contents, Section, sections, section_lengths, bytes_of, words_in, write_record, read_record}
use Rattle.protocol.specs.Calls.{ProverInput, circuit_of, first_round_call, second_round_call, third_round_call, fourth_round_call, fifth_round_call, openings_call}
use Rattle.protocol.specs.Job.{Job, job_refusal, proof, true_openings, conversation, honest_conversation}
use Rattle.protocol.specs.Table.{Hold}
use Rattle.protocol.specs.Rows.{entry_lists, Fits}

module _ (q : Prime) where
  module _ (c : Circuit) (z : List (Elem q)) (r : Elem q) (m : Poly q) (α : Elem q) (η : Three (Elem q)) (β : Elem q) (δ : Three (Elem q))
      (sent : Messages (Poly q) (Elem q)) where
    abbrev s : Sizes
    s = sizes_of c

    abbrev x̂ : Poly q
    x̂ = public_poly c (public_part c z)

    abbrev ẑ : Poly q
    ẑ = assignment c (public_part c z) sent.witness

    -- the transcript with y for γ
    abbrev t : Elem q → Transcript (Elem q)
    t y = record { α = α; sums = sent.sums; η = η; β = β; values = sent.values; δ = δ; γ = y }

    -- the messages sent have the lengths of the table and keep its rules, as equations at every point: a field or two for each row
    pub record KeepsRules : Type 0 where
      -- ŵ, |C|-|X|+1: "(z(Y) - x̂(Y))/v_X, plus r × v_C/v_X; z and x̂ interpolate on C and X"
      pub witness-length : length sent.witness ≡ (lengths s).witness
      pub witness :
          (y : Elem q)
          → eval sent.witness y ⊗ vanishing c.|X| y ≡ eval (interpolate c.|C| z) y ⊖ eval x̂ y ⊕ r ⊗ vanishing c.|C| y
      -- so ẑ = ŵ v_X + x̂ takes the values z on C
      pub assigns : values_on c.|C| ẑ ≡ z
      -- m, 2|C|: "as given; its values over C add to 0"
      pub mask-length : length sent.mask ≡ (lengths s).mask
      pub mask : sent.mask ≡ m
      pub mask-sum : sum_over c.|C| (eval sent.mask) ≡ 𝟘
      -- h0, |R|-1: "ẑ_A ẑ_B - ẑ_C = h0 v_R"
      pub row_quotient-length : length sent.row_quotient ≡ (lengths s).row_quotient
      pub row : (y : Elem q) → row_left (sums c ẑ y) ≡ row_right s y (eval sent.row_quotient y)
      -- σ_A, σ_B, σ_C, 1 each: "ẑ_M(α)"
      pub sums-true : (M : MatrixName) → at sent.sums M ≡ image c ẑ M α
      -- g1, h1, |C|-1 and |C|: "m + Σ η_M M̂(α,Y) ẑ(Y) = h1 v_C + Y g1 + σ/|C|"
      pub line_remainder-length : length sent.line_remainder ≡ (lengths s).line_remainder
      pub line_quotient-length : length sent.line_quotient ≡ (lengths s).line_quotient
      pub line :
          (y : Elem q)
          → line_left η (values c α y) (eval sent.mask y) (eval ẑ y)
          ≡ line_right s y (weighted η sent.sums) (eval sent.line_remainder y) (eval sent.line_quotient y)
      -- ω_A, ω_B, ω_C, 1 each: "M̂(α,β)"
      pub values-true : (M : MatrixName) → at sent.values M ≡ extension c M α β
      -- g_M, |K_M|-1: "a_M - b_M (Y g_M + ω_M/|K_M|) = h_M v_{K_M}"; "h_M has length |K_M|-1"
      pub matrix_remainder-length : (M : MatrixName) → length (at sent.matrix_remainders M) ≡ at (lengths s).matrix_remainders M
      pub quotients : MatrixName → Poly q
      pub matrix_quotient-length : (M : MatrixName) → length (quotients M) ≡ at s.|K| M - 1
      pub matrix :
          (M : MatrixName) (y : Elem q)
          → matrix_left s (t y) M (index_at (index c M) y) (eval (at sent.matrix_remainders M) y) ≡ matrix_right s M y (eval (quotients M) y)
      -- h2, |K|-1: "Σ δ_M (|K_M|/|K|) h_M"
      pub joined_quotient-length : length sent.joined_quotient ≡ (lengths s).joined_quotient
      pub joined :
          (y : Elem q)
          → eval sent.joined_quotient y
          ≡ sum_matrices (λ M. at δ M ⊗ (of (at s.|K| M) ⊘ of (largest s.|K|)) ⊗ eval (quotients M) y)

  -- the honest messages of every job that the refusals let through keep the rules
  abbrev pub RulesKept : Type 0
  RulesKept =
      (j : Job) → job_refusal q j ≡ none
      → KeepsRules j.circuit (map of j.z) (of j.r) (map of j.m) (of j.α) (map_three of j.η) (of j.β) (map_three of j.δ) (proof q j)

  -- the job of a prover's input and all challenges
  abbrev pub input_job : ProverInput → ℕ → Three ℕ → ℕ → Three ℕ → ℕ → Job
  input_job i α η β δ γ =
      record { circuit = circuit_of i.circuit; z = i.z; r = i.r; m = i.m; α = α; η = η; β = β; δ = δ; γ = γ }

  -- the prover's calls are done, and their results are these messages and openings; a lent slice is as long as its result
  pub record CallsDone (i : ProverInput) (α : ℕ) (η : Three ℕ) (β : ℕ) (δ : Three ℕ) (γ : ℕ) (sent : Messages (List ℕ) ℕ) (o : Openings ℕ) : Type 0 where
    pub first : first_round_call q i (length sent.witness) (length sent.row_quotient) ≡ Done (sent.witness, sent.row_quotient)
    pub mask : sent.mask ≡ i.m
    pub second : second_round_call q i α ≡ Done sent.sums
    pub third :
        third_round_call q i α η (length sent.line_remainder) (length sent.line_quotient) ≡ Done (sent.line_remainder, sent.line_quotient)
    pub fourth : fourth_round_call q i α η β (map_three length sent.matrix_remainders) ≡ Done (sent.values, sent.matrix_remainders)
    pub fifth : fifth_round_call q i α η β δ (length sent.joined_quotient) ≡ Done sent.joined_quotient
    pub opened : openings_call q i α η β δ γ ≡ Done (list_openings o)

  -- where the prover's calls are done, their results together are the proof of that job, which nothing refuses, and its true openings
  abbrev pub CallsGiveProof : Type 0
  CallsGiveProof =
      (i : ProverInput) (α : ℕ) (η : Three ℕ) (β : ℕ) (δ : Three ℕ) (γ : ℕ) (sent : Messages (List ℕ) ℕ) (o : Openings ℕ)
      → CallsDone i α η β δ γ sent o
      → let j : Job = input_job i α η β δ γ in
      (job_refusal q j ≡ none) × (sent ≡ map_messages words word_of (proof q j)) × (o ≡ map_openings word_of (true_openings q j (proof q j)))

  -- the converse: for a job that fits, with whole entry lists and lent slices as long as the messages, each of the six calls is done
  abbrev pub FittingCallsDone : Type 0
  FittingCallsDone =
      (i : ProverInput) (α : ℕ) (η : Three ℕ) (β : ℕ) (δ : Three ℕ) (γ : ℕ)
      → let j : Job = input_job i α η β δ γ in
      Hold (entry_lists max_size i.circuit) → Fits q j
      → CallsDone i α η β δ γ (map_messages words word_of (proof q j)) (map_openings word_of (true_openings q j (proof q j)))

  -- "The index polynomials give back the matrices"
  abbrev pub IndexGivesBack : Type 0
  IndexGivesBack = (c : Circuit) → Admitted q c → (M : MatrixName) → decode (sizes_of c) M (index {q = q} c M) ≡ at c.matrices M

  -- "a proof record read gives what was written": the sizes, and each section as its bytes, whose words are those written
  abbrev pub ReadWritten : Type 0
  ReadWritten =
      (s : Sizes) (parts : List (List ℕ))
      → size_refusal (six_size_tests s) ≡ none
      → map length parts ≡ section_lengths s
      → word_refusal q (foldr ◌++◌ [] parts) ≡ none
      → (read_record (write_record s parts) q ≡ Done (record { sizes = s; parts = map bytes_of parts })) × (map words_in (map bytes_of parts) ≡ parts)

  -- the record of these messages reads, and each of them is in its own section, which has just its length: "Sections in order w, m, h0, s
  -- (the σ), g1, h1, o (the ω), ga, gb, gc, h2"
  pub record Recorded (n : Sizes) (sent : Messages (List ℕ) ℕ) : Type 0 where
    pub found : Contents
    pub read : read_record (write_record n (sections sent)) q ≡ Done found
    pub sizes : found.sizes ≡ n
    pub eleven : length found.parts ≡ 11
    pub w : Section found 0 sent.witness
    pub m : Section found 1 sent.mask
    pub h0 : Section found 2 sent.row_quotient
    pub s : Section found 3 (listed sent.sums)
    pub g1 : Section found 4 sent.line_remainder
    pub h1 : Section found 5 sent.line_quotient
    pub o : Section found 6 (listed sent.values)
    pub ga : Section found 7 sent.matrix_remainders.a
    pub gb : Section found 8 sent.matrix_remainders.b
    pub gc : Section found 9 sent.matrix_remainders.c
    pub h2 : Section found 10 sent.joined_quotient

  -- so it is with every honest proof
  abbrev pub ProofRecorded : Type 0
  ProofRecorded = (j : Job) → job_refusal q j ≡ none → Recorded (sizes_of j.circuit) (map_messages words word_of (proof q j))

  -- no record that reads is written otherwise: writing what was read gives the same bytes
  abbrev pub WrittenRead : Type 0
  WrittenRead =
      (bytes : List ℕ) (found : Contents) → All (λ b. b < 256) bytes → read_record bytes q ≡ Done found
      → write_record found.sizes (map words_in found.parts) ≡ bytes

  -- every step is taken, and the verdict is Accept when it is asked for and when the openings are committed
  abbrev pub accepted : List Answer
  accepted = ending_in Accept

  -- "An honest proof of a satisfied circuit is accepted at all allowed challenges": for every job that fits, and no step is refused
  abbrev pub HonestAccepted : Type 0
  HonestAccepted = (j : Job) → Fits q j → honest_conversation q j ≡ accepted

  -- the same said of what the prover's calls return
  abbrev pub CallsAccepted : Type 0
  CallsAccepted =
      (i : ProverInput) (α : ℕ) (η : Three ℕ) (β : ℕ) (δ : Three ℕ) (γ : ℕ) (sent : Messages (List ℕ) ℕ) (o : Openings ℕ)
      → CallsDone i α η β δ γ sent o → conversation q (input_job i α η β δ γ) sent o ≡ accepted

  -- what each verdict says, of the equations of the checks
  module _ (s : Sizes) (x : List (Elem q)) (t : Transcript (Elem q)) (o : Openings (Elem q)) where
    abbrev pub Says : Verdict → Type 0
    Says Accept = Holds s x t o Row × Holds s x t o Line × Holds s x t o Matrix
    Says (Fails Row) = ¬ Holds s x t o Row
    Says (Fails Line) = Holds s x t o Row × ¬ Holds s x t o Line
    Says (Fails Matrix) = Holds s x t o Row × Holds s x t o Line × ¬ Holds s x t o Matrix

  -- "The verdict is Accept, or Fails with the check that failed first"
  abbrev pub VerdictMeans : Type 0
  VerdictMeans = (s : Sizes) (x : List (Elem q)) (t : Transcript (Elem q)) (o : Openings (Elem q)) → Says s x t o (verdict s x t o)

-- for every prime that qualifies
pub record Demand2 (q : Prime) : Type 0 where
  pub rules-kept : RulesKept q
  pub calls_give_proof : CallsGiveProof q
  pub fitting_calls_done : FittingCallsDone q
  pub index_gives_back : IndexGivesBack q
  pub read-written : ReadWritten q
  pub proof_recorded : ProofRecorded q
  pub written_read : WrittenRead q
  pub honest-accepted : HonestAccepted q
  pub calls_accepted : CallsAccepted q
  pub verdict_means : VerdictMeans q

abbrev pub Demand2Holds : Type 0
Demand2Holds = (q : Prime) → Qualifies q → Demand2 q
