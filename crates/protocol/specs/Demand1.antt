-- Demand 1: "The answer of every public call, for all words, slices and orders of session steps, is a complete result or the first refusal
-- in document 01's table that applies; a refusal changes no lent slice and no session". For each call and each step, what is asked of its
-- inputs, row by row and in words: it is done, or taken, exactly when all of this holds, and else refused by the first condition that
-- fails, with that row's number and that condition's position. (What is done then is in Calls, Session, Grown and Blinded; a lent slice of
-- a refused call stays by the contracts of the code.) Statements only; the proofs are in proofs/. Assumes nothing.
use Rattle.std.specs.Prelude.{◌≡◌, ◌≢◌, ◌↔◌, ℕ, ◌+◌, ◌-◌, ◌<◌, ◌≤◌, length, get_or, take, drop}
use mathlib.Core.List.{List, [], ◌∷◌, ◌++◌, map, foldr}
use Rattle.algebra.specs.Counting.{All, MoreThan, Member}
use Rattle.algebra.specs.Polynomial.{Running}
use Rattle.field.specs.Prime.{Prime}
use Rattle.field.specs.Element.{Elem, of, 𝟘}
use Rattle.domain.specs.Size.{max_size}
use Rattle.protocol.specs.Three.{MatrixName, A, B, C, Three, at, listed, map_three}
use Rattle.protocol.specs.Circuit.{Entry, Circuit, Sizes, sizes_of, largest}
use Rattle.protocol.specs.Index.{Index, list_index}
use Rattle.protocol.specs.Checks.{Openings, list_transcript, list_openings}
use Rattle.protocol.specs.Messages.{lengths}
use Rattle.protocol.specs.Refusals.{Refusal, trailer_bytes}
use Rattle.protocol.specs.Admission.{Admitted}
use Rattle.protocol.specs.Session.{Session, Stepped, Answer, Taken, Judged, Refused, open_step, alpha_step, eta_step, beta_step, delta_step, gamma_step, ask_step, commit_step, verdict_of}
use Rattle.protocol.specs.Record.{section_lengths, section_bytes, words_in, read_record}
use Rattle.protocol.specs.Calls.{CircuitWords, ProverInput, max_words, circuit_of, operation_call, power_call, inverse_call, domain_call, evaluate_call, evaluate_part_call, interpolate_call, evaluate_on_domain_call, index_call, write_call, place_call}
use Rattle.protocol.specs.Calls.{first_round_call, second_round_call, third_round_call, fourth_round_call, fifth_round_call, openings_call}
use Rattle.protocol.specs.Job.{Job, job_refusal}
use Rattle.protocol.specs.Grown.{grown_lists, grown_circuit, begin_call, begin_from_call, add_entry_call, remove_entry_call, find_row_call, grown_index_call}
use Rattle.protocol.specs.Growing.{number, Correct}
use Rattle.protocol.specs.Blinded.{reserved_row, reserved_columns, Blindable, blind_call}
use Rattle.protocol.specs.Blinding.{Public}
use Rattle.protocol.specs.Table.{Row, row, Met, FirstRefusal, Refuses, Answers}
use Rattle.protocol.specs.Rows.{Size, NoElement, size_conditions, six_size_conditions, InTurn, equal_conditions, end_row, trailer_rows, lists_row, entry_lists, assignment_conditions, Stands, constant_row, declared_row}
use Rattle.protocol.specs.Rows.{words_row, challenge_row, circuit_rows, prover_rows, Formed, job_rows}

-- a step answers this exactly when every row is met, and is else refused by the first refusal, which leaves the session
pub record Steps (rows : List Row) (answer : Answer) (s : Session) (stepped : Stepped) : Type 0 where
  pub met : Met rows → stepped.answer ≡ answer
  pub taken : stepped.answer ≡ answer → Met rows
  pub first : (f : Refusal) → FirstRefusal rows f → stepped ≡ record { session = s; answer = Refused f }
  pub refused : (f : Refusal) → stepped.answer ≡ Refused f → FirstRefusal rows f

-- an entry stands at row i, column j
abbrev pub Occupied : ℕ → ℕ → List Entry → Type 0
Occupied i j es = (e : Entry) × (Member e es × ((e.row ≡ i) × (e.column ≡ j)))

-- three columns that aren't public, and no "entry in the reserved row or columns" (document 02, request 4)
abbrev pub Reservable : Circuit → Type 0
Reservable c =
    MoreThan 2 (λ i. (i < c.|C|) × (¬ Public c i))
    × All (λ (e : Entry). (e.row ≢ reserved_row c) × ((M : MatrixName) → e.column ≢ at (reserved_columns c) M))
    (c.matrices.a ++ (c.matrices.b ++ c.matrices.c))

-- 15, blinding
abbrev pub blinding_row : Circuit → Row
blinding_row c = row 15 0 (Reservable c ∷ [])

module _ (q : Prime) where
  -- n coefficients to evaluate, where these are the field words
  abbrev pub evaluation_rows : ℕ → List ℕ → List Row
  evaluation_rows n ws = lists_row ((n ≤ max_words) ∷ []) ∷ words_row q ws ∷ []

  -- a size n, a list of n field words and a lent slice of n
  abbrev pub transform_rows : ℕ → List ℕ → ℕ → List Row
  transform_rows n ws lent = row 4 0 (Size n ∷ []) ∷ lists_row ((length ws ≡ n) ∷ (lent ≡ n) ∷ []) ∷ words_row q ws ∷ []

  -- a circuit and twelve lent slices, each of |K_M| words
  abbrev pub index_rows : CircuitWords → Three (Index ℕ) → List Row
  index_rows c lent =
      let slices : MatrixName → List (Type 0) = λ M. map (λ n. n ≡ at (sizes_of (circuit_of c)).|K| M) (list_index (at lent M)) in
      circuit_rows q (circuit_of c) (entry_lists max_size c ++ (slices A ++ (slices B ++ slices C))) []

  -- a prover's input with lent slices of the lengths that are due, all challenge words, and those among them that have a forbidden domain
  abbrev pub round_rows : ProverInput → List ℕ → List ℕ → List ℕ → List ℕ → List Row
  round_rows i lent due challenges points =
      let c : Circuit = circuit_of i.circuit in
      prover_rows q c (entry_lists max_size i.circuit ++ (assignment_conditions c i.z i.m ++ equal_conditions lent due)) i.z i.r i.m
      challenges points

  -- a record, with what is asked between its trailer and its words
  abbrev pub record_rows : List ℕ → List Row → List Row
  record_rows bytes between =
      end_row bytes ∷ (trailer_rows bytes ++ (between ++ (words_row q (words_in (take (length bytes - trailer_bytes) bytes)) ∷ [])))

  -- a session as steps leave it before the openings: |X| public words, of which the first is 1, and zeros after them; a transcript of
  -- field words, α outside R, β outside C, γ outside K
  pub record Left (s : Session) : Type 0 where
    pub constant : get_or s.x 0 0 ≡ 1
    pub public_words_lem : All (λ w. w < q.p) (take s.sizes.|X| s.x)
    pub zeros : All (λ w. w ≡ 0) (drop s.sizes.|X| s.x)
    pub transcript-words : All (λ w. w < q.p) (list_transcript s.transcript)
    pub α-outside : NoElement {q = q} s.sizes.|R| (of s.transcript.α)
    pub β-outside : NoElement {q = q} s.sizes.|C| (of s.transcript.β)
    pub γ-outside : NoElement {q = q} (largest s.sizes.|K|) (of s.transcript.γ)

  -- "open (the six sizes in trailer order, x)"
  abbrev pub open_rows : Sizes → List ℕ → List Row
  open_rows n x = row 4 0 (six_size_conditions n) ∷ lists_row ((length x ≡ n.|X|) ∷ []) ∷ words_row q x ∷ constant_row x ∷ []

  -- a step with declared lengths and a challenge y, which is forbidden the domain of size d: 1 comes first, then 6, then 10, then 11; a
  -- length counts within its step
  abbrev pub challenged_rows : Session → ℕ → ℕ → ℕ → ℕ → List ℕ → List ℕ → List Row
  challenged_rows s n position d y declared table =
      row 1 0 (InTurn n s ∷ []) ∷ words_row q (y ∷ []) ∷ challenge_row q position (d ∷ []) (y ∷ []) ∷ declared_row declared table ∷ []

  -- a record to write, into lent bytes
  abbrev pub write_rows : Sizes → List (List ℕ) → ℕ → List Row
  write_rows s sections lent =
      row 4 0 (six_size_conditions s)
      ∷ lists_row (equal_conditions (map length sections) (section_lengths s) ++ ((lent ≡ section_bytes s + trailer_bytes) ∷ []))
      ∷ words_row q (foldr ◌++◌ [] sections)
      ∷ []

  -- an entry to put into matrix M of a circuit
  abbrev pub add_rows : Circuit → MatrixName → Entry → List Row
  add_rows k M e =
      let es : List Entry = at k.matrices M in
      lists_row ((length es < max_size) ∷ [])
      ∷ words_row q (e.value ∷ [])
      ∷ row 7 0 (Stands k e ∷ [])
      ∷ row 14 0 ((¬ Occupied e.row e.column es) ∷ [])
      ∷ []

  -- a circuit to blind, with room for one entry more in each list: 15 comes after 7, and 13 after 15
  abbrev pub blind_rows : CircuitWords → List ℕ → Three ℕ → Three ℕ → ℕ → List Row
  blind_rows c z ρ lent lentAssignment =
      circuit_rows q (circuit_of c)
      (entry_lists (max_size - 1) c
      ++ ((length z ≡ c.|C|)
      ∷ (equal_conditions (listed lent) (listed (map_three (λ l. length l + 3) c.matrices)) ++ ((lentAssignment ≡ c.|C|) ∷ []))))
      (z ++ listed ρ)
      ++ (blinding_row (circuit_of c) ∷ constant_row z ∷ [])

  -- the openings, asked about or committed
  abbrev pub openings_rows : Session → Openings ℕ → List Row
  openings_rows s o = row 1 0 ((InTurn 6 s × Left s) ∷ []) ∷ words_row q (list_openings o) ∷ []

-- for every prime
pub record Demand1 (q : Prime) : Type 0 where
  -- "every circuit that the table of refusals lets through" is every circuit that is well formed, and a job is let through when it fits
  pub circuits : (c : Circuit) → Admitted q c ↔ Formed q c
  pub jobs : (j : Job) → Refuses (job_rows q j) (job_refusal q j)
  -- field, polynomials and domains
  pub operations : (◌∘◌ : Elem q → Elem q → Elem q) (a b : ℕ) → Answers (words_row q (a ∷ b ∷ []) ∷ []) (operation_call q ◌∘◌ a b)
  pub powers : (a n : ℕ) → Answers (words_row q (a ∷ []) ∷ []) (power_call q a n)
  pub inverses : (a : ℕ) → Answers (words_row q (a ∷ []) ∷ row 12 0 ((of {q = q} a ≢ 𝟘) ∷ []) ∷ []) (inverse_call q a)
  pub domains : (n lent : ℕ) → Answers (row 4 0 (Size n ∷ []) ∷ lists_row ((lent ≡ n) ∷ []) ∷ []) (domain_call q n lent)
  pub evaluations : (f : List ℕ) (y : ℕ) → Answers (evaluation_rows q (length f) (f ++ (y ∷ []))) (evaluate_call q f y)
  pub parts :
      (r : Running ℕ) (y : ℕ) (part : List ℕ)
      → Answers (evaluation_rows q (length part) (r.sum ∷ r.power ∷ y ∷ part)) (evaluate_part_call q r y part)
  pub interpolations : (n : ℕ) (vs : List ℕ) (lent : ℕ) → Answers (transform_rows q n vs lent) (interpolate_call q n vs lent)
  pub values_on_domains : (n : ℕ) (f : List ℕ) (lent : ℕ) → Answers (transform_rows q n f lent) (evaluate_on_domain_call q n f lent)
  -- the indexer
  pub indexes : (c : CircuitWords) (lent : Three (Index ℕ)) → Answers (index_rows q c lent) (index_call q c lent)
  -- the prover's six calls; "α 0, β 1, γ 2"
  pub first_round :
      (i : ProverInput) (ŵ h0 : ℕ)
      → let due = lengths (sizes_of (circuit_of i.circuit)) in
      Answers (round_rows q i (ŵ ∷ h0 ∷ []) (due.witness ∷ due.row_quotient ∷ []) [] []) (first_round_call q i ŵ h0)
  pub second_round : (i : ProverInput) (α : ℕ) → Answers (round_rows q i [] [] (α ∷ []) (α ∷ [])) (second_round_call q i α)
  pub third_round :
      (i : ProverInput) (α : ℕ) (η : Three ℕ) (g1 h1 : ℕ)
      → let due = lengths (sizes_of (circuit_of i.circuit)) in
      Answers (round_rows q i (g1 ∷ h1 ∷ []) (due.line_remainder ∷ due.line_quotient ∷ []) (α ∷ listed η) (α ∷ [])) (third_round_call q i α η g1 h1)
  pub fourth_round :
      (i : ProverInput) (α : ℕ) (η : Three ℕ) (β : ℕ) (g : Three ℕ)
      → let due = lengths (sizes_of (circuit_of i.circuit)) in
      Answers (round_rows q i (listed g) (listed due.matrix_remainders) (α ∷ (listed η ++ (β ∷ []))) (α ∷ β ∷ [])) (fourth_round_call q i α η β g)
  pub fifth_round :
      (i : ProverInput) (α : ℕ) (η : Three ℕ) (β : ℕ) (δ : Three ℕ) (h2 : ℕ)
      → let due = lengths (sizes_of (circuit_of i.circuit)) in
      Answers (round_rows q i (h2 ∷ []) (due.joined_quotient ∷ []) (α ∷ (listed η ++ (β ∷ listed δ))) (α ∷ β ∷ [])) (fifth_round_call q i α η β δ h2)
  pub openings :
      (i : ProverInput) (α : ℕ) (η : Three ℕ) (β : ℕ) (δ : Three ℕ) (γ : ℕ)
      → Answers (round_rows q i [] [] (α ∷ (listed η ++ (β ∷ (listed δ ++ (γ ∷ []))))) (α ∷ β ∷ γ ∷ [])) (openings_call q i α η β δ γ)
  -- the session's steps
  pub opens : (s : Session) (n : Sizes) (x : List ℕ) → Steps (open_rows q n x) Taken s (open_step q s n x)
  pub hears_α :
      (s : Session) (ŵ m h0 α : ℕ)
      → let most = lengths s.sizes in
      Steps (challenged_rows q s 1 0 s.sizes.|R| α (ŵ ∷ m ∷ h0 ∷ []) (most.witness ∷ most.mask ∷ most.row_quotient ∷ [])) Taken s
      (alpha_step q s ŵ m h0 α)
  pub hears_η :
      (s : Session) (σ η : Three ℕ) → Steps (row 1 0 (InTurn 2 s ∷ []) ∷ words_row q (listed σ ++ listed η) ∷ []) Taken s (eta_step q s σ η)
  pub hears_β :
      (s : Session) (g1 h1 β : ℕ)
      → let most = lengths s.sizes in
      Steps (challenged_rows q s 3 1 s.sizes.|C| β (g1 ∷ h1 ∷ []) (most.line_remainder ∷ most.line_quotient ∷ [])) Taken s
      (beta_step q s g1 h1 β)
  pub hears_δ :
      (s : Session) (ω g δ : Three ℕ)
      → Steps
      (row 1 0 (InTurn 4 s ∷ [])
      ∷ words_row q (listed ω ++ listed δ)
      ∷ declared_row (listed g) (listed (lengths s.sizes).matrix_remainders)
      ∷ [])
      Taken s (delta_step q s ω g δ)
  pub hears_γ :
      (s : Session) (h2 γ : ℕ)
      → Steps (challenged_rows q s 5 2 (largest s.sizes.|K|) γ (h2 ∷ []) ((lengths s.sizes).joined_quotient ∷ [])) Taken s
      (gamma_step q s h2 γ)
  pub asks : (s : Session) (o : Openings ℕ) → Steps (openings_rows q s o) (Judged (verdict_of q s o)) s (ask_step q s o)
  pub commits : (s : Session) (o : Openings ℕ) → Steps (openings_rows q s o) (Judged (verdict_of q s o)) s (commit_step q s o)
  -- the proof record
  pub writes : (s : Sizes) (sections : List (List ℕ)) (lent : ℕ) → Answers (write_rows q s sections lent) (write_call q s sections lent)
  pub reads : (bytes : List ℕ) → Answers (record_rows q bytes []) (read_record bytes q)
  pub finds_section : (bytes : List ℕ) (k : ℕ) → Answers (record_rows q bytes (row 5 k ((k < 11) ∷ []) ∷ [])) (place_call q bytes k)
  -- circuits that grow: from either beginning on, memory is `Correct`
  pub begins : (r c x : ℕ) → Answers (row 4 0 (size_conditions r c x []) ∷ []) (begin_call r c x)
  pub begins_from : (c : CircuitWords) → Answers (circuit_rows q (circuit_of c) (entry_lists max_size c) []) (begin_from_call q c)
  pub adds :
      (w : List ℕ) → Correct q w → (M : MatrixName) (e : Entry) → Answers (add_rows q (grown_circuit w) M e) (add_entry_call q w (number M) e)
  pub removes :
      (w : List ℕ) → Correct q w → (M : MatrixName) (i j : ℕ)
      → Answers (row 14 0 (Occupied i j (at (grown_circuit w).matrices M) ∷ []) ∷ []) (remove_entry_call w (number M) i j)
  pub finds_row :
      (w : List ℕ) → Correct q w → (M : MatrixName) (i : ℕ)
      → Answers (row 7 0 ((i < (grown_circuit w).|R|) ∷ []) ∷ []) (find_row_call w (number M) i)
  pub indexes_grown : (w : List ℕ) (lent : Three (Index ℕ)) → Answers (index_rows q (grown_lists w) lent) (grown_index_call q w lent)
  -- blinding
  pub blinds :
      (c : CircuitWords) (z : List ℕ) (ρ lent : Three ℕ) (lentAssignment : ℕ)
      → Answers (blind_rows q c z ρ lent lentAssignment) (blind_call q c z ρ lent lentAssignment)
  pub blindable :
      (c : Circuit)
      → Blindable q c
      ↔ Met (circuit_rows q c (map (λ (es : List Entry). length es < max_size) (listed c.matrices)) [] ++ (blinding_row c ∷ []))
