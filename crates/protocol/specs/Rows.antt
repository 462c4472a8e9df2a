-- The rows of the table of refusals as conditions, in document 01's words and not by tests ("Refusals by place of check"; document 02 adds
-- rows), and the rows that calls with a circuit have in common. Assumes nothing.
use Rattle.std.specs.Prelude.{◌≡◌, ◌≢◌, ◌⊎◌, List, [], ◌∷◌, ◌++◌, map, ℕ, ◌-◌, ◌*◌, ◌^◌, ◌<◌, ◌≤◌, length, get_or}
use Rattle.algebra.specs.Lists.{tabulate}
use Rattle.field.specs.Prime.{Prime}
use Rattle.field.specs.Element.{Elem, of, 𝟘, ◌⊗◌}
use Rattle.domain.specs.Size.{max_size}
use Rattle.domain.specs.Domain.{element, sum_over}
use Rattle.domain.specs.Polynomial.{eval}
use Rattle.protocol.specs.Three.{MatrixName, A, B, C, listed}
use Rattle.protocol.specs.Circuit.{Entry, Circuit, Sizes, sizes_of, largest, row_sum}
use Rattle.protocol.specs.Refusals.{trailer_bytes}
use Rattle.protocol.specs.Session.{Session}
use Rattle.protocol.specs.Record.{starts_from, section_lengths, section_bytes, trailer_word, sizes_read}
use Rattle.protocol.specs.Calls.{CircuitWords}
use Rattle.protocol.specs.Job.{Job}
use Rattle.protocol.specs.Table.{Row, row, Hold, Met, for_each, for_pairs}

-- "a size is a power of two from 1 to 1,024"
abbrev pub Size : ℕ → Type 0
Size n = (k : ℕ) × (k ≤ 10) × (n ≡ 2 ^ k)

-- y lies outside the domain of size n: it is none of its elements
abbrev pub NoElement : {q : Prime} → ℕ → Elem q → Type 0
NoElement n y = (i : ℕ) → i < n → y ≢ element n i

-- each of |R|, |C|, |X| and of the sizes after them is allowed, and |X| is not above |C|, which counts at |X|'s place
abbrev pub size_conditions : ℕ → ℕ → ℕ → List ℕ → List (Type 0)
size_conditions r c x more = Size r ∷ Size c ∷ (Size x × (x ≤ c)) ∷ map Size more

abbrev pub six_size_conditions : Sizes → List (Type 0)
six_size_conditions s = size_conditions s.|R| s.|C| s.|X| (listed s.|K|)

-- numbers that must be these
abbrev pub equal_conditions : List ℕ → List ℕ → List (Type 0)
equal_conditions = for_pairs (λ given due. given ≡ due)

-- 1, session: the step is in turn. As many steps were taken as come before it, and the sizes are allowed, as the opening leaves them
abbrev pub InTurn : ℕ → Session → Type 0
InTurn n s = (s.stage ≡ n) × Hold (six_size_conditions s.sizes)

-- 2, record end: "under 72 bytes, not whole words, or last word not length - 72"
abbrev pub end_row : List ℕ → Row
end_row bytes =
    row 2 0
    (((trailer_bytes ≤ length bytes) × ((k : ℕ) × (length bytes ≡ 4 * k)) × (trailer_word bytes 17 ≡ length bytes - trailer_bytes)) ∷ [])

-- 3, trailer: "a size not allowed or |X| above |C|; then a start, then a total length that the sizes don't give"; the sizes are the
-- trailer's words 11 to 16, the starts 0 to 10, and 17 stands for the total length
abbrev pub trailer_rows : List ℕ → List Row
trailer_rows bytes =
    let s : Sizes = sizes_read bytes in
    row 3 11 (six_size_conditions s)
    ∷ row 3 0 (equal_conditions (tabulate 11 (trailer_word bytes)) (starts_from 0 (section_lengths s)))
    ∷ row 3 17 ((length bytes - trailer_bytes ≡ section_bytes s) ∷ [])
    ∷ []

-- 5, lists: each of the lists, and then of the lent slices, has the length that it must have
abbrev pub lists_row : List (Type 0) → Row
lists_row = row 5 0

-- a list of whole entries, row, column and value each, with at most n of them
abbrev pub EntryList : ℕ → List ℕ → Type 0
EntryList n l = (k : ℕ) × (k ≤ n) × (length l ≡ 3 * k)

-- the lists of a circuit: whole entries, and at most n of them in each
abbrev pub entry_lists : ℕ → CircuitWords → List (Type 0)
entry_lists n c = map (EntryList n) (listed c.matrices)

-- "over 1,024 entries": a condition for each matrix
abbrev pub count_conditions : Circuit → List (Type 0)
count_conditions c = map (λ (es : List Entry). length es ≤ max_size) (listed c.matrices)

-- z has |C| words, m 2|C|
abbrev pub assignment_conditions : Circuit → List ℕ → List ℕ → List (Type 0)
assignment_conditions c z m = (length z ≡ c.|C|) ∷ (length m ≡ 2 * c.|C|) ∷ []

-- 7: an entry stands within its matrix, and its value is not 0
abbrev pub Stands : Circuit → Entry → Type 0
Stands c e = (e.row < c.|R|) × (e.column < c.|C|) × (e.value ≢ 0)

-- "rising strictly by row and then column": d stands before e
abbrev pub Before : Entry → Entry → Type 0
Before d e = (d.row < e.row) ⊎ ((d.row ≡ e.row) × (d.column < e.column))

-- the entries after d, and all entries of a matrix
abbrev pub entry_conditions_after : Circuit → Entry → List Entry → List (Type 0)
entry_conditions_after c d [] = []
entry_conditions_after c d (e ∷ es) = (Stands c e × Before d e) ∷ entry_conditions_after c e es

abbrev pub entry_conditions : Circuit → List Entry → List (Type 0)
entry_conditions c [] = []
entry_conditions c (e ∷ es) = Stands c e ∷ entry_conditions_after c e es

-- 7, entries: "row or column past its domain, value 0, or order broken", "A then B then C"
abbrev pub entries_row : Circuit → Row
entries_row c =
    row 7 0 (entry_conditions c c.matrices.a ++ (entry_conditions c c.matrices.b ++ entry_conditions c c.matrices.c))

-- 13, column 0: the first word is 1 (document 02, request 2)
abbrev pub constant_row : List ℕ → Row
constant_row ws = row 13 0 ((get_or ws 0 0 ≡ 1) ∷ [])

-- 11, declared lengths: none is "above the table of messages"
abbrev pub declared_row : List ℕ → List ℕ → Row
declared_row declared table = row 11 0 (for_pairs (λ given most. given ≤ most) declared table)

module _ (q : Prime) where
  -- 6, words: none is "a field word of p or more"
  abbrev pub words_row : List ℕ → Row
  words_row ws = row 6 0 (map (λ w. w < q.p) ws)

  -- 8, mask: m adds to 0 over C
  abbrev pub mask_row : Circuit → List ℕ → Row
  mask_row c m = row 8 0 ((sum_over c.|C| (eval {q = q} (map of m)) ≡ 𝟘) ∷ [])

  -- 9, assignment: z satisfies each row, "when the sum of A's values in it, each times z at its column, times the same sum for B, is the
  -- same sum for C"
  abbrev pub assignment_row : Circuit → List ℕ → Row
  assignment_row c z =
      let sum : MatrixName → ℕ → Elem q = λ M i. row_sum c M (map of z) i in
      row 9 0 (for_each c.|R| (λ i. sum A i ⊗ sum B i ≡ sum C i))

  -- 10, challenge: not "in its forbidden domain", for domains by their sizes and challenge words; "α 0, β 1, γ 2"
  abbrev pub challenge_row : ℕ → List ℕ → List ℕ → Row
  challenge_row position ns ys = row 10 position (for_pairs (λ n y. NoElement {q = q} n (of y)) ns ys)

  -- 4, 5, 6 and 7 of a circuit, with what is asked of the lists of the call, and with the words that it has after the circuit's, which
  -- are the entries' values
  abbrev pub circuit_rows : Circuit → List (Type 0) → List ℕ → List Row
  circuit_rows c lists ws =
      let values : List ℕ = map (λ (e : Entry). e.value) (c.matrices.a ++ (c.matrices.b ++ c.matrices.c)) in
      row 4 0 (size_conditions c.|R| c.|C| c.|X| []) ∷ lists_row lists ∷ words_row (values ++ ws) ∷ entries_row c ∷ []

  -- 4 to 8, 13, 9 and 10: z, r and m, all challenge words in order, and those of α, β, γ among them
  abbrev pub prover_rows : Circuit → List (Type 0) → List ℕ → ℕ → List ℕ → List ℕ → List ℕ → List Row
  prover_rows c lists z r m challenges points =
      circuit_rows c lists (z ++ (r ∷ (m ++ challenges)))
      ++ (mask_row c m
      ∷ constant_row z
      ∷ assignment_row c z
      ∷ challenge_row 0 (c.|R| ∷ c.|C| ∷ largest (sizes_of c).|K| ∷ []) points
      ∷ [])

  -- a circuit is well formed: its sizes are allowed, each matrix has at most 1,024 entries, their values are field words, and each entry
  -- stands within its matrix, is not 0 and comes after the one before it
  abbrev pub formed_rows : Circuit → List Row
  formed_rows c = circuit_rows c (count_conditions c) []

  abbrev pub Formed : Circuit → Type 0
  Formed c = Met (formed_rows c)

  -- a job fits: its circuit is well formed, z has |C| words and m 2|C|, all words are field words, m adds to 0 over C, z begins with 1 and
  -- satisfies every row, and α, β, γ are outside R, C, K
  abbrev pub job_rows : Job → List Row
  job_rows j =
      let c : Circuit = j.circuit in
      prover_rows c (count_conditions c ++ assignment_conditions c j.z j.m) j.z j.r j.m
      (j.α ∷ (listed j.η ++ (j.β ∷ (listed j.δ ++ (j.γ ∷ [])))))
      (j.α ∷ j.β ∷ j.γ ∷ [])

  abbrev pub Fits : Job → Type 0
  Fits j = Met (job_rows j)
