-- The public calls on circuits, polynomials, domains and records as functions of words: the rows of document 01's table of
-- refusals that apply, in its order, and the result. A lent slice is given by its length; where the call is done it holds the words of
-- the result, and where it is refused it stays as it was. (The session's calls are in Session.) Assumes nothing.
use Rattle.std.specs.Prelude.{Bool, ◌&&◌, ℕ, ◌+◌, ◌*◌, ◌%◌, eqb, leb, ltb, length, get_or}
use mathlib.Core.List.{List, [], ◌∷◌, ◌++◌, map, foldr}
use Rattle.std.proofs.Math.Option
use Rattle.std.proofs.Math.Option.{Option}
use Rattle.algebra.specs.Polynomial.{Running, map_running}
use Rattle.field.specs.Prime.{Prime}
use Rattle.field.specs.Element.{Elem, of, word_of, words, ◌⊕◌, ◌⊗◌, ◌⊖◌}
use Rattle.field.specs.Power.{power, inverse}
use Rattle.domain.specs.Size.{max_size, is_size}
use Rattle.domain.specs.Domain.{domain}
use Rattle.domain.specs.Polynomial.{Poly, eval, eval_part, values_on, interpolate}
use Rattle.protocol.specs.Three.{MatrixName, Three, at, each, listed, map_three}
use Rattle.protocol.specs.Circuit.{Entry, Circuit, Sizes, sizes_of, public_part}
use Rattle.protocol.specs.Index.{Index, map_index, index}
use Rattle.protocol.specs.Checks.{list_openings}
use Rattle.protocol.specs.Messages.{MessageLengths, lengths, witness, assignment, row_quotient, sums, values, line, line_remainder, line_quotient, matrix_remainder, joined_quotient, messages, openings}
use Rattle.protocol.specs.Refusals.{Refusal, Outcome, Done, Refused, judged, after, first, refuse, pairs, trailer_bytes, six_size_tests, size_refusal, list_refusal, word_refusal, inverse_outcome}
use Rattle.protocol.specs.Record.{section_lengths, starts_from, section_bytes, write_record, sizes_read, end_row, trailer_row, word_row, read_record}
use Rattle.protocol.specs.Admission.{circuit_refusals, assignment_tests, prover_refusal}

-- the most words to evaluate: "over 2,048 words to evaluate"
abbrev pub max_words : ℕ
max_words = 2048

-- a circuit as calls have it: three sizes, and for each matrix the words row, column, value of its entries
pub record CircuitWords : Type 0 where
  pub |R| : ℕ
  pub |C| : ℕ
  pub |X| : ℕ
  pub matrices : Three (List ℕ)

unfoldable pub entries_of : List ℕ → List Entry
entries_of [] = []
entries_of (i ∷ []) = []
entries_of (i ∷ (k ∷ [])) = []
entries_of (i ∷ (k ∷ (v ∷ l))) = record { row = i; column = k; value = v } ∷ entries_of l

unfoldable pub words_of_entries : List Entry → List ℕ
words_of_entries [] = []
words_of_entries (e ∷ es) = e.row ∷ e.column ∷ e.value ∷ words_of_entries es

unfoldable pub circuit_of : CircuitWords → Circuit
circuit_of c = record { |R| = c.|R|; |C| = c.|C|; |X| = c.|X|; matrices = map_three entries_of c.matrices }

-- whole entries, and not over 1,024 of them: a test for each matrix
unfoldable pub entry_list_tests : CircuitWords → List Bool
entry_list_tests c = listed (map_three (λ l. eqb (length l % 3) 0 && leb (length l) (3 * max_size)) c.matrices)

-- what every prover call begins with
pub record ProverInput : Type 0 where
  pub circuit : CircuitWords
  pub z : List ℕ
  pub r : ℕ
  pub m : List ℕ

module _ (q : Prime) where
  -- an operation on two field words
  unfoldable pub operation_call : (Elem q → Elem q → Elem q) → ℕ → ℕ → Outcome ℕ
  operation_call ◌∘◌ a b = judged (word_refusal q (a ∷ b ∷ [])) (◌∘◌ (of a) (of b)).word

  abbrev pub add_call : ℕ → ℕ → Outcome ℕ
  add_call = operation_call ◌⊕◌

  abbrev pub subtract_call : ℕ → ℕ → Outcome ℕ
  subtract_call = operation_call ◌⊖◌

  abbrev pub multiply_call : ℕ → ℕ → Outcome ℕ
  multiply_call = operation_call ◌⊗◌

  -- a^n, where n is any number
  unfoldable pub power_call : ℕ → ℕ → Outcome ℕ
  power_call a n = judged (word_refusal q (a ∷ [])) (power (of {q = q} a) n).word

  -- 1/a
  unfoldable pub inverse_call : ℕ → Outcome ℕ
  inverse_call a = after (word_refusal q (a ∷ [])) (inverse_outcome (Option.map word_of (inverse (of {q = q} a))))

  -- the n elements of a domain into a lent slice
  unfoldable pub domain_call : ℕ → ℕ → Outcome (List ℕ)
  domain_call n lent = judged (first (size_refusal (is_size n ∷ []) ∷ list_refusal (eqb lent n ∷ []) ∷ [])) (words (domain {q = q} n))

  -- the refusal of n coefficients to evaluate, where these are the field words
  abbrev pub evaluation_refusal : ℕ → List ℕ → Option Refusal
  evaluation_refusal n ws = first (list_refusal (leb n max_words ∷ []) ∷ word_refusal q ws ∷ [])

  -- a polynomial's value
  unfoldable pub evaluate_call : List ℕ → ℕ → Outcome ℕ
  evaluate_call f y = judged (evaluation_refusal (length f) (f ++ (y ∷ []))) (eval {q = q} (map of f) (of y)).word

  -- evaluation taken up midway (document 02, request 5): the words in order are sum, power, point, then the part
  unfoldable pub evaluate_part_call : Running ℕ → ℕ → List ℕ → Outcome (Running ℕ)
  evaluate_part_call r y part =
      judged
      (evaluation_refusal (length part) (r.sum ∷ r.power ∷ y ∷ part))
      (map_running word_of (eval_part {q = q} (map_running of r) (of y) (map of part)))

  -- the refusal of a size n, a list of n field words and a lent slice of n
  abbrev pub transform_refusal : ℕ → List ℕ → ℕ → Option Refusal
  transform_refusal n ws lent =
      first (size_refusal (is_size n ∷ []) ∷ list_refusal (eqb (length ws) n ∷ eqb lent n ∷ []) ∷ word_refusal q ws ∷ [])

  -- the polynomial with given values on the domain of size n into a lent slice
  unfoldable pub interpolate_call : ℕ → List ℕ → ℕ → Outcome (List ℕ)
  interpolate_call n vs lent = judged (transform_refusal n vs lent) (words (interpolate {q = q} n (map of vs)))

  -- the values of a polynomial of length n on the domain of size n into a lent slice (document 02, request 6)
  unfoldable pub evaluate_on_domain_call : ℕ → List ℕ → ℕ → Outcome (List ℕ)
  evaluate_on_domain_call n f lent = judged (transform_refusal n f lent) (words (values_on {q = q} n (map of f)))

  -- the twelve index polynomials into twelve lent slices, each of length |K_M|
  unfoldable pub index_call : CircuitWords → Three (Index ℕ) → Outcome (Three (Index (List ℕ)))
  index_call c lent =
      let circuit : Circuit = circuit_of c in
      let lentTests : MatrixName → Index Bool = λ M. map_index (λ n. eqb n (at (sizes_of circuit).|K| M)) (at lent M) in
      judged
      (first
      (circuit_refusals q circuit
      (entry_list_tests c ++ foldr (λ (i : Index Bool) tests. i.row ∷ i.col ∷ i.rowcol ∷ i.rowcolval ∷ tests) [] (listed (each lentTests))) []))
      (each (λ M. map_index words (index {q = q} circuit M)))

  module _ (i : ProverInput) where
    abbrev circuit : Circuit
    circuit = circuit_of i.circuit

    abbrev z : List (Elem q)
    z = map of i.z

    abbrev m : Poly q
    m = map of i.m

    -- ŵ and ẑ
    abbrev ŵ : Poly q
    ŵ = witness circuit z (of i.r)

    abbrev ẑ : Poly q
    ẑ = assignment circuit (public_part circuit z) ŵ

    abbrev due : MessageLengths
    due = lengths (sizes_of circuit)

    -- the refusal of a prover call, from the lengths of its lent slices, the lengths that they must have, all its challenge
    -- words in order, and those among them that have a forbidden domain
    unfoldable pub round_refusal : List ℕ → List ℕ → List ℕ → List ℕ → Option Refusal
    round_refusal lent given challenges points =
        prover_refusal q circuit
        (entry_list_tests i.circuit ++ (assignment_tests circuit i.z i.m ++ pairs eqb lent given))
        i.z i.r i.m challenges points

    -- round 1: ŵ and h0 into lent slices
    unfoldable pub first_round_call : ℕ → ℕ → Outcome (List ℕ × List ℕ)
    first_round_call lentWitness lentRowQuotient =
        judged (round_refusal (lentWitness ∷ lentRowQuotient ∷ []) (due.witness ∷ due.row_quotient ∷ []) [] [])
        (words ŵ, words (row_quotient circuit ẑ))

    -- round 2: the σ
    unfoldable pub second_round_call : ℕ → Outcome (Three ℕ)
    second_round_call α = judged (round_refusal [] [] (α ∷ []) (α ∷ [])) (map_three (λ (a : Elem q). a.word) (sums circuit ẑ (of α)))

    -- round 3: g1 and h1 into lent slices
    unfoldable pub third_round_call : ℕ → Three ℕ → ℕ → ℕ → Outcome (List ℕ × List ℕ)
    third_round_call α η lentRemainder lentQuotient =
        let f : Poly q = line circuit m ẑ (of α) (map_three of η) in
        judged
        (round_refusal (lentRemainder ∷ lentQuotient ∷ []) (due.line_remainder ∷ due.line_quotient ∷ []) (α ∷ listed η) (α ∷ []))
        (words (line_remainder circuit f), words (line_quotient circuit f))

    -- round 4: the ω, and the g_M into lent slices
    unfoldable pub fourth_round_call : ℕ → Three ℕ → ℕ → Three ℕ → Outcome (Three ℕ × Three (List ℕ))
    fourth_round_call α η β lent =
        judged
        (round_refusal (listed lent) (listed due.matrix_remainders) (α ∷ (listed η ++ (β ∷ []))) (α ∷ β ∷ []))
        (map_three (λ (a : Elem q). a.word) (values circuit (of α) (of β)), each (λ M. words (matrix_remainder {q = q} circuit (of α) (of β) M)))

    -- round 5: h2 into a lent slice
    unfoldable pub fifth_round_call : ℕ → Three ℕ → ℕ → Three ℕ → ℕ → Outcome (List ℕ)
    fifth_round_call α η β δ lent =
        judged
        (round_refusal (lent ∷ []) (due.joined_quotient ∷ []) (α ∷ (listed η ++ (β ∷ listed δ))) (α ∷ β ∷ []))
        (words (joined_quotient {q = q} circuit (of α) (of β) (map_three of δ)))

    -- the 21 openings
    unfoldable pub openings_call : ℕ → Three ℕ → ℕ → Three ℕ → ℕ → Outcome (List ℕ)
    openings_call α η β δ γ =
        judged
        (round_refusal [] [] (α ∷ (listed η ++ (β ∷ (listed δ ++ (γ ∷ []))))) (α ∷ β ∷ γ ∷ []))
        (words
        (list_openings
        (openings (messages circuit z (of i.r) m (of α) (map_three of η) (of β) (map_three of δ)) (each (index circuit)) (of α) (of β) (of γ))))

  -- a record of eleven sections into lent bytes
  unfoldable pub write_call : Sizes → List (List ℕ) → ℕ → Outcome (List ℕ)
  write_call s parts lent =
      judged
      (first
      (size_refusal (six_size_tests s)
      ∷ list_refusal (pairs eqb (map length parts) (section_lengths s) ++ (eqb lent (section_bytes s + trailer_bytes) ∷ []))
      ∷ word_refusal q (foldr ◌++◌ [] parts)
      ∷ []))
      (write_record s parts)

  -- section k of a record as a part of its bytes: empty where the record is refused or has no such section
  unfoldable pub section_call : List ℕ → ℕ → List ℕ
  section_call bytes k = elim (read_record bytes q) as (λ o. List ℕ) [ Done found ↦ get_or found.parts k [] | Refused r ↦ [] ]

  -- where section k stands in a record: its byte start and its length in bytes. A number above 10 names a list that is not there:
  -- 5, with "which list" as its position
  unfoldable pub place_call : List ℕ → ℕ → Outcome (ℕ × ℕ)
  place_call bytes k =
      let l : List ℕ = section_lengths (sizes_read bytes) in
      judged
      (first (end_row bytes ∷ trailer_row bytes ∷ refuse 5 k (ltb k 11 ∷ []) ∷ word_row bytes q ∷ []))
      (get_or (starts_from 0 l) k 0, 4 * get_or l k 0)
