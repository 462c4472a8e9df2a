-- How the contracts of rounds 4 and 5 name what they are given: a circuit by its sizes and one matrix's entries, challenges outside its
-- domains, lists with a word for each row and for each column, the terms of M̂(α,β) and what round 4 leaves. Assumes nothing.
use Rattle.std.specs.Prelude.{◌≡◌, List, ◌++◌, map, ℕ, ◌-◌, ◌<◌, length, get_or, replicate}
use Rattle.algebra.specs.Counting.{All}
use Rattle.algebra.specs.Lists.{tabulate}
use Rattle.field.specs.Prime.{Prime}
use Rattle.field.specs.Element.{Elem, of, 𝟘, ◌⊗◌, ◌⊖◌, word_of, words}
use Rattle.domain.specs.Size.{size_for}
use Rattle.domain.specs.Domain.{element, lagrange, Outside}
use Rattle.domain.specs.Qualifies.{Qualifies}
use Rattle.domain.specs.Known.{Known}
use Rattle.protocol.specs.Three.{MatrixName, A, B, C, Three, at, map_three}
use Rattle.protocol.specs.Circuit.{Entry, Circuit, extension}
use Rattle.protocol.specs.Calls.{entries_of}
use Rattle.protocol.specs.Messages.{values, matrix_remainder}
use Rattle.protocol.proofs.AdmissionLaws.{WellFormed}
use Rattle.circuit.specs.Given.{EntryWords, Within}
use Rattle.circuit.specs.declared.given.CircuitWords as declared

-- a circuit k with r rows and c columns whose matrix M has the given entries, for a prime that the code knows by its value p
pub record Given (q : Prime) (p r c : ℕ) (entries : List ℕ) (k : Circuit) (M : MatrixName) : Type 0 where
  pub known : Known q p
  pub qualifies : Qualifies q
  pub rows : k.|R| ≡ r
  pub columns : k.|C| ≡ c
  pub matrix : at k.matrices M ≡ entries_of entries

-- the circuit is well-formed, and the challenges lie outside R and C
pub record Challenged (q : Prime) (p : ℕ) (k : Circuit) (alpha beta : ℕ) : Type 0 where
  pub well_formed : WellFormed p k
  pub α-outside : Outside {q = q} k.|R| (of alpha)
  pub β-outside : Outside {q = q} k.|C| (of beta)

-- three entry lists
abbrev pub lists : List ℕ → List ℕ → List ℕ → Three (List ℕ)
lists ea eb ec = record { a = ea; b = eb; c = ec }

-- those of the circuit that a call is given
abbrev pub word_lists : declared.CircuitWords → Three (List ℕ)
word_lists k = lists k.matrices.a.now k.matrices.b.now k.matrices.c.now

-- whole entries, not over 1,024, within a matrix that has a row and a column
pub record EntriesWithin (r c : ℕ) (entries : List ℕ) : Type 0 where
  pub words : EntryWords entries
  pub within : All (Within r c) (entries_of entries)
  pub some-row : 0 < r
  pub some-column : 0 < c

-- three such lists
pub record ThreeWithin (r c : ℕ) (ea eb ec : List ℕ) : Type 0 where
  pub in_a : EntriesWithin r c ea
  pub in_b : EntriesWithin r c eb
  pub in_c : EntriesWithin r c ec

abbrev pub CircuitWithin : ℕ → ℕ → declared.CircuitWords → Type 0
CircuitWithin r c k = ThreeWithin r c k.matrices.a.now k.matrices.b.now k.matrices.c.now

-- |K_M| of a list of entries
abbrev pub size_of : List ℕ → ℕ
size_of l = size_for (length (entries_of l))

module _ {q : Prime} where
  -- L of each element of the domain of size n at y, in order
  abbrev pub lagrange_values : ℕ → Elem q → List (Elem q)
  lagrange_values n y = tabulate n (λ i. lagrange n (element n i) y)

  -- n(y - a) for each element a of the domain of size n, in order
  abbrev pub distances : ℕ → Elem q → List (Elem q)
  distances n y = tabulate n (λ i. of n ⊗ (y ⊖ element n i))

  -- the word of an entry's row times that of its column
  abbrev pub product_of : List ℕ → List ℕ → Entry → Elem q
  product_of rows columns e = of (get_or rows e.row 0) ⊗ of (get_or columns e.column 0)

  -- an entry's term of M̂(α,β): value × L_row(α) × L_col(β), over r rows and c columns
  abbrev pub term_of : ℕ → ℕ → Elem q → Elem q → Entry → Elem q
  term_of r c α β e = of e.value ⊗ lagrange r (element r e.row) α ⊗ lagrange c (element c e.column) β

  abbrev pub terms : ℕ → ℕ → Elem q → Elem q → List ℕ → List (Elem q)
  terms r c α β entries = map (term_of r c α β) (entries_of entries)

  -- zeros after the last, n in all
  abbrev pub padded : ℕ → List (Elem q) → List (Elem q)
  padded n l = l ++ replicate (n - length l) 𝟘

-- the rows have their Lagrange values at alpha, the columns theirs at beta
pub record LagrangeLists (q : Prime) (r c alpha beta : ℕ) (rows columns : List ℕ) : Type 0 where
  pub by_row : rows ≡ words (lagrange_values {q = q} r (of alpha))
  pub by_column : columns ≡ words (lagrange_values {q = q} c (of beta))

-- the rows have |R|(alpha - row), the columns |C|(beta - column)
pub record DistanceLists (q : Prime) (r c alpha beta : ℕ) (rows columns : List ℕ) : Type 0 where
  pub by_row : rows ≡ words (distances {q = q} r (of alpha))
  pub by_column : columns ≡ words (distances {q = q} c (of beta))

-- what one matrix leaves in round 4: the words of g_M, and ω_M
pub record ValueMade (q : Prime) (k : Circuit) (M : MatrixName) (alpha beta : ℕ) (g : List ℕ) (value : ℕ) : Type 0 where
  pub is-remainder : g ≡ words (matrix_remainder {q = q} k (of alpha) (of beta) M)
  pub is-value : value ≡ (extension {q = q} k M (of alpha) (of beta)).word

-- what the three leave
pub record ValuesMade (q : Prime) (k : Circuit) (alpha beta : ℕ) (ga gb gc : List ℕ) (three : Three ℕ) : Type 0 where
  pub remainder-a : ga ≡ words (matrix_remainder {q = q} k (of alpha) (of beta) A)
  pub remainder-b : gb ≡ words (matrix_remainder {q = q} k (of alpha) (of beta) B)
  pub remainder-c : gc ≡ words (matrix_remainder {q = q} k (of alpha) (of beta) C)
  pub are_values : three ≡ map_three word_of (values {q = q} k (of alpha) (of beta))
