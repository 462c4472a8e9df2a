-- The figures of a circuit, a row of the sheet for each: what was given, the sizes, the lengths of the messages, the degrees of the
-- checks, the allowed points, the counts of demand 3, those of whole conversations (document 02, request 7), the honest prover's masks,
-- and how often a conversation is repeated until few false proofs pass, each with the theorem behind it. Assumes nothing.
use Rattle.std.specs.Prelude.{List, [], ◌∷◌, ◌++◌, ℕ, ◌+◌, ◌-◌, ◌*◌, ◌^◌}
use Prim.Native.String.{String}
use Rattle.field.specs.Prime.{Prime}
use Rattle.domain.specs.Size.{size_for}
use Rattle.protocol.specs.Three.{map_three}
use Rattle.protocol.specs.Circuit.{Sizes, largest}
use Rattle.protocol.specs.FalseProofs.{all_tuples, saved_byα, saved_byη, saved_byβ, saved_byδ, saved_byγ, five_counts, one_in_many}
use Rattle.protocol.specs.Messages.{lengths}
use Rattle.protocol.specs.Record.{section_bytes}
use Rattle.protocol.specs.Refusals.{trailer_bytes}
use Rattle.protocol.specs.Repeated.{fewest_repeats}
use Rattle.sheet_lines.specs.Lines.{Given}

-- the circuit's sizes
abbrev pub sizes_for : Given → Sizes
sizes_for g = record { |R| = g.|R|; |C| = g.|C|; |X| = g.|X|; |K| = map_three size_for g.entries }

-- a figure: its name, the number for a circuit, and the theorem that the number comes from
pub record Figure : Type 0 where
  pub name : String
  pub number : Given → ℕ
  pub source : String

abbrev pub figure : String → (Given → ℕ) → String → Figure
figure name number source = record { name = name; number = number; source = source }

-- the largest |K_M|
abbrev |K| : Given → ℕ
|K| g = largest (sizes_for g).|K|

-- what was given, and the sizes
abbrev pub size_figures : List Figure
size_figures =
    figure "|R|" (λ g. g.|R|) "given"
    ∷ figure "|C|" (λ g. g.|C|) "given"
    ∷ figure "|X|" (λ g. g.|X|) "given"
    ∷ figure "entries of A" (λ g. g.entries.a) "given"
    ∷ figure "entries of B" (λ g. g.entries.b) "given"
    ∷ figure "entries of C" (λ g. g.entries.c) "given"
    ∷ figure "size of K_A" (λ g. (sizes_for g).|K|.a) "sizeFor"
    ∷ figure "size of K_B" (λ g. (sizes_for g).|K|.b) "sizeFor"
    ∷ figure "size of K_C" (λ g. (sizes_for g).|K|.c) "sizeFor"
    ∷ figure "size of K" |K| "largest"
    ∷ []

-- the table of messages' column "Length", and the record
abbrev pub length_figures : List Figure
length_figures =
    figure "words of w" (λ g. (lengths (sizes_for g)).witness) "rules-kept"
    ∷ figure "words of m" (λ g. (lengths (sizes_for g)).mask) "rules-kept"
    ∷ figure "words of h0" (λ g. (lengths (sizes_for g)).row_quotient) "rules-kept"
    ∷ figure "words of s" (λ g. 3) "rules-kept"
    ∷ figure "words of g1" (λ g. (lengths (sizes_for g)).line_remainder) "rules-kept"
    ∷ figure "words of h1" (λ g. (lengths (sizes_for g)).line_quotient) "rules-kept"
    ∷ figure "words of o" (λ g. 3) "rules-kept"
    ∷ figure "words of ga" (λ g. (lengths (sizes_for g)).matrix_remainders.a) "rules-kept"
    ∷ figure "words of gb" (λ g. (lengths (sizes_for g)).matrix_remainders.b) "rules-kept"
    ∷ figure "words of gc" (λ g. (lengths (sizes_for g)).matrix_remainders.c) "rules-kept"
    ∷ figure "words of h2" (λ g. (lengths (sizes_for g)).joined_quotient) "rules-kept"
    ∷ figure "bytes of the record" (λ g. section_bytes (sizes_for g) + trailer_bytes) "read-written"
    ∷ []

module _ (q : Prime) where
  -- the degrees and the allowed points of the checks
  abbrev pub check_figures : List Figure
  check_figures =
      figure "degree of Row" (λ g. 2 * g.|R| - 2) "row-means"
      ∷ figure "allowed points of Row" (λ g. q.p - g.|R|) "allowed-points"
      ∷ figure "degree of Line" (λ g. 2 * g.|C| - 1) "line-means"
      ∷ figure "allowed points of Line" (λ g. q.p - g.|C|) "allowed-points"
      ∷ figure "degree of Matrix for A" (λ g. 2 * (sizes_for g).|K|.a - 2) "matrix-means"
      ∷ figure "degree of Matrix for B" (λ g. 2 * (sizes_for g).|K|.b - 2) "matrix-means"
      ∷ figure "degree of Matrix for C" (λ g. 2 * (sizes_for g).|K|.c - 2) "matrix-means"
      ∷ figure "degree of Matrix joined" (λ g. 2 * |K| g - 2) "values-caught"
      ∷ figure "allowed points of Matrix" (λ g. q.p - |K| g) "allowed-points"
      ∷ []

  -- how many triples of challenges save a false claim, of how many
  abbrev pub triple_figures : List Figure
  triple_figures =
      figure "triples of eta" (λ g. q.p * q.p * q.p) "all-triples"
      ∷ figure "triples of eta that save a false sum" (λ g. q.p * q.p) "sums-caught"
      ∷ figure "triples of delta" (λ g. q.p * q.p * q.p) "all-triples"
      ∷ figure "triples of delta that save a false matrix value, at most" (λ g. q.p * q.p) "values-caught"
      ∷ []

  -- how many tuples of challenges end in Accept though there is no witness, of how many
  abbrev pub tuple_figures : List Figure
  tuple_figures =
      figure "allowed challenge tuples" (λ g. all_tuples q (sizes_for g)) "allowed-tuples"
      ∷ figure "tuples that alpha saves, at most" (λ g. saved_byα q (sizes_for g)) "saved-by-alpha"
      ∷ figure "tuples that eta saves, at most" (λ g. saved_byη q (sizes_for g)) "saved-by-eta"
      ∷ figure "tuples that beta saves, at most" (λ g. saved_byβ q (sizes_for g)) "saved-by-beta"
      ∷ figure "tuples that delta saves, at most" (λ g. saved_byδ q (sizes_for g)) "saved-by-delta"
      ∷ figure "tuples that gamma saves, at most" (λ g. saved_byγ q (sizes_for g)) "saved-by-gamma"
      ∷ figure "tuples accepted without a witness, at most" (λ g. five_counts q (sizes_for g)) "few-accepted"
      ∷ figure "tuples accepted without a witness, at most one in" (λ g. one_in_many q (sizes_for g)) "one-in"
      ∷ []

-- how many masks the honest prover may take, and how many of them lead to the same three openings
abbrev pub mask_figures : List Figure
mask_figures =
    figure "masks, as a power of p" (λ g. 2 * g.|C|) "all-masks"
    ∷ figure "masks for one list of openings, as a power of p" (λ g. 2 * g.|C| - 3) "any-three"
    ∷ []

module _ (q : Prime) where
  -- how many conversations, all to be accepted, until at most one list of challenge tuples in so many lets a false proof pass
  abbrev pub repeat_figures : List Figure
  repeat_figures =
      figure "conversations for at most one false proof in 2^64" (λ g. fewest_repeats (one_in_many q (sizes_for g)) (2 ^ 64)) "one-list-in"
      ∷ figure "conversations for at most one false proof in 2^128" (λ g. fewest_repeats (one_in_many q (sizes_for g)) (2 ^ 128)) "one-list-in"
      ∷ []

  -- the rows on whole conversations
  abbrev pub conversation_figures : List Figure
  conversation_figures = tuple_figures q ++ (mask_figures ++ repeat_figures)

  -- all rows of the sheet
  unfoldable pub figures : List Figure
  figures = size_figures ++ (length_figures ++ (check_figures q ++ (triple_figures q ++ conversation_figures)))
