-- The proof record (document 01, "Proof record"). Assumes nothing.
use Rattle.std.specs.Prelude.{◌≡◌, ℕ, ◌+◌, ◌-◌, ◌*◌, ◌/◌, ◌%◌, length, take, drop, get_or}
use mathlib.Core.List.{List, [], ◌∷◌, ◌++◌, foldr}
use Rattle.std.proofs.Math.Option.{Option}
use Rattle.algebra.specs.Lists.{tabulate}
use Rattle.field.specs.Prime.{Prime}
use Rattle.protocol.specs.Three.{listed}
use Rattle.protocol.specs.Circuit.{Sizes}
use Rattle.protocol.specs.Messages.{Messages, MessageLengths, lengths}
use Rattle.protocol.specs.Refusals.{Refusal, Outcome, judged, first, trailer_bytes, end_refusal, trailer_refusal, word_refusal}

-- "Little-endian 32-bit words"
unfoldable pub word_bytes : ℕ → List ℕ
word_bytes w = w % 256 ∷ w / 256 % 256 ∷ w / 65536 % 256 ∷ w / 16777216 % 256 ∷ []

unfoldable pub bytes_of : List ℕ → List ℕ
bytes_of ws = foldr (λ w bytes. word_bytes w ++ bytes) [] ws

-- word i of a list of bytes
unfoldable pub word_at : List ℕ → ℕ → ℕ
word_at bytes i =
    let byte : ℕ → ℕ = λ k. get_or bytes (4 * i + k) 0 in
    byte 0 + 256 * byte 1 + 65536 * byte 2 + 16777216 * byte 3

-- the words of a list of bytes
unfoldable pub words_in : List ℕ → List ℕ
words_in bytes = tabulate (length bytes / 4) (word_at bytes)

-- "Sections in order w, m, h0, s (the σ), g1, h1, o (the ω), ga, gb, gc, h2"
unfoldable pub sections : {T : Type 0} → Messages (List T) T → List (List T)
sections sent =
    sent.witness ∷ sent.mask ∷ sent.row_quotient ∷ listed sent.sums ∷ sent.line_remainder ∷ sent.line_quotient ∷ listed sent.values
    ∷ sent.matrix_remainders.a ∷ sent.matrix_remainders.b ∷ sent.matrix_remainders.c ∷ sent.joined_quotient ∷ []

-- their lengths in words, by the table of messages
unfoldable pub section_lengths : Sizes → List ℕ
section_lengths s =
    let l : MessageLengths = lengths s in
    l.witness ∷ l.mask ∷ l.row_quotient ∷ 3 ∷ l.line_remainder ∷ l.line_quotient ∷ 3
    ∷ l.matrix_remainders.a ∷ l.matrix_remainders.b ∷ l.matrix_remainders.c ∷ l.joined_quotient ∷ []

-- "without gaps": the byte start of each section
unfoldable pub starts_from : ℕ → List ℕ → List ℕ
starts_from start [] = []
starts_from start (n ∷ l) = start ∷ starts_from (start + 4 * n) l

-- the bytes of all sections, which is the byte start of the trailer
unfoldable pub section_bytes : Sizes → ℕ
section_bytes s = foldr (λ n total. 4 * n + total) 0 (section_lengths s)

-- "the eleven byte starts, |R|, |C|, |X|, |K_A|, |K_B|, |K_C|, and last the byte start of the trailer"
unfoldable pub trailer : Sizes → List ℕ
trailer s = starts_from 0 (section_lengths s) ++ (s.|R| ∷ s.|C| ∷ s.|X| ∷ (listed s.|K| ++ (section_bytes s ∷ [])))

unfoldable pub write_record : Sizes → List (List ℕ) → List ℕ
write_record s parts = bytes_of (foldr ◌++◌ [] parts ++ trailer s)

-- consecutive parts of the bytes, of given lengths in words: "each section handed back as that part of the caller's bytes"
unfoldable pub parts_of : List ℕ → List ℕ → List (List ℕ)
parts_of bytes [] = []
parts_of bytes (n ∷ l) = take (4 * n) bytes ∷ parts_of (drop (4 * n) bytes) l

-- what reading gives: the sizes and the sections' bytes
pub record Contents : Type 0 where
  pub sizes : Sizes
  pub parts : List (List ℕ)

-- section k of them, counted from 0, holds these words: as many as the sizes give it, and its bytes spell them
abbrev pub Section : Contents → ℕ → List ℕ → Type 0
Section found k ws = (length ws ≡ get_or (section_lengths found.sizes) k 0) × (words_in (get_or found.parts k []) ≡ ws)

-- "Reading begins at the last word and goes back"
module _ (bytes : List ℕ) where
  -- word k of the trailer
  unfoldable pub trailer_word : ℕ → ℕ
  trailer_word k = word_at bytes ((length bytes - trailer_bytes) / 4 + k)

  unfoldable pub sizes_read : Sizes
  sizes_read =
      record {
        |R| = trailer_word 11;
        |C| = trailer_word 12;
        |X| = trailer_word 13;
        |K| = record { a = trailer_word 14; b = trailer_word 15; c = trailer_word 16 };
      }

  -- the rows of the table of refusals that a record can fail: 2, its end
  abbrev pub end_row : Option Refusal
  end_row = end_refusal (length bytes) (trailer_word 17)

  -- 3, its trailer
  abbrev pub trailer_row : Option Refusal
  trailer_row =
      trailer_refusal sizes_read (tabulate 11 trailer_word) (starts_from 0 (section_lengths sizes_read)) (length bytes - trailer_bytes)
      (section_bytes sizes_read)

  -- 6, "a record's sections included"
  abbrev pub word_row : Prime → Option Refusal
  word_row q = word_refusal q (words_in (take (length bytes - trailer_bytes) bytes))

  unfoldable pub record_refusal : Prime → Option Refusal
  record_refusal q = first (end_row ∷ trailer_row ∷ word_row q ∷ [])

  unfoldable pub read_record : Prime → Outcome Contents
  read_record q = judged (record_refusal q) (record { sizes = sizes_read; parts = parts_of bytes (section_lengths sizes_read) })
