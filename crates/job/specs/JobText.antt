-- What program `prove` prints for a job's bytes (document 01, "The square case"). Bytes and ASCII codes are numbers. Assumes
-- nothing.
use Rattle.std.specs.Prelude.{List, [], ◌∷◌, ℕ, ◌+◌, ◌*◌, leb, ltb, length, take, drop, get_or}
use Rattle.std.proofs.Math.Option.{Option}
use Rattle.algebra.specs.Lists.{pick}
use Rattle.field.specs.Prime.{Prime}
use Rattle.domain.specs.Size.{max_size}
use Rattle.protocol.specs.Refusals.{Refusal, first, size_tests, size_refusal, list_refusal}
use Rattle.protocol.specs.Calls.{entries_of}
use Rattle.protocol.specs.Record.{words_in}
use Rattle.protocol.specs.Job.{Job}
use Rattle.text.specs.Ascii.{ascii}
use Rattle.report.specs.ProofText.{unless_refused, outcome_text}

abbrev pub too_long : List ℕ
too_long = ascii "job too long\n"

abbrev pub too_short : List ℕ
too_short = ascii "job too short\n"

-- "A job over 4,096 bytes"; the bytes of the sizes and counts
abbrev pub max_bytes : ℕ
max_bytes = 4096

abbrev pub head_bytes : ℕ
head_bytes = 24

-- a job's words: "|R| |C| |X|; three entry counts; entries of A, B, C; z; r; m; α; η; β; δ; γ"
module _ (ws : List ℕ) where
  abbrev word : ℕ → ℕ
  word i = get_or ws i 0

  -- so many words from a place on
  abbrev part : ℕ → ℕ → List ℕ
  part at count = take count (drop at ws)

  -- the places of B's entries, C's entries, z, r, m and α
  abbrev pub placeB : ℕ
  placeB = 6 + 3 * word 3

  abbrev pub placeC : ℕ
  placeC = placeB + 3 * word 4

  abbrev pub placeZ : ℕ
  placeZ = placeC + 3 * word 5

  abbrev pub placeR : ℕ
  placeR = placeZ + word 1

  abbrev pub placeM : ℕ
  placeM = placeR + 1

  abbrev pub placeα : ℕ
  placeα = placeM + 2 * word 1

  -- α, three η, β, three δ, γ are the last nine words
  unfoldable pub job_length : ℕ
  job_length = placeα + 9

  unfoldable pub job_of : Job
  job_of =
      record {
        circuit =
            record {
              |R| = word 0;
              |C| = word 1;
              |X| = word 2;
              matrices =
                  record { a = entries_of (part 6 (3 * word 3)); b = entries_of (part placeB (3 * word 4)); c = entries_of (part placeC (3 * word 5)) };
            };
        z = part placeZ (word 1);
        r = word placeR;
        m = part placeM (2 * word 1);
        α = word placeα;
        η = record { a = word (placeα + 1); b = word (placeα + 2); c = word (placeα + 3) };
        β = word (placeα + 4);
        δ = record { a = word (placeα + 5); b = word (placeα + 6); c = word (placeα + 7) };
        γ = word (placeα + 8);
      }

  -- "sizes and counts are judged (4, 5)"
  unfoldable pub head_refusal : Option Refusal
  head_refusal =
      first
      (size_refusal (size_tests (word 0) (word 1) (word 2) [])
      ∷ list_refusal (leb (word 3) max_size ∷ leb (word 4) max_size ∷ leb (word 5) max_size ∷ [])
      ∷ [])

module _ (q : Prime) where
  -- "A job over 4,096 bytes prints `job too long`, one that ends before its sizes and counts `job too short`; then sizes and counts are
  -- judged (4, 5); then bytes left over print `job too long`, an unfinished job `job too short`"; then the
  -- rows from 6 on
  unfoldable pub job_text : List ℕ → List ℕ
  job_text bytes =
      let ws : List ℕ = words_in bytes in
      pick (ltb max_bytes (length bytes)) too_long
      (pick (ltb (length bytes) head_bytes) too_short
      (unless_refused (head_refusal ws)
      (pick (ltb (4 * job_length ws) (length bytes)) too_long
      (pick (ltb (length bytes) (4 * job_length ws)) too_short (outcome_text q (job_of ws))))))
