-- A job by its words, as the code takes it: its text, and the parts of a whole job. Assumes nothing.
use Rattle.std.specs.Prelude.{◌≡◌, List, ℕ, ◌-◌, ◌*◌, ltb, take, drop, get_or}
use Rattle.algebra.specs.Lists.{pick}
use Rattle.domain.specs.BabyBear.{baby_bear}
use Rattle.protocol.specs.Calls.{ProverInput}
use Rattle.circuit.specs.Given.{prover_input}
use Rattle.job.specs.declared.parts.Places.{Places}
use Rattle.circuit.specs.declared.given.Challenges.{Challenges}
use Rattle.report.specs.ProofText.{unless_refused, outcome_text}
use Rattle.job.specs.JobText.{too_long, too_short, head_refusal, placeB, placeC, placeZ, placeR, placeM, placeα, job_length, job_of}

-- the text of a job of so many bytes, by its words
unfoldable pub words_text : ℕ → List ℕ → List ℕ
words_text count ws =
    unless_refused (head_refusal ws)
    (pick (ltb (4 * job_length ws) count) too_long (pick (ltb count (4 * job_length ws)) too_short (outcome_text baby_bear (job_of ws))))

-- the places where the parts begin are those of a job's definition
abbrev pub Placed : List ℕ → Places → Type 0
Placed ws p =
    (p.b ≡ placeB ws) × (p.c ≡ placeC ws) × (p.z ≡ placeZ ws) × (p.mask ≡ placeR ws) × (p.m ≡ placeM ws) × (p.challenges ≡ placeα ws)

-- α, three η, β, three δ, γ
abbrev pub challenges_of : List ℕ → Challenges
challenges_of ws =
    let word : ℕ → ℕ = λ k. get_or ws k 0 in
    record {
      alpha = word 0;
      eta = record { a = word 1; b = word 2; c = word 3 };
      beta = word 4;
      delta = record { a = word 5; b = word 6; c = word 7 };
      gamma = word 8;
    }

-- the words from one place to another
abbrev pub between : List ℕ → ℕ → ℕ → List ℕ
between ws from to = take (to - from) (drop from ws)

-- a prover's input by the places where the entries of B and C, z, r and m begin, and where m ends
abbrev pub input_at : List ℕ → ℕ → ℕ → ℕ → ℕ → ℕ → ℕ → ProverInput
input_at ws b c z r m end =
    let word : ℕ → ℕ = λ k. get_or ws k 0 in
    prover_input (word 0) (word 1) (word 2) (between ws 6 b) (between ws b c) (between ws c z) (between ws z r) (word r) (between ws m end)
