-- The text of a job in the parts in which the code puts it: what the rounds give, and the session's last answer. Assumes nothing.
use Rattle.std.specs.Prelude.{◌≡◌, List, [], ◌++◌, ℕ, ◌+◌, ◌*◌, ◌/◌, get_or}
use Rattle.std.proofs.Math.Option.{none}
use Rattle.algebra.specs.Lists.{tabulate}
use Rattle.field.specs.Element.{of, word_of, words}
use Rattle.domain.specs.BabyBear.{baby_bear}
use Rattle.domain.specs.Polynomial.{Poly}
use Rattle.protocol.specs.Three.{Three, each, listed, map_three}
use Rattle.protocol.specs.Circuit.{Circuit, Sizes, sizes_of}
use Rattle.protocol.specs.Checks.{Openings}
use Rattle.protocol.specs.Messages.{MessageLengths, lengths, row_quotient, sums, values, line_remainder, line_quotient, matrix_remainder, joined_quotient}
use Rattle.protocol.specs.Refusals.{Outcome, Done, Refused}
use Rattle.protocol.specs.Session.{Answer, Session, Stepped, unopened, open_step, alpha_step, eta_step, beta_step, delta_step, gamma_step, ask_step, commit_step}
use Rattle.protocol.specs.Calls.{ProverInput, round_refusal}
use Rattle.protocol.specs.Job.{Job, challenge_words, challenge_points}
use Rattle.protocol.specs.Demand2.{input_job}
use Rattle.shared.specs.Meanings.{three, openings}
use Rattle.shared.specs.declared.Opened.{Opened}
use Rattle.shared.specs.declared.Three as declared
use Rattle.openings.specs.declared.IndexOpened.{IndexOpened}
use Rattle.varuna.specs.Answers.{index_arrays}
use Rattle.prover.specs.CallGiven.{circuit_in, witness_in, assignment_in, line_in}
use Rattle.circuit.specs.declared.given.Challenges.{Challenges}
use Rattle.report.specs.ProofText.{line, section_names, answer_text}

-- the line of section k
abbrev pub section : ℕ → List ℕ → List ℕ
section k ws = line (get_or section_names k []) ws

-- a round with these challenge words and points is not refused, its lent slices aside
pub record Free (i : ProverInput) (challenges points : List ℕ) : Type 0 where
  pub none-refused : round_refusal baby_bear i [] [] challenges points ≡ none

-- the job of a prover's input and the challenges drawn
abbrev pub job_drawn : ProverInput → Challenges → Job
job_drawn i d = input_job baby_bear i d.alpha (three d.eta) d.beta (three d.delta) d.gamma

-- its openings are not refused
abbrev pub FreeJob : ProverInput → Challenges → Type 0
FreeJob i d = Free i (challenge_words (job_drawn i d)) (challenge_points (job_drawn i d))

-- the lengths of the messages
abbrev pub due : ProverInput → MessageLengths
due i = lengths (sizes_of (circuit_in baby_bear i))

-- w, m, h0
unfoldable pub first_lines : List ℕ → List ℕ → List ℕ → List ℕ
first_lines w m h = section 0 w ++ (section 1 m ++ section 2 h)

-- g1, h1
unfoldable pub third_lines : List ℕ → List ℕ → List ℕ
third_lines g h = section 4 g ++ section 5 h

-- o, ga, gb, gc
unfoldable pub fourth_lines : Three ℕ → Three (List ℕ) → List ℕ
fourth_lines ω g = section 6 (listed ω) ++ (section 7 g.a ++ (section 8 g.b ++ section 9 g.c))

module _ (i : ProverInput) where
  abbrev c : Circuit
  c = circuit_in baby_bear i

  -- the lines of round 1
  unfoldable pub first_text : List ℕ
  first_text = first_lines (words (witness_in baby_bear i)) i.m (words (row_quotient c (assignment_in baby_bear i)))

  -- the σ
  unfoldable pub sum_words : ℕ → Three ℕ
  sum_words α = map_three word_of (sums c (assignment_in baby_bear i) (of α))

  -- the lines of round 3
  unfoldable pub third_text : ℕ → Three ℕ → List ℕ
  third_text α η =
      let f : Poly baby_bear = line_in baby_bear i α η in
      third_lines (words (line_remainder c f)) (words (line_quotient c f))

  -- the ω, and the g_M
  unfoldable pub value_words : ℕ → ℕ → Three ℕ
  value_words α β = map_three word_of (values {q = baby_bear} c (of α) (of β))

  unfoldable pub remainder_words : ℕ → ℕ → Three (List ℕ)
  remainder_words α β = each (λ M. words (matrix_remainder {q = baby_bear} c (of α) (of β) M))

  -- the lines of round 4
  unfoldable pub fourth_text : ℕ → ℕ → List ℕ
  fourth_text α β = fourth_lines (value_words α β) (remainder_words α β)

  -- h2
  unfoldable pub fifth_text : ℕ → ℕ → Three ℕ → List ℕ
  fifth_text α β δ = section 10 (words (joined_quotient {q = baby_bear} c (of α) (of β) (map_three of δ)))

-- three words; zeros for a refusal
abbrev pub three_or_zeros : Outcome (Three ℕ) → Three ℕ
three_or_zeros (Done t) = t
three_or_zeros (Refused r) = each (λ M. 0)

-- the session on messages of the lengths l: after the σ and η
unfoldable pub after_sums : Sizes → MessageLengths → List ℕ → ℕ → Three ℕ → Three ℕ → Session
after_sums s l x α σ η =
    let opened : Stepped = open_step baby_bear unopened s x in
    let afterα : Stepped = alpha_step baby_bear opened.session l.witness l.mask l.row_quotient α in
    (eta_step baby_bear afterα.session σ η).session

-- after the ω and δ
unfoldable pub after_values : Session → MessageLengths → ℕ → Three ℕ → Three ℕ → Session
after_values before l β ω δ =
    let afterβ : Stepped = beta_step baby_bear before l.line_remainder l.line_quotient β in
    (delta_step baby_bear afterβ.session ω l.matrix_remainders δ).session

-- the answer to the openings, which are asked about and then committed
unfoldable pub answer_after : Session → MessageLengths → ℕ → Openings ℕ → Answer
answer_after before l γ o =
    let afterγ : Stepped = gamma_step baby_bear before l.joined_quotient γ in
    (commit_step baby_bear (ask_step baby_bear afterγ.session o).session o).answer

-- the last of the answers
abbrev pub last_answer : Sizes → MessageLengths → List ℕ → Challenges → Three ℕ → Three ℕ → Openings ℕ → Answer
last_answer s l x d σ ω o =
    answer_after (after_values (after_sums s l x d.alpha σ (three d.eta)) l d.beta ω (three d.delta)) l d.gamma o

-- the public words of z
abbrev pub public_of : Sizes → List ℕ → List ℕ
public_of s z = tabulate s.|X| (λ i. get_or z (i * (s.|C| / s.|X|)) 0)

-- the openings as the session hears them
abbrev pub opened_meaning : Opened → declared.Three IndexOpened → Openings ℕ
opened_meaning o i = openings o (index_arrays i)

-- the last line, by the sizes, z, the challenges, the σ, the ω and the openings
abbrev pub last_text : Sizes → List ℕ → Challenges → Three ℕ → Three ℕ → Openings ℕ → List ℕ
last_text s z d σ ω o = answer_text (last_answer s (lengths s) (public_of s z) d σ ω o)

-- o, ga, gb, gc, h2 and the last line
unfoldable pub rest_text : ProverInput → Challenges → Three ℕ → Openings ℕ → List ℕ
rest_text i d σ o =
    fourth_text i d.alpha d.beta
    ++ (fifth_text i d.alpha d.beta (three d.delta)
    ++ last_text (sizes_of (circuit_in baby_bear i)) i.z d σ (value_words i d.alpha d.beta) o)

-- the text of a job that is not refused, with its openings
unfoldable pub stages_text : ProverInput → Challenges → Openings ℕ → List ℕ
stages_text i d o =
    let σ : Three ℕ = sum_words i d.alpha in
    first_text i ++ (section 3 (listed σ) ++ (third_text i d.alpha (three d.eta) ++ rest_text i d σ o))

-- the most bytes of a line of 1,024 words
abbrev pub most_line : ℕ
most_line = 11267

-- of a line of three words, and of the last line
abbrev pub most_three : ℕ
most_three = 35

abbrev pub most_last : ℕ
most_last = 40

-- of o, ga, gb, gc, of all from o on, and of all
abbrev pub most_fourth : ℕ
most_fourth = most_three + 3 * most_line

abbrev pub most_rest : ℕ
most_rest = most_fourth + most_line + most_last

abbrev pub most_proof : ℕ
most_proof = 6 * most_line + most_three + most_rest
