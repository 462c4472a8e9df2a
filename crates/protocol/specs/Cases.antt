-- The proved cases P1 to P12, one table and one fact (document 01, "The square case", as document 02, request 2, has it). Assumes nothing.
use Rattle.std.specs.Prelude.{◌≡◌, refl, ℕ, ◌-◌}
use mathlib.Core.List.{List, [], ◌∷◌, map, Option-to_list}
use Rattle.std.proofs.Math.Option.{Option, some}
use Rattle.field.specs.Element.{Elem, of, words, ◌⊗◌}
use Rattle.field.specs.Power.{inverse}
use Rattle.domain.specs.Domain.{domain}
use Rattle.domain.specs.Polynomial.{Poly}
use Rattle.domain.specs.BabyBear.{baby_bear}
use Rattle.protocol.specs.Three.{Three, listed, map_three}
use Rattle.protocol.specs.Circuit.{Entry}
use Rattle.protocol.specs.Checks.{Openings, Row, Line, Matrix, Accept, Fails}
use Rattle.protocol.specs.Messages.{Messages}
use Rattle.protocol.specs.Refusals.{Refusal}
use Rattle.protocol.specs.Session.{Answer}
use Rattle.protocol.specs.Conversation.{ending_in}
use Rattle.protocol.specs.Job.{Job, job_refusal, proof, true_openings, conversation_on, honest_conversation}
use Rattle.protocol.specs.Computes.{protocol_computes}

-- p - 1, which is -1
abbrev minus_one : ℕ
minus_one = baby_bear.p - 1

abbrev triple : ℕ → ℕ → ℕ → Three ℕ
triple a b c = record { a = a; b = b; c = c }

abbrev entry : ℕ → ℕ → ℕ → List Entry
entry i k v = record { row = i; column = k; value = v } ∷ []

-- the job 1 2 1, 1 1 1, 0 1 1, 0 1 1, 0 0 9, 1 3, 1, 1 0 2013265920 1, 2, 1 1 2, 3, 1 1 1, 5, with another z for P12
abbrev square : List ℕ → Job
square z =
    record {
      circuit = record { |R| = 1; |C| = 2; |X| = 1; matrices = record { a = entry 0 1 1; b = entry 0 1 1; c = entry 0 0 9 } };
      z = z;
      r = 1;
      m = 1 ∷ 0 ∷ minus_one ∷ 1 ∷ [];
      α = 2;
      η = triple 1 1 2;
      β = 3;
      δ = triple 1 1 1;
      γ = 5;
    }

abbrev job : Job
job = square (1 ∷ 3 ∷ [])

abbrev honest : Messages (Poly baby_bear) (Elem baby_bear)
honest = proof baby_bear job

abbrev opened : Openings (Elem baby_bear)
opened = true_openings baby_bear job honest

-- the messages with other σ and ω
abbrev claiming : Three (Elem baby_bear) → Three (Elem baby_bear) → Messages (Poly baby_bear) (Elem baby_bear)
claiming σ ω =
    record {
      witness = honest.witness;
      mask = honest.mask;
      row_quotient = honest.row_quotient;
      sums = σ;
      line_remainder = honest.line_remainder;
      line_quotient = honest.line_quotient;
      values = ω;
      matrix_remainders = honest.matrix_remainders;
      joined_quotient = honest.joined_quotient;
    }

-- the openings with another rowcolval_A
abbrev misread : Elem baby_bear → Openings (Elem baby_bear)
misread v =
    let i = opened.index in
    record {
      witness = opened.witness;
      mask = opened.mask;
      line_remainder = opened.line_remainder;
      line_quotient = opened.line_quotient;
      row_quotient = opened.row_quotient;
      joined_quotient = opened.joined_quotient;
      matrix_remainders = opened.matrix_remainders;
      index = record { a = record { row = i.a.row; col = i.a.col; rowcol = i.a.rowcol; rowcolval = v }; b = i.b; c = i.c };
    }

pub data Value : Type 0 where
  lists : List (List ℕ) → Value
  answers : List Answer → Value
  changed : ℕ → List Answer → Value
  refusal : Option Refusal → Value

pub record Case : Type 0 where
  pub computed : Value
  pub stated : Value

infix 60 ◌is◌
abbrev ◌is◌ : Value → Value → Case
a is b = record { computed = a; stated = b }

-- one list of words, and its elements' words
abbrev list : List ℕ → Value
list l = lists (l ∷ [])

-- answers, with the opening that was changed
abbrev answers_on : Elem baby_bear → List Answer → Value
answers_on a l = changed a.word l

-- P1 to P12, in order
abbrev pub table : List Case
table =
    (list (words (of {q = baby_bear} minus_one ⊗ of minus_one ∷ [])) is list (1 ∷ []))
    ∷ (list (words (Option-to_list (inverse {q = baby_bear} (of 2)))) is list (1006632961 ∷ []))
    ∷ (list (words (domain {q = baby_bear} 2)) is list (1 ∷ minus_one ∷ []))
    ∷ (list (words honest.witness) is list (0 ∷ 1 ∷ []))
    ∷ (list (words (listed honest.sums)) is list (3 ∷ 3 ∷ 9 ∷ []))
    ∷ (lists (words honest.line_remainder ∷ words honest.line_quotient ∷ []) is lists ((7 ∷ []) ∷ (1 ∷ 9 ∷ []) ∷ []))
    ∷ (list (words (listed honest.values)) is list (minus_one ∷ minus_one ∷ 18 ∷ []))
    ∷ (answers (honest_conversation baby_bear job) is answers (ending_in Accept))
    ∷ (answers (conversation_on baby_bear job (claiming (map_three of (triple 3 3 8)) honest.values) opened) is answers (ending_in (Fails Row)))
    ∷ (answers (conversation_on baby_bear job (claiming honest.sums (map_three of (triple minus_one minus_one 3))) opened) is answers (ending_in (Fails Line)))
    ∷ (answers_on opened.index.a.rowcolval (conversation_on baby_bear job honest (misread (of 1))) is answers_on (of minus_one) (ending_in (Fails Matrix)))
    ∷ (refusal (job_refusal baby_bear (square (1 ∷ 4 ∷ []))) is refusal (some (record { number = 9; position = 0 })))
    ∷ []

-- every computed value is the stated one: the two lists are the same by computation
pub proved_cases : map (λ (c : Case). c.computed) table ≡ map (λ (c : Case). c.stated) table
unfolding protocol_computes Option-to_list
proved_cases = refl
