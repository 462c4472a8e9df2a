-- Document 02, request 5: "However a list is cut, its parts, begun with 0 and 1, end at the value of the whole", for any number of parts,
-- empty ones too; of the definitions and of the public calls. Statements only; the proofs are in proofs/EvaluationInParts. Assumes nothing.
use Rattle.std.specs.Prelude.{◌≡◌, ℕ, ◌<◌, ◌≤◌, length}
use mathlib.Core.List.{List, [], ◌∷◌, ◌++◌, map, foldr}
use Rattle.algebra.specs.Counting.{All}
use Rattle.algebra.specs.Polynomial.{Running, running, map_running}
use Rattle.algebra.specs.Ring.{pow}
use Rattle.field.specs.Prime.{Prime}
use Rattle.field.specs.Element.{Elem, of, word_of}
use Rattle.field.proofs.ElementLaws.{prime_ring}
use Rattle.domain.specs.Polynomial.{Poly, eval, eval_part, eval_parts, begun}
use Rattle.protocol.specs.Refusals.{Outcome, Done, onwards}
use Rattle.protocol.specs.Calls.{max_words, evaluate_call, evaluate_part_call}

-- the public call on one part after the other, each taken up from the answer before: the last answer, or the first refusal
abbrev pub part_calls : Prime → Running ℕ → ℕ → List (List ℕ) → Outcome (Running ℕ)
part_calls q r y [] = Done r
part_calls q r y (part ∷ parts) = onwards (λ next. part_calls q next y parts) (evaluate_part_call q r y part)

-- where a whole list ends: its value, and the point to the power of its length
abbrev pub whole_end : {q : Prime} → Poly q → Elem q → Running (Elem q)
whole_end {q} f y = running (eval f y) (pow (prime_ring q) y (length f))

-- for every prime
pub record EvaluationInParts (q : Prime) : Type 0 where
  -- whole evaluation is evaluation taken up midway, begun with 0 and 1
  pub whole : (f : Poly q) (y : Elem q) → eval_part begun y f ≡ whole_end f y
  -- from any sum and power, parts one after the other are as one part
  pub parts_join : (r : Running (Elem q)) (y : Elem q) (parts : List (Poly q)) → eval_parts r y parts ≡ eval_part r y (foldr ◌++◌ [] parts)
  -- "However a list is cut, its parts, begun with 0 and 1, end at the value of the whole"
  pub parts_end : (f : Poly q) (y : Elem q) (parts : List (Poly q)) → foldr ◌++◌ [] parts ≡ f → eval_parts begun y parts ≡ whole_end f y
  -- the same of the calls, where each part has at most 2,048 words, however long the whole is
  pub calls_join :
      (r : Running ℕ) (y : ℕ) (parts : List (List ℕ)) → All (λ part. length part ≤ max_words) parts
      → All (λ w. w < q.p) (r.sum ∷ r.power ∷ y ∷ foldr ◌++◌ [] parts)
      → part_calls q r y parts ≡ Done (map_running word_of (eval_part {q = q} (map_running of r) (of y) (map of (foldr ◌++◌ [] parts))))
  pub calls_end :
      (f : List ℕ) (y : ℕ) (parts : List (List ℕ)) → foldr ◌++◌ [] parts ≡ f → All (λ part. length part ≤ max_words) parts
      → All (λ w. w < q.p) (y ∷ f) → part_calls q (running 0 1) y parts ≡ Done (map_running word_of (whole_end {q = q} (map of f) (of y)))
  -- so where the call on the whole answers, every cut of it ends at that answer
  pub calls_agree :
      (f : List ℕ) (y v : ℕ) (parts : List (List ℕ)) → foldr ◌++◌ [] parts ≡ f → evaluate_call q f y ≡ Done v
      → part_calls q (running 0 1) y parts ≡ Done (running v (pow (prime_ring q) (of y) (length f)).word)
