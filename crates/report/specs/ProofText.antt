-- The lines that program `prove` prints for a proof and its verdict, or for a refusal (document 01, "The square case"). Bytes and ASCII
-- codes are numbers. Assumes nothing.
use mathlib.Core.List.{List, [], ◌∷◌, ◌++◌, map, foldr}
use Rattle.std.proofs.Math.Option.{Option, none, some}
use Rattle.std.specs.Prelude.{ℕ, get_or}
use Rattle.field.specs.Prime.{Prime}
use Rattle.field.specs.Element.{words}
use Rattle.protocol.specs.Checks.{Row, Line, Matrix, Verdict, Accept, Fails}
use Rattle.protocol.specs.Refusals.{Refusal}
use Rattle.protocol.specs.Record.{sections}
use Rattle.protocol.specs.Session.{Answer, Taken, Judged, Refused}
use Rattle.protocol.specs.Job.{Job, job_refusal, proof, honest_conversation}
use Rattle.text.specs.Ascii.{ascii}
use Rattle.text.specs.Decimal.{decimal}

abbrev pub space : ℕ
space = 32

abbrev pub newline : ℕ
newline = 10

-- "Each line is a section name, then its words"
unfoldable pub line : List ℕ → List ℕ → List ℕ
line name ws = name ++ foldr (λ w rest. space ∷ (decimal w ++ rest)) (newline ∷ []) ws

abbrev pub section_names : List (List ℕ)
section_names = map ascii ("w" ∷ "m" ∷ "h0" ∷ "s" ∷ "g1" ∷ "h1" ∷ "o" ∷ "ga" ∷ "gb" ∷ "gc" ∷ "h2" ∷ [])

-- a line for each name with the section at its place
unfoldable pub lines : List (List ℕ) → List (List ℕ) → List ℕ
lines [] parts = []
lines (name ∷ names) [] = []
lines (name ∷ names) (ws ∷ parts) = line name ws ++ lines names parts

-- "refused", number, position
unfoldable pub refused_text : Refusal → List ℕ
refused_text r = line (ascii "refused") (r.number ∷ r.position ∷ [])

abbrev pub verdict_name : Verdict → List ℕ
verdict_name Accept = ascii "accept"
verdict_name (Fails Row) = ascii "fails row"
verdict_name (Fails Line) = ascii "fails line"
verdict_name (Fails Matrix) = ascii "fails matrix"

-- the last line: "verdict" and the answer to the commit, or its refusal
unfoldable pub answer_text : Answer → List ℕ
answer_text Taken = []
answer_text (Judged v) = ascii "verdict " ++ (verdict_name v ++ (newline ∷ []))
answer_text (Refused r) = refused_text r

-- the refusal's text, or what follows where there is none
abbrev pub unless_refused : Option Refusal → List ℕ → List ℕ
unless_refused none text = text
unless_refused (some r) text = refused_text r

module _ (q : Prime) where
  -- the eleven sections and the verdict
  unfoldable pub proof_text : Job → List ℕ
  proof_text j = lines section_names (map words (sections (proof q j))) ++ answer_text (get_or (honest_conversation q j) 7 Taken)

  -- what is printed for a job: its refusal, or its proof and verdict
  abbrev pub outcome_text : Job → List ℕ
  outcome_text j = unless_refused (job_refusal q j) (proof_text j)
