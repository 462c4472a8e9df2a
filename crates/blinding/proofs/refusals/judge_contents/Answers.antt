-- `blinding::refusals::judge_contents` meets its contract: each row where the rows before it do not refuse. Assumes nothing.
use mathlib.Core.Path.{◌≡◌, sym, ◌∙◌}
use mathlib.Core.List.{List, [], ◌∷◌, ◌++◌}
use mathlib.Core.Option.{Option, none}
use Prim.Native.Nat.{ℕ}
use native.Mathlib.Omega.{arith}
use Rattle.field.specs.Prime.{Prime}
use Rattle.domain.proofs.SizeLaws.{size_bound}
use Rattle.protocol.specs.Three.{listed}
use Rattle.protocol.specs.Circuit.{Circuit}
use Rattle.protocol.specs.Refusals.{Refusal, first, word_refusal, entry_refusal, constant_refusal}
use Rattle.protocol.specs.Admission.{entry_values}
use Rattle.protocol.specs.Blinded.{blinding_refusal}
use Rattle.shared.specs.Meanings.{three}
use Rattle.circuit.specs.Given.{EntryWords}
use Rattle.blinding.specs.Given.{Roomy}
use Rattle.blinding.specs.Judgement.{contents_refusal}
use Rattle.shared.proofs.EarlyReturns.{stops, goes_on, fails_first, passes, last_answer_lem}
use Rattle.blinding.proofs.refusals.judge_contents.Goals as goal
use Rattle.blinding.proofs.refusals.judge_contents.Goals.{Start}

-- what is to be answered, its row 6, and the rows after 7 and after 6
module _ (q : Prime) (k : Circuit) (s : Start) where
  abbrev due : Option Refusal
  due = contents_refusal q k s.args.z.now (three s.args.rho)

  abbrev words : Option Refusal
  words = word_refusal q (entry_values k ++ (s.args.z.now ++ listed (three s.args.rho)))

  abbrev after-entries : List (Option Refusal)
  after-entries = blinding_refusal k ∷ constant_refusal s.args.z.now ∷ []

  abbrev after-words : List (Option Refusal)
  after-words = entry_refusal k ∷ after-entries

-- past the words and the entries
module _ (q : Prime) (k : Circuit) (s : Start) {x : Option Refusal} where
  pass_words : none ≡ words q k s → x ≡ first (after-words q k s) → x ≡ due q k s
  unfolding contents_refusal
  pass_words e y = goes_on e (after-words q k s) y

  pass_entries : none ≡ words q k s → none ≡ entry_refusal k → x ≡ first (after-entries q k s) → x ≡ due q k s
  pass_entries e f y = pass_words e (goes_on f (after-entries q k s) y)

-- a list with room for one more entry has not too many
few : {l : List ℕ} → Roomy l → EntryWords l
few h = record { whole = h.whole; few = omega (arith, h.room) }

pub check_call_words-requires : goal.check_call_words-requires
check_call_words-requires c =
    let h = c.requires in record {
      three_lists = record { list-a = few h.list-a; list-b = few h.list-b; list-c = few h.list-c };
      z_len_bound = (omega (arith, h.z-length, size_bound _ h.sized.C-size), omega arith);
    }

pub returns-in_err-check_call_words : goal.returns-in_err-check_call_words
unfolding contents_refusal
returns-in_err-check_call_words c q prime k rows columns publics matrices =
    let s = (goal.at.returns-in_err-check_call_words c).Start in
    stops _ _ c.from_residual.ensures.1 (c.in_err-check_call_words.ensures q prime k matrices) (after-words q k s)

pub returns-in_err-check_three_entries : goal.returns-in_err-check_three_entries
returns-in_err-check_three_entries c q prime k rows columns publics matrices =
    let s = (goal.at.returns-in_err-check_three_entries c).Start in
    pass_words q k s (c.in_ok-check_call_words.ensures q prime k matrices)
    (stops _ _ c.from_residual-in_err-check_three_entries.ensures.1 (c.in_err-check_three_entries.ensures k rows columns matrices)
    (after-entries q k s))

pub returns-then-not-is_reservable : goal.returns-then-not-is_reservable
unfolding blinding_refusal
returns-then-not-is_reservable c q prime k rows columns publics matrices =
    let s = (goal.at.returns-then-not-is_reservable c).Start in
    pass_entries q k s (c.in_ok-check_call_words.ensures q prime k matrices) (c.in_ok-check_three_entries.ensures k rows columns matrices)
    (fails_first 15 0 (constant_refusal c.args.z.now ∷ [])
    (sym (c.is_reservable.ensures k rows columns publics matrices) ∙ c.if-not-is_reservable.true))

pub returns : goal.returns
unfolding blinding_refusal
returns c q prime k rows columns publics matrices =
    let s = (goal.at.returns c).Start in
    pass_entries q k s (c.in_ok-check_call_words.ensures q prime k matrices) (c.in_ok-check_three_entries.ensures k rows columns matrices)
    (passes 15 0 (constant_refusal c.args.z.now ∷ [])
    (sym (c.is_reservable.ensures k rows columns publics matrices) ∙ c.if-not-is_reservable.false)
    (last_answer_lem c.judge_constant.ensures))
