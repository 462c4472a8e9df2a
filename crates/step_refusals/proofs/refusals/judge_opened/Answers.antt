-- `step_refusals::refusals::judge_opened` meets its contract: the messages' openings, then those of A, B, C. Assumes nothing.
use Rattle.std.proofs.Common.{◌≡◌, sym, ap, ◌∙◌, Bool, List, [], ◌∷◌, ◌++◌, map, ℕ, ltb, get_or}
use Rattle.std.proofs.Math.Option.{Option}
use Rattle.field.specs.Prime.{Prime}
use Rattle.protocol.specs.Checks.{list_openings}
use Rattle.protocol.specs.Index.{list_index}
use Rattle.shared.specs.Meanings.{three, index_words, openings}
use Rattle.protocol.specs.Refusals.{Refusal, first, refuse, word_refusal}
use Rattle.protocol.specs.Three.{listed}
use Rattle.shared.proofs.EarlyReturns.{stops, goes_on, last_answer_lem}
use Rattle.protocol.proofs.Rows.{first_nested, refuse_append, word_row}
use Rattle.step_refusals.proofs.refusals.judge_opened.Goals as goal
use Rattle.step_refusals.proofs.refusals.judge_opened.Goals.{Start}

-- the tests in four parts, and the rows of the parts after the first, the second, the third
module _ (s : Start) where
  abbrev below : List ℕ → List Bool
  below l = map (λ w. ltb w s.args.p) l

  abbrev messages : List Bool
  messages =
      let o = s.args.o in
      below
      (o.witness ∷ o.mask ∷ o.line_remainder ∷ o.line_quotient ∷ o.row_quotient ∷ o.joined_quotient
      ∷ listed (three o.matrix_remainders))

  abbrev part : ℕ → List Bool
  part i = below (list_index (index_words (get_or s.args.index i [])))

  abbrev after-b : List (Option Refusal)
  after-b = refuse 6 17 (part 2) ∷ []

  abbrev after-a : List (Option Refusal)
  after-a = refuse 6 13 (part 1) ∷ after-b

  abbrev after-messages : List (Option Refusal)
  after-messages = refuse 6 9 (part 0) ∷ after-a

  in_parts : (q : Prime) → q.p ≡ s.args.p
      → first (refuse 6 0 messages ∷ after-messages) ≡ word_refusal q (list_openings (openings s.args.o s.args.index))
  in_parts q e =
      sym
      (refuse_append 6 0 messages (part 0 ++ (part 1 ++ part 2))
      ∙ ap (λ o. first (refuse 6 0 messages ∷ o ∷ [])) from_a
      ∙ first_nested (refuse 6 0 messages) after-messages)
      ∙ word_row q e (list_openings (openings s.args.o s.args.index))
    where
      from_a : refuse 6 9 (part 0 ++ (part 1 ++ part 2)) ≡ first after-messages
      from_a =
          refuse_append 6 9 (part 0) (part 1 ++ part 2)
          ∙ ap (λ o. first (refuse 6 9 (part 0) ∷ o ∷ [])) (refuse_append 6 13 (part 1) (part 2))
          ∙ first_nested (refuse 6 9 (part 0)) after-a

pub returns-in_err-judge_words : goal.returns-in_err-judge_words
returns-in_err-judge_words c q e =
    let s = (goal.at.returns-in_err-judge_words c).Start in
    stops _ _ c.from_residual.ensures.1 c.in_err-judge_words.ensures (after-messages s) ∙ in_parts s q e

pub returns-in_err-judge_index : goal.returns-in_err-judge_index
returns-in_err-judge_index c q e =
    let s = (goal.at.returns-in_err-judge_index c).Start in
    goes_on c.in_ok-judge_words.ensures (after-messages s)
    (stops _ _ c.from_residual-in_err-judge_index.ensures.1 c.in_err-judge_index.ensures (after-a s))
    ∙ in_parts s q e

pub returns-in_err-judge_index-2 : goal.returns-in_err-judge_index-2
returns-in_err-judge_index-2 c q e =
    let s = (goal.at.returns-in_err-judge_index-2 c).Start in
    goes_on c.in_ok-judge_words.ensures (after-messages s)
    (goes_on c.in_ok-judge_index.ensures (after-a s)
    (stops _ _ c.from_residual-in_err-judge_index-2.ensures.1 c.in_err-judge_index-2.ensures (after-b s)))
    ∙ in_parts s q e

pub returns : goal.returns
returns c q e =
    let s = (goal.at.returns c).Start in
    goes_on c.in_ok-judge_words.ensures (after-messages s)
    (goes_on c.in_ok-judge_index.ensures (after-a s)
    (goes_on c.in_ok-judge_index-2.ensures (after-b s) (last_answer_lem c.judge_index-3.ensures)))
    ∙ in_parts s q e
