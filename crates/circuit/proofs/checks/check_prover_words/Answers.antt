-- `circuit::checks::check_prover_words` meets its contract: each part of the words in order. Assumes nothing.
use mathlib.Core.Path.{◌≡◌, sym, ◌∙◌}
use mathlib.Core.Bool.{Bool}
use mathlib.Core.List.{List, [], ◌∷◌, ◌++◌, map}
use mathlib.Core.Option.{Option}
use Prim.Native.Nat.{ℕ, ◌+◌}
use lib.Dec.{ltb}
use lib.ListN.{length}
use borrow.Author.Tests.{lt-ltb, le-ltb}
use Rattle.protocol.specs.Refusals.{Refusal, first, refuse}
use Rattle.shared.proofs.EarlyReturns.{stops, goes_on, passes, fails_first, last_answer_lem}
use Rattle.circuit.proofs.Parts.{prover-words}
use Rattle.circuit.proofs.checks.check_prover_words.Goals as goal
use Rattle.circuit.proofs.checks.check_prover_words.Goals.{Start}

-- what is to be answered, and its parts after m, after the mask word and after z
module _ (s : Start) where
  abbrev below : ℕ → Bool
  below w = ltb w s.args.p

  abbrev due : Option Refusal
  due = refuse 6 s.args.start (map below (s.args.z.now ++ (s.args.mask ∷ (s.args.m.now ++ s.args.challenges.now))))

  abbrev place : ℕ
  place = s.args.start + length s.args.z.now

  abbrev after-m : List (Option Refusal)
  after-m = refuse 6 (place + 1 + length s.args.m.now) (map below s.args.challenges.now) ∷ []

  abbrev after-mask : List (Option Refusal)
  after-mask = refuse 6 (place + 1) (map below s.args.m.now) ∷ after-m

  abbrev after-z : List (Option Refusal)
  after-z = refuse 6 place (below s.args.mask ∷ []) ∷ after-mask

  in_parts : first (refuse 6 s.args.start (map below s.args.z.now) ∷ after-z) ≡ due
  in_parts = sym (prover-words s.args.p s.args.start s.args.z.now s.args.mask s.args.m.now s.args.challenges.now)

pub returns-in_err-judge_words : goal.returns-in_err-judge_words
returns-in_err-judge_words c =
    let s = (goal.at.returns-in_err-judge_words c).Start in
    stops _ _ c.from_residual.ensures.1 c.in_err-judge_words.ensures (after-z s) ∙ in_parts s

pub returns-then-mask-p : goal.returns-then-mask-p
returns-then-mask-p c =
    let s = (goal.at.returns-then-mask-p c).Start in
    goes_on c.in_ok-judge_words.ensures (after-z s) (fails_first 6 (place s) (after-mask s) (le-ltb _ _ c.if-mask-p.true)) ∙ in_parts s

pub returns-in_err-judge_words-2 : goal.returns-in_err-judge_words-2
returns-in_err-judge_words-2 c =
    let s = (goal.at.returns-in_err-judge_words-2 c).Start in
    goes_on c.in_ok-judge_words.ensures (after-z s)
    (passes 6 (place s) (after-mask s) (lt-ltb _ _ c.if-mask-p.false)
    (stops _ _ c.from_residual-in_err-judge_words-2.ensures.1 c.in_err-judge_words-2.ensures (after-m s)))
    ∙ in_parts s

pub returns : goal.returns
returns c =
    let s = (goal.at.returns c).Start in
    goes_on c.in_ok-judge_words.ensures (after-z s)
    (passes 6 (place s) (after-mask s) (lt-ltb _ _ c.if-mask-p.false)
    (goes_on c.in_ok-judge_words-2.ensures (after-m s) (last_answer_lem c.judge_words-3.ensures)))
    ∙ in_parts s
