-- `verifier::session::Session::judgement` meets its contract. Assumes nothing.
use Rattle.std.proofs.Common.{◌≡◌, refl, sym, ap, ◌∙◌, arith, ◌≤◌, length, take}
use Rattle.std.specs.Prelude.{Result, Ok, Err, IsErrAnd}
use lib.Dec.{lit<}
use lib.Seq.{length-take-le}
use Rattle.domain.proofs.Qualification.{baby_bear-qualifies, baby_bear-known}
use Rattle.domain.proofs.SizeLaws.{size_bound}
use Rattle.domain.specs.BabyBear.{baby_bear}
use Rattle.domain.specs.Size.{max_size}
use Rattle.shared.specs.declared.Refusal.{Refusal}
use Rattle.shared.specs.declared.Verdict.{Verdict}
use Rattle.shared.specs.Meanings.{refusal, sizes, openings}
use Rattle.protocol.specs.Refusals.{six_size_tests}
use Rattle.protocol.specs.Session.{Judged, Refused, ask_step, verdict_of}
use Rattle.protocol.proofs.UnrefusedSteps.{InTurn, openings-passes}
use Rattle.protocol.proofs.Sessions.{LeftBySteps, left_by_steps_lem}
use Rattle.protocol.proofs.RefusalLaws.{all_true}
use Rattle.protocol.proofs.AllowedSizes.{allowed}
use Rattle.verifier.specs.Session.{session_meaning, openings_answer_meaning}
use Rattle.verifier.proofs.session.Session.judgement.Goals as goal
use Rattle.verifier.proofs.session.Session.judgement.Goals.{In_ok-judge_openings}

-- what is returned where the openings are refused
refused : (r : Result Verdict Refusal) (e : Refusal) → IsErrAnd r (λ y. y ≡ e) → openings_answer_meaning r ≡ Refused (refusal e)
refused (Ok v) e h = absurd h
refused (Err y) e h = ap (λ y. Refused (refusal y)) h

-- what nothing refuses is in turn, with sizes that are allowed, and holds what steps could have left
passed : (c : In_ok-judge_openings) → let a = c.args in
    InTurn 6 a.self.stage (sizes a.self.sizes) × LeftBySteps baby_bear (session_meaning a.self)
passed c =
    let a = c.args in
    let free = sym (c.in_ok-judge_openings.ensures baby_bear baby_bear-qualifies refl) in
    let (turn, left, _) = (openings-passes baby_bear (session_meaning a.self) (openings a.o a.index)).0 free in
    (turn, left_by_steps_lem baby_bear (session_meaning a.self) left)

-- the public words lie within the 1,024 of x
within : (c : In_ok-judge_openings) → c.args.self.sizes.x ≤ max_size
within c =
    let n = sizes c.args.self.sizes in
    size_bound n.|X| (allowed n (all_true (six_size_tests n) (passed c).0.sizes-allowed)).X-size

public-length : (c : In_ok-judge_openings) → length (take c.args.self.sizes.x c.args.self.x) ≡ c.args.self.sizes.x
public-length c = length-take-le c.args.self.sizes.x c.args.self.x (omega (arith, within c))

pub shared_ref_as_front-verdict : goal.shared_ref_as_front-verdict
shared_ref_as_front-verdict c = within (goal.at.shared_ref_as_front-verdict c).In_ok-judge_openings

pub slice_bounds-verdict-end : goal.slice_bounds-verdict-end
slice_bounds-verdict-end c = sym (public-length (goal.at.slice_bounds-verdict-end c).In_ok-judge_openings)

pub verdict-verdict-requires : goal.verdict-verdict-requires
verdict-verdict-requires c =
    let t = (goal.at.verdict-verdict-requires c).In_ok-judge_openings in
    let n = sizes c.args.self.sizes in record {
      lt_p = lit< tt;
      s_value = all_true (six_size_tests n) (passed t).0.sizes-allowed;
      x_len = public-length t;
      outside_domain = record { over = baby_bear-known; is-outside = (passed t).1.heard.γ-outside };
    }

pub returns-in_err-judge_openings : goal.returns-in_err-judge_openings
unfolding ask_step
returns-in_err-judge_openings c =
    refused _ _ c.from_residual.ensures.1 ∙ rw (sym (c.in_err-judge_openings.ensures baby_bear baby_bear-qualifies refl))

pub returns : goal.returns
unfolding ask_step verdict_of
returns c =
    rw (sym (c.in_ok-judge_openings.ensures baby_bear baby_bear-qualifies refl))
    (ap Judged (c.verdict-verdict.ensures baby_bear baby_bear-known.known baby_bear-qualifies))
