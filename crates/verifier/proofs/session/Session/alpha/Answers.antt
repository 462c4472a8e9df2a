-- `verifier::session::Session::alpha` meets its contract. Assumes nothing.
use Rattle.std.proofs.Common.{refl, sym, ◌∙◌, arith}
use Rattle.domain.proofs.Qualification.{baby_bear-qualifies}
use Rattle.domain.specs.BabyBear.{baby_bear}
use Rattle.protocol.specs.Session.{alpha_step}
use Rattle.protocol.proofs.UnrefusedSteps.{alpha_passes}
use Rattle.verifier.proofs.session.Session.alpha.Goals as goal

pub step-requires : goal.step-requires
step-requires c free =
    let judged = c.judge_alpha-judgement.ensures baby_bear baby_bear-qualifies refl in
    omega (arith, ((alpha_passes baby_bear _ _ _ _ _ _).0 (sym judged ∙ free)).turn.stage_is)

pub returns : goal.returns
unfolding alpha_step
returns c = rw (sym (c.judge_alpha-judgement.ensures baby_bear baby_bear-qualifies refl)) c.step.ensures
