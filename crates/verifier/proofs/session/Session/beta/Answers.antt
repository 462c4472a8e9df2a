-- `verifier::session::Session::beta` meets its contract. Assumes nothing.
use Rattle.std.proofs.Common.{refl, sym, ◌∙◌, arith}
use Rattle.domain.proofs.Qualification.{baby_bear-qualifies}
use Rattle.domain.specs.BabyBear.{baby_bear}
use Rattle.protocol.specs.Session.{beta_step}
use Rattle.protocol.proofs.UnrefusedSteps.{beta_passes}
use Rattle.verifier.proofs.session.Session.beta.Goals as goal

pub step-requires : goal.step-requires
step-requires c free =
    let judged = c.judge_beta-judgement.ensures baby_bear baby_bear-qualifies refl in
    omega (arith, ((beta_passes baby_bear _ _ _ _ _).0 (sym judged ∙ free)).turn.stage_is)

pub returns : goal.returns
unfolding beta_step
returns c = rw (sym (c.judge_beta-judgement.ensures baby_bear baby_bear-qualifies refl)) c.step.ensures
