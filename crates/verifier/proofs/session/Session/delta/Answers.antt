-- `verifier::session::Session::delta` meets its contract. Assumes nothing.
use Rattle.std.proofs.Common.{refl, sym, ◌∙◌, arith}
use Rattle.domain.specs.BabyBear.{baby_bear}
use Rattle.protocol.specs.Session.{delta_step}
use Rattle.protocol.proofs.UnrefusedSteps.{delta_passes}
use Rattle.verifier.proofs.session.Session.delta.Goals as goal

pub step-requires : goal.step-requires
step-requires c free =
    let judged = c.judge_delta-judgement.ensures baby_bear refl in
    omega (arith, ((delta_passes baby_bear _ _ _ _ _).0 (sym judged ∙ free)).0.stage_is)

pub returns : goal.returns
unfolding delta_step
returns c = rw (sym (c.judge_delta-judgement.ensures baby_bear refl)) c.step.ensures
