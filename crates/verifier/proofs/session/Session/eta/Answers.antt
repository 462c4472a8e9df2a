-- `verifier::session::Session::eta` meets its contract. Assumes nothing.
use Rattle.std.proofs.Common.{refl, sym, ◌∙◌, arith}
use Rattle.domain.specs.BabyBear.{baby_bear}
use Rattle.protocol.specs.Session.{eta_step}
use Rattle.protocol.proofs.UnrefusedSteps.{eta_passes}
use Rattle.verifier.proofs.session.Session.eta.Goals as goal

pub step-requires : goal.step-requires
step-requires c free =
    let judged = c.judge_eta-judgement.ensures baby_bear refl in
    omega (arith, ((eta_passes baby_bear _ _ _ _).0 (sym judged ∙ free)).0.stage_is)

pub returns : goal.returns
unfolding eta_step
returns c = rw (sym (c.judge_eta-judgement.ensures baby_bear refl)) c.step.ensures
