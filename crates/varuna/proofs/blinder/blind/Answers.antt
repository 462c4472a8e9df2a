-- `varuna::blinder::blind` meets its contract. Assumes nothing.
use Rattle.std.proofs.Common.{refl, sym, List, ℕ}
use Rattle.domain.specs.BabyBear.{baby_bear}
use Rattle.shared.specs.Meanings.{three}
use Rattle.protocol.specs.Three.{Three}
use Rattle.protocol.specs.Blinded.{blind_call}
use Rattle.blinding.proofs.Parts.{call_fits}
use Rattle.varuna.specs.Inputs.{three_of}
use Rattle.varuna.proofs.AnswerLaws.{fill_refuses, fill_done}
use Rattle.varuna.proofs.blinder.blind.Goals as goal
use Rattle.varuna.proofs.blinder.blind.Goals.{Start}

lists : Start → Three (List ℕ)
lists s = three_of s.args.blinded_a.now s.args.blinded_b.now s.args.blinded_c.now

pub blind_into-requires : goal.blind_into-requires
blind_into-requires c =
    let a = c.args in
    let k = a.circuit.now in
    call_fits baby_bear k.r k.c k.x k.matrices.a.now k.matrices.b.now k.matrices.c.now a.z.now (three a.rho) a.blinded_a.now
    a.blinded_b.now a.blinded_c.now a.blinded_z.now (sym (c.in_ok-judge_blind.ensures baby_bear refl))

pub returns-in_err-judge_blind : goal.returns-in_err-judge_blind
unfolding blind_call
returns-in_err-judge_blind c = fill_refuses _ _ _ c.from_residual.ensures.1 (c.in_err-judge_blind.ensures baby_bear refl) _

pub returns : goal.returns
unfolding blind_call
returns c = fill_done _ (c.in_ok-judge_blind.ensures baby_bear refl) c.blind_into.ensures
