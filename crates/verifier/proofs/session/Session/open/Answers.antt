-- `verifier::session::Session::open` meets its contract. Assumes nothing.
use Rattle.std.proofs.Common.{refl, sym, ap₂, List, ℕ}
use Rattle.domain.specs.BabyBear.{baby_bear}
use Rattle.protocol.specs.Checks.{Transcript}
use Rattle.shared.specs.Meanings.{sizes}
use Rattle.protocol.specs.Session as steps
use Rattle.protocol.specs.Session.{Taken, open_step}
use Rattle.step_refusals.proofs.Turns.{words_fit}
use Rattle.verifier.proofs.session.Session.open.Goals as goal

pub padded-requires : goal.padded-requires
padded-requires c = words_fit baby_bear (sizes c.args.s) c.args.x.now (sym (c.in-Ok.ensures baby_bear refl))

pub returns-in-Err : goal.returns-in-Err
unfolding open_step
returns-in-Err c = rw (sym (c.in-Err.ensures baby_bear refl)) c.refused.ensures

pub returns-in-Ok : goal.returns-in-Ok
unfolding open_step
returns-in-Ok c =
    let opened : List ℕ → Transcript ℕ → steps.Stepped = λ x h.
    record { session = record { stage = 1; sizes = sizes c.args.s; x = x; transcript = h }; answer = Taken } in
    rw (sym (c.in-Ok.ensures baby_bear refl)) (ap₂ opened c.padded.ensures c.nothing_heard.ensures)
