-- `step_refusals::refusals::in_turn` meets its contract. Assumes nothing.
use Rattle.std.proofs.Common.{sym, ap, ◌∙◌, eq-eqb, ne_eqb, ◌&&◌}
use Rattle.shared.specs.Meanings.{sizes}
use Rattle.protocol.specs.Refusals.{six_size_tests}
use Rattle.protocol.specs.Session.{all, in_turn}
use Rattle.shared.proofs.EarlyReturns.{ok_is}
use Rattle.step_refusals.proofs.refusals.in_turn.Goals as goal

pub returns-then-stage-n : goal.returns-then-stage-n
unfolding in_turn
returns-then-stage-n c =
    let tests = six_size_tests (sizes c.args.s) in
    c.is_ok.ensures.value ∙ ok_is c.judge_sizes.result 4 0 tests c.judge_sizes.ensures
    ∙ ap (λ t. t && all tests) (sym (eq-eqb _ _ c.if-stage-n.true))

pub returns-else-stage-n : goal.returns-else-stage-n
unfolding in_turn
returns-else-stage-n c =
    let no = ne_eqb _ _ c.if-stage-n.false in
    no ∙ sym (ap (λ t. t && all (six_size_tests (sizes c.args.s))) no)
