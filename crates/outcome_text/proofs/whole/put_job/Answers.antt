-- `outcome_text::whole::put_job` meets its contract. Assumes nothing.
use mathlib.Core.Path.{sym, ap, ◌∙◌}
use mathlib.Core.List.{[]}
use mathlib.Core.Option.{Option}
use Rattle.domain.specs.BabyBear.{baby_bear}
use Rattle.protocol.specs.Refusals.{Refusal}
use Rattle.circuit.specs.declared.given.Challenges.{Challenges}
use Rattle.circuit.specs.declared.given.ProverInput.{ProverInput}
use Rattle.protocol.specs.Calls.{round_refusal, openings_call}
use Rattle.protocol.specs.Job.{challenge_words, challenge_points, proof, true_openings}
use Rattle.protocol.proofs.RefusalLaws.{judged-done}
use Rattle.circuit.specs.Given.{input_words}
use Rattle.varuna.specs.Answers.{openings_meaning}
use Rattle.text.proofs.WrittenLaws.{written_as}
use Rattle.report.specs.Stages.{job_drawn}
use Rattle.outcome_text.proofs.JobLaws.{judged-refused, refused_text_lem, free_text}
use Rattle.outcome_text.proofs.whole.put_job.Goals as goal

abbrev refusal : ProverInput → Challenges → Option Refusal
refusal i d =
    let j = job_drawn (input_words i) d in
    round_refusal baby_bear (input_words i) [] [] (challenge_words j) (challenge_points j)

pub put_proof-requires-clause-free_job : goal.put_proof-requires-clause-free_job
unfolding openings_call
put_proof-requires-clause-free_job c =
    let found =
    judged-done (refusal c.args.input.now c.args.drawn) _
    (sym c.openings.ensures ∙ ap openings_meaning c.in-Ok.is) in
    record { none-refused = found.0 }

pub returns-in-Err : goal.returns-in-Err
unfolding openings_call
returns-in-Err c =
    let found =
    judged-refused (refusal c.args.input.now c.args.drawn) _ (sym c.openings.ensures ∙ ap openings_meaning c.in-Err.is) in
    written_as (refused_text_lem _ c.args.drawn c.requires.ec_value found) c.put_refused.ensures.written

pub returns-in-Ok : goal.returns-in-Ok
unfolding openings_call true_openings proof
returns-in-Ok c =
    let found =
    judged-done (refusal c.args.input.now c.args.drawn) _ (sym c.openings.ensures ∙ ap openings_meaning c.in-Ok.is) in
    written_as (free_text _ c.args.drawn c.requires.ec_value _ _ (record { none-refused = found.0 }) (sym found.1))
    c.put_proof.ensures.written
