-- `job::parts::put_whole` meets its contract. Assumes nothing.
use mathlib.Core.Path.{ap}
use native.Mathlib.Omega.{arith}
use Rattle.text.proofs.WrittenLaws.{written_as}
use Rattle.domain.specs.BabyBear.{baby_bear}
use Rattle.report.specs.ProofText.{outcome_text}
use Rattle.job.proofs.HeadLaws.{whole_length}
use Rattle.job.proofs.PartLaws.{whole_end_lem, nine_words, in_order, lists_agree, job_in_parts}
use Rattle.job.proofs.parts.put_whole.Goals as goal

pub places_of-p-requires : goal.places_of-p-requires
places_of-p-requires c =
    omega (arith, c.requires.ws_len, whole_length c.args.ws.now)

pub slice_bounds-challenges_in-count : goal.slice_bounds-challenges_in-count
slice_bounds-challenges_in-count c =
    omega (arith, whole_end_lem c.args.ws.now c.requires.ws_len _ c.places_of-p.ensures.placed)

pub slice_bounds-challenges_in-start : goal.slice_bounds-challenges_in-start
slice_bounds-challenges_in-start c =
    omega (arith, whole_end_lem c.args.ws.now c.requires.ws_len _ c.places_of-p.ensures.placed)

pub challenges_in-requires : goal.challenges_in-requires
challenges_in-requires c =
    omega (arith, nine_words c.args.ws.now c.requires.ws_len _ c.places_of-p.ensures.placed)

pub put_parts-requires-clause-le_b : goal.put_parts-requires-clause-le_b
put_parts-requires-clause-le_b c = in_order c.args.ws.now c.requires.ws_len _ c.places_of-p.ensures.placed

pub put_parts-requires-clause-end_value : goal.put_parts-requires-clause-end_value
put_parts-requires-clause-end_value c =
    lists_agree c.args.ws.now c.requires.ws_len _ c.places_of-p.ensures.placed c.requires.ws_value

pub returns : goal.returns
returns c =
    written_as
    (ap (outcome_text baby_bear)
    (job_in_parts c.args.ws.now c.requires.ws_len _ c.places_of-p.ensures.placed _ c.challenges_in.ensures))
    c.put_parts.ensures
