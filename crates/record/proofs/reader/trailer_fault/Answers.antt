-- `record::reader::trailer_fault` meets its contract: the sizes, then the starts and the total length. Assumes nothing.
use Rattle.std.proofs.Common.{sym, ap, ◌∙◌, [], ◌∷◌, rules}
use Rattle.shared.specs.Meanings.{sizes}
use Rattle.protocol.specs.Record.{sizes_read}
use Rattle.protocol.specs.Refusals.{refuse, six_size_tests}
use Rattle.shared.proofs.EarlyReturns.{stops, goes_on, last_answer_lem}
use Rattle.protocol.proofs.RefusalLaws.{refuse-none}
use Rattle.record.specs.Layout.{starts_refusal}
use Rattle.record.proofs.Starts.{trailer-rows}
use Rattle.record.proofs.reader.trailer_fault.Goals as goal

pub returns-in_err-judge_sizes : goal.returns-in_err-judge_sizes
returns-in_err-judge_sizes c =
    let bytes = c.args.bytes.now in
    let read = ap (λ s. refuse 3 11 (six_size_tests s)) c.sizes_in-s.ensures in
    stops _ _ c.from_residual.ensures.1 (c.in_err-judge_sizes.ensures ∙ read) (starts_refusal bytes (sizes_read bytes) ∷ [])
    ∙ sym (trailer-rows bytes)

pub starts_fault-requires : goal.starts_fault-requires
starts_fault-requires c =
    (search rules, refuse-none 3 11 (six_size_tests (sizes c.sizes_in-s.result)) (sym c.in_ok-judge_sizes.ensures))

pub returns : goal.returns
returns c =
    let bytes = c.args.bytes.now in
    let read = ap (λ s. refuse 3 11 (six_size_tests s)) c.sizes_in-s.ensures in
    goes_on (c.in_ok-judge_sizes.ensures ∙ read) (starts_refusal bytes (sizes_read bytes) ∷ [])
    (last_answer_lem (c.starts_fault.ensures ∙ ap (starts_refusal bytes) c.sizes_in-s.ensures))
    ∙ sym (trailer-rows bytes)
