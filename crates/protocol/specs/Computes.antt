-- Opens the protocol's definitions to computation, for the cases. Assumes nothing.
use Rattle.domain.specs.Computes.{domain_computes}
use Rattle.protocol.specs.Circuit.{sizes_of, largest, extension, row_sum, public_part}
use Rattle.protocol.specs.Index.{row_element, column_element, placed, index}
use Rattle.protocol.specs.Checks.{row_left, row_right, weighted, assignment_value, line_left, line_right, numerator_value, denominator_value, matrix_left, selector, joined_left, joined_right, verdict}
use Rattle.protocol.specs.Messages.{lengths, public_poly, witness, assignment, image, row_quotient, sums, values, line, line_remainder, line_quotient, numerator, denominator, ratio, matrix_remainder, matrix_quotient, joined_quotient, messages, openings}
use Rattle.protocol.specs.Refusals.{size_tests, six_size_tests, turn_refusal, size_refusal, list_refusal, word_refusal, rises, fits, entry_tests_after, entry_tests, entry_refusal, mask_refusal, constant_refusal, assignment_refusal, challenge_refusal, length_refusal}
use Rattle.protocol.specs.Admission.{entry_values, count_tests, assignment_tests, circuit_refusals, prover_refusal}
use Rattle.protocol.specs.Session.{unopened, in_turn, public_fits, transcript_fits, left_by_steps, open_refusal, alpha_refusal, eta_refusal, beta_refusal, delta_refusal, gamma_refusal, openings_refusal, open_step, verdict_of, alpha_step, eta_step, beta_step, delta_step, gamma_step, ask_step, commit_step}
use Rattle.protocol.specs.Job.{job_refusal, proof, true_openings, public_words, conversation, conversation_on, honest_conversation}

unfoldable pub protocol_computes : Unit {0}
unfolding domain_computes sizes_of largest extension row_sum public_part row_element column_element placed index row_left row_right weighted assignment_value line_left line_right numerator_value denominator_value matrix_left selector joined_left joined_right verdict lengths public_poly witness assignment image row_quotient sums values line line_remainder line_quotient numerator denominator ratio matrix_remainder matrix_quotient joined_quotient messages openings size_tests six_size_tests turn_refusal size_refusal list_refusal word_refusal rises fits entry_tests_after entry_tests entry_refusal mask_refusal constant_refusal assignment_refusal challenge_refusal length_refusal entry_values count_tests assignment_tests circuit_refusals prover_refusal unopened in_turn public_fits transcript_fits left_by_steps open_refusal alpha_refusal eta_refusal beta_refusal delta_refusal gamma_refusal openings_refusal open_step verdict_of alpha_step eta_step beta_step delta_step gamma_step ask_step commit_step job_refusal proof true_openings public_words conversation conversation_on honest_conversation
protocol_computes = tt
