-- The honest messages of a job that is let through keep the rules of the table of messages, and the verifier's session accepts
-- them at all allowed challenges. Assumes nothing.
use mathlib.Core.Path.{◌≡◌, refl, sym, ap, ap₂, ◌∙◌, subst}
use mathlib.Core.List.{List, map}
use mathlib.Core.Option.{none}
use Prim.Native.Nat.{ℕ, suc}
use lib.ListN.{length, get_or, length-map}
use native.Mathlib.Nat.{le_of_eq}
use Rattle.algebra.proofs.RingLaws.{zero-add}
use Rattle.field.specs.Prime.{Prime}
use Rattle.field.specs.Element.{Elem, of, word_of, words, ◌⊕◌}
use Rattle.field.proofs.ElementLaws.{prime_ring}
use Rattle.domain.specs.Domain.{sum_over}
use Rattle.domain.specs.Polynomial.{Poly, eval, values_on}
use Rattle.domain.specs.Qualifies.{Qualifies}
use Rattle.domain.proofs.SizeLaws.{size_positive}
use Rattle.protocol.specs.Three.{A, B, C, Three, map_three}
use Rattle.protocol.specs.Circuit.{Circuit, sizes_of, Satisfied, public_part, extension}
use Rattle.protocol.specs.Index.{index_at, index}
use Rattle.protocol.specs.Checks.{Openings, map_openings, Accept, weighted, line_left, matrix_left, joined_left, joined_right, verdict}
use Rattle.protocol.specs.Messages.{Short, Messages, map_messages, lengths_of, lengths, witness, assignment, image, sums, values, line, matrix_remainder, matrix_quotient, messages, openings}
use Rattle.protocol.specs.Session.{Session, Ask, Taken, Judged, unopened, ask_step, commit_step, after}
use Rattle.protocol.specs.Conversation.{transcript_of, hearing_messages, ending_in}
use Rattle.protocol.specs.Job.{Job, challenges, public_words, job_refusal, proof, true_openings, conversation, conversation_on, honest_conversation}
use Rattle.protocol.specs.AskThenCommit.{AcceptedByBoth}
use Rattle.protocol.specs.Demand2.{KeepsRules, RulesKept, accepted}
use Rattle.protocol.proofs.AdmissionLaws.{WellFormed, JobFits, job-fits}
use Rattle.protocol.proofs.AskThenCommit.{asking_leaves, commit_answer}
use Rattle.protocol.proofs.Conversation.{drawn, conversation-judged}
use Rattle.protocol.proofs.JoinedRule.{length-joined_quotient, eval-joined_quotient, joined_rule}
use Rattle.protocol.proofs.LineCheck.{line_rule, length-line_remainder, length-line_quotient}
use Rattle.protocol.proofs.MatrixCheck.{matrix-length, matrix_rule, length-matrix_remainder, length-matrix_quotient}
use Rattle.protocol.proofs.MatrixPolynomials.{left_value}
use Rattle.protocol.proofs.MessagePolynomials.{eval-assignment, length-assignment}
use Rattle.protocol.proofs.RowCheck.{row_rule, length-row_quotient}
use Rattle.protocol.proofs.Sums.{line-sum-parts}
use Rattle.protocol.proofs.ThreeLaws.{at_each}
use Rattle.protocol.proofs.VerdictLaws.{accepts}
use Rattle.protocol.proofs.Witness.{length-witness, witness_rule, assignment-values}

module _ {q : Prime} (Q : Qualifies q) (j : Job) (F : JobFits q j) where
  abbrev c : Circuit
  c = j.circuit

  W : WellFormed q.p c
  W = F.circuit-fits

  abbrev z : List (Elem q)
  z = map of j.z

  abbrev m : Poly q
  m = map of j.m

  abbrev x : List (Elem q)
  x = public_part c z

  abbrev w : Poly q
  w = witness c z (of j.r)

  abbrev ẑ : Poly q
  ẑ = assignment c x w

  abbrev α : Elem q
  α = of j.α

  abbrev β : Elem q
  β = of j.β

  abbrev η : Three (Elem q)
  η = map_three of j.η

  abbrev δ : Three (Elem q)
  δ = map_three of j.δ

  abbrev f : Poly q
  f = line c m ẑ α η

  m-length : length m ≡ (lengths (sizes_of c)).mask
  unfolding lengths sizes_of
  m-length = length-map j.m of ∙ F.m-length

  ẑ-length : length ẑ ≡ suc c.|C|
  ẑ-length = length-assignment Q c W x w (length-witness Q c W z (of j.r))

  assigns : values_on c.|C| ẑ ≡ z
  assigns = assignment-values Q c W z (of j.r) (length-map j.z of ∙ F.z-length)

  -- ẑ satisfies every row, since its values are z
  satisfied : Satisfied c (values_on c.|C| ẑ)
  satisfied = subst (λ v. Satisfied c v) (sym assigns) F.satisfied

  -- the mask adds to 0, so the line's sum is σ
  claim : sum_over c.|C| (λ y. line_left η (values c α y) (eval m y) (eval ẑ y)) ≡ weighted η (sums c ẑ α)
  claim = line-sum-parts c m ẑ α η ∙ ap (λ v. v ⊕ weighted η (sums c ẑ α)) F.mask-sum ∙ zero-add (prime_ring q) _

  keeps_rules : KeepsRules q c z (of j.r) m α η β δ (proof q j)
  unfolding proof messages values sums matrix_left
  keeps_rules =
      record {
        witness-length = length-witness Q c W z (of j.r);
        witness = witness_rule Q c W z (of j.r);
        assigns = assigns;
        mask-length = m-length;
        mask = refl;
        mask-sum = F.mask-sum;
        row_quotient-length = length-row_quotient Q c W ẑ;
        row = row_rule Q c W ẑ satisfied;
        sums-true = λ M. at_each (λ M. image c ẑ M α) M;
        line_remainder-length = length-line_remainder Q c W m ẑ m-length ẑ-length α η;
        line_quotient-length = length-line_quotient Q c W m ẑ m-length ẑ-length α η;
        line = line_rule Q c W m ẑ m-length ẑ-length α η (weighted η (sums c ẑ α)) claim;
        values-true = λ M. at_each (λ M. extension c M α β) M;
        matrix_remainder-length = λ M. ap length (at_each (matrix_remainder c α β) M) ∙ length-matrix_remainder Q c W α β F.α-outside F.β-outside M;
        quotients = matrix_quotient c α β;
        matrix_quotient-length = λ M. length-matrix_quotient Q c W α β F.α-outside F.β-outside M ∙ matrix-length (sizes_of c) M;
        matrix = λ M y.
            ap₂ (λ ω g. left_value c α β M ω (index_at (index c M) y) y (eval g y))
            (at_each (λ M. extension c M α β) M) (at_each (matrix_remainder c α β) M)
            ∙ matrix_rule Q c W α β F.α-outside F.β-outside M y;
        joined_quotient-length = length-joined_quotient Q c W α β F.α-outside F.β-outside δ;
        joined = eval-joined_quotient Q c W α β F.α-outside F.β-outside δ;
      }

  abbrev sent : Messages (Poly q) (Elem q)
  sent = proof q j

  short : Short (sizes_of c) (lengths_of sent)
  short =
      let K = keeps_rules in
      record {
        witness-short = le_of_eq K.witness-length;
        mask-short = le_of_eq K.mask-length;
        row_quotient-short = le_of_eq K.row_quotient-length;
        line_remainder-short = le_of_eq K.line_remainder-length;
        line_quotient-short = le_of_eq K.line_quotient-length;
        matrix_remainder-short = elim [
          | A ↦ le_of_eq (K.matrix_remainder-length A)
          | B ↦ le_of_eq (K.matrix_remainder-length B)
          | C ↦ le_of_eq (K.matrix_remainder-length C)
        ];
        joined_quotient-short = le_of_eq K.joined_quotient-length;
      }

  -- the verdict on the honest messages and their true openings
  honest-verdict : verdict (sizes_of c) x (transcript_of (drawn q j) sent) (true_openings q j sent) ≡ Accept
  unfolding proof messages true_openings openings values matrix_left joined_left joined_right
  honest-verdict =
      accepts (sizes_of c) x (transcript_of (drawn q j) sent) (true_openings q j sent)
      (row_rule Q c W ẑ satisfied α)
      (ap (line_left η (values c α β) (eval m β)) (sym (eval-assignment c (size_positive c.|X| W.X-size) x w β))
      ∙ line_rule Q c W m ẑ m-length ẑ-length α η (weighted η (sums c ẑ α)) claim β)
      (joined_rule Q c W α β F.α-outside F.β-outside δ (of j.γ) F.γ-outside)

pub rules-kept : (q : Prime) → Qualifies q → RulesKept q
rules-kept q Q j free = keeps_rules Q j (job-fits q j free)

pub honest-accepted : (q : Prime) → Qualifies q → (j : Job) → job_refusal q j ≡ none → honest_conversation q j ≡ accepted q
unfolding honest_conversation
honest-accepted q Q j free =
    let F : JobFits q j = job-fits q j free in
    conversation-judged q j F (proof q j) (short Q j F) (true_openings q j (proof q j))
    ∙ ap ending_in (honest-verdict Q j F)

pub accepted_by_both : (q : Prime) → Qualifies q → AcceptedByBoth q
unfolding honest_conversation conversation_on conversation
accepted_by_both q Q j free asked =
    let sent : Messages (List ℕ) ℕ = map_messages words word_of (proof q j) in
    let o : Openings ℕ = map_openings word_of (true_openings q j (proof q j)) in
    let u : Session = after q unopened (hearing_messages (sizes_of j.circuit) (public_words q j) (challenges j) sent) in
    let same : after q u (map Ask asked) ≡ u = asking_leaves q u asked in
    let accepts : (ask_step q u o).answer ≡ Judged Accept = ap (λ l. get_or l 6 Taken) (honest-accepted q Q j free) in
    (ap (λ u. (ask_step q u o).answer) same ∙ accepts, ap (λ u. (commit_step q u o).answer) same ∙ commit_answer q u o ∙ accepts)
