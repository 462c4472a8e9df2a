-- Which jobs the table of refusals lets through: those whose parts fit. Assumes nothing.
use mathlib.Core.Path.{◌≡◌, ap}
use mathlib.Core.Bool.{Bool, true, not}
use mathlib.Core.List.{List, [], ◌∷◌, ◌++◌, map}
use mathlib.Core.Option.{none}
use Prim.Native.Nat.{ℕ, ◌*◌, ◌<◌}
use lib.ListN.{length}
use borrow.Author.Tests.{eq-eqb}
use Rattle.algebra.proofs.Counting.{append_all, all_append}
use Rattle.field.specs.Prime.{Prime}
use Rattle.field.specs.Element.{of, 𝟘, equal}
use Rattle.field.proofs.Field.{true-equal}
use Rattle.domain.specs.Domain.{inside, sum_over}
use Rattle.domain.specs.Polynomial.{eval}
use Rattle.protocol.specs.Circuit.{Circuit, sizes_of, largest}
use Rattle.protocol.specs.Refusals.{pairs, list_refusal, word_refusal, mask_refusal, challenge_refusal}
use Rattle.protocol.specs.Admission.{entry_values, count_tests, assignment_tests, circuit_refusals, refusals_after_circuit, prover_refusal}
use Rattle.protocol.specs.Job.{Job, challenge_words, challenge_points, job_refusal}
use Rattle.protocol.proofs.AdmissionLaws.{JobFits, satisfied-rows}
use Rattle.protocol.proofs.AdmittedCircuits.{well_formed_admitted}
use Rattle.protocol.proofs.RefusalLaws.{first-none, none_first, refuse-none, none-refuse, word_refusal-none, none-word_refusal}

pub fits-job : (q : Prime) (j : Job) → JobFits q j → job_refusal q j ≡ none
unfolding job_refusal prover_refusal circuit_refusals list_refusal assignment_tests mask_refusal challenge_refusal
fits-job q j F =
    let c : Circuit = j.circuit in
    let Low : ℕ → Type 0 = λ w. w < q.p in
    let Passes : Bool → Type 0 = λ t. t ≡ true in
    let others : List ℕ = j.r ∷ (j.m ++ challenge_words j) in
    let words : List ℕ = j.z ++ others in
    let lists : List Bool = count_tests c ++ assignment_tests c j.z j.m in
    let (size, (count, (word, (entry, _)))) =
    first-none (circuit_refusals q c (count_tests c) []) (well_formed_admitted q c F.circuit-fits) in
    let lengths : list_refusal lists ≡ none =
    none-refuse 5 0 lists
    (all_append Passes (count_tests c) (assignment_tests c j.z j.m) (refuse-none 5 0 (count_tests c) count)
    (eq-eqb (length j.z) c.|C| F.z-length, (eq-eqb (length j.m) (2 * c.|C|) F.m-length, tt))) in
    let low : word_refusal q (entry_values c ++ words) ≡ none =
    none-word_refusal q (entry_values c ++ words)
    (all_append Low (entry_values c) words (append_all Low (entry_values c) [] (word_refusal-none q (entry_values c ++ []) word)).0
    F.words_fit) in
    let mask : mask_refusal {q = q} c (map of j.m) ≡ none =
    none-refuse 8 0 (equal {q = q} (sum_over c.|C| (eval (map of j.m))) 𝟘 ∷ [])
    (true-equal (sum_over c.|C| (eval (map of j.m))) 𝟘 F.mask-sum, tt) in
    let (constant, assignment) = satisfied-rows q c j.z (append_all Low j.z others F.words_fit).0 F.satisfied in
    let domains : List ℕ = c.|R| ∷ c.|C| ∷ largest (sizes_of c).|K| ∷ [] in
    let outside : challenge_refusal {q = q} 0 domains (map of (challenge_points j)) ≡ none =
    none-refuse 10 0 (pairs (λ n y. not (inside {q = q} n y)) domains (map of (challenge_points j)))
    (ap not F.α-outside, (ap not F.β-outside, (ap not F.γ-outside, tt))) in
    none_first (circuit_refusals q c lists words ++ refusals_after_circuit q c j.z j.m (challenge_points j))
    (size, (lengths, (low, (entry, (mask, (constant, (assignment, (outside, tt))))))))
