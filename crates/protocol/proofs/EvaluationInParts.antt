-- Evaluation in parts, proved for every prime: the laws of any ring for this field, and the public calls one after the other.
-- Assumes nothing.
use mathlib.Core.Path.{◌≡◌, sym, ap, ap₂, subst⁻¹, ◌∙◌}
use mathlib.Core.List.{List, [], ◌∷◌, ◌++◌, map, foldr, map-append}
use mathlib.Core.Option.{Option}
use Prim.Native.Nat.{ℕ, ◌<◌, ◌≤◌}
use native.Mathlib.Omega.{arith}
use borrow.Author.Tests.{le-leb, leb-true}
use lib.Dec.{leb}
use lib.ListN.{length, length-append, length-map}
use Rattle.algebra.specs.Counting.{All}
use Rattle.algebra.specs.Polynomial.{Running, running, map_running}
use Rattle.algebra.specs.Ring.{pow}
use Rattle.algebra.proofs.Counting.{append_all}
use Rattle.algebra.proofs.PartLaws as laws
use Rattle.field.specs.Prime.{Prime}
use Rattle.field.specs.Element.{Elem, of, word_of}
use Rattle.field.proofs.ElementLaws.{prime_ring, word_below}
use Rattle.domain.specs.Polynomial.{Poly, eval, eval_part, begun}
use Rattle.domain.proofs.RunningWords.{words_back, elements_back}
use Rattle.protocol.specs.Refusals.{Refusal, Done, onwards, judged, list_refusal, word_refusal}
use Rattle.protocol.specs.Calls.{max_words, evaluation_refusal, evaluate_call, evaluate_part_call}
use Rattle.protocol.specs.EvaluationInParts.{part_calls, whole_end, EvaluationInParts}
use Rattle.protocol.proofs.RefusalLaws.{first-none, none_first, refuse-none, none-refuse, word_refusal-none, none-word_refusal, judged-done}

module _ (q : Prime) where
  abbrev Below : List ℕ → Type 0
  Below = All (λ w. w < q.p)

  -- where a part ends, in words
  abbrev part_end : Running ℕ → ℕ → List ℕ → Running ℕ
  part_end r y part = map_running word_of (eval_part {q = q} (map_running of r) (of y) (map of part))

  -- a part that is let through
  part-done :
      (r : Running ℕ) (y : ℕ) (part : List ℕ) → length part ≤ max_words → Below (r.sum ∷ r.power ∷ y ∷ part)
      → evaluate_part_call q r y part ≡ Done (part_end r y part)
  unfolding evaluate_part_call list_refusal
  part-done r y part few below =
      let rows : List (Option Refusal) =
      list_refusal (leb (length part) max_words ∷ []) ∷ word_refusal q (r.sum ∷ r.power ∷ y ∷ part) ∷ [] in
      ap (λ (o : Option Refusal). judged o (part_end r y part))
      (none_first rows (none-refuse 5 0 (leb (length part) max_words ∷ []) (le-leb (length part) max_words few, tt), (none-word_refusal q _ below, tt)))

  calls_join :
      (r : Running ℕ) (y : ℕ) (parts : List (List ℕ)) → All (λ part. length part ≤ max_words) parts
      → Below (r.sum ∷ r.power ∷ y ∷ foldr ◌++◌ [] parts) → part_calls q r y parts ≡ Done (part_end r y (foldr ◌++◌ [] parts))
  calls_join r y [] few below =
      ap Done (sym (ap (map_running word_of) (laws.part_none (prime_ring q) (map_running of r) (of y)) ∙ words_back q r below.0 below.1.0))
  calls_join r y (part ∷ parts) few below =
      let rest : List ℕ = foldr ◌++◌ [] parts in
      let end : Running (Elem q) = eval_part (map_running of r) (of y) (map of part) in
      let (here, later) = append_all (λ w. w < q.p) part rest below.1.1.1 in
      ap (onwards (λ next. part_calls q next y parts)) (part-done r y part few.0 (below.0, (below.1.0, (below.1.1.0, here))))
      ∙ calls_join (part_end r y part) y parts few.1 (word_below end.sum, (word_below end.power, (below.1.1.0, later)))
      ∙ ap (λ (e : Running (Elem q)). Done (map_running word_of e))
      (ap (λ (e : Running (Elem q)). eval_part e (of y) (map of rest)) (elements_back end)
      ∙ laws.part_append (prime_ring q) (map_running of r) (of y) (map of part) (map of rest)
      ∙ ap (eval_part (map_running of r) (of y)) (sym (map-append of part rest)))

  -- parts are not longer than the whole
  parts-few : (n : ℕ) (parts : List (List ℕ)) → length (foldr ◌++◌ [] parts) ≤ n → All (λ part. length part ≤ n) parts
  parts-few n [] few = tt
  parts-few n (part ∷ parts) few =
      let total = length-append part (foldr ◌++◌ [] parts) in (omega arith, parts-few n parts (omega arith))

  calls_end :
      (f : List ℕ) (y : ℕ) (parts : List (List ℕ)) → foldr ◌++◌ [] parts ≡ f → All (λ part. length part ≤ max_words) parts
      → Below (y ∷ f) → part_calls q (running 0 1) y parts ≡ Done (map_running word_of (whole_end {q = q} (map of f) (of y)))
  calls_end f y parts cut few below =
      calls_join (running 0 1) y parts few
      (omega (arith, q.above_two), (omega (arith, q.above_two), (below.0, subst⁻¹ Below cut below.1)))
      ∙ ap (λ (l : List ℕ). Done (part_end (running 0 1) y l)) cut
      ∙ ap (λ (e : Running (Elem q)). Done (map_running word_of e)) (laws.whole (prime_ring q) (of y) (map of f))

  calls_agree :
      (f : List ℕ) (y v : ℕ) (parts : List (List ℕ)) → foldr ◌++◌ [] parts ≡ f → evaluate_call q f y ≡ Done v
      → part_calls q (running 0 1) y parts ≡ Done (running v (pow (prime_ring q) (of y) (length f)).word)
  unfolding evaluate_call list_refusal
  calls_agree f y v parts cut answered =
      let (fine, value) = judged-done (evaluation_refusal q (length f) (f ++ (y ∷ []))) (eval {q = q} (map of f) (of y)).word answered in
      let rows = first-none (list_refusal (leb (length f) max_words ∷ []) ∷ word_refusal q (f ++ (y ∷ [])) ∷ []) fine in
      let few : length f ≤ max_words = leb-true (length f) max_words (refuse-none 5 0 (leb (length f) max_words ∷ []) rows.0).0 in
      let (coefficients, point) = append_all (λ w. w < q.p) f (y ∷ []) (word_refusal-none q (f ++ (y ∷ [])) rows.1.0) in
      calls_end f y parts cut (parts-few max_words parts (subst⁻¹ (λ (l : List ℕ). length l ≤ max_words) cut few)) (point.0, coefficients)
      ∙ ap₂ (λ (v n : ℕ). Done (running v (pow (prime_ring q) (of y) n).word)) value (length-map f of)

pub evaluation_in_parts : (q : Prime) → EvaluationInParts q
evaluation_in_parts q =
    record {
      whole = λ f y. laws.whole (prime_ring q) y f;
      parts_join = laws.parts_join (prime_ring q);
      parts_end =
          λ f y parts cut.
          laws.parts_join (prime_ring q) begun y parts ∙ laws.whole (prime_ring q) y (foldr ◌++◌ [] parts)
          ∙ ap (λ (f : Poly q). whole_end f y) cut;
      calls_join = calls_join q;
      calls_end = calls_end q;
      calls_agree = calls_agree q;
    }
