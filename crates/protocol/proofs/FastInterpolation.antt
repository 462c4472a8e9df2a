-- Fast interpolation, proved for every prime that qualifies: the laws of the transform by halves for this field, and the public calls of
-- both ways. Assumes nothing.
use mathlib.Core.Path.{◌≡◌, refl, sym, ap, subst⁻¹, ◌∙◌}
use mathlib.Core.Bool.{true}
use mathlib.Core.List.{List, [], ◌∷◌, map}
use mathlib.Core.Option.{Option, none}
use Prim.Native.Nat.{ℕ, ◌^◌, ◌<◌, ◌≤◌}
use native.Mathlib.Omega.{arith}
use borrow.Author.Tests.{eq-eqb, eqb-true}
use lib.Dec.{eqb}
use lib.ListN.{length, length-map}
use Rattle.algebra.specs.Counting.{All}
use Rattle.algebra.proofs.HalvingLaws.{order_half_turn, transform-values}
use Rattle.field.specs.Prime.{Prime}
use Rattle.field.specs.Element.{Elem, of, words}
use Rattle.field.proofs.ElementLaws.{prime_ring, word_below}
use Rattle.field.proofs.Field.{no_zero_divisors}
use Rattle.field.proofs.Words.{words_back, of_results}
use Rattle.domain.specs.Size.{is_size}
use Rattle.domain.specs.Polynomial.{values_on, interpolate}
use Rattle.domain.specs.Qualifies.{Qualifies}
use Rattle.domain.proofs.Fill.{length-words}
use Rattle.domain.proofs.SizeLaws.{power-is_size}
use Rattle.domain.proofs.Interpolation.{length-values_on, length-interpolate, values-interpolate, interpolate-values}
use Rattle.domain.proofs.TransformLaws.{to_values_agrees, to_coefficients_agrees, values-of_coefficients, coefficients_of-values}
use Rattle.protocol.specs.Refusals.{Refusal, Done, judged, size_refusal, list_refusal, word_refusal}
use Rattle.protocol.specs.Calls.{transform_refusal, interpolate_call, evaluate_on_domain_call}
use Rattle.protocol.specs.FastInterpolation.{FastInterpolation}
use Rattle.protocol.proofs.RefusalLaws.{first-none, none_first, refuse-none, none-refuse, word_refusal-none, none-word_refusal, judged-done}

-- what the calls let through
pub record LetThrough (q : Prime) (n : ℕ) (ws : List ℕ) (lent : ℕ) : Type 0 where
  pub size : is_size n ≡ true
  pub listed : length ws ≡ n
  pub fits : lent ≡ n
  pub below : All (λ w. w < q.p) ws

module _ (q : Prime) (n lent : ℕ) (ws : List ℕ) where
  abbrev rows : List (Option Refusal)
  rows = size_refusal (is_size n ∷ []) ∷ list_refusal (eqb (length ws) n ∷ eqb lent n ∷ []) ∷ word_refusal q ws ∷ []

  pub transform_free : transform_refusal q n ws lent ≡ none → LetThrough q n ws lent
  unfolding size_refusal list_refusal
  transform_free e =
      let passed = first-none rows e in
      let lists = refuse-none 5 0 (eqb (length ws) n ∷ eqb lent n ∷ []) passed.1.0 in
      record {
        size = (refuse-none 4 0 (is_size n ∷ []) passed.0).0;
        listed = eqb-true (length ws) n lists.0;
        fits = eqb-true lent n lists.1.0;
        below = word_refusal-none q ws passed.1.1.0;
      }

  free_transform : LetThrough q n ws lent → transform_refusal q n ws lent ≡ none
  unfolding size_refusal list_refusal
  free_transform t =
      none_first rows (
        none-refuse 4 0 (is_size n ∷ []) (t.size, tt),
        (
          none-refuse 5 0 (eqb (length ws) n ∷ eqb lent n ∷ []) (eq-eqb (length ws) n t.listed, (eq-eqb lent n t.fits, tt)),
          (none-word_refusal q ws t.below, tt),
        ),
      )

words_are_below : {q : Prime} (l : List (Elem q)) → All (λ w. w < q.p) (words l)
words_are_below [] = tt
words_are_below (a ∷ l) = (word_below a, words_are_below l)

-- two calls with the same refusal: the second, given the first one's answer, answers what the first was given
module _ {q : Prime} (n lent : ℕ) (to from : List (Elem q) → List (Elem q)) (length_to : (l : List (Elem q)) → length (to l) ≡ n) where
  call_back :
      (ws vs : List ℕ) → (is_size n ≡ true → (l : List (Elem q)) → length l ≡ n → from (to l) ≡ l)
      → judged (transform_refusal q n ws lent) (words (to (map of ws))) ≡ Done vs
      → judged (transform_refusal q n vs lent) (words (from (map of vs))) ≡ Done ws
  call_back ws vs undone answered =
      let (none-refused, result) = judged-done (transform_refusal q n ws lent) (words (to (map of ws))) answered in
      let t = transform_free q n lent ws none-refused in
      let long : length vs ≡ n = ap length (sym result) ∙ length-words (to (map of ws)) ∙ length_to (map of ws) in
      let passed : transform_refusal q n vs lent ≡ none =
      free_transform q n lent vs
      (record {
        size = t.size;
        listed = long;
        fits = t.fits;
        below = subst⁻¹ (All (λ w. w < q.p)) (sym result) (words_are_below (to (map of ws)));
      }) in
      ap (λ (o : Option Refusal). judged o (words (from (map of vs)))) passed
      ∙ ap (λ (l : List (Elem q)). Done (words (from l))) (of_results (to (map of ws)) (sym result))
      ∙ ap (λ (l : List (Elem q)). Done (words l)) (undone t.size (map of ws) (length-map ws of ∙ t.listed))
      ∙ ap Done (words_back q ws t.below)

module _ (q : Prime) (Q : Qualifies q) where
  call_done :
      (k : ℕ) → k ≤ 10 → (to : List (Elem q) → List (Elem q)) (ws : List ℕ) → length ws ≡ 2 ^ k → All (λ w. w < q.p) ws
      → judged (transform_refusal q (2 ^ k) ws (2 ^ k)) (words (to (map of ws))) ≡ Done (words (to (map of ws)))
  call_done k few to ws long below =
      ap (λ (o : Option Refusal). judged o (words (to (map of ws))))
      (free_transform q (2 ^ k) (2 ^ k) ws (record { size = power-is_size k (omega arith); listed = long; fits = refl; below = below }))

  pub fast_interpolation : FastInterpolation q
  unfolding interpolate_call evaluate_on_domain_call
  fast_interpolation =
      record {
        at-powers = λ k w order. transform-values (prime_ring q) k w (order_half_turn (prime_ring q) (no_zero_divisors q) k w order);
        values_agree = λ k few. to_values_agrees Q k (omega arith);
        coefficients_agree = λ k few. to_coefficients_agrees Q k (omega arith);
        values_back = λ k few. values-of_coefficients Q k (omega arith);
        coefficients_back = λ k few. coefficients_of-values Q k (omega arith);
        values_call =
            λ k few f long below.
            call_done k few (values_on (2 ^ k)) f long below
            ∙ ap (λ (l : List (Elem q)). Done (words l)) (sym (to_values_agrees Q k (omega arith) (map of f) (length-map f of ∙ long)));
        coefficients_call =
            λ k few vs long below.
            call_done k few (interpolate (2 ^ k)) vs long below
            ∙ ap (λ (l : List (Elem q)). Done (words l)) (sym (to_coefficients_agrees Q k (omega arith) (map of vs) (length-map vs of ∙ long)));
        values_call_back =
            λ n lent vs f. call_back n lent (interpolate n) (values_on n) (length-interpolate n) vs f (λ s. values-interpolate Q n s);
        coefficients_call_back =
            λ n lent f vs. call_back n lent (values_on n) (interpolate n) (length-values_on n) f vs (λ s. interpolate-values Q n s);
      }
