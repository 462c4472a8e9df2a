-- `transform::join` meets its contract: the first entries of the halves are joined with no product, then, with the loop, the first i
-- entries of each. Assumes nothing.
use Rattle.std.proofs.Common.{◌≡◌, sym, ap, ◌∙◌, List, ◌++◌, ℕ, ◌+◌, ◌/◌, ◌≤◌, ◌<◌, arith, length, get_or, set}
use mathlib.Core.List.{map-append}
use Rattle.algebra.specs.Lists.{tabulate}
use Rattle.algebra.specs.Ring.{pow}
use Rattle.algebra.specs.Halving.{join}
use Rattle.algebra.proofs.RingLaws.{one_mul}
use Rattle.field.specs.Prime.{Prime}
use Rattle.field.specs.Element.{Elem, 𝟘, ◌⊕◌, ◌⊗◌, ◌⊖◌, words}
use Rattle.field.proofs.ElementLaws.{prime_ring}
use Rattle.field.proofs.Words.{result-below, result-product, result-sum, result_difference}
use Rattle.domain.proofs.Fill.{length-words, word-at, length_rule_words, rule_word-at}
use Rattle.transform.proofs.FilledHalves.{halves_none, halves_all, even_at, odd_at, halves_turn}
use Rattle.transform.proofs.join.Invariants.{plus_at, minus_at, so_far}
use Rattle.transform.proofs.join.Goals as goal

module _ {q : Prime} (h : ℕ) (v : Elem q) (e o : List (Elem q)) (even-length : length e ≡ h) (odd-length : length o ≡ h) where
  abbrev plus_words : List ℕ
  plus_words = words (tabulate h (plus_at v e o))

  abbrev minus_words : List ℕ
  minus_words = words (tabulate h (minus_at v e o))

  plus_length : length plus_words ≡ h
  plus_length = length_rule_words h (plus_at v e o)

  minus_length : length minus_words ≡ h
  minus_length = length_rule_words h (minus_at v e o)

  first-length : length (words e) ≡ h
  first-length = length-words e ∙ even-length

  second-length : length (words o) ≡ h
  second-length = length-words o ∙ odd-length

  started : words e ++ words o ≡ so_far v e o h 0
  started = halves_none h plus_words minus_words (words e) (words o) plus_length minus_length first-length second-length

  joined_words : (i : ℕ) → h ≤ i → so_far v e o h i ≡ words (join (prime_ring q) h v e o)
  unfolding join
  joined_words i le =
      halves_all h plus_words minus_words (words e) (words o) plus_length minus_length first-length second-length i le
      ∙ sym (map-append (λ (x : Elem q). x.word) (tabulate h (plus_at v e o)) (tabulate h (minus_at v e o)))

  module _ (i : ℕ) (below : i < h) where
    even_word : get_or (so_far v e o h i) i 0 ≡ (get_or e i 𝟘).word
    even_word =
        even_at h plus_words minus_words (words e) (words o) plus_length minus_length first-length second-length i below ∙ word-at e i

    odd_word : get_or (so_far v e o h i) (h + i) 0 ≡ (get_or o i 𝟘).word
    odd_word = odd_at h plus_words minus_words (words e) (words o) plus_length minus_length first-length second-length i below ∙ word-at o i

    turned : (a b : ℕ) → a ≡ (plus_at v e o i).word → b ≡ (minus_at v e o i).word
        → set (set (so_far v e o h i) i a) (h + i) b ≡ so_far v e o h (i + 1)
    turned a b is-plus is-minus =
        halves_turn h plus_words minus_words (words e) (words o) plus_length minus_length first-length second-length i below a b
        (is-plus ∙ sym (rule_word-at h (plus_at v e o) i below)) (is-minus ∙ sym (rule_word-at h (minus_at v e o) i below))

  -- the first entries, whose power is 1
  module _ (some : 0 < h) where
    none : h + 0 ≡ h
    none = omega arith

    first_even : get_or (words e ++ words o) 0 0 ≡ (get_or e 0 𝟘).word
    first_even = ap (λ (l : List ℕ). get_or l 0 0) started ∙ even_word 0 some

    first_odd : get_or (words e ++ words o) h 0 ≡ (get_or o 0 𝟘).word
    first_odd =
        ap (λ (l : List ℕ). get_or l h 0) started ∙ ap (λ (n : ℕ). get_or (so_far v e o h 0) n 0) (sym none) ∙ odd_word 0 some

    first_turned : (a b : ℕ) → a ≡ (get_or e 0 𝟘 ⊕ get_or o 0 𝟘).word → b ≡ (get_or e 0 𝟘 ⊖ get_or o 0 𝟘).word
        → set (set (words e ++ words o) 0 a) h b ≡ so_far v e o h 1
    first_turned a b is-plus is-minus =
        let plain : get_or o 0 𝟘 ≡ pow (prime_ring q) v 0 ⊗ get_or o 0 𝟘 = sym (one_mul (prime_ring q) (get_or o 0 𝟘)) in
        ap (λ (l : List ℕ). set (set l 0 a) h b) started
        ∙ ap (λ (n : ℕ). set (set (so_far v e o h 0) 0 a) n b) (sym none)
        ∙ turned 0 some a b
        (is-plus ∙ ap (λ (y : Elem q). (get_or e 0 𝟘 ⊕ y).word) plain)
        (is-minus ∙ ap (λ (y : Elem q). (get_or e 0 𝟘 ⊖ y).word) plain)

pub loop-i-preserved : goal.loop-i-preserved
loop-i-preserved c q e small w level prepared es os even-length odd-length one =
    let l = c.loop-i in
    let a = c.args in
    let i : ℕ = l.i in
    let h : ℕ = length a.out.now / 2 in
    let below : i < h = omega arith in
    let before : l.out ≡ so_far w es os h i = l.invariant q e small w level prepared es os even-length odd-length one in
    let even : get_or l.out i 0 ≡ (get_or es i 𝟘).word =
    ap (λ (r : List ℕ). get_or r i 0) before ∙ even_word h w es os even-length odd-length i below in
    let odd : get_or l.out (h + i) 0 ≡ (get_or os i 𝟘).word =
    ap (λ (r : List ℕ). get_or r (h + i) 0) before ∙ odd_word h w es os even-length odd-length i below in
    let v : Elem q = pow (prime_ring q) w i in
    let power : get_or a.powers.now (h + i) 0 ≡ v.word = level i below in
    let reduced : get_or a.powers.now (h + i) 0 < a.p = omega (arith, result-below v power) in
    let call = c.multiply_prepared-odd in
    let x : Elem q = get_or es i 𝟘 in
    let y : Elem q = v ⊗ get_or os i 𝟘 in
    let product : call.result ≡ y.word =
    result-product v (get_or os i 𝟘) (call.ensures q e small reduced (prepared (h + i) (omega arith) reduced)) power odd in
    let plus = c.add_reduced-in-loop-i in
    let minus = c.subtract_reduced-in-loop-i in
    ap (λ (r : List ℕ). set (set r i plus.result) (h + i) minus.result) before
    ∙ turned h w es os even-length odd-length i below plus.result minus.result
    (result-sum e x y even product (plus.ensures q e)) (result_difference e x y even product (minus.ensures q e))

pub returns : goal.returns
returns c q e small w level prepared es os even-length odd-length split =
    let l = c.loop-i in
    let d : List ℕ = c.args.out.now in
    let h : ℕ = length d / 2 in
    let some : 0 < h = omega (arith, c.requires.in_bounds) in
    let x : Elem q = get_or es 0 𝟘 in
    let y : Elem q = get_or os 0 𝟘 in
    let even : get_or d 0 0 ≡ x.word = ap (λ (r : List ℕ). get_or r 0 0) split ∙ first_even h w es os even-length odd-length some in
    let odd : get_or d h 0 ≡ y.word = ap (λ (r : List ℕ). get_or r h 0) split ∙ first_odd h w es os even-length odd-length some in
    let plus = c.add_reduced in
    let minus = c.subtract_reduced in
    let one : set (set d 0 plus.result) h minus.result ≡ so_far w es os h 1 =
    ap (λ (r : List ℕ). set (set r 0 plus.result) h minus.result) split
    ∙ first_turned h w es os even-length odd-length some plus.result minus.result
    (result-sum e x y even odd (plus.ensures q e)) (result_difference e x y even odd (minus.ensures q e)) in
    l.invariant q e small w level prepared es os even-length odd-length one
    ∙ joined_words h w es os even-length odd-length l.i (omega arith)
