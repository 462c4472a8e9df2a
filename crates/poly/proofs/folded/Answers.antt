-- `poly::folded` meets its contract: each part of n coefficients adds its own at the place, and at the end nothing is left to add.
-- Assumes nothing.
use Rattle.std.proofs.Common.{◌≡◌, ℕ, ◌<◌, zero, suc, List, [], ◌∷◌, ◌++◌, length, take, drop, get_or, min, refl, sym, ap, ap₂, ◌∙◌, arith, map}
use Rattle.std.proofs.lemmas.List.{map-append}
use lib.ListN.{length-map}
use Rattle.algebra.proofs.RingLaws.{zero-add}
use Rattle.field.specs.Prime.{Prime}
use Rattle.field.specs.Element.{Elem, of, 𝟘, ◌⊕◌}
use Rattle.field.proofs.ElementLaws.{prime_ring, add_assoc, add-zero}
use Rattle.field.proofs.Words.{of-result, result-below, word-of}
use Rattle.domain.specs.Polynomial.{Poly, remainder}
use Rattle.poly.proofs.Coefficients.{remainder_turn, remainder_none}
use Rattle.poly.proofs.WordLists.{element-at}
use Rattle.poly.proofs.folded.Goals as goal

-- the first n entries of a list, or all of a shorter one, and the rest of it
parted : {A : Type 0} (n : ℕ) (part rest : List A) → length part ≡ min n (length (part ++ rest))
    → (take n (part ++ rest) ≡ part) × (drop n (part ++ rest) ≡ rest)
parted zero [] rest e = (refl, refl)
parted zero (x ∷ part) rest e = absurd (omega arith)
parted (suc n) [] [] e = (refl, refl)
parted (suc n) [] (x ∷ rest) e = absurd (omega arith)
parted (suc n) (x ∷ part) rest e =
    let h = parted n part rest (omega arith) in
    (ap (λ l. x ∷ l) h.0, h.1)

-- what a part adds to the remainder of the rest
part_adds : (q : Prime) (n i : ℕ) (f part rest : List ℕ) → 0 < n → f ≡ part ++ rest → length part ≡ min n (length f)
    → get_or (remainder n (map of f)) i 𝟘 ≡ of {q = q} (get_or part i 0) ⊕ get_or (remainder n (map of rest)) i 𝟘
part_adds q n i f part rest positive e long =
    let whole : map (of {q = q}) f ≡ map of part ++ map of rest = ap (map of) e ∙ map-append of part rest in
    let h =
    parted n (map (of {q = q}) part) (map of rest)
    (omega (arith, length-map part (of {q = q}), length-map f (of {q = q}), ap length whole)) in
    ap (λ (g : Poly q). get_or (remainder n g) i 𝟘) whole
    ∙ remainder_turn (prime_ring q) n positive (map of part ++ map of rest) i
    ∙ ap₂ (λ (g d : Poly q). get_or g i 𝟘 ⊕ get_or (remainder n d) i 𝟘) h.0 h.1
    ∙ ap (λ (x : Elem q). x ⊕ get_or (remainder n (map of rest)) i 𝟘) (sym (element-at part i))

pub loop-part-init : goal.loop-part-init
loop-part-init c = (cc, λ q e. (zero-add (prime_ring q) _ ∙ cc, omega (arith, q.above_two)))

pub loop-part-preserved : goal.loop-part-preserved
loop-part-preserved c =
    let a = c.args in
    let l = c.loop-part in
    let part : List ℕ = c.in-Some.part.now in
    let before : List ℕ = l.part-iterator.rest.now in
    let rest : List ℕ = c.next.new.self.rest.now in
    let steps = c.in-Some.ensures.steps in
    let long : length part ≡ min a.n (length before) = cc in (
      cc,
      λ q e.
          let left : Elem q = get_or (remainder a.n (map of rest)) a.at 𝟘 in
          let word : of {q = q} c.word_or_zero.result ≡ of (get_or part a.at 0) = ap of c.word_or_zero.ensures in (
            ap (λ (x : Elem q). x ⊕ left) (of-result _ (c.add-sum.ensures q e) ∙ ap (λ (x : Elem q). of l.sum ⊕ x) word)
                ∙ add_assoc (of l.sum) (of (get_or part a.at 0)) left
                ∙ ap (λ (x : Elem q). of l.sum ⊕ x) (sym (part_adds q a.n a.at before part rest (omega arith) steps.1.0 long))
                ∙ (l.invariant.1 q e).0,
            result-below (of {q = q} l.sum ⊕ of c.word_or_zero.result) (c.add-sum.ensures q e),
          ),
    )

pub returns : goal.returns
returns c q e =
    let a = c.args in
    let l = c.loop-part in
    let rest : List ℕ = l.part-iterator.rest.now in
    let steps = c.in-None.ensures.steps in
    let whole : of l.sum ≡ get_or (remainder a.n (map of a.f.now)) a.at 𝟘 =
    sym (add-zero (of l.sum))
    ∙ ap (λ (x : Elem q). of l.sum ⊕ x)
    (sym (remainder_none (prime_ring q) a.n (omega arith) (map of rest) a.at (omega (arith, length-map rest (of {q = q}))) (omega arith)))
    ∙ (l.invariant.1 q e).0 in
    sym (word-of q l.sum (l.invariant.1 q e).1) ∙ ap (λ (x : Elem q). x.word) whole
