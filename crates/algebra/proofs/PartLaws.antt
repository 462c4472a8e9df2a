-- Evaluation in parts: a part of one coefficient, which a loop takes, and of none; parts one after the other are as one part; and begun
-- with 0 and 1 a whole list ends at its value and at the point to the power of its length. Assumes nothing.
use mathlib.Core.Path.{◌≡◌, sym, ◌∙◌, ap, ap₂}
use mathlib.Core.List.{List, [], ◌∷◌, ◌++◌, foldr}
use lib.ListN.{length, length-append}
use Rattle.algebra.specs.Ring.{CommRing, pow}
use Rattle.algebra.specs.Polynomial.{Running, running, eval, eval_part, begun, eval_parts}
use Rattle.algebra.proofs.RingLaws.{pow-add, one_mul}
use Rattle.algebra.proofs.PolynomialLaws.{eval_append}
use Rattle.algebra.proofs.Solver.{◌:+◌, ◌:*◌, :0, :1, ◌:=◌, ◌⊙◌, ◌from◌, ring, ring_by}

module _ {A : Type 0} (R : CommRing A) where
  open R use {◌⊕◌, ◌⊗◌, mul_one, mul_assoc}

  infixl 75 ◌⊕◌
  infixl 80 ◌⊗◌
  -- a part of one coefficient
  pub part_one : (r : Running A) (x c : A) → eval_part R r x (c ∷ []) ≡ running (r.sum ⊕ r.power ⊗ c) (r.power ⊗ x)
  part_one r x c =
      ap₂ running
      (ring R (r.sum ∷ r.power ∷ x ∷ c ∷ []) (λ s p x c. s :+ p :* (c :+ x :* :0) := s :+ p :* c) tt)
      (ap (λ y. r.power ⊗ y) (mul_one x))

  -- an empty part changes nothing
  pub part_none : (r : Running A) (x : A) → eval_part R r x [] ≡ r
  part_none r x = ap₂ running (ring R (r.sum ∷ r.power ∷ []) (λ s p. s :+ p :* :0 := s) tt) (mul_one r.power)

  -- two parts are as one
  pub part_append : (r : Running A) (x : A) (f g : List A) → eval_part R (eval_part R r x f) x g ≡ eval_part R r x (f ++ g)
  part_append r x f g =
      ap₂ running
      (ring_by R (r.sum ∷ r.power ∷ eval R f x ∷ pow R x (length f) ∷ eval R g x ∷ eval R (f ++ g) x ∷ [])
      (λ s p f n g w. s :+ p :* f :+ p :* n :* g := s :+ p :* w from (p ⊙ (f :+ n :* g := w)) ∷ []) (sym (eval_append R f g x), tt) tt)
      (mul_assoc r.power (pow R x (length f)) (pow R x (length g))
      ∙ ap (λ y. r.power ⊗ y) (sym (pow-add R x (length f) (length g)) ∙ ap (pow R x) (sym (length-append f g))))

  -- and so are any number of them
  pub parts_join : (r : Running A) (x : A) (parts : List (List A)) → eval_parts R r x parts ≡ eval_part R r x (foldr ◌++◌ [] parts)
  parts_join r x [] = sym (part_none r x)
  parts_join r x (part ∷ parts) = parts_join (eval_part R r x part) x parts ∙ part_append r x part (foldr ◌++◌ [] parts)

  -- a whole list, begun with 0 and 1
  pub whole : (x : A) (f : List A) → eval_part R (begun R) x f ≡ running (eval R f x) (pow R x (length f))
  whole x f = ap₂ running (ring R (eval R f x ∷ []) (λ f. :0 :+ :1 :* f := f) tt) (one_mul R (pow R x (length f)))
