-- An evaluation under way, in words and in elements: each gives the other back. And one coefficient more, from a list of words.
-- Assumes nothing.
use mathlib.Core.Path.{◌≡◌, sym, ap, ap₂, ◌∙◌}
use mathlib.Core.List.{List, [], ◌∷◌, map, map-append}
use Prim.Native.Nat.{ℕ, suc, ◌<◌}
use lib.ListN.{length, get_or, take}
use lib.Seq.{take-suc}
use Rattle.algebra.specs.Polynomial.{Running, running, map_running}
use Rattle.algebra.proofs.PartLaws.{part_one, part_append}
use Rattle.field.specs.Prime.{Prime}
use Rattle.field.specs.Element.{Elem, of, word_of, ◌⊕◌, ◌⊗◌}
use Rattle.field.proofs.ElementLaws.{prime_ring, of_word}
use Rattle.field.proofs.Words.{word-of}
use Rattle.domain.specs.Polynomial.{eval_part}

-- words below p are those of their elements
pub words_back : (q : Prime) (r : Running ℕ) → r.sum < q.p → r.power < q.p → map_running word_of (map_running (of {q = q}) r) ≡ r
words_back q r sum power = ap₂ running (word-of q r.sum sum) (word-of q r.power power)

module _ {q : Prime} where
  pub elements_back : (r : Running (Elem q)) → map_running of (map_running word_of r) ≡ r
  elements_back r = ap₂ running (of_word r.sum) (of_word r.power)

  -- after one coefficient more
  pub one_more : (r : Running (Elem q)) (x : Elem q) (part : List ℕ) (i : ℕ) → i < length part
      → let so_far : Running (Elem q) = eval_part r x (map of (take i part)) in
      running (so_far.sum ⊕ so_far.power ⊗ of (get_or part i 0)) (so_far.power ⊗ x) ≡ eval_part r x (map of (take (suc i) part))
  one_more r x part i inside =
      let front : List (Elem q) = map of (take i part) in
      let next : List (Elem q) = of (get_or part i 0) ∷ [] in
      sym (part_one (prime_ring q) (eval_part r x front) x (of (get_or part i 0)))
      ∙ part_append (prime_ring q) r x front next
      ∙ ap (eval_part r x) (sym (ap (map of) (take-suc part i 0 inside) ∙ map-append of (take i part) (get_or part i 0 ∷ [])))
