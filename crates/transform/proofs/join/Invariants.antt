-- What the loop of `transform::join` keeps. Assumes nothing.
use Rattle.std.proofs.Common.{◌≡◌, List, ℕ, ◌^◌, ◌<◌, length, get_or}
use Rattle.algebra.specs.Lists.{tabulate}
use Rattle.algebra.specs.Ring.{pow}
use Rattle.field.specs.Prime.{Prime}
use Rattle.field.specs.Element.{Elem, 𝟘, ◌⊕◌, ◌⊗◌, ◌⊖◌, words}
use Rattle.field.proofs.ElementLaws.{prime_ring}
use Rattle.transform.specs.Reading.{LevelOf, Prepared}
use Rattle.transform.proofs.FilledHalves.{halves}
use Rattle.transform.proofs.join.Given as goal

-- what the two halves are to hold
module _ {q : Prime} (v : Elem q) (e o : List (Elem q)) where
  abbrev pub plus_at : ℕ → Elem q
  plus_at i = get_or e i 𝟘 ⊕ pow (prime_ring q) v i ⊗ get_or o i 𝟘

  abbrev pub minus_at : ℕ → Elem q
  minus_at i = get_or e i 𝟘 ⊖ pow (prime_ring q) v i ⊗ get_or o i 𝟘

  abbrev pub so_far : ℕ → ℕ → List ℕ
  so_far h = halves (words (tabulate h plus_at)) (words (tabulate h minus_at)) (words e) (words o)

abbrev pub invariant-loop-i : goal.invariant-loop-i
invariant-loop-i l =
    (q : Prime) → q.p ≡ l.p → l.p < 2 ^ 31 → (w : Elem q) → LevelOf l.half w l.powers → Prepared l.p l.powers l.quotients
    → (e o : List (Elem q)) → length e ≡ l.half → length o ≡ l.half → l.initial.out ≡ so_far w e o l.half 1
    → l.out ≡ so_far w e o l.half l.i
